use Rattle.std.proofs.Common.{◌≡◌, ◌-◌, ◌^◌, ◌<◌, drop}
use Rattle.spec.specs.Arrangement.{Arrangement}
use Rattle.tabling.specs.Places.{Tests, free_word}
use Rattle.tabling.proofs.placing.free_word.Given as goal

abbrev pub invariant-loop-k : goal.invariant-loop-k
invariant-loop-k g l = record {
  fits : l.w < 2 ^ (64 - l.k);
  word : (a : Arrangement) → Tests (goal.F-post g l.is_empty) l.places a → l.w ≡ free_word (64 - l.k) (drop l.k a);
}
