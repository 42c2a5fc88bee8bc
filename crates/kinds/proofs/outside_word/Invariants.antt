use Rattle.std.proofs.Common.{◌≡◌, ◌+◌, ◌-◌}
use Rattle.kinds.specs.Words.{out_from}
use Rattle.kinds.proofs.outside_word.Given as goal

abbrev pub invariant-loop-i : goal.invariant-loop-i
invariant-loop-i l = l.word ≡ out_from l.zone l.z (l.from + l.i) (64 - l.i)
