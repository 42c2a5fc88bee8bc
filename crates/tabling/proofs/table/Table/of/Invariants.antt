use Rattle.std.proofs.Common.{◌≡◌, ℕ, ◌+◌, ◌<◌, length, get_or, drop}
use Rattle.spec.specs.Arrangement.{seek}
use Rattle.tabling.proofs.table.Table.of.Given as goal

abbrev pub invariant-loop-k : goal.invariant-loop-k
invariant-loop-k l = record { long : length l.places ≡ 256; table : (x : ℕ) → x < 256 → get_or l.places x 0 ≡ l.k + seek x (drop l.k l.cells) }
