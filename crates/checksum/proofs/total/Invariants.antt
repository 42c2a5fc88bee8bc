-- `total`: at each turn, what is summed so far with the words still left folds to the sum of all words.
use Prim.Native.Nat.{◌+◌, ◌-◌, ◌*◌, ◌≤◌}
use mathlib.Core.Path.{◌≡◌}
use lib.ListN.{take, drop}
use Rattle.spec.specs.Wire.{sum_words}
use Rattle.checksum.specs.Sum.{folded, plain}
use Rattle.checksum.proofs.total.Given as goal

abbrev pub invariant-loop-i : goal.invariant-loop-i
invariant-loop-i l =
    (l.even ≤ 4294967295 * l.i) × (l.odd ≤ 4294967295 * l.i)
    × (folded ((l.even + l.odd) * 256 + plain (take (512 - l.i * 8) (drop (l.i * 8) l.block))) ≡ sum_words l.block)
