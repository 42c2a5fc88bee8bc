-- `put_bytes`: at each turn, the bytes passed are laid.
use mathlib.Core.Path.{◌≡◌}
use lib.ListN.{take}
use Rattle.writer.specs.Laid.{laid_all}
use Rattle.writer.proofs.writing.put_bytes.Given as goal

abbrev pub invariant-loop-i : goal.invariant-loop-i
invariant-loop-i g l = l.out ≡ laid_all l.initial.out l.off (take l.i l.b-items)
