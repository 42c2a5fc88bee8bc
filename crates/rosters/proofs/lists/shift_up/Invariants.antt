use Rattle.std.proofs.Common.{◌-◌, length}
use Rattle.rosters.specs.Lists.{Parting}
use Rattle.rosters.proofs.lists.shift_up.Given as goal

abbrev pub invariant-loop-i : goal.invariant-loop-i
invariant-loop-i l = Parting l.initial.part (length l.initial.part - 1) l.i l.part
