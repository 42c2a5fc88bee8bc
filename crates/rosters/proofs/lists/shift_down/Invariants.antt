use Rattle.rosters.specs.Lists.{Shifting}
use Rattle.rosters.proofs.lists.shift_down.Given as goal

abbrev pub invariant-loop-i : goal.invariant-loop-i
invariant-loop-i l = Shifting l.initial.part 0 l.i l.part
