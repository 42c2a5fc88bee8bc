use Rattle.std.proofs.Common.{◌≡◌, ◌+◌, drop}
use Rattle.spec.specs.Clique.{open_target}
use Rattle.arranging.proofs.opening.open_target.Given as goal

abbrev pub invariant-loop-i : goal.invariant-loop-i
invariant-loop-i l = l.i + open_target (drop l.i l.cells) (drop l.i l.goal) ≡ l.from + open_target (drop l.from l.cells) (drop l.from l.goal)
