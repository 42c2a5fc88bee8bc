use Rattle.std.proofs.Common.{◌≡◌, ◌++◌, map, take, drop}
use Rattle.spec.specs.State.{cell_of}
use Rattle.cells.specs.Cells.{overlaid}
use Rattle.clique.proofs.entering.goal_cells.Given as goal

abbrev pub invariant-loop-k : goal.invariant-loop-k
invariant-loop-k l = take l.k l.goal ++ overlaid (drop l.k (map cell_of l.list)) (drop l.k l.goal) ≡ overlaid (map cell_of l.list) l.fn.goal
