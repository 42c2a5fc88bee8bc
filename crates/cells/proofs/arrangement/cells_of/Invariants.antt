use Rattle.std.proofs.Common.{◌≡◌, ◌++◌, take, drop}
use Rattle.spec.specs.State.{arrangement_of}
use Rattle.cells.specs.Cells.{overlaid}
use Rattle.cells.proofs.arrangement.cells_of.Given as goal

abbrev pub invariant-loop-k : goal.invariant-loop-k
invariant-loop-k g l =
    take l.k l.cells ++ overlaid (drop l.k (arrangement_of l.state l.zone)) (drop l.k l.cells) ≡ overlaid (arrangement_of l.state l.zone) l.initial.cells
