use Rattle.std.proofs.Common.{◌≡◌, not, eqb, count_by, take}
use Rattle.comparing.proofs.count_cells.Given as goal

abbrev pub invariant-loop-x : goal.invariant-loop-x
invariant-loop-x l = l.n ≡ count_by (λ x. not (eqb x 0)) (take l.x-index l.cells)
