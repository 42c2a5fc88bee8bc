use Rattle.std.proofs.Common.{ℕ, List, map, set, refl, ap, sym, ◌∙◌, arith}
use Rattle.std.proofs.lemmas.List.{length-map}
use Rattle.spec.specs.State.{cell_of}
use Rattle.clique.specs.Entering.{map_next}
use Rattle.cells.specs.Cells.{overlaid_step, overlaid_end, overlaid_all}
use Rattle.clique.proofs.entering.goal_cells.Goals as goal

pub loop-k-preserved : goal.loop-k-preserved
loop-k-preserved c =
    let a = c.args in
    let o = c.loop-k in
    overlaid_step (map cell_of a.list.now) o.goal _ o.k c.cell_of.result _ (omega (arith, o.auto.goal, c.requires))
    (map_next cell_of a.list.now o.k c.cell_of.result (omega arith) c.cell_of.ensures) refl ∙ o.invariant

pub returns : goal.returns
returns c =
    let a = c.args in
    let o = c.loop-k in
    let m = map cell_of a.list.now in
    c.put_cell.ensures
    ∙ ap (λ (l : List ℕ). set l a.j 0)
    (overlaid_end m o.goal o.k (omega (arith, length-map a.list.now cell_of)) ∙ o.invariant ∙ overlaid_all m a.goal.now (length-map a.list.now cell_of ∙ sym c.requires))
