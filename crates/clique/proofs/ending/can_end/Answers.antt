use Rattle.std.proofs.Common.{ap₂, sym, ◌∙◌}
use Rattle.spec.specs.Clique.{same_robots}
use Rattle.spec.specs.Outcome.{same_list}
use Rattle.spec.specs.State.{arrangement_of}
use Rattle.comparing.specs.Comparing.{can_end_full, can_end_other}
use Rattle.clique.specs.Entering.{cells_are}
use Rattle.clique.proofs.ending.can_end.Goals as goal

pub returns-then-packed : goal.returns-then-packed
returns-then-packed g c =
    let p = c.args in
    let z = p.zone.vertices.now in
    let f = cells_are p.state.now z _ p.zone.short c.cells_of.ensures in
    let h = cells_are p.goals.now z _ p.zone.short c.cells_of-2.ensures in
    c.same_cells.ensures ∙ ap₂ same_list f h ∙ can_end_full (arrangement_of p.state.now z) (arrangement_of p.goals.now z) (sym c.if-packed.true ∙ c.is_full-packed.ensures)

pub returns : goal.returns
returns g c =
    let p = c.args in
    let z = p.zone.vertices.now in
    let f = cells_are p.state.now z _ p.zone.short c.cells_of.ensures in
    let h = cells_are p.goals.now z _ p.zone.short c.cells_of-2.ensures in
    c.same_robots.ensures ∙ ap₂ same_robots f h ∙ can_end_other (arrangement_of p.state.now z) (arrangement_of p.goals.now z) (sym c.if-packed.false ∙ c.is_full-packed.ensures)
