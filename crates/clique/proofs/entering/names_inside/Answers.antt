use Rattle.std.proofs.Common.{ap₂, sym, ◌∙◌}
use Rattle.spec.specs.Clique.{same_robots}
use Rattle.theory.specs.Basics.Tests.{false_of}
use Rattle.clique.specs.Entering.{cells_are, named_cells, named_nobody}
use Rattle.clique.proofs.entering.names_inside.Goals as goal

pub returns-then-named : goal.returns-then-named
returns-then-named g c =
    let p = c.args in
    c.same_robots.ensures
    ∙ ap₂ same_robots (cells_are p.state.now p.zone.vertices.now _ p.zone.short c.cells_of.ensures) (c.goal_cells.ensures ∙ named_cells p.list.names.now p.j (c.names_robots-named.ensures.0 c.if-named.true))

pub returns : goal.returns
returns g c =
    let p = c.args in
    let w = c.names_robots-named.ensures.1 c.if-named.false in
    sym (false_of (named_nobody p.state.now p.zone.vertices.now p.list.names.now p.j w.0 w.1 w.2))
