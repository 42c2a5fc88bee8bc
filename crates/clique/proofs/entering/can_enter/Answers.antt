use borrow.Author.Rules.{rules}
use mathlib.Core.Path.{sym, ◌∙◌}
use Rattle.spec.specs.State.{arrangement_of}
use Rattle.clique.specs.Entering.{enter_behind, enter_free, enter_unnamed, enter_named}
use Rattle.clique.proofs.entering.can_enter.Goals as goal

pub returns-then-behind_named : goal.returns-then-behind_named
returns-then-behind_named g c = enter_behind (arrangement_of c.args.state.now c.args.zone.vertices.now) c.args.r.0 c.args.j c.args.behind c.args.list.names.now (search rules)

pub returns-then-names_at : goal.returns-then-names_at
returns-then-names_at g c = c.names_inside.ensures ∙ enter_named (arrangement_of c.args.state.now c.args.zone.vertices.now) c.args.r.0 c.args.j c.args.behind c.args.list.names.now (search rules) (sym c.if-last.true ∙ c.last_free-last.ensures) (sym c.if-names_at.true ∙ c.names_at.ensures)

pub returns-else-names_at : goal.returns-else-names_at
returns-else-names_at g c =
    c.if-names_at.false
    ∙ enter_unnamed (arrangement_of c.args.state.now c.args.zone.vertices.now) c.args.r.0 c.args.j c.args.behind c.args.list.names.now (search rules) (sym c.if-last.true ∙ c.last_free-last.ensures) (sym c.if-names_at.false ∙ c.names_at.ensures)

pub returns : goal.returns
returns g c = enter_free (arrangement_of c.args.state.now c.args.zone.vertices.now) c.args.r.0 c.args.j c.args.behind c.args.list.names.now (search rules) (sym c.if-last.false ∙ c.last_free-last.ensures)
