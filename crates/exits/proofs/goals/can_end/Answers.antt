use Rattle.std.proofs.Common.{ap, ◌∙◌}
use Rattle.numbering.specs.Kind.{number_of, not_clique, not_ring}
use Rattle.exits.specs.Goals.{whole_ends, hall_ends, clique_ends, ring_ends}
use Rattle.exits.proofs.goals.can_end.Goals as goal

pub returns-then-list-size : goal.returns-then-list-size
returns-then-list-size c =
    let a = c.args in
    c.same_cells.ensures ∙ whole_ends a.size a.list.now a.goal.now (number_of a.kind) c.if-list-size.true

pub returns-in-Clique : goal.returns-in-Clique
returns-in-Clique c =
    let a = c.args in
    c.same_members.ensures ∙ clique_ends a.size a.list.now a.goal.now (number_of a.kind) (ap number_of c.in-Clique.is) c.if-list-size.false

pub returns-in-Ring : goal.returns-in-Ring
returns-in-Ring c =
    let a = c.args in
    c.is_turned.ensures ∙ ring_ends a.size a.list.now a.goal.now (number_of a.kind) (ap number_of c.in-Ring.is) c.if-list-size.false

pub returns-in_default : goal.returns-in_default
returns-in_default c =
    let a = c.args in
    c.same_cells-in_default.ensures ∙ hall_ends a.size a.list.now a.goal.now (number_of a.kind) (record { three = not_clique _ c.in_default.not-Clique; four = not_ring _ c.in_default.not-Ring })
