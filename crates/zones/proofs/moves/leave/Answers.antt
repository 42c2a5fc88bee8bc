use borrow.Author.Rules.{rules}
use Rattle.numbering.specs.Kind.{number_of, not_clique, not_ring}
use mathlib.Core.Path.{ap, ◌∙◌}
use mathlib.Core.List.{List}
use Rattle.spec.specs.Arrangement.{Move}
use Rattle.spec.specs.State.{across, arrangement_of}
use Rattle.motion.specs.World.{world, made_all}
use Rattle.walking.specs.Kinds.{clique_leave_lem, ring_leave_lem, hall_leave_lem, ring_can_leave_lem}
use Rattle.zones.proofs.moves.leave.Goals as goal

pub leave-requires-in-Ring : goal.leave-requires-in-Ring
leave-requires-in-Ring g c = (search rules, (search rules, (c.requires.zone_len_bound.1, ring_can_leave_lem _ (ap number_of c.in-Ring.is) _ _ _ ∙ c.requires.j_value)))

pub returns-in-Clique : goal.returns-in-Clique
returns-in-Clique g c =
    let a = c.args in
    let z = a.zone.vertices.now in
    c.leave.ensures ∙ ap (λ (ms : List Move). made_all (world a.state.now a.count a.out.now) (across z ms)) (clique_leave_lem _ (ap number_of c.in-Clique.is) (arrangement_of a.state.now z) a.r.0 a.j)

pub returns-in-Ring : goal.returns-in-Ring
returns-in-Ring g c =
    let a = c.args in
    let z = a.zone.vertices.now in
    c.leave-in-Ring.ensures ∙ ap (λ (ms : List Move). made_all (world a.state.now a.count a.out.now) (across z ms)) (ring_leave_lem _ (ap number_of c.in-Ring.is) (arrangement_of a.state.now z) a.r.0 a.j)

pub returns-in_default : goal.returns-in_default
returns-in_default g c =
    let a = c.args in
    let z = a.zone.vertices.now in
    c.leave-in_default.ensures ∙ ap (λ (ms : List Move). made_all (world a.state.now a.count a.out.now) (across z ms)) (hall_leave_lem _ (not_clique _ c.in_default.not-Clique) (not_ring _ c.in_default.not-Ring) (arrangement_of a.state.now z) a.r.0 a.j)
