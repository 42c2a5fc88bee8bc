use borrow.Author.Rules.{rules}
use Rattle.numbering.specs.Kind.{number_of, not_clique, not_ring}
use Rattle.walking.specs.Kinds.{clique_end_lem, ring_end_lem, hall_end_lem, ring_can_end_lem}
use Rattle.motion.specs.World.{world, made_all}
use Rattle.spec.specs.State.{across, arrangement_of}
use Rattle.spec.specs.Arrangement.{Move}
use mathlib.Core.List.{List}
use mathlib.Core.Bool.{true}
use mathlib.Core.Path.{◌≡◌, ap, ◌∙◌}
use Rattle.spec.specs.Ring.{ring_can_end}
use Rattle.zones.proofs.moves.bring_to_goals.Goals as goal

pub bring_to_goals-requires : goal.bring_to_goals-requires
bring_to_goals-requires g c = let h = c.requires.proper.once in search (rules, h)

pub end-requires : goal.end-requires
end-requires g c =
    let a = c.args in
    let h = c.requires.zone_len_bound in
    let e : ring_can_end (arrangement_of a.state.now a.zone.vertices.now) (arrangement_of a.goals.now a.zone.vertices.now) ≡ true =
    ring_can_end_lem _ (ap number_of c.in-Ring.is) _ _ ∙ c.requires.zone_value in
    search (rules, h, e)

pub returns-in-Clique : goal.returns-in-Clique
returns-in-Clique g c =
    let a = c.args in
    let z = a.zone.vertices.now in
    c.bring_to_goals.ensures ∙ ap (λ (ms : List Move). made_all (world a.state.now a.count a.out.now) (across z ms)) (clique_end_lem _ (ap number_of c.in-Clique.is) (arrangement_of a.state.now z) (arrangement_of a.goals.now z))

pub returns-in-Ring : goal.returns-in-Ring
returns-in-Ring g c =
    let a = c.args in
    let z = a.zone.vertices.now in
    c.end.ensures ∙ ap (λ (ms : List Move). made_all (world a.state.now a.count a.out.now) (across z ms)) (ring_end_lem _ (ap number_of c.in-Ring.is) (arrangement_of a.state.now z) (arrangement_of a.goals.now z))

pub returns-in_default : goal.returns-in_default
returns-in_default g c =
    let a = c.args in
    let z = a.zone.vertices.now in
    c.end-in_default.ensures ∙ ap (λ (ms : List Move). made_all (world a.state.now a.count a.out.now) (across z ms)) (hall_end_lem _ (not_clique _ c.in_default.not-Clique) (not_ring _ c.in_default.not-Ring) (arrangement_of a.state.now z) (arrangement_of a.goals.now z))
