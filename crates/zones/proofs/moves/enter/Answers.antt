use Rattle.numbering.specs.Kind.{number_of, not_clique, not_ring}
use mathlib.Core.Path.{◌≡◌, ap, ◌∙◌}
use mathlib.Core.List.{List}
use Prim.Native.Nat.{ℕ}
use lib.ListN.{length}
use borrow.Author.Rules.{rules}
use Rattle.spec.specs.Terms.{Distinct}
use Rattle.theory.specs.Zones.Crossing.{extra_of}
use Rattle.spec.specs.Arrangement.{Move}
use Rattle.spec.specs.State.{across, arrangement_of}
use Rattle.motion.specs.World.{world, made_all}
use Rattle.walking.specs.Kinds.{clique_enter_lem, ring_enter_lem, hall_enter_lem}
use Rattle.zones.proofs.moves.enter.Goals as goal

pub enter-requires : goal.enter-requires
enter-requires g c =
    let p = c.args in
    let f = c.requires in
    let z = p.zone.vertices.now in
    let e : length p.list.now ≡ extra_of 3 (arrangement_of p.state.now z) =
    (f.list_len ∙ ap (λ (k : ℕ). extra_of k (arrangement_of p.state.now p.zone.vertices.now)) (ap number_of c.in-Clique.is)) in
    let d : Distinct (arrangement_of p.state.now z) = f.proper.once in
    search rules

pub returns-in-Clique : goal.returns-in-Clique
returns-in-Clique g c =
    let a = c.args in
    let z = a.zone.vertices.now in
    c.enter.ensures ∙ ap (λ (ms : List Move). made_all (world a.state.now a.count a.out.now) (across z ms)) (clique_enter_lem _ (ap number_of c.in-Clique.is) (arrangement_of a.state.now z) a.j a.behind a.list.now)

pub returns-in-Ring : goal.returns-in-Ring
returns-in-Ring g c =
    let a = c.args in
    let z = a.zone.vertices.now in
    c.enter-in-Ring.ensures ∙ ap (λ (ms : List Move). made_all (world a.state.now a.count a.out.now) (across z ms)) (ring_enter_lem _ (ap number_of c.in-Ring.is) (arrangement_of a.state.now z) a.j a.behind a.list.now)

pub returns-in_default : goal.returns-in_default
returns-in_default g c =
    let a = c.args in
    let z = a.zone.vertices.now in
    c.enter-in_default.ensures ∙ ap (λ (ms : List Move). made_all (world a.state.now a.count a.out.now) (across z ms)) (hall_enter_lem _ (not_clique _ c.in_default.not-Clique) (not_ring _ c.in_default.not-Ring) (arrangement_of a.state.now z) a.j a.behind a.list.now)
