use Rattle.std.proofs.Common.{refl, ap, ◌∙◌, arith}
use Rattle.numbering.specs.Kind.{number_of, not_clique, not_ring}
use Rattle.configurations.specs.Entering.{found_as, found_if, clique_open, clique_enters_lem, clique_last, ring_enters_lem, ring_index, hall_enters_lem, hall_index}
use Rattle.theory.specs.Zones.Hall.Order.{IsHall}
use Rattle.configurations.proofs.entering.entry_at.Goals as goal

pub returns-in-Clique : goal.returns-in-Clique
returns-in-Clique c =
    λ r follow.
    let a = c.args in
    let l = a.list.now in
    found_if _ _ _ (clique_open a.size l r a.j a.behind follow (c.requires.1 (ap number_of c.in-Clique.is)) ∙ clique_enters_lem _ (ap number_of c.in-Clique.is) a.size l r a.j a.behind follow)
    (clique_last _ (ap number_of c.in-Clique.is) a.behind l) (omega arith) c.then_some.ensures

pub returns-in-Ring : goal.returns-in-Ring
returns-in-Ring c =
    λ r follow.
    found_as _ (ring_enters_lem _ (ap number_of c.in-Ring.is) _ _ r _ _ follow) refl (ring_index _ (ap number_of c.in-Ring.is) _ _) c.ring_entry.ensures

pub returns-in_default : goal.returns-in_default
returns-in_default c =
    λ r follow.
    let i : IsHall (number_of c.args.kind) = record { three = not_clique _ c.in_default.not-Clique; four = not_ring _ c.in_default.not-Ring } in
    found_as _ (hall_enters_lem _ i _ _ r _ _ follow) refl (hall_index _ i _ _) c.hall_entry.ensures
