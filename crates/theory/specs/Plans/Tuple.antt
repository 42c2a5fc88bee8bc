-- Configuration tuples: states in the same configuration in every zone, and a legal list as an abstract plan.
use Rattle.std.specs.Prelude.{◌≡◌, ◌≢◌, List, [], ◌∷◌, ℕ, suc, ◌≤◌, ◌<◌, set}
use Rattle.std.proofs.Common.{sym, ap, ◌∙◌}
use Rattle.std.proofs.Math.Decide.{ℕ_discrete}
use Rattle.spec.specs.Outcome.{index_of}
use Rattle.spec.specs.Layout.{Map, zone_of, zone_at}
use Rattle.spec.specs.Arrangement.{Move, mv}
use Rattle.spec.specs.State.{State, moved, moved_all, Step, drawn_steps}
use Rattle.spec.specs.Terms.{done, ◌then◌, Reachable, SameTuple, Abstract, ends, makes, vertex_at, arrangement_in, zone_count, kind_of, place_of, Stands}
use Rattle.theory.specs.Maps.Layout.{Accepted}
use Rattle.theory.specs.Maps.Moves.{Legal, legal_is, Legals, stay, go, silent_move, crossing_move}
use Rattle.theory.specs.Maps.Consistent.{Consistent}
use Rattle.theory.specs.Maps.Inside.{arrangement_within, arrangement_away, legal_inside}
use Rattle.theory.specs.Zones.Moves.{reach_refl, reach_trans}
use Rattle.theory.specs.Maps.Tracks.{Tracks, tracks_moved}

-- ---- the same configuration in every zone

module _ (m : Map) where
  -- being in the same tuple is reflexive
  pub tuple_refl : (s : State) → SameTuple m s s
  unfolding SameTuple
  tuple_refl s z h = reach_refl (arrangement_in m s z)

  -- and transitive
  pub tuple_trans : (s t u : State) → SameTuple m s t → SameTuple m t u → SameTuple m s u
  unfolding SameTuple
  tuple_trans s t u p q z h = reach_trans (p z h) (q z h)

  -- what it is to be in the same tuple
  pub tuple_at : (s t : State) → SameTuple m s t → (z : ℕ) → z < zone_count m → Reachable (kind_of m z) (arrangement_in m s z) (arrangement_in m t z)
  unfolding SameTuple
  tuple_at s t p = p

  -- states whose zones are in the same configurations are in one tuple
  pub tuple : (s t : State) → ((z : ℕ) → z < zone_count m → Reachable (kind_of m z) (arrangement_in m s z) (arrangement_in m t z)) → SameTuple m s t
  unfolding SameTuple
  tuple s t p = p

  -- the same arrangements are in the same tuple
  pub same_tuple : (s t : State) → ((z : ℕ) → z < zone_count m → arrangement_in m s z ≡ arrangement_in m t z) → SameTuple m s t
  same_tuple s t e = tuple s t (λ z h. rw (e z h) (reach_refl (arrangement_in m t z)))

  -- an abstract plan starts as well from any state of the tuple
  pub abstract_from : (s t : State) {ss : List Step} {g : State} → SameTuple m s t → Abstract m t ss g → Abstract m s ss g
  abstract_from s t p (ends {g} q) = ends (tuple_trans s t g p q)
  abstract_from s t p (makes v x i q l n r) = makes v x i (tuple_trans s t v p q) l n r

  -- and ends as well in any other
  pub abstract_to : {s t : State} (u : State) {ss : List Step} → Abstract m s ss t → SameTuple m t u → Abstract m s ss u
  abstract_to u (ends {s} {g = t} p) q = ends (tuple_trans s t u p q)
  abstract_to u (makes t x i p l n r) q = makes t x i p l n (abstract_to u r q)

module _ (m : Map) (g : Accepted m) (k : ℕ) (few : k ≤ 64) where
  -- a legal move inside a zone keeps every configuration
  inside_tuple : (s : State) (x : Move) → Consistent m k s → Legal m s x → zone_of m x.from ≡ zone_of m x.to → SameTuple m s (moved s x)
  inside_tuple s x h l e = tuple m s (moved s x) (λ y hy. case y hy (ℕ_discrete y (zone_of m x.from)))
    where
      d : (x.from < m.size) × (x.to < m.size) × (x.from ≢ x.to)
      d = g.ends x.from x.to l.near

      z : ℕ
      z = zone_of m x.from

      u : Stands m x.from (zone_of m x.from) (place_of m x.from)
      u = g.placed x.from d.0

      v : Stands m x.to (zone_of m x.from) (index_of x.to (zone_at m (zone_of m x.from)).vertices)
      v = rw (← e) at (g.placed x.to d.1)

      i : ℕ
      i = place_of m x.from

      j : ℕ
      j = index_of x.to (zone_at m (zone_of m x.from)).vertices

      same : mv x.robot (vertex_at m z i) (vertex_at m z j) ≡ x
      same = λ q. mv x.robot (u.vertex q) (v.vertex q)

      one : Reachable (kind_of m z) (arrangement_in m s z) (arrangement_in m (moved s x) z)
      one =
          let l' : Legal m s (mv x.robot (vertex_at m z i) (vertex_at m z j)) = rw same l in
          let w = legal_inside m g s z u.zone x.robot i j u.place v.place l' in
          let e' : arrangement_in m (moved s x) z ≡ set (set (arrangement_in m s z) i 0) j (suc x.robot) = ap (λ y. arrangement_in m (moved s y) z) (sym same) ∙ arrangement_within m g s z x.robot i j h.rooms u.zone u.place v.place l.robot in
          rw e' (mv x.robot i j ∷ [], ◌then◌ w done)

      case : (y : ℕ) → y < zone_count m → Dec (y ≡ zone_of m x.from) → Reachable (kind_of m y) (arrangement_in m s y) (arrangement_in m (moved s x) y)
      case y hy (yes q) = rw q one
      case y hy (no q) = rw (arrangement_away m g s x y hy (λ p. q (sym p)) (λ p. q (sym p ∙ sym e))) (reach_refl (arrangement_in m s y))

  -- a legal list is an abstract plan
  pub list_abstract : {s : State} {xs : List Move} → Tracks m k s → Legals m s xs → Abstract m s (drawn_steps m s xs) (moved_all s xs)
  list_abstract {s} h stay = unfold drawn_steps moved_all in ends (tuple_refl m s)
  list_abstract h (go {s} {x} {xs} l r) = case (ℕ_discrete (zone_of m x.from) (zone_of m x.to)) (list_abstract (tracks_moved m g k few s x h l) r)
    where
      case : Dec (zone_of m x.from ≡ zone_of m x.to) → Abstract m (moved s x) (drawn_steps m (moved s x) xs) (moved_all (moved s x) xs) → Abstract m s (drawn_steps m s (x ∷ xs)) (moved_all s (x ∷ xs))
      case (yes e) ih = rw (silent_move m s x xs e) (unfold moved_all in abstract_from m s (moved s x) (inside_tuple s x h.consistent l e) ih)
      case (no e) ih = rw (crossing_move m s x xs e) (unfold moved_all in makes s x record { robots = h.consistent.rooms; vertices = h.places } (tuple_refl m s) (legal_is m s x l) e ih)
