-- Zones under a move: a move inside one, a crossing, and runs in an arrangement as moves of the map.
use Rattle.std.specs.Prelude.{◌≡◌, ◌≢◌, List, [], ◌∷◌, ℕ, suc, ◌<◌, length, set}
use Rattle.std.proofs.Math.Path.{refl, sym}
use Rattle.std.proofs.Common.{ap, ◌∙◌, arith, ext_get_or}
use Rattle.std.proofs.Math.ListN.{length-set}
use Rattle.spec.specs.Outcome.{index_of}
use Rattle.spec.specs.Layout.{Map, zone_of, zone_at}
use Rattle.spec.specs.Arrangement.{cell, Arrangement, Move, mv, apply}
use Rattle.spec.specs.State.{State, robot_on, moved, moved_all, cell_of, arrangement_of, across_move, across, drawn_steps}
use Rattle.spec.specs.Terms.{place_of, Inside, Runs, done, ◌then◌, vertex_at, size_of, arrangement_in, zone_count, kind_of}
use Rattle.theory.specs.Zones.Arrangements.{cell_inside}
use Rattle.theory.specs.Maps.Layout.{Accepted}
use Rattle.theory.specs.Maps.Cells.{cell_of_lem, cell_none, cell_robot, cell_empty, onto, arrangement_length, arrangement_cell, onto_other, onto_here, cell_injective}
use Rattle.theory.specs.Maps.Moves.{Legal, Legals, stay, go, silent_move}
use Rattle.theory.specs.Maps.Consistent.{moved_rooms}

-- the moves are legal, bring zone z to b, leave the other zones alone and draw nothing
pub record Acted (m : Map) (s : State) (z : ℕ) (xs : List Move) (b : Arrangement) : Type 0 where
  pub legals : Legals m s xs
  pub here : arrangement_in m (moved_all s xs) z ≡ b
  pub away : (y : ℕ) → y < zone_count m → y ≢ z → arrangement_in m (moved_all s xs) y ≡ arrangement_in m s y
  pub silent : drawn_steps m s xs ≡ []

module _ (m : Map) (g : Accepted m) where
  -- ---- arrangements after a store

  -- two places of a zone have two vertices
  at_apart : (z l i : ℕ) → z < zone_count m → l < size_of m z → i < size_of m z → l ≢ i → vertex_at m z l ≢ vertex_at m z i
  at_apart z l i h a b n e = n (sym (g.inside z l h a).2 ∙ ap (λ v. index_of v (zone_at m z).vertices) e ∙ (g.inside z i h b).2)

  -- a store at a vertex of a zone changes its place
  set_in : (rs : List ℕ) (z i q : ℕ) → vertex_at m z i < length rs → z < zone_count m → i < size_of m z
      → onto (set rs (vertex_at m z i) q) (zone_at m z).vertices ≡ set (onto rs (zone_at m z).vertices) i (cell_of q)
  set_in rs z i q r h k = onto_here rs (zone_at m z).vertices i q k r (λ l a n. at_apart z l i h a k n)

  -- a store at a vertex of another zone changes nothing
  set_away : (rs : List ℕ) (z w q : ℕ) → z < zone_count m → zone_of m w ≢ z → onto (set rs w q) (zone_at m z).vertices ≡ onto rs (zone_at m z).vertices
  set_away rs z w q h n = onto_other rs (zone_at m z).vertices w q (λ l k e. n (rw e at (g.inside z l h k).1))

  -- a move inside a zone moves in its arrangement
  pub arrangement_within : (s : State) (z r i j : ℕ) → length s.robots ≡ 128 → z < zone_count m → i < size_of m z → j < size_of m z → r ≢ 255
      → arrangement_in m (moved s (mv r (vertex_at m z i) (vertex_at m z j))) z ≡ apply (arrangement_in m s z) (mv r i j)
  unfolding arrangement_of moved onto
  arrangement_within s z r i j l h a b n =
      set_in (set s.robots (vertex_at m z i) 255) z j r (omega (arith, length-set s.robots (vertex_at m z i) 255, l, (g.inside z j h b).0, g.small)) h b
      ∙ rw (set_in s.robots z i 255 (omega (arith, l, (g.inside z i h a).0, g.small)) h a, cell_of_lem n)

  -- a zone that a move does not touch stays as it is
  pub arrangement_away : (s : State) (x : Move) (z : ℕ) → z < zone_count m → zone_of m x.from ≢ z → zone_of m x.to ≢ z → arrangement_in m (moved s x) z ≡ arrangement_in m s z
  unfolding arrangement_of moved onto
  arrangement_away s x z h a b = set_away (set s.robots x.from 255) z x.to x.robot h b ∙ set_away s.robots z x.from 255 h a

  -- the zone that is left loses the robot
  pub arrangement_leave : (s : State) (x : Move) (z i : ℕ) → x.from < length s.robots → z < zone_count m → i < size_of m z → x.from ≡ vertex_at m z i → zone_of m x.to ≢ z
      → arrangement_in m (moved s x) z ≡ set (arrangement_in m s z) i 0
  unfolding arrangement_of moved onto
  arrangement_leave s x z i l h a e n = set_away (set s.robots x.from 255) z x.to x.robot h n ∙ rw e (set_in s.robots z i 255 (rw e at l) h a)

  -- the zone that is entered gains it
  pub arrangement_enter : (s : State) (x : Move) (z j : ℕ) → x.to < length s.robots → z < zone_count m → j < size_of m z → x.to ≡ vertex_at m z j → zone_of m x.from ≢ z → x.robot ≢ 255
      → arrangement_in m (moved s x) z ≡ set (arrangement_in m s z) j (suc x.robot)
  unfolding arrangement_of moved onto
  arrangement_enter s x z j l h a e n r =
      rw e (set_in (set s.robots x.from 255) z j x.robot (rw (e, ← length-set s.robots x.from 255) at l) h a ∙ rw (set_away s.robots z x.from 255 h n, cell_of_lem r))

  -- ---- states with the same robots

  -- the same robots, the same arrangements
  pub same_arrangements : (s t : State) → ((v : ℕ) → v < m.size → robot_on s v ≡ robot_on t v) → (z : ℕ) → z < zone_count m → arrangement_in m s z ≡ arrangement_in m t z
  same_arrangements s t e z h = ext_get_or 0 _ _ (arrangement_length s (zone_at m z) ∙ sym (arrangement_length t (zone_at m z)))
      (λ l a. let b : l < size_of m z = omega (arith, arrangement_length s (zone_at m z)) in
      arrangement_cell s (zone_at m z) l b ∙ ap cell_of (e (vertex_at m z l) (g.inside z l h b).0) ∙ sym (arrangement_cell t (zone_at m z) l b))

  -- and the other way
  pub arrangements_same : (s t : State) → ((z : ℕ) → z < zone_count m → arrangement_in m s z ≡ arrangement_in m t z) → (v : ℕ) → v < m.size → robot_on s v ≡ robot_on t v
  arrangements_same s t e v h =
      let p = g.placed v h in
      let z = zone_of m v in
      let l = place_of m v in
      cell_injective _ _ (rw p.vertex at (sym (arrangement_cell s (zone_at m z) l p.place) ∙ ap (λ a. cell a l) (e z p.zone) ∙ arrangement_cell t (zone_at m z) l p.place))

  -- ---- moves inside a zone

  module _ (s : State) (z : ℕ) (hz : z < zone_count m) where
    -- a legal move of the arrangement is a legal move of the map
    pub inside_legal : (x : Move) → Inside (kind_of m z) x (arrangement_in m s z) → Legal m s (mv x.robot (vertex_at m z x.from) (vertex_at m z x.to))
    inside_legal x i =
        let f : x.from < size_of m z = rw (arrangement_length s (zone_at m z)) at (cell_inside (arrangement_in m s z) x.from x.robot i.there) in
        let t : x.to < size_of m z = rw (arrangement_length s (zone_at m z)) at i.within in
        let r = cell_robot (robot_on s (vertex_at m z x.from)) x.robot (sym (arrangement_cell s (zone_at m z) x.from f) ∙ i.there) in
        record {
          near = rw (g.near z x.from x.to hz f t) (rw (arrangement_length s (zone_at m z)) at i.near);
          robot = λ e. r.1 (r.0 ∙ e);
          there = r.0;
          free = cell_empty (robot_on s (vertex_at m z x.to)) (sym (arrangement_cell s (zone_at m z) x.to t) ∙ i.free);
        }

    -- and the other way
    pub legal_inside : (r i j : ℕ) → i < size_of m z → j < size_of m z → Legal m s (mv r (vertex_at m z i) (vertex_at m z j)) → Inside (kind_of m z) (mv r i j) (arrangement_in m s z)
    legal_inside r i j a b l = record {
      near = rw (arrangement_length s (zone_at m z), ← g.near z i j hz a b) l.near;
      there = arrangement_cell s (zone_at m z) i a ∙ rw l.there (cell_of_lem l.robot);
      free = arrangement_cell s (zone_at m z) j b ∙ cell_none l.free;
      within = rw (arrangement_length s (zone_at m z)) b;
    }

  module _ (z : ℕ) (hz : z < zone_count m) where
    -- one move inside a zone, then the rest
    acted_on : {x : Move} (xs : List Move) {s : State} {b : Arrangement} → Inside (kind_of m z) x (arrangement_in m s z)
        → Acted m (moved s (mv x.robot (vertex_at m z x.from) (vertex_at m z x.to))) z (across (zone_at m z).vertices xs) b → Acted m s z (across (zone_at m z).vertices (x ∷ xs)) b
    unfolding across across_move moved_all
    acted_on {x} xs {s} i r =
        let l = inside_legal s z hz x i in
        let f : x.from < size_of m z = rw (arrangement_length s (zone_at m z)) at (cell_inside (arrangement_in m s z) x.from x.robot i.there) in
        let t : x.to < size_of m z = rw (arrangement_length s (zone_at m z)) at i.within in
        let a = g.inside z x.from hz f in
        let b = g.inside z x.to hz t in
        let y = mv x.robot (vertex_at m z x.from) (vertex_at m z x.to) in
        record {
          legals = go l r.legals;
          here = r.here;
          away = λ w hw n. r.away w hw n ∙ arrangement_away s y w hw (λ e. n (sym e ∙ a.1)) (λ e. n (sym e ∙ b.1));
          silent = silent_move m s y (across (zone_at m z).vertices xs) (a.1 ∙ sym b.1) ∙ r.silent;
        }

    -- a run in a zone's arrangement acts so on the map
    pub act : {xs : List Move} {a b : Arrangement} → Runs (kind_of m z) xs a b → (s : State) → length s.robots ≡ 128 → a ≡ arrangement_in m s z → Acted m s z (across (zone_at m z).vertices xs) b
    act done s h e = record { legals = unfold across in stay; here = unfold across moved_all in sym e; away = λ y hy n. unfold across moved_all in refl; silent = unfold across drawn_steps in refl }
    act (◌then◌ {x} {xs} i r) s h e =
        let j : Inside (kind_of m z) x (arrangement_in m s z) = rw e at i in
        let l = inside_legal s z hz x j in
        let f : x.from < size_of m z = rw (arrangement_length s (zone_at m z)) at (cell_inside (arrangement_in m s z) x.from x.robot j.there) in
        let t : x.to < size_of m z = rw (arrangement_length s (zone_at m z)) at j.within in
        acted_on xs j (act r (moved s (mv x.robot (vertex_at m z x.from) (vertex_at m z x.to))) (moved_rooms s _ ∙ h)
        (ap (λ q. apply q x) e ∙ sym (arrangement_within s z x.robot x.from x.to h hz f t l.robot)))
