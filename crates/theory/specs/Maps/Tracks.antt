-- The vertex of each robot: legal moves keep it in step with the robot on each vertex.
use Rattle.std.specs.Prelude.{◌≡◌, refl, ◌≢◌, List, ℕ, ◌≤◌, ◌<◌, length, get_or, set}
use Rattle.std.proofs.Common.{sym, ap, ◌∙◌, arith, get_or-set_same, ext_get_or}
use Rattle.std.proofs.Math.Decide.{dec_lt, ℕ_discrete}
use Rattle.std.proofs.Math.ListN.{length-set}
use Rattle.std.proofs.Math.Seq.{get_or-set_other}
use Rattle.spec.specs.Layout.{Map}
use Rattle.spec.specs.Arrangement.{Move}
use Rattle.spec.specs.State.{State, robot_on, moved, moved_all}
use Rattle.theory.specs.Maps.Layout.{Accepted}
use Rattle.theory.specs.Maps.Moves.{Legal, Legals, stay, go, After, at_to, at_from, at_rest}
use Rattle.theory.specs.Maps.Consistent.{Consistent, legal_after, consistent_moved}

-- ---- the vertices of the robots

-- the vertices of the robots and the robots of the vertices say the same
pub record Tracks (m : Map) (k : ℕ) (s : State) : Type 0 where
  pub consistent : Consistent m k s
  pub places : length s.vertices ≡ 64
  pub up : (v : ℕ) → v < m.size → robot_on s v ≢ 255 → get_or s.vertices (robot_on s v) 255 ≡ v
  pub down : (r : ℕ) → r < k → (get_or s.vertices r 255 < m.size) × (robot_on s (get_or s.vertices r 255) ≡ r)
  pub out : (r : ℕ) → k ≤ r → get_or s.vertices r 255 ≡ 255

module _ (m : Map) (g : Accepted m) (k : ℕ) (few : k ≤ 64) where
  -- a legal move keeps that
  pub tracks_moved : (s : State) (x : Move) → Tracks m k s → Legal m s x → Tracks m k (moved s x)
  unfolding moved
  tracks_moved s x h l = record {
    consistent = consistent_moved m g k s x h.consistent l;
    places = length-set s.vertices x.robot x.to ∙ h.places;
    up = λ v a n. up v (robot_on (moved s x) v) a (legal_after m g s x v h.consistent.rooms l) n;
    down = λ r a. down r a (ℕ_discrete r x.robot);
    out = λ r a. get_or-set_other s.vertices x.robot r x.to 255 (omega (arith, known)) ∙ h.out r a;
  }
    where
      e : (x.from < m.size) × (x.to < m.size) × (x.from ≢ x.to)
      e = g.ends x.from x.to l.near

      there : robot_on s x.from ≢ 255
      there q = l.robot (sym l.there ∙ q)

      known : x.robot < k
      known = rw l.there at (h.consistent.known x.from e.0 there)

      up : (v r : ℕ) → v < m.size → After s x v r → r ≢ 255 → get_or (set s.vertices x.robot x.to) r 255 ≡ v
      up v r a (at_to q) n = get_or-set_same s.vertices x.robot x.to 255 (omega (arith, known, h.places)) ∙ sym q
      up v r a (at_from q) n = absurd (n refl)
      up v r a (at_rest q p) n =
          get_or-set_other s.vertices x.robot (robot_on s v) x.to 255 (λ i. q (h.consistent.once v x.from a e.0 n (i ∙ sym l.there))) ∙ h.up v a n

      stays : (v r t : ℕ) → r < k → r ≢ x.robot → robot_on s v ≡ r → After s x v t → t ≡ r
      stays v r t a n i (at_to q) = absurd (omega (arith, sym i ∙ ap (robot_on s) q ∙ l.free))
      stays v r t a n i (at_from q) = absurd (n (sym i ∙ ap (robot_on s) q ∙ l.there))
      stays v r t a n i (at_rest q p) = i

      arrives : (v t : ℕ) → v ≡ x.to → After s x v t → t ≡ x.robot
      arrives v t q (at_to p) = refl
      arrives v t q (at_from p) = absurd (e.2 (sym p ∙ q))
      arrives v t q (at_rest p i) = absurd (i q)

      down : (r : ℕ) → r < k → Dec (r ≡ x.robot) → (get_or (set s.vertices x.robot x.to) r 255 < m.size) × (robot_on (moved s x) (get_or (set s.vertices x.robot x.to) r 255) ≡ r)
      down r a (yes q) = rw (q, get_or-set_same s.vertices x.robot x.to 255 (omega (arith, known, h.places))) (e.1, arrives x.to _ refl (legal_after m g s x x.to h.consistent.rooms l))
      down r a (no q) = rw (get_or-set_other s.vertices x.robot r x.to 255 q)
          ((h.down r a).0, stays (get_or s.vertices r 255) r _ a q (h.down r a).1 (legal_after m g s x (get_or s.vertices r 255) h.consistent.rooms l))

  -- so do legal lists
  pub tracks_all : {s : State} {xs : List Move} → Tracks m k s → Legals m s xs → Tracks m k (moved_all s xs)
  unfolding moved_all
  tracks_all h stay = h
  tracks_all h (go {s} {x} l r) = tracks_all (tracks_moved s x h l) r

module _ (m : Map) (k : ℕ) where
  -- the same vertices, the same robots
  pub same_robots_lem : (s t : State) → Tracks m k s → Tracks m k t → s.vertices ≡ t.vertices → (v : ℕ) → v < m.size → robot_on s v ≡ robot_on t v
  same_robots_lem s t h i e v a = case (ℕ_discrete (robot_on s v) 255) (ℕ_discrete (robot_on t v) 255)
    where
      carry : (s t : State) → Tracks m k s → Tracks m k t → s.vertices ≡ t.vertices → robot_on s v ≢ 255 → robot_on t v ≡ robot_on s v
      carry s t h i e n = rw (sym (ap (λ (w : List ℕ). get_or w (robot_on s v) 255) e) ∙ h.up v a n) at (i.down (robot_on s v) (h.consistent.known v a n)).1

      case : Dec (robot_on s v ≡ 255) → Dec (robot_on t v ≡ 255) → robot_on s v ≡ robot_on t v
      case (yes p) (yes q) = p ∙ sym q
      case (no p) q = sym (carry s t h i e p)
      case (yes p) (no q) = carry t s i h (sym e) q

  -- the same robots, the same vertices
  pub same_vertices : k ≤ 64 → (s t : State) → Tracks m k s → Tracks m k t → ((v : ℕ) → v < m.size → robot_on s v ≡ robot_on t v) → s.vertices ≡ t.vertices
  same_vertices few s t h i e = ext_get_or 255 s.vertices t.vertices (h.places ∙ sym i.places) (λ r a. case r (dec_lt r k))
    where
      case : (r : ℕ) → Dec (r < k) → get_or s.vertices r 255 ≡ get_or t.vertices r 255
      case r (yes a) =
          let d = h.down r a in
          let q : robot_on t (get_or s.vertices r 255) ≡ r = sym (e (get_or s.vertices r 255) d.0) ∙ d.1 in
          sym (i.up (get_or s.vertices r 255) d.0 (omega arith)) ∙ ap (λ c. get_or t.vertices c 255) q
      case r (no a) = h.out r (omega arith) ∙ sym (i.out r (omega arith))
