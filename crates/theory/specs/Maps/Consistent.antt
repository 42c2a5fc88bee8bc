-- States in which no robot stands twice: legal moves keep them so.
use Rattle.std.specs.Prelude.{◌≡◌, refl, ◌≢◌, List, ℕ, ◌<◌, length, set}
use Rattle.std.proofs.Common.{sym, ◌∙◌, arith, length-set}
use Rattle.spec.specs.Layout.{Map}
use Rattle.spec.specs.Arrangement.{Move}
use Rattle.spec.specs.State.{State, robot_on, moved, moved_all}
use Rattle.theory.specs.Maps.Layout.{Accepted}
use Rattle.theory.specs.Maps.Moves.{Legal, Legals, stay, go, After, at_to, at_from, at_rest, after}

-- ---- states in which no robot stands twice

-- robots are numbered below k and none stands twice
pub record Consistent (m : Map) (k : ℕ) (s : State) : Type 0 where
  pub rooms : length s.robots ≡ 128
  pub known : (v : ℕ) → v < m.size → robot_on s v ≢ 255 → robot_on s v < k
  pub once : (u v : ℕ) → u < m.size → v < m.size → robot_on s u ≢ 255 → robot_on s u ≡ robot_on s v → u ≡ v

-- a move keeps the length of the state
pub moved_rooms : (s : State) (x : Move) → length (moved s x).robots ≡ length s.robots
unfolding moved
moved_rooms s x = length-set (set s.robots x.from 255) x.to x.robot ∙ length-set s.robots x.from 255

module _ (m : Map) (g : Accepted m) where
  -- what stands on a vertex after a legal move
  pub legal_after : (s : State) (x : Move) (v : ℕ) → length s.robots ≡ 128 → Legal m s x → After s x v (robot_on (moved s x) v)
  legal_after s x v h l =
      let e = g.ends x.from x.to l.near in
      after s x v (omega (arith, h, g.small)) (omega (arith, h, g.small))

  -- a legal move keeps that
  pub consistent_moved : (k : ℕ) (s : State) (x : Move) → Consistent m k s → Legal m s x → Consistent m k (moved s x)
  consistent_moved k s x h l = record {
    rooms = moved_rooms s x ∙ h.rooms;
    known = λ v a b. known v (robot_on (moved s x) v) a (legal_after s x v h.rooms l) b;
    once = λ u v a b c d. once u v (robot_on (moved s x) u) (robot_on (moved s x) v) a b (legal_after s x u h.rooms l) (legal_after s x v h.rooms l) c d;
  }
    where
      e : (x.from < m.size) × (x.to < m.size) × (x.from ≢ x.to)
      e = g.ends x.from x.to l.near

      there : robot_on s x.from ≢ 255
      there q = l.robot (sym l.there ∙ q)

      known : (v r : ℕ) → v < m.size → After s x v r → r ≢ 255 → r < k
      known v r a (at_to q) n = rw l.there at (h.known x.from e.0 there)
      known v r a (at_from q) n = absurd (n refl)
      known v r a (at_rest q p) n = h.known v a n

      once : (u v r t : ℕ) → u < m.size → v < m.size → After s x u r → After s x v t → r ≢ 255 → r ≡ t → u ≡ v
      once u v r t a b (at_to p) (at_to q) n o = p ∙ sym q
      once u v r t a b (at_to p) (at_from q) n o = absurd (n o)
      once u v r t a b (at_to p) (at_rest q i) n o = absurd (q (sym (h.once x.from v e.0 b there (l.there ∙ o))))
      once u v r t a b (at_from p) w n o = absurd (n refl)
      once u v r t a b (at_rest p i) (at_to q) n o = absurd (p (h.once u x.from a e.0 n (o ∙ sym l.there)))
      once u v r t a b (at_rest p i) (at_from q) n o = absurd (n o)
      once u v r t a b (at_rest p i) (at_rest q j) n o = h.once u v a b n o

  -- so do legal lists
  pub consistent_all : (k : ℕ) {s : State} {xs : List Move} → Consistent m k s → Legals m s xs → Consistent m k (moved_all s xs)
  unfolding moved_all
  consistent_all k h stay = h
  consistent_all k h (go {s} {x} l r) = consistent_all k (consistent_moved k s x h l) r
