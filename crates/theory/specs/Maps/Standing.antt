-- The state with the robots on given vertices.
use Rattle.std.specs.Prelude.{◌≡◌, ◌≢◌, Bool, List, [], ◌∷◌, ◌++◌, ℕ, zero, suc, ◌+◌, ◌-◌, ◌≤◌, ◌<◌, set, replicate}
use Rattle.std.proofs.Math.Path.{refl}
use Rattle.std.proofs.Common.{sym, ap, ◌∙◌, le_of_suc-le-suc, add-zero, not-suc-le-zero, length-set, get_or-set_same, get_or-set_other}
use Rattle.std.proofs.Math.Bool.{true, false}
use native.Mathlib.Omega.{arith}
use Rattle.std.proofs.Math.ListN.{length, get_or, get_or-replicate, length-append, length-replicate, get_or-append}
use Rattle.spec.specs.Outcome.{member, index_of}
use Rattle.spec.specs.Layout.{Map}
use Rattle.spec.specs.State.{robot_on, put, standing}
use Rattle.theory.specs.Basics.Tests.{of_true, of_false}
use Rattle.theory.specs.Basics.Lists.{get_d_default, get_d_uniform, In, index_in, in_head, in_right, in_tail}
use Rattle.theory.specs.Maps.Listing.{Fresh, none, more, fresh_not, fresh_lt}
use Rattle.theory.specs.Maps.Layout.{Accepted}
use Rattle.theory.specs.Maps.Tracks.{Tracks}

-- ---- the state with the robots on given vertices

-- putting robots keeps the length
put_length : (rs : List ℕ) (r : ℕ) (vs : List ℕ) → length (put rs r vs) ≡ length rs
unfolding put
put_length rs r [] = refl
put_length rs r (v ∷ vs) = put_length (set rs v r) (r + 1) vs ∙ length-set rs v r

-- a vertex that is not listed keeps its robot
put_other : (rs : List ℕ) (r : ℕ) (vs : List ℕ) (w : ℕ) → (In w vs → ⊥) → get_or (put rs r vs) w 255 ≡ get_or rs w 255
unfolding put
put_other rs r [] w n = refl
put_other rs r (v ∷ vs) w n =
    put_other (set rs v r) (r + 1) vs w (λ i. n (in_tail w v vs i)) ∙ get_or-set_other rs v w r 255 (λ e. n (rw e (in_head v vs)))

-- the vertices listed have their robots
put_at : {n : ℕ} {seen vs : List ℕ} → Fresh n seen vs → (rs : List ℕ) (r i : ℕ) → n ≤ length rs → i < length vs → get_or (put rs r vs) (get_or vs i 0) 255 ≡ r + i
unfolding put
put_at none rs r i h k = absurd (not-suc-le-zero k)
put_at (more {v} {seen} {vs} l d f) rs r zero h k =
    put_other (set rs v r) (r + 1) vs v (λ i. fresh_not f v i (in_right v seen (v ∷ []) (in_head v []))) ∙ get_or-set_same rs v r 255 (omega arith) ∙ sym (add-zero r)
put_at (more {v} {seen} {vs} l d f) rs r (suc i) h k = put_at f (set rs v r) (r + 1) i (omega (arith, length-set rs v r)) (le_of_suc-le-suc k) ∙ omega arith

-- past the robots there is no vertex
padding : (vs : List ℕ) (n r : ℕ) → length vs ≤ r → get_or (vs ++ replicate n 255) r 255 ≡ 255
padding [] n r h = get_d_uniform n r 255
padding (v ∷ vs) n zero h = absurd (not-suc-le-zero h)
padding (v ∷ vs) n (suc r) h = padding vs n r (le_of_suc-le-suc h)

-- where a robot is placed
pub vertex : (vs : List ℕ) (r : ℕ) → r < length vs → get_or (standing vs).vertices r 255 ≡ get_or vs r 0
unfolding standing
vertex vs r h = get_or-append vs (replicate (64 - length vs) 255) 255 r h ∙ get_d_default vs r 255 0 h

module _ (m : Map) (g : Accepted m) (vs : List ℕ) (f : Fresh m.size [] vs) (few : length vs ≤ 64) where
  -- what stands on v
  data Occupant (v : ℕ) : ℕ → Type 0 where
    stands : (i : ℕ) → i < length vs → get_or vs i 0 ≡ v → Occupant v i
    empty : Occupant v 255

  -- a vertex has the robot that starts there, or none
  stands_on : (v : ℕ) → v < m.size → Occupant v (robot_on (standing vs) v)
  unfolding standing
  stands_on v h = case (member v vs) refl
    where
      case : (b : Bool) → member v vs ≡ b → Occupant v (get_or (put (replicate 128 255) 0 vs) v 255)
      case true e =
          let i = index_in v vs (of_true e) in
          let q : get_or (put (replicate 128 255) 0 vs) v 255 ≡ index_of v vs = rw i.1 at (put_at f (replicate 128 255) 0 (index_of v vs) (omega (arith, length-replicate {A = ℕ} 128 255, g.small)) i.0) ∙ omega arith in
          rw q (stands (index_of v vs) i.0 i.1)
      case false e =
          let q : get_or (put (replicate 128 255) 0 vs) v 255 ≡ 255 = put_other (replicate 128 255) 0 vs v (of_false e) ∙ get_or-replicate 128 v 255 255 (omega (arith, g.small)) in
          rw q empty

  -- a state read from a placing is so
  pub standing_tracks : Tracks m (length vs) (standing vs)
  unfolding standing
  standing_tracks = record {
    consistent = record {
      rooms = put_length (replicate 128 255) 0 vs ∙ length-replicate {A = ℕ} 128 255;
      known = λ v h n. known v (robot_on (standing vs) v) (stands_on v h) n;
      once = λ u v a b n e. once u v (robot_on (standing vs) u) (robot_on (standing vs) v) (stands_on u a) (stands_on v b) n e;
    };
    places = length-append vs (replicate (64 - length vs) 255) ∙ rw (length-replicate {A = ℕ} (64 - length vs) 255) (omega arith);
    up = λ v h n. up v (robot_on (standing vs) v) (stands_on v h) n;
    down = λ r h. (rw (vertex vs r h) (fresh_lt f r h), rw (vertex vs r h) (put_at f (replicate 128 255) 0 r (omega (arith, length-replicate {A = ℕ} 128 255, g.small)) h ∙ omega arith));
    out = λ r h. padding vs (64 - length vs) r h;
  }
    where
      known : (v r : ℕ) → Occupant v r → r ≢ 255 → r < length vs
      known v r (stands i h e) n = h
      known v r empty n = absurd (n refl)

      once : (u v r t : ℕ) → Occupant u r → Occupant v t → r ≢ 255 → r ≡ t → u ≡ v
      once u v r t (stands i h e) (stands j k d) n q = sym e ∙ ap (λ c. get_or vs c 0) q ∙ d
      once u v r t (stands i h e) empty n q = absurd (n q)
      once u v r t empty w n q = absurd (n refl)

      up : (v r : ℕ) → Occupant v r → r ≢ 255 → get_or (standing vs).vertices r 255 ≡ v
      up v r (stands i h e) n = vertex vs i h ∙ e
      up v r empty n = absurd (n refl)
