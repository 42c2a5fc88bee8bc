-- Rings: the measure of entering. The ring is read from the place after j on, and so with j as its last place; each push lowers how far the robots after the named one have to go.
use Rattle.std.specs.Prelude.{◌≡◌, refl, ◌≢◌, true, false, [], ◌∷◌, ◌++◌, ℕ, zero, suc, ◌+◌, ◌<◌, ◌≤◌, ◌*◌, length, replicate, eqb}
use Rattle.std.proofs.Common.{ap, ◌∙◌, append-nil, mul-suc, length-append}
use Rattle.std.proofs.Math.Decide.{ℕ_discrete}
use native.Mathlib.Omega.{arith}
use Rattle.spec.specs.Arrangement.{Arrangement, order, cell}
use Rattle.theory.specs.Basics.Lists.{Each, ◌&&&◌}
use Rattle.theory.specs.Basics.Tests.{if_true, eq→eqb, if_false, ne→eqb}
use Rattle.theory.specs.Zones.Arrangements.{order_append}
use Rattle.theory.specs.Zones.Ring.Push.{pushed}

-- the ring read from the place after j on, and so with j as its last place: how far the robots have to go to its end, summed up
pub spread : Arrangement → ℕ
spread [] = 0
spread (zero ∷ f) = spread f
spread (suc x ∷ f) = suc (length f) + spread f

-- the same for the robots that stand after robot n
pub after : ℕ → Arrangement → ℕ
unfolding spread
after n [] = 0
after n (x ∷ f) = elim (eqb x (suc n)) [ true ↦ spread f | false ↦ after n f ]

-- the robots after the named one, where it stands first
pub after_here : (n : ℕ) (f : Arrangement) → after n (suc n ∷ f) ≡ spread f
unfolding after
after_here n f = if_true (eqb (suc n) (suc n)) (spread f) (after n f) (eq→eqb (suc n) (suc n) refl)

-- or further on
pub after_later : (n x : ℕ) (f : Arrangement) → x ≢ suc n → after n (x ∷ f) ≡ after n f
unfolding after
after_later n x f k = if_false (eqb x (suc n)) (spread f) (after n f) (ne→eqb x (suc n) k)

-- ---- the named robot

-- robot n stands there, and not at the last place
pub data Early (n : ℕ) : Arrangement → Type 0 where
  here : {f : Arrangement} → 0 < length f → Early n (suc n ∷ f)
  later : {x : ℕ} {f : Arrangement} → Early n f → Early n (x ∷ f)

-- the constructor as a function, for a tactic as its argument
pub at_once : {n : ℕ} {f : Arrangement} → 0 < length f → Early n (suc n ∷ f)
at_once h = here h

-- there are at least two places then
early_long : {n : ℕ} {f : Arrangement} → Early n f → 1 < length f
early_long (here h) = omega arith
early_long (later e) = omega (arith, early_long e)

-- whoever is not first is in the rest
early_tail : {n x : ℕ} {f : Arrangement} → x ≢ suc n → Early n (x ∷ f) → Early n f
early_tail k (here h) = absurd (k refl)
early_tail k (later e) = e

-- what stands at the last place does not matter
early_last : {n : ℕ} (w : Arrangement) (x y : ℕ) → Early n (w ++ x ∷ []) → Early n (w ++ y ∷ [])
early_last [] x y e = absurd (omega (arith, early_long e))
early_last (z ∷ w) x y (here h) = at_once (omega (arith, length-append w (y ∷ [])))
early_last (z ∷ w) x y (later e) = later (early_last w x y e)

-- a robot that stands there stands in the order
pub early_not : {n : ℕ} (w : Arrangement) (c : ℕ) → Early n (w ++ c ∷ []) → Each (λ y. n ≢ y) (order w) → ⊥
unfolding order
early_not [] c e h = omega (arith, early_long e)
early_not (zero ∷ w) c (later e) h = early_not w c e h
early_not (suc y ∷ w) c (here k) (◌&&&◌ h hs) = h refl
early_not (suc y ∷ w) c (later e) (◌&&&◌ h hs) = early_not w c e hs

-- nobody stands in empty places
pub early_none : {n : ℕ} (k : ℕ) → Early n (replicate k 0) → ⊥
early_none zero e = omega (arith, early_long e)
early_none (suc k) (later e) = early_none k e

-- whoever stands before the last place is early
pub early_of : {n : ℕ} (w : Arrangement) (c i : ℕ) → cell w i ≡ suc n → Early n (w ++ c ∷ [])
early_of [] c i e = absurd (omega arith)
early_of (x ∷ w) c zero e = rw e (at_once (omega (arith, length-append w (c ∷ []))))
early_of (x ∷ w) c (suc i) e = later (early_of w c i e)

-- ---- a robot on the last place is pushed round to the first

-- a push keeps the number of places
pub length_pushed : (a : Arrangement) → length (pushed a) ≡ length a
unfolding pushed
length_pushed [] = refl
length_pushed (zero ∷ a) = length-append a (0 ∷ []) ∙ omega arith
length_pushed (suc c ∷ a) = ap suc (length_pushed a)

-- a push keeps the number of robots
pub count_pushed : (w : Arrangement) → length (order (pushed w)) ≡ length (order w)
unfolding order pushed
count_pushed [] = refl
count_pushed (zero ∷ w) = ap length (order_append w (0 ∷ []) ∙ append-nil (order w))
count_pushed (suc x ∷ w) = ap suc (count_pushed w)

-- a robot on the last place has one place to go
spread_last : (w : Arrangement) (x : ℕ) → spread (w ++ suc x ∷ []) ≡ suc (spread (w ++ 0 ∷ []))
unfolding spread
spread_last [] x = omega arith
spread_last (zero ∷ w) x = spread_last w x
spread_last (suc y ∷ w) x = omega (arith, spread_last w x, length-append w (suc x ∷ []), length-append w (0 ∷ []))

-- pushed round to the first place it is left out, and the others have no further to go
spread_pushed : (w : Arrangement) (x : ℕ) → spread (pushed w) < spread (w ++ suc x ∷ [])
unfolding spread pushed
spread_pushed [] x = omega arith
spread_pushed (zero ∷ w) x = omega (arith, spread_last w x)
spread_pushed (suc y ∷ w) x = omega (arith, spread_pushed w x, length-append w (suc x ∷ []), length_pushed w)

-- the same of the robots after the named one, where the last place is emptied
after_last : (n : ℕ) (w : Arrangement) (x : ℕ) → Early n (w ++ suc x ∷ []) → after n (w ++ 0 ∷ []) < after n (w ++ suc x ∷ [])
after_last n [] x e = absurd (omega (arith, early_long e))
after_last n (y ∷ w) x e = go (ℕ_discrete y (suc n)) (after_last n w x)
  where
    go : Dec (y ≡ suc n) → (Early n (w ++ suc x ∷ []) → after n (w ++ 0 ∷ []) < after n (w ++ suc x ∷ [])) → after n (y ∷ w ++ 0 ∷ []) < after n (y ∷ w ++ suc x ∷ [])
    go (yes k) ih = rw (k, after_here n (w ++ 0 ∷ []), after_here n (w ++ suc x ∷ [])) (omega (arith, spread_last w x))
    go (no k) ih = rw (after_later n y (w ++ 0 ∷ []) k, after_later n y (w ++ suc x ∷ []) k) (ih (early_tail k e))

-- and where those side by side from the first place on are pushed
pub after_pushed : (n : ℕ) (w : Arrangement) (x : ℕ) → Early n (w ++ suc x ∷ []) → after n (pushed w) < after n (w ++ suc x ∷ [])
unfolding pushed
after_pushed n [] x e = absurd (omega (arith, early_long e))
after_pushed n (zero ∷ w) x (later e) = rw (after_later n 0 (w ++ suc x ∷ []) (λ z. omega arith)) (after_last n w x e)
after_pushed n (suc y ∷ w) x e = go (ℕ_discrete (suc y) (suc n)) (after_pushed n w x)
  where
    go : Dec (suc y ≡ suc n) → (Early n (w ++ suc x ∷ []) → after n (pushed w) < after n (w ++ suc x ∷ [])) → after n (suc y ∷ pushed w) < after n (suc y ∷ w ++ suc x ∷ [])
    go (yes k) ih = rw (k, after_here n (pushed w), after_here n (w ++ suc x ∷ [])) (spread_pushed w x)
    go (no k) ih = rw (after_later n (suc y) (pushed w) k, after_later n (suc y) (w ++ suc x ∷ []) k) (ih (early_tail k e))

-- the named robot is not pushed to the last place
pub early_pushed : {n : ℕ} (w : Arrangement) (x : ℕ) → length (order w) < length w → Early n (w ++ suc x ∷ []) → Early n (pushed w)
unfolding pushed order
early_pushed [] x h e = absurd (omega arith)
early_pushed (zero ∷ w) x h (later e) = early_last w (suc x) 0 e
early_pushed (suc y ∷ w) x h (here k) = at_once (omega (arith, length_pushed w))
early_pushed (suc y ∷ w) x h (later e) = later (early_pushed w x (omega arith) e)

-- ---- the last place is empty, and the last robot takes one step

-- a robot that goes one place on has one place less to go
spread_step : (u : Arrangement) (x : ℕ) (t : Arrangement) → spread (u ++ suc x ∷ 0 ∷ t) ≡ suc (spread (u ++ 0 ∷ suc x ∷ t))
unfolding spread
spread_step [] x t = omega arith
spread_step (zero ∷ u) x t = spread_step u x t
spread_step (suc y ∷ u) x t = omega (arith, spread_step u x t, length-append u (suc x ∷ 0 ∷ t), length-append u (0 ∷ suc x ∷ t))

-- the same of the robots after the named one
pub after_step : (n : ℕ) (u : Arrangement) (x : ℕ) (t : Arrangement) → x ≢ n → (Early n t → ⊥) → Early n (u ++ suc x ∷ 0 ∷ t) → after n (u ++ 0 ∷ suc x ∷ t) < after n (u ++ suc x ∷ 0 ∷ t)
after_step n [] x t k z (here h) = absurd (k refl)
after_step n [] x t k z (later (later e)) = absurd (z e)
after_step n (y ∷ u) x t k z e = go (ℕ_discrete y (suc n)) (after_step n u x t k z)
  where
    go : Dec (y ≡ suc n) → (Early n (u ++ suc x ∷ 0 ∷ t) → after n (u ++ 0 ∷ suc x ∷ t) < after n (u ++ suc x ∷ 0 ∷ t)) → after n (y ∷ u ++ 0 ∷ suc x ∷ t) < after n (y ∷ u ++ suc x ∷ 0 ∷ t)
    go (yes q) ih = rw (q, after_here n (u ++ 0 ∷ suc x ∷ t), after_here n (u ++ suc x ∷ 0 ∷ t)) (omega (arith, spread_step u x t))
    go (no q) ih = rw (after_later n y (u ++ 0 ∷ suc x ∷ t) q, after_later n y (u ++ suc x ∷ 0 ∷ t) q) (ih (early_tail q e))

-- the named robot stays before the last place
pub early_step : {n : ℕ} (u : Arrangement) (x : ℕ) (t : Arrangement) → x ≢ n → (Early n t → ⊥) → Early n (u ++ suc x ∷ 0 ∷ t) → Early n (u ++ 0 ∷ suc x ∷ t)
early_step [] x t k z (here h) = absurd (k refl)
early_step [] x t k z (later (later e)) = absurd (z e)
early_step (y ∷ u) x t k z (here h) = at_once (omega (arith, length-append u (0 ∷ suc x ∷ t)))
early_step (y ∷ u) x t k z (later e) = later (early_step u x t k z e)

-- ---- how large it is

-- the robots after the named one have no further to go than all
pub after_le : (n : ℕ) (f : Arrangement) → after n f ≤ spread f
unfolding spread
after_le n [] = unfold after in omega arith
after_le n (x ∷ f) = go (ℕ_discrete x (suc n)) (after_le n f)
  where
    on : (x : ℕ) → spread f ≤ spread (x ∷ f)
    on zero = omega arith
    on (suc x) = omega arith

    go : Dec (x ≡ suc n) → after n f ≤ spread f → after n (x ∷ f) ≤ spread (x ∷ f)
    go (yes e) ih = rw (e, after_here n f) (omega arith)
    go (no k) ih = rw (after_later n x f k) (omega (arith, on x))

-- each robot has at most m places to go
pub spread_le : (m : ℕ) (f : Arrangement) → length f ≤ m → spread f ≤ m * length (order f)
unfolding spread order
spread_le m [] h = omega arith
spread_le m (zero ∷ f) h = spread_le m f (omega arith)
spread_le m (suc x ∷ f) h = rw mul-suc (omega (arith, spread_le m f (omega arith)))
