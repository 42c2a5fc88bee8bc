-- Cliques: any two places are joined, and what the searches of the rule find.
use Rattle.std.specs.Prelude.{◌≡◌, refl, ◌≢◌, Bool, true, false, ◌∷◌, [], ℕ, suc, ◌<◌, ◌≤◌, zero, min, length, T}
use Rattle.std.proofs.Common.{◌∙◌, suc-le-suc, arith}
use Rattle.std.proofs.Math.Decide.{dec_le}
use Rattle.spec.specs.Outcome.{◌and◌}
use Rattle.spec.specs.Layout.{linked}
use Rattle.spec.specs.Arrangement.{Arrangement, mv, cell, lesser}
use Rattle.spec.specs.Terms.{joined_places, Inside}
use Rattle.spec.specs.Clique.{open_target, lowest_off}
use Rattle.theory.specs.Basics.Tests.{Ltb, less, more, ltb?, eqb_false, Eqb, same, other, eqb?}

-- any two places are joined
pub near_other : (m p q : ℕ) → p ≢ q → T (joined_places 3 m p q)
unfolding linked ◌and◌
near_other m p q n = go (ltb? p q) (ltb? q p)
  where
    go : {b c : Bool} → Ltb p q b → Ltb q p c → T (elim b [ true ↦ linked 3 m p q | false ↦ c and linked 3 m q p ])
    go (less h) d = tt
    go (more h) (less k) = tt
    go (more h) (more k) = absurd (n (omega arith))

-- in a clique a robot may go to any empty place
pub hop : {r p q : ℕ} {a : Arrangement} → cell a p ≡ suc r → cell a q ≡ 0 → q < length a → Inside 3 (mv r p q) a
hop {p} {q} {a} e f h = record { near = near_other (length a) p q (λ j. omega (arith, rw j at e)); there = e; free = f; within = h }

-- ---- the earliest empty target

-- what the search for an empty target finds: one, or the end, where every empty place is empty in the goal
pub data Gap (a g : Arrangement) : ℕ → Type 0 where
  found : (q c : ℕ) → q < length a → cell a q ≡ 0 → cell g q ≡ suc c → Gap a g q
  closed : (q : ℕ) → length a ≤ q → ((q : ℕ) → cell a q ≡ 0 → cell g q ≡ 0) → Gap a g q

-- it goes on past a place that is no empty target
gap_on : {a g : Arrangement} {o : ℕ} (x y : ℕ) → (x ≡ 0 → y ≡ 0) → Gap a g o → Gap (x ∷ a) (y ∷ g) (suc o)
gap_on x y h (found q c k e f) = let l = suc-le-suc k in found (suc q) c l e f
gap_on {a} {g} x y h (closed q k f) = let l = suc-le-suc k in closed (suc q) l go
  where
    go : (q : ℕ) → cell (x ∷ a) q ≡ 0 → cell (y ∷ g) q ≡ 0
    go zero e = h e
    go (suc q) e = f q e

-- the search finds so
pub gap_view : (a g : Arrangement) → length a ≡ length g → Gap a g (open_target a g)
unfolding open_target
gap_view a [] l = let k : length a ≤ 0 = omega arith in closed 0 k (λ q e. refl)
gap_view [] (y ∷ g) l = absurd (omega arith)
gap_view (x ∷ a) (zero ∷ g) l = gap_on x 0 (λ e. refl) (gap_view a g (omega arith))
gap_view (zero ∷ a) (suc c ∷ g) l = let k : 0 < suc (length a) = omega arith in found 0 c k refl refl
gap_view (suc x ∷ a) (suc c ∷ g) l = gap_on (suc x) (suc c) (λ e. omega arith) (gap_view a g (omega arith))

-- ---- the lowest-numbered robot off its target

-- what the search for a robot off its target finds: one, or none, where every robot is on its target
pub data Stray (a g : Arrangement) : ℕ → Type 0 where
  astray : (q c : ℕ) → cell g q ≡ suc c → cell a q ≢ suc c → Stray a g (suc c)
  settled : ((q c : ℕ) → cell g q ≡ suc c → cell a q ≡ suc c) → Stray a g 0

-- it goes on past a robot on its target
stray_on : {a g : Arrangement} {o : ℕ} (x y : ℕ) → ((c : ℕ) → y ≡ suc c → x ≡ suc c) → Stray a g o → Stray (x ∷ a) (y ∷ g) o
stray_on x y h (astray q c e f) = astray (suc q) c e f
stray_on {a} {g} x y h (settled f) = settled go
  where
    go : (q c : ℕ) → cell (y ∷ g) q ≡ suc c → cell (x ∷ a) q ≡ suc c
    go zero c e = h c e
    go (suc q) c e = f q c e

-- of two robots off target it finds the lower-numbered
stray_lesser : {a g : Arrangement} {o : ℕ} (x c : ℕ) → x ≢ suc c → Stray a g o → Stray (x ∷ a) (suc c ∷ g) (lesser (suc c) o)
unfolding lesser
stray_lesser x c n (settled f) = astray 0 c refl n
stray_lesser {a} {g} x c n (astray q d e f) = rw (eqb_false {m = suc d} {n = 0} (omega arith), lesser) (go (dec_le c d))
  where
    go : Dec (c ≤ d) → Stray (x ∷ a) (suc c ∷ g) (min (suc c) (suc d))
    go (yes h) = let k : min (suc c) (suc d) ≡ suc c = omega arith in rw k (astray 0 c refl n)
    go (no h) = let k : min (suc c) (suc d) ≡ suc d = omega arith in rw k (astray (suc q) d e f)

-- the search finds so
pub stray_view : (a g : Arrangement) → length a ≡ length g → Stray a g (lowest_off a g)
unfolding lowest_off
stray_view a [] l = settled (λ q c e. absurd (omega arith))
stray_view [] (y ∷ g) l = absurd (omega arith)
stray_view (x ∷ a) (zero ∷ g) l = stray_on x 0 (λ c e. absurd (omega arith)) (stray_view a g (omega arith))
stray_view (x ∷ a) (suc c ∷ g) l = go (eqb? x (suc c)) (stray_view a g (omega arith))
  where
    go : {b : Bool} → Eqb x (suc c) b → Stray a g (lowest_off a g) → Stray (x ∷ a) (suc c ∷ g) (elim b [ true ↦ lowest_off a g | false ↦ lesser (suc c) (lowest_off a g) ])
    go (same e) s = stray_on x (suc c) (λ d f. e ∙ f) s
    go (other n) s = stray_lesser x c n s
