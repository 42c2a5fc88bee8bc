-- Searches in a list: where they end and what they find; and the order of the robots from a place on.
use Rattle.std.specs.Prelude.{◌≡◌, refl, Bool, true, false, List, [], ◌∷◌, ℕ, zero, suc, ◌+◌, ◌≤◌, ◌<◌, length, drop, eqb}
use Rattle.std.proofs.Common.{sym, arith}
use Rattle.spec.specs.Outcome.{index_of}
use Rattle.spec.specs.Arrangement.{Arrangement, cell, order, seek}
use Rattle.theory.specs.Basics.Tests.{Eqb, same, other, eqb?}

-- ---- the order from place i on

-- an empty place adds nothing to the order from it on
pub order_drop_empty : (a : Arrangement) (i : ℕ) → cell a i ≡ 0 → order (drop i a) ≡ order (drop (suc i) a)
unfolding order
order_drop_empty [] zero e = refl
order_drop_empty [] (suc i) e = refl
order_drop_empty (x ∷ a) zero e = rw e
order_drop_empty (x ∷ a) (suc i) e = order_drop_empty a i e

-- a robot's place adds that robot in front
pub order_drop_robot : (a : Arrangement) (i r : ℕ) → cell a i ≡ suc r → order (drop i a) ≡ r ∷ order (drop (suc i) a)
unfolding order
order_drop_robot [] i r e = absurd (omega arith)
order_drop_robot (x ∷ a) zero r e = rw e
order_drop_robot (x ∷ a) (suc i) r e = order_drop_robot a i r e

-- ---- what a search finds

-- a search ends inside the list or at its end
pub seek_le : (x : ℕ) (a : Arrangement) → seek x a ≤ length a
unfolding seek
seek_le x [] = omega arith
seek_le x (y ∷ a) = go (eqb x y) (seek_le x a)
  where
    go : (b : Bool) → seek x a ≤ length a → elim b [ true ↦ 0 | false ↦ suc (seek x a) ] ≤ suc (length a)
    go true h = omega arith
    go false h = omega arith

-- so does the search for an index
pub index_le : (x : ℕ) (xs : List ℕ) → index_of x xs ≤ length xs
unfolding index_of
index_le x [] = omega arith
index_le x (y ∷ xs) = go (eqb x y) (index_le x xs)
  where
    go : (b : Bool) → index_of x xs ≤ length xs → elim b [ true ↦ 0 | false ↦ index_of x xs + 1 ] ≤ suc (length xs)
    go true h = omega arith
    go false h = omega arith

-- seeking finds what stands somewhere
pub seek_ok : (x : ℕ) (a : Arrangement) (i : ℕ) → i < length a → cell a i ≡ x → (cell a (seek x a) ≡ x) × (seek x a < length a)
unfolding seek
seek_ok x [] i h e = absurd (omega arith)
seek_ok x (y ∷ a) i h e = go i h e (eqb? x y) (λ j. seek_ok x a j)
  where
    go : (i : ℕ) → i < suc (length a) → cell (y ∷ a) i ≡ x → {b : Bool} → Eqb x y b → ((j : ℕ) → j < length a → cell a j ≡ x → (cell a (seek x a) ≡ x) × (seek x a < length a))
        → (cell (y ∷ a) (elim b [ true ↦ 0 | false ↦ suc (seek x a) ]) ≡ x) × (elim b [ true ↦ 0 | false ↦ suc (seek x a) ] < suc (length a))
    go i h e (same p) ih = (sym p, omega arith)
    go zero h e (other n) ih = absurd (n (sym e))
    go (suc i) h e (other n) ih = let s = ih i (omega arith) e in (s.0, omega arith)
