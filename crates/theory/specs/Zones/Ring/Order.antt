-- Rings: a move keeps the order round.
use Rattle.std.specs.Prelude.{◌≡◌, refl, ◌⊎◌, ◌≢◌, Bool, true, false, [], ◌∷◌, ◌++◌, List, ℕ, suc, ◌+◌, ◌<◌, zero, length, set, take, T, eqb, ltb}
use Rattle.std.proofs.Common.{◌∙◌, ap, inl, inr, arith, drop_of_length-le, eqb→eq}
use Rattle.spec.specs.Outcome.{◌and◌, ◌or◌}
use Rattle.spec.specs.Layout.{linked}
use Rattle.spec.specs.Arrangement.{Arrangement, mv, cell, order, Move, apply}
use Rattle.spec.specs.Terms.{joined_places, Inside, Runs, done, ◌then◌}
use Rattle.theory.specs.Basics.Tests.{Eqb, same, other, eqb?, Ltb, less, more, ltb?, and_left, and_right}
use Rattle.theory.specs.Zones.Arrangements.{order_at}
use Rattle.theory.specs.Zones.Moves.{Next, in_line, joined_sym}
use Rattle.theory.specs.Zones.Hall.Order.{line_order}
use Rattle.theory.specs.Zones.Ring.Turning.{Turned, turn_append, turn1, turn, turned_trans}

-- ---- which places are joined

-- next to one another in the line, or the two ends of it
pub data Round (m : ℕ) : ℕ → ℕ → Type 0 where
  line : {p q : ℕ} → Next p q → Round m p q
  over : {p q : ℕ} → suc p ≡ m → q ≡ 0 → Round m p q
  under : {p q : ℕ} → p ≡ 0 → suc q ≡ m → Round m p q

-- joined places are so
pub round_near : (m p q : ℕ) → T (joined_places 4 m p q) → Round m p q
unfolding linked ◌and◌ ◌or◌
round_near m p q h = go (ltb? p q) (ltb? q p) h
  where
    up : (p q : ℕ) {d : Bool} → Eqb q (p + 1) d → T (d or (eqb p 0 and eqb (q + 1) m)) → (q ≡ suc p) ⊎ ((p ≡ 0) × (suc q ≡ m))
    up p q (same e) h = inl (e ∙ omega arith)
    up p q (other n) h = inr (eqb→eq p 0 (and_left (eqb p 0) (eqb (q + 1) m) h), omega (arith, eqb→eq (q + 1) m (and_right (eqb p 0) (eqb (q + 1) m) h)))

    rise : (q ≡ suc p) ⊎ ((p ≡ 0) × (suc q ≡ m)) → Round m p q
    rise (inl e) = line (inl e)
    rise (inr s) = under s.0 s.1

    fall : (p ≡ suc q) ⊎ ((q ≡ 0) × (suc p ≡ m)) → Round m p q
    fall (inl e) = line (inr e)
    fall (inr s) = over s.1 s.0

    go : {b c : Bool} → Ltb p q b → Ltb q p c → T (elim b [ true ↦ eqb q (p + 1) or (eqb p 0 and eqb (q + 1) m) | false ↦ c and (eqb p (q + 1) or (eqb q 0 and eqb (p + 1) m)) ]) → Round m p q
    go (less i) d h = rise (up p q (eqb? q (p + 1)) h)
    go (more i) (less k) h = fall (up q p (eqb? p (q + 1)) h)
    go (more i) (more k) h = absurd h

-- the two ends are joined
ends_joined : (m q : ℕ) → 0 < q → suc q ≡ m → T (joined_places 4 m 0 q)
unfolding linked ◌or◌ ◌and◌
ends_joined m q h e = go (ltb? 0 q) (eqb? q (0 + 1)) (eqb? (q + 1) m)
  where
    go : {b c d : Bool} → Ltb 0 q b → Eqb q (0 + 1) c → Eqb (q + 1) m d → T (elim b [ true ↦ c or d | false ↦ ltb q 0 and linked 4 m q 0 ])
    go (less h) (same e) f = tt
    go (less h) (other n) (same f) = tt
    go (less h) (other n) (other f) = absurd (f (omega arith))
    go (more k) n f = absurd (omega arith)

-- places side by side round the ring are joined
pub near_round : {m p q : ℕ} → p ≢ q → Round m p q → T (joined_places 4 m p q)
near_round {m} n (line j) = in_line 4 m j
near_round {m} {p} n (over i j) = rw j (joined_sym 4 m 0 p (ends_joined m p (omega arith) i))
near_round {m} {p} {q} n (under i j) = rw i (ends_joined m q (omega arith) j)

-- a robot may go to the next empty place
pub go_round : {m r p q : ℕ} {a : Arrangement} → length a ≡ m → Round m p q → cell a p ≡ suc r → cell a q ≡ 0 → q < length a → Inside 4 (mv r p q) a
go_round {p} {q} {a} l j e f h = record { near = rw l (near_round (λ z. omega (arith, rw z at e)) j); there = e; free = f; within = h }

-- ---- a move keeps the order round

-- clearing the last place leaves the order of the others
order_last_clear : (a : Arrangement) (p : ℕ) → suc p ≡ length a → order (set a p 0) ≡ order (take p a)
unfolding order
order_last_clear [] p e = absurd (omega arith)
order_last_clear (x ∷ []) zero e = refl
order_last_clear (x ∷ y ∷ a) zero e = absurd (omega arith)
order_last_clear (zero ∷ a) (suc p) e = order_last_clear a p (omega arith)
order_last_clear (suc d ∷ a) (suc p) e = ap (λ r. d ∷ r) (order_last_clear a p (omega arith))

-- a robot put on the last place is the last of the order
order_last_put : (a : Arrangement) (p c : ℕ) → suc p ≡ length a → cell a p ≡ 0 → order (set a p (suc c)) ≡ order a ++ c ∷ []
unfolding order
order_last_put [] p c e f = absurd (omega arith)
order_last_put (x ∷ []) zero c e f = rw f
order_last_put (x ∷ y ∷ a) zero c e f = absurd (omega arith)
order_last_put (zero ∷ a) (suc p) c e f = order_last_put a p c (omega arith) f
order_last_put (suc d ∷ a) (suc p) c e f = ap (λ r. d ∷ r) (order_last_put a p c (omega arith) f)

-- the last robot comes round to the front
keeps_over : (a : Arrangement) (p c : ℕ) → suc p ≡ length a → cell a p ≡ suc c → cell a 0 ≡ 0 → Turned (order a) (order (set (set a p 0) 0 (suc c)))
unfolding order
keeps_over [] p c l e f = absurd (omega arith)
keeps_over (x ∷ a) zero c l e f = absurd (omega arith)
keeps_over (suc x ∷ a) (suc p) c l e f = absurd (omega arith)
keeps_over (zero ∷ a) (suc p) c l e f =
    let xs = order (take p a) in
    let o : order a ≡ xs ++ c ∷ [] = order_at a p c e ∙ rw (drop_of_length-le a {i = suc p} (omega arith)) in
    record { by = length xs; is = rw (o, turn_append xs (c ∷ []), order_last_clear a p (omega arith)) }

-- the first robot goes round to the end
keeps_under : (a : Arrangement) (q c : ℕ) → suc q ≡ length a → cell a 0 ≡ suc c → cell a q ≡ 0 → Turned (order a) (order (set (set a 0 0) q (suc c)))
unfolding order turn turn1
keeps_under [] q c l e f = absurd (omega arith)
keeps_under (x ∷ a) zero c l e f = absurd (omega arith)
keeps_under (x ∷ a) (suc q) c l e f = record { by = 1; is = rw e (order_last_put a q c (omega arith) f) }

-- a move in a ring keeps the order round
pub keeps_round : {v : Move} {a : Arrangement} → Inside 4 v a → Turned (order a) (order (apply a v))
unfolding turn
keeps_round {v} {a} l = go v.from v.to (round_near (length a) v.from v.to l.near) l.there l.free l.within
  where
    go : (p q : ℕ) → Round (length a) p q → cell a p ≡ suc v.robot → cell a q ≡ 0 → q < length a → Turned (order a) (order (set (set a p 0) q (suc v.robot)))
    go p q (line j) e f k = record { by = 0; is = line_order a v.robot p q j e f k }
    go p q (over i j) e f k = rw j (keeps_over a p v.robot i e (rw j at f))
    go p q (under i j) e f k = rw i (keeps_under a q v.robot j (rw i at e) f)

-- a run in a ring keeps the order round
pub runs_turned : {ms : List Move} {a b : Arrangement} → Runs 4 ms a b → Turned (order a) (order b)
unfolding turn
runs_turned done = record { by = 0; is = refl }
runs_turned (◌then◌ l r) = turned_trans (keeps_round l) (runs_turned r)
