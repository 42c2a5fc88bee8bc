-- Halls: a move keeps the order of the robots.
use Rattle.std.specs.Prelude.{◌≡◌, refl, ◌≢◌, Bool, true, false, [], ◌∷◌, List, ℕ, zero, suc, ◌<◌, ◌+◌, length, set, T, eqb}
use Rattle.std.proofs.Common.{ap, ◌∙◌, sym, inl, inr, le_of_suc-le-suc, arith, eqb→eq}
use Rattle.spec.specs.Outcome.{◌and◌, ◌or◌}
use Rattle.spec.specs.Layout.{linked}
use Rattle.spec.specs.Arrangement.{Arrangement, cell, order, Move, apply}
use Rattle.spec.specs.Terms.{joined_places, Inside, Runs, done, ◌then◌}
use Rattle.theory.specs.Basics.Tests.{Eqb, same, other, eqb?, Ltb, less, more, ltb?}
use Rattle.theory.specs.Zones.Moves.{Next}

-- a step to the next higher place keeps the order
keeps_up : (a : Arrangement) (p c : ℕ) → cell a p ≡ suc c → cell a (suc p) ≡ 0 → suc p < length a → order (set (set a p 0) (suc p) (suc c)) ≡ order a
unfolding order
keeps_up [] p c e f h = absurd (omega arith)
keeps_up (x ∷ []) zero c e f h = absurd (omega arith)
keeps_up (x ∷ y ∷ a) zero c e f h = rw (e, f)
keeps_up (zero ∷ a) (suc p) c e f h = keeps_up a p c e f (le_of_suc-le-suc h)
keeps_up (suc d ∷ a) (suc p) c e f h = ap (λ r. d ∷ r) (keeps_up a p c e f (le_of_suc-le-suc h))

-- a step to the next lower place keeps the order
keeps_down : (a : Arrangement) (p c : ℕ) → cell a (suc p) ≡ suc c → cell a p ≡ 0 → order (set (set a (suc p) 0) p (suc c)) ≡ order a
unfolding order
keeps_down [] p c e f = refl
keeps_down (x ∷ []) zero c e f = absurd (omega arith)
keeps_down (x ∷ y ∷ a) zero c e f = rw (f, e)
keeps_down (zero ∷ a) (suc p) c e f = keeps_down a p c e f
keeps_down (suc d ∷ a) (suc p) c e f = ap (λ r. d ∷ r) (keeps_down a p c e f)

-- a step to the next place keeps the order
pub line_order : (a : Arrangement) (c p q : ℕ) → Next p q → cell a p ≡ suc c → cell a q ≡ 0 → q < length a → order (set (set a p 0) q (suc c)) ≡ order a
line_order a c p q (inl j) e f h = rw j (keeps_up a p c e (rw j at f) (rw j at h))
line_order a c p q (inr j) e f h = rw j (keeps_down a q c (rw j at e) f)

-- a zone that is neither a clique nor a ring
pub record IsHall (kind : ℕ) : Type 0 where
  pub three : kind ≢ 3
  pub four : kind ≢ 4

-- in a hall only places side by side are joined
pub out_line : {kind : ℕ} → IsHall kind → (m p q : ℕ) → T (joined_places kind m p q) → Next p q
unfolding linked ◌and◌
out_line {kind} i m p q h = go (eqb? kind 3) (eqb? kind 4) (ltb? p q) (ltb? q p) h
  where
    go : {a b c d : Bool} → Eqb kind 3 a → Eqb kind 4 b → Ltb p q c → Ltb q p d
        → T (elim c [
          | true ↦ elim a [ true ↦ true | false ↦ elim b [ true ↦ eqb q (p + 1) or (eqb p 0 and eqb (q + 1) m) | false ↦ eqb q (p + 1) ] ]
          | false ↦ d and elim a [ true ↦ true | false ↦ elim b [ true ↦ eqb p (q + 1) or (eqb q 0 and eqb (p + 1) m) | false ↦ eqb p (q + 1) ] ]
        ])
        → Next p q
    go (same e) b c d h = absurd (i.three e)
    go (other n) (same e) c d h = absurd (i.four e)
    go (other n) (other k) (less c) d h = inl (eqb→eq q (p + 1) h ∙ omega arith)
    go (other n) (other k) (more c) (less d) h = inr (eqb→eq p (q + 1) h ∙ omega arith)
    go (other n) (other k) (more c) (more d) h = absurd h

-- a move in a hall keeps the order
pub keeps_order : {kind : ℕ} → IsHall kind → {x : Move} {a : Arrangement} → Inside kind x a → order (apply a x) ≡ order a
keeps_order i {x} {a} l = line_order a x.robot x.from x.to (out_line i (length a) x.from x.to l.near) l.there l.free l.within

-- a run in a hall keeps the order
pub runs_order : {kind : ℕ} → IsHall kind → {xs : List Move} {a b : Arrangement} → Runs kind xs a b → order a ≡ order b
runs_order i done = refl
runs_order i (◌then◌ l r) = sym (keeps_order i l) ∙ runs_order i r
