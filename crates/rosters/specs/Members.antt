-- The same robots in two lists: one by one, and by a word with a bit for each robot.
use Rattle.std.specs.Prelude.{◌≡◌, refl, Bool, true, false, List, [], ◌∷◌, ℕ, zero, suc, ◌+◌, ◌/◌, ◌%◌, ◌^◌, ◌≤◌, ◌<◌, length, get_or, max, fold, eqb, ◌&&◌}
use Rattle.std.specs.List.{list_any, list_all}
use Rattle.std.proofs.Math.Path.{sym}
use Rattle.std.proofs.Common.{ap, ◌∙◌, arith}
use Rattle.std.proofs.Math.Decide.{ℕ_discrete}
use Rattle.std.proofs.Math.Nat.{zero-div}
use Rattle.std.specs.Int.Bits.{bit_or}
use borrow.Author.Tests.{eq-eqb, ne_eqb, eqb-true}
use Rattle.spec.specs.Outcome.{◌and◌, all, member}
use Rattle.theory.specs.Basics.Tests.{of_true}
use Rattle.adjacency.specs.Bit.{bit_of, bit_zero, bit_suc, set_same, set_other}
use Rattle.adjacency.specs.Rows.{same_test, and_true, both}
use Rattle.orders.specs.Orders.{same_members}
use Rattle.rosters.specs.Finding.{member_is}

-- ---- one by one

-- the search of each robot of a list is the library's
pub all_is : (o l : List ℕ) → list_all (λ r. list_any (λ y. eqb y r) o) l ≡ all (λ r. member r o) l
unfolding all
all_is o [] = refl
all_is o (x ∷ l) = rw (member_is o x, all_is o l, all) (at (member x o))
  where
    at : (b : Bool) → ◌≡◌ {A = Bool} (b && all (λ r. member r o) l) (elim b [ true ↦ all (λ r. member r o) l | false ↦ false ])
    at true = refl
    at false = refl

module _ (l o : List ℕ) where
  -- not as many
  pub members_other : (length l ≡ length o → ⊥) → false ≡ same_members l o
  unfolding same_members ◌and◌
  members_other h = sym (rw (ne_eqb (length l) (length o) h, same_members, ◌and◌))

  -- as many, but some robot is missing in the second
  pub members_not : length l ≡ length o → false ≡ all (λ r. member r o) l → false ≡ same_members l o
  unfolding same_members ◌and◌
  members_not h b = sym (rw (eq-eqb (length l) (length o) h, same_members, ◌and◌, ← b))

  -- none is missing there: the first decides
  pub members_same : length l ≡ length o → true ≡ all (λ r. member r o) l → all (λ r. member r l) o ≡ same_members l o
  unfolding same_members ◌and◌
  members_same h b = sym (rw (eq-eqb (length l) (length o) h, same_members, ◌and◌, ← b))

-- ---- by marks

-- every robot of a list is below 64
abbrev pub Small : List ℕ → Type 0
Small l = (j : ℕ) → get_or l j 0 < 64

-- none of a list is above the largest
high_from : (l : List ℕ) (h : ℕ) → (h ≤ fold max h l) × ((j : ℕ) → get_or l j 0 ≤ fold max h l)
high_from [] h = (omega arith, λ j. omega arith)
high_from (x ∷ l) h = let q = high_from l (max h x) in (omega (arith, q.0), each (omega (arith, q.0)) q.1)
  where
    each : {m : ℕ} → x ≤ m → ((j : ℕ) → get_or l j 0 ≤ m) → (j : ℕ) → get_or (x ∷ l) j 0 ≤ m
    each a b zero = a
    each a b (suc j) = b j

pub small : (l : List ℕ) → fold max 0 l < 64 → Small l
small l h j = omega (arith, (high_from l 0).1 j)

-- the word w with the robots of a list marked
abbrev pub marked : List ℕ → ℕ → ℕ
marked l w = fold (λ v r. bit_or v (2 ^ (r % 64))) w l

-- a bit is set of a robot that is marked, and else as it was
bit_is : (l : List ℕ) (w x : ℕ) → Small l → ◌≡◌ {A = ℕ} (bit_of (marked l w) x) (elim (member x l) [ true ↦ 1 | false ↦ bit_of w x ])
unfolding member
bit_is [] w x s = refl
bit_is (y ∷ l) w x s = bit_is l (bit_or w (2 ^ (y % 64))) x (λ j. s (suc j)) ∙ at (ℕ_discrete x y)
  where
    small : y % 64 ≡ y
    small = omega (arith, s 0)

    set : (b : Bool) (k : ℕ) → k ≡ 1 → ◌≡◌ {A = ℕ} (elim b [ true ↦ 1 | false ↦ k ]) 1
    set true k e = refl
    set false k e = e

    at : Dec (x ≡ y) → ◌≡◌ {A = ℕ} (elim (member x l) [ true ↦ 1 | false ↦ bit_of (bit_or w (2 ^ (y % 64))) x ]) (elim (member x (y ∷ l)) [ true ↦ 1 | false ↦ bit_of w x ])
    at (yes e) = rw (eq-eqb x y e, member) (set (member x l) _ (rw (small, e) (set_same w y)))
    at (no d) = rw (ne_eqb x y d, member) (ap (λ (k : ℕ). elim (member x l) [ true ↦ 1 | false ↦ k ]) (set_other w (y % 64) x (λ e. d (sym e ∙ small))))

-- numbers with the same bits are the same
bits_same : (k w v : ℕ) → w ≤ k → v ≤ k → ((i : ℕ) → bit_of w i ≡ bit_of v i) → w ≡ v
bits_same zero w v a b h = omega arith
bits_same (suc k) w v a b h =
    let half : w / 2 ≡ v / 2 = bits_same k (w / 2) (v / 2) (omega arith) (omega arith) (λ i. sym (bit_suc w i) ∙ h (suc i) ∙ bit_suc v i) in
    let last : w % 2 ≡ v % 2 = sym (bit_zero w) ∙ h 0 ∙ bit_zero v in
    omega arith

-- one that is in the rest is in the list
member_later : (x y : ℕ) (l : List ℕ) → member x l ≡ true → member x (y ∷ l) ≡ true
unfolding member
member_later x y l m = at (ℕ_discrete x y)
  where
    at : Dec (x ≡ y) → member x (y ∷ l) ≡ true
    at (yes e) = rw (eq-eqb x y e, member)
    at (no d) = rw (ne_eqb x y d, member) m

-- a test holds of all where it holds of each that is in the list
all_from : (p : ℕ → Bool) (l : List ℕ) → ((x : ℕ) → member x l ≡ true → p x ≡ true) → all p l ≡ true
unfolding all member
all_from p [] h = refl
all_from p (y ∷ l) h = rw (h y (rw (eq-eqb y y refl, member)), all) (all_from p l (λ x m. h x (member_later x y l m)))

-- and the other way round
all_to : (p : ℕ → Bool) (l : List ℕ) (x : ℕ) → all p l ≡ true → member x l ≡ true → p x ≡ true
unfolding all member ◌and◌
all_to p [] x e m = absurd (of_true m)
all_to p (y ∷ l) x e m = at (ℕ_discrete x y) (and_true (p y) (all p l) (as_and (p y) e)) (λ f g. all_to p l x f g)
  where
    as_and : (b : Bool) → ◌≡◌ {A = Bool} (elim b [ true ↦ all p l | false ↦ false ]) true → (b and all p l) ≡ true
    as_and true q = q
    as_and false q = q

    rest : (x ≡ y → ⊥) → member x (y ∷ l) ≡ true → member x l ≡ true
    rest d q = rw (ne_eqb x y d, member) at q

    at : Dec (x ≡ y) → (p y ≡ true) × (all p l ≡ true) → (all p l ≡ true → member x l ≡ true → p x ≡ true) → p x ≡ true
    at (yes d) q f = rw d q.0
    at (no d) q f = f q.1 (rest d m)

module _ (l o : List ℕ) (sl : Small l) (so : Small o) where
  -- a marked robot is in the list
  has : (x : ℕ) → bit_of (marked o 0) x ≡ 1 → member x o ≡ true
  has x e = at (member x o) (sym (bit_is o 0 x so) ∙ e)
    where
      at : (b : Bool) → ◌≡◌ {A = ℕ} (elim b [ true ↦ 1 | false ↦ bit_of 0 x ]) 1 → b ≡ true
      at true q = refl
      at false q = let z : bit_of 0 x ≡ 0 = rw zero-div in absurd (omega arith)

  -- equal words: each robot of the first is in the second
  into : marked l 0 ≡ marked o 0 → all (λ r. member r o) l ≡ true
  into e = all_from (λ r. member r o) l (λ x m. has x (sym (ap (λ (w : ℕ). bit_of w x) e) ∙ bit_is l 0 x sl ∙ rw m))

  -- the same robots: equal words
  equal : all (λ r. member r o) l ≡ true → all (λ r. member r l) o ≡ true → marked l 0 ≡ marked o 0
  equal f g =
      let w : ℕ = marked l 0 in
      let v : ℕ = marked o 0 in
      bits_same (w + v) w v (omega arith) (omega arith)
      (λ x. bit_is l 0 x sl ∙ ap (λ (b : Bool). elim b [ true ↦ 1 | false ↦ bit_of 0 x ]) (same_test (member x l) (member x o) (all_to (λ r. member r o) l x f) (all_to (λ r. member r l) o x g)) ∙ sym (bit_is o 0 x so))

-- so the words decide
pub words_same : (l o : List ℕ) → Small l → Small o → length l ≡ length o → eqb (marked l 0) (marked o 0) ≡ same_members l o
unfolding same_members
words_same l o sl so e = same_test _ _
    (λ t. let d : marked l 0 ≡ marked o 0 = eqb-true (marked l 0) (marked o 0) t in both (eq-eqb (length l) (length o) e) (both (into l o sl so d) (into o l so sl (sym d))))
    (λ t. let q = and_true _ _ (and_true _ _ t).1 in eq-eqb (marked l 0) (marked o 0) (equal l o sl so q.0 q.1))
