-- A robot sought in a list.
use Rattle.std.specs.Prelude.{◌≡◌, Bool, true, false, ◌||◌, cond, List, [], ◌∷◌, ◌++◌, ℕ, suc, ◌+◌, ◌-◌, ◌*◌, ◌≤◌, ◌<◌, Option, Some, None, length, take, drop, position, fold, eqb, ltb}
use Rattle.std.specs.List.{position_or_len, list_any}
use Rattle.std.proofs.Common.{sym, refl, ap, ◌∙◌, arith, length-take-le, length-drop}
use Rattle.std.proofs.lemmas.List.{take-append-drop, drop-drop}
use Rattle.std.proofs.lemmas.Option.{cond_some}
use Rattle.std.proofs.lemmas.List.Recursion.{is_position_or_len}
use Rattle.std.proofs.Math.Decide.{ℕ_discrete, dec_lt}
use borrow.Author.Tests.{eq-eqb, ne_eqb, ltb-true, lt-ltb, le-ltb}
use Rattle.spec.specs.Outcome.{member, index_of}
use Rattle.theory.specs.Basics.Tests.{of_true}
use Rattle.theory.specs.Basics.Searches.{index_le}

-- a list's search is the library's
pub member_is : (o : List ℕ) (r : ℕ) → list_any (λ y. eqb y r) o ≡ member r o
unfolding member
member_is [] r = refl
member_is (y ∷ o) r = at (ℕ_discrete r y) (member_is o r)
  where
    at : Dec (r ≡ y) → list_any (λ y. eqb y r) o ≡ member r o → list_any (λ y. eqb y r) (y ∷ o) ≡ member r (y ∷ o)
    at (yes e) h = rw (eq-eqb r y e, eq-eqb y r (sym e), member)
    at (no d) h = rw (ne_eqb r y d, ne_eqb y r (λ e. d (sym e)), member) h

-- the index is the library's
index_is : (r : ℕ) (l : List ℕ) → index_of r l ≡ position_or_len (eqb r) l
unfolding index_of
index_is r l = is_position_or_len (index_of r) (eqb r) refl (λ x xs. step (eqb r x) (index_of r xs)) l
  where
    step : (b : Bool) (n : ℕ) → ◌≡◌ {A = ℕ} (elim b [ true ↦ 0 | false ↦ n + 1 ]) (cond b 0 (1 + n))
    step true n = refl
    step false n = omega arith

module _ (r : ℕ) (l : List ℕ) {o : Option ℕ} (e : o ≡ position (eqb r) l) where
  -- robot r stands at index t
  pub index_found : (t : ℕ) → o ≡ Some t → (t < length l) × (t ≡ index_of r l)
  index_found t s =
      let f = cond_some (ltb (position_or_len (eqb r) l) (length l)) (position_or_len (eqb r) l) t (sym e ∙ s) in
      (omega (arith, ltb-true _ _ f.0, f.1), sym f.1 ∙ sym (index_is r l))

  -- or nowhere
  pub index_missing : o ≡ None → length l ≡ index_of r l
  index_missing s = go (position_or_len (eqb r) l) (index_is r l) (sym e ∙ s)
    where
      go : (n : ℕ) → index_of r l ≡ n → cond (ltb n (length l)) (Some n) None ≡ None → length l ≡ index_of r l
      go n i h = at (dec_lt n (length l))
        where
          at : Dec (n < length l) → length l ≡ index_of r l
          at (yes b) = absurd (search arith)
          at (no b) = omega (arith, index_le r l)

-- where it stands, or that it stands nowhere, is what the library finds
module _ (r : ℕ) (l : List ℕ) where
  found_is : (t : ℕ) → t < length l → t ≡ index_of r l → Some t ≡ position (eqb r) l
  found_is t h i =
      let e : t ≡ position_or_len (eqb r) l = i ∙ index_is r l in
      rw (← e, lt-ltb t (length l) h)

  missing_is : length l ≡ index_of r l → None ≡ position (eqb r) l
  missing_is i =
      let e : length l ≡ position_or_len (eqb r) l = i ∙ index_is r l in
      rw (← e, le-ltb (length l) (length l) (omega arith))

-- ---- some at a time

-- as the code looks at some: none of them is r
none_seen : (r : ℕ) (l : List ℕ) (s : Bool) → fold (λ seen x. seen || eqb r x) s l ≡ false → (s ≡ false) × (index_of r l ≡ length l)
unfolding index_of
none_seen r [] s e = (e, refl)
none_seen r (x ∷ l) s e = let q = none_seen r l (s || eqb r x) e in go s (eqb r x) q.0 q.1
  where
    go : (s b : Bool) → (s || b) ≡ false → index_of r l ≡ length l → (s ≡ false) × (◌≡◌ {A = ℕ} (elim b [ true ↦ 0 | false ↦ index_of r l + 1 ]) (suc (length l)))
    go true b h i = absurd (of_true (sym h))
    go false true h i = absurd (of_true (sym h))
    go false false h i = (refl, omega arith)

-- so r is sought behind them
index_past : (r : ℕ) (a b : List ℕ) → index_of r a ≡ length a → index_of r (a ++ b) ≡ length a + index_of r b
unfolding index_of
index_past r [] b e = omega arith
index_past r (x ∷ a) b e = go (eqb r x) e (λ e. index_past r a b e)
  where
    go : (t : Bool) → ◌≡◌ {A = ℕ} (elim t [ true ↦ 0 | false ↦ index_of r a + 1 ]) (suc (length a)) → (index_of r a ≡ length a → index_of r (a ++ b) ≡ length a + index_of r b)
        → ◌≡◌ {A = ℕ} (elim t [ true ↦ 0 | false ↦ index_of r (a ++ b) + 1 ]) (suc (length a) + index_of r b)
    go true e f = absurd (omega arith)
    go false e f = omega (arith, f (omega arith))

pub seek_next : (r : ℕ) (l : List ℕ) (k m : ℕ) → 8 * k + 8 ≤ length l → fold (λ seen x. seen || eqb r x) false (take (8 * k + 8 - 8 * k) (drop (8 * k) l)) ≡ false
    → 8 * k + index_of r (drop (8 * k) l) ≡ m → 8 * (k + 1) + index_of r (drop (8 * (k + 1)) l) ≡ m
seek_next r l k m h e i =
    let w : 8 * k + 8 - 8 * k ≡ 8 = omega arith in
    let n : index_of r (take 8 (drop (8 * k) l)) ≡ length (take 8 (drop (8 * k) l)) = (none_seen r (take 8 (drop (8 * k) l)) false (rw w at e)).1 in
    let z : length (take 8 (drop (8 * k) l)) ≡ 8 = length-take-le 8 (drop (8 * k) l) (omega (arith, length-drop (8 * k) l)) in
    let c : drop (8 * k) l ≡ take 8 (drop (8 * k) l) ++ drop 8 (drop (8 * k) l) = sym (take-append-drop 8 (drop (8 * k) l)) in
    let d : drop 8 (drop (8 * k) l) ≡ drop (8 * (k + 1)) l = let f : 8 * k + 8 ≡ 8 * (k + 1) = omega arith in drop-drop 8 (8 * k) l ∙ ap (λ (x : ℕ). drop x l) f in
    let s = ap (index_of r) c ∙ index_past r (take 8 (drop (8 * k) l)) (drop 8 (drop (8 * k) l)) n in
    omega (arith, s, z, ap (index_of r) d, i)

-- sought from element i on
pub rest_found : (r : ℕ) (l p : List ℕ) (i t : ℕ) {o : Option ℕ} → i ≤ length l → i + index_of r (drop i l) ≡ index_of r l → p ≡ drop i l → o ≡ position (eqb r) p → o ≡ Some t → Some (i + t) ≡ position (eqb r) l
rest_found r l p i t h e d f s =
    let q = index_found r p f t s in
    found_is r l (i + t) (omega (arith, q.0, ap length d, length-drop i l)) (omega (arith, q.1, ap (index_of r) d, e))

pub rest_missing : (r : ℕ) (l p : List ℕ) (i : ℕ) {o : Option ℕ} → i ≤ length l → i + index_of r (drop i l) ≡ index_of r l → p ≡ drop i l → o ≡ position (eqb r) p → o ≡ None → None ≡ position (eqb r) l
rest_missing r l p i h e d f s = missing_is r l (omega (arith, index_missing r p f s, ap (index_of r) d, e, ap length d, length-drop i l))
