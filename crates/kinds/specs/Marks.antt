-- Vertices marked in two words, and two tests of a row against them: it has none of the vertices, or each of them.
use Rattle.std.specs.Prelude.{ℕ, zero, suc, ◌+◌, ◌-◌, ◌*◌, ◌/◌, ◌%◌, ◌^◌, ◌≤◌, ◌<◌, min, max, ◌≡◌, refl, ◌⊎◌, Bool, not, ◌&&◌, List, [], ◌∷◌, get_or, eqb, ltb}
use Rattle.std.specs.List.{list_all}
use Rattle.std.proofs.Math.Path.{ap, sym}
use Rattle.std.proofs.Common.{ap₂, ◌∙◌, inl, inr, pow-suc, arith}
use Rattle.std.proofs.Math.Bool.{true, false}
use Rattle.std.specs.Int.Bits.{bit_and, bit_or, and_step, or_step, and_zero_r, or_zero_r}
use borrow.Author.Tests.{eq-eqb, ne_eqb, eqb-true, eqb-false, lt-ltb, le-ltb}
use Rattle.spec.specs.Outcome.{◌and◌}
use Rattle.adjacency.specs.Bit.{bit_of, bit_zero, bit_suc}
use Rattle.adjacency.specs.Rows.{bit_at, bit_out, bit_out_2, same_test, and_true, both, lt_or_ge}
use Rattle.kinds.specs.Tests.{inner_test}
use Rattle.kinds.specs.Words.{out_from, split, clear, low_bit, high_bit, inner_out, inner_first, inner_second}

-- the word of the vertices from 64 · at on, with vertex u marked where it is one of these
unfoldable pub mark_word : ℕ → ℕ → ℕ → ℕ
mark_word w at u = elim (eqb (u / 64) at) [ true ↦ bit_or w (2 ^ (u % 64)) | false ↦ w ]

-- the row's word a has no bit of w, or each
abbrev pub none_test : ℕ → ℕ → Bool
none_test a w = eqb (bit_and a w) 0

abbrev pub each_test : ℕ → ℕ → Bool
each_test a w = eqb (bit_and a w) w

-- a test of both words of row v
abbrev pub two_test : (ℕ → ℕ → Bool) → List (List ℕ) → ℕ → ℕ → ℕ → Bool
two_test t rows low high v = t (get_or (get_or rows v []) 0 0) low and t (get_or (get_or rows v []) 1 0) high

-- v is joined to none of the marked vertices; one that is not below 128 is joined to none
unfoldable pub apart_test : List (List ℕ) → ℕ → ℕ → ℕ → Bool
apart_test rows low high v = elim (ltb v 128) [ true ↦ two_test none_test rows low high v | false ↦ true ]

-- v is joined to each of the marked vertices
abbrev pub meet_test : List (List ℕ) → ℕ → ℕ → ℕ → Bool
meet_test rows low high v = two_test each_test rows low high v

-- ---- one bit more

or_first : (w : ℕ) → bit_or w (2 ^ 0) ≡ w / 2 * 2 + 1
or_first w = or_step w 1 ∙ omega (arith, or_zero_r (w / 2))

or_later : (w b : ℕ) → bit_or w (2 ^ suc b) ≡ bit_or (w / 2) (2 ^ b) * 2 + w % 2
or_later w b =
    let half : 2 ^ suc b / 2 ≡ 2 ^ b = omega (arith, pow-suc 2 b) in
    let even : 2 ^ suc b % 2 ≡ 0 = omega (arith, pow-suc 2 b) in
    let most : max (w % 2) 0 ≡ w % 2 = omega arith in
    or_step w (2 ^ suc b) ∙ ap₂ (λ (x y : ℕ). bit_or (w / 2) x * 2 + max (w % 2) y) half even ∙ ap (λ (x : ℕ). bit_or (w / 2) (2 ^ b) * 2 + x) most

and_first : (a w : ℕ) → bit_and a (bit_or w (2 ^ 0)) ≡ bit_and (a / 2) (w / 2) * 2 + min (a % 2) 1
and_first a w = ap (bit_and a) (or_first w) ∙ split a (w / 2) 1 (omega arith)

and_later : (a w b : ℕ) → bit_and a (bit_or w (2 ^ suc b)) ≡ bit_and (a / 2) (bit_or (w / 2) (2 ^ b)) * 2 + min (a % 2) (w % 2)
and_later a w b = ap (bit_and a) (or_later w b) ∙ split a (bit_or (w / 2) (2 ^ b)) (w % 2) (omega arith)

-- no bit in common with one bit more: none with the others, and not this one
none_both : (a w b : ℕ) → bit_and a (bit_or w (2 ^ b)) ≡ 0 → (bit_and a w ≡ 0) × (bit_of a b ≡ 0)
none_both a w zero e = let x = sym (and_first a w) ∙ e in (omega (arith, x, and_step a w), bit_zero a ∙ omega (arith, x))
none_both a w (suc b) e =
    let x = sym (and_later a w b) ∙ e in
    let q = none_both (a / 2) (w / 2) b (omega (arith, x)) in
    (omega (arith, x, and_step a w, q.0), bit_suc a b ∙ q.1)

none_mark : (a w b : ℕ) → bit_and a w ≡ 0 → bit_of a b ≡ 0 → bit_and a (bit_or w (2 ^ b)) ≡ 0
none_mark a w zero e z = and_first a w ∙ omega (arith, sym (and_step a w) ∙ e, sym (bit_zero a) ∙ z)
none_mark a w (suc b) e z =
    let y = sym (and_step a w) ∙ e in
    let q = none_mark (a / 2) (w / 2) b (omega (arith, y)) (sym (bit_suc a b) ∙ z) in
    and_later a w b ∙ omega (arith, y, q)

-- each bit with one bit more: each of the others, and this one
each_both : (a w b : ℕ) → bit_and a (bit_or w (2 ^ b)) ≡ bit_or w (2 ^ b) → (bit_and a w ≡ w) × (bit_of a b ≡ 1)
each_both a w zero e = let x = sym (and_first a w) ∙ e ∙ or_first w in (and_step a w ∙ omega (arith, x), bit_zero a ∙ omega (arith, x))
each_both a w (suc b) e =
    let x = sym (and_later a w b) ∙ e ∙ or_later w b in
    let q = each_both (a / 2) (w / 2) b (omega (arith, x)) in
    (and_step a w ∙ omega (arith, x, q.0), bit_suc a b ∙ q.1)

each_mark : (a w b : ℕ) → bit_and a w ≡ w → bit_of a b ≡ 1 → bit_and a (bit_or w (2 ^ b)) ≡ bit_or w (2 ^ b)
each_mark a w zero e z = and_first a w ∙ omega (arith, sym (and_step a w) ∙ e, sym (bit_zero a) ∙ z) ∙ sym (or_first w)
each_mark a w (suc b) e z =
    let y = sym (and_step a w) ∙ e in
    let q = each_mark (a / 2) (w / 2) b (omega (arith, y)) (sym (bit_suc a b) ∙ z) in
    and_later a w b ∙ omega (arith, y, q) ∙ sym (or_later w b)

none_more : (a w b : ℕ) → none_test a (bit_or w (2 ^ b)) ≡ (none_test a w and not (eqb (bit_of a b) 1))
none_more a w b = same_test (none_test a (bit_or w (2 ^ b))) (none_test a w and not (eqb (bit_of a b) 1))
    (λ e. let q = none_both a w b (eqb-true (bit_and a (bit_or w (2 ^ b))) 0 e) in
    both (eq-eqb (bit_and a w) 0 q.0) (ap not (ne_eqb (bit_of a b) 1 (λ (h : bit_of a b ≡ 1). omega (arith, q.1)))))
    (λ e. let q = and_true (none_test a w) (not (eqb (bit_of a b) 1)) e in
    eq-eqb (bit_and a (bit_or w (2 ^ b))) 0 (none_mark a w b (eqb-true (bit_and a w) 0 q.0) (clear (bit_of a b) (omega arith) q.1)))

each_more : (a w b : ℕ) → each_test a (bit_or w (2 ^ b)) ≡ (each_test a w and eqb (bit_of a b) 1)
each_more a w b = same_test (each_test a (bit_or w (2 ^ b))) (each_test a w and eqb (bit_of a b) 1)
    (λ e. let q = each_both a w b (eqb-true (bit_and a (bit_or w (2 ^ b))) (bit_or w (2 ^ b)) e) in both (eq-eqb (bit_and a w) w q.0) (eq-eqb (bit_of a b) 1 q.1))
    (λ e. let q = and_true (each_test a w) (eqb (bit_of a b) 1) e in
    eq-eqb (bit_and a (bit_or w (2 ^ b))) (bit_or w (2 ^ b)) (each_mark a w b (eqb-true (bit_and a w) w q.0) (eqb-true (bit_of a b) 1 q.1)))

-- ---- one vertex more

pub mark_in : (w at u : ℕ) → u / 64 ≡ at → mark_word w at u ≡ bit_or w (2 ^ (u % 64))
unfolding mark_word
mark_in w at u e = rw (mark_word, eq-eqb (u / 64) at e)

pub mark_out : (w at u : ℕ) → (u / 64 ≡ at → ⊥) → mark_word w at u ≡ w
unfolding mark_word
mark_out w at u h = rw (mark_word, ne_eqb (u / 64) at h)

and_low : (x y n : Bool) → ((x and n) and y) ≡ (n and (x and y))
unfolding ◌and◌
and_low true y true = refl
and_low true y false = refl
and_low false y true = refl
and_low false y false = refl

and_high : (x y n : Bool) → (x and (y and n)) ≡ (n and (x and y))
unfolding ◌and◌
and_high true true true = refl
and_high true true false = refl
and_high true false true = refl
and_high true false false = refl
and_high false y true = refl
and_high false y false = refl

module _ (t : ℕ → ℕ → Bool) (p : Bool → Bool) (more : (a w b : ℕ) → t a (bit_or w (2 ^ b)) ≡ (t a w and p (eqb (bit_of a b) 1))) (rows : List (List ℕ)) (low high v : ℕ) (inside : v < 128) where
  two_more : (u : ℕ) → u < 128 → two_test t rows (mark_word low 0 u) (mark_word high 1 u) v ≡ (p (bit_at rows v u) and two_test t rows low high v)
  two_more u l = go (lt_or_ge u 64)
    where
      go : (u < 64) ⊎ (64 ≤ u) → two_test t rows (mark_word low 0 u) (mark_word high 1 u) v ≡ (p (bit_at rows v u) and two_test t rows low high v)
      go (inl h) =
          let z : u % 64 ≡ u = omega arith in
          ap₂ (λ (x y : ℕ). two_test t rows x y v) (mark_in low 0 u (omega arith) ∙ ap (λ (i : ℕ). bit_or low (2 ^ i)) z) (mark_out high 1 u (λ (e : u / 64 ≡ 1). omega arith))
          ∙ ap (λ (b : Bool). b and t (get_or (get_or rows v []) 1 0) high) (more (get_or (get_or rows v []) 0 0) low u)
          ∙ and_low (t (get_or (get_or rows v []) 0 0) low) (t (get_or (get_or rows v []) 1 0) high) (p (eqb (bit_of (get_or (get_or rows v []) 0 0) u) 1))
          ∙ ap (λ (b : Bool). p b and two_test t rows low high v) (sym (low_bit rows v u inside h))
      go (inr h) =
          let z : u % 64 ≡ u - 64 = omega arith in
          let q : u ≡ 64 + (u - 64) = omega arith in
          ap₂ (λ (x y : ℕ). two_test t rows x y v) (mark_out low 0 u (λ (e : u / 64 ≡ 0). omega arith)) (mark_in high 1 u (omega arith) ∙ ap (λ (i : ℕ). bit_or high (2 ^ i)) z)
          ∙ ap (λ (b : Bool). t (get_or (get_or rows v []) 0 0) low and b) (more (get_or (get_or rows v []) 1 0) high (u - 64))
          ∙ and_high (t (get_or (get_or rows v []) 0 0) low) (t (get_or (get_or rows v []) 1 0) high) (p (eqb (bit_of (get_or (get_or rows v []) 1 0) (u - 64)) 1))
          ∙ ap (λ (b : Bool). p b and two_test t rows low high v) (sym (high_bit rows v (u - 64) inside (omega arith)) ∙ ap (bit_at rows v) (sym q))

-- joined to each of the marked vertices and of one more
pub meet_more : (rows : List (List ℕ)) (low high v u : ℕ) → v < 128 → u < 128 → meet_test rows (mark_word low 0 u) (mark_word high 1 u) v ≡ (bit_at rows v u and meet_test rows low high v)
meet_more rows low high v u h l = two_more each_test (λ b. b) each_more rows low high v h u l

-- joined to each of none
pub meet_none : (rows : List (List ℕ)) (v : ℕ) → meet_test rows 0 0 v ≡ true
meet_none rows v = both (eq-eqb _ 0 (and_zero_r (get_or (get_or rows v []) 0 0))) (eq-eqb _ 0 (and_zero_r (get_or (get_or rows v []) 1 0)))

-- the first word's bits are not all there; where they are, the second decides
module _ (rows : List (List ℕ)) (low high v : ℕ) where
  pub meet_first : (bit_and (get_or (get_or rows v []) 0 0) low ≡ low → ⊥) → false ≡ meet_test rows low high v
  unfolding ◌and◌
  meet_first d = sym (ap (λ (b : Bool). b and each_test (get_or (get_or rows v []) 1 0) high) (ne_eqb (bit_and (get_or (get_or rows v []) 0 0) low) low d))

  pub meet_second : bit_and (get_or (get_or rows v []) 0 0) low ≡ low → each_test (get_or (get_or rows v []) 1 0) high ≡ meet_test rows low high v
  unfolding ◌and◌
  meet_second e = sym (ap (λ (b : Bool). b and each_test (get_or (get_or rows v []) 1 0) high) (eq-eqb (bit_and (get_or (get_or rows v []) 0 0) low) low e))

  pub apart_out : 128 ≤ v → apart_test rows low high v ≡ true
  unfolding apart_test
  apart_out h = rw (apart_test, le-ltb v 128 h)

  pub apart_in : v < 128 → apart_test rows low high v ≡ two_test none_test rows low high v
  unfolding apart_test
  apart_in h = rw (apart_test, lt-ltb v 128 h)

  -- a bit in common with the first word; with none, the second decides
  pub apart_first : v < 128 → (bit_and (get_or (get_or rows v []) 0 0) low ≡ 0 → ⊥) → false ≡ apart_test rows low high v
  unfolding ◌and◌
  apart_first h d = sym (apart_in h ∙ ap (λ (b : Bool). b and none_test (get_or (get_or rows v []) 1 0) high) (ne_eqb (bit_and (get_or (get_or rows v []) 0 0) low) 0 d))

  pub apart_second : v < 128 → bit_and (get_or (get_or rows v []) 0 0) low ≡ 0 → none_test (get_or (get_or rows v []) 1 0) high ≡ apart_test rows low high v
  unfolding ◌and◌
  apart_second h e = sym (apart_in h ∙ ap (λ (b : Bool). b and none_test (get_or (get_or rows v []) 1 0) high) (eq-eqb (bit_and (get_or (get_or rows v []) 0 0) low) 0 e))

-- joined to none of the marked vertices and not to one more
pub apart_more : (rows : List (List ℕ)) (low high v u : ℕ) → apart_test rows (mark_word low 0 u) (mark_word high 1 u) v ≡ (not (bit_at rows v u) and apart_test rows low high v)
unfolding ◌and◌
apart_more rows low high v u = go (lt_or_ge v 128) (lt_or_ge u 128)
  where
    go : (v < 128) ⊎ (128 ≤ v) → (u < 128) ⊎ (128 ≤ u) → apart_test rows (mark_word low 0 u) (mark_word high 1 u) v ≡ (not (bit_at rows v u) and apart_test rows low high v)
    go (inl h) (inl l) =
        apart_in rows (mark_word low 0 u) (mark_word high 1 u) v h ∙ two_more none_test not none_more rows low high v h u l
        ∙ ap (λ (b : Bool). not (bit_at rows v u) and b) (sym (apart_in rows low high v h))
    go (inl h) (inr l) =
        ap₂ (λ (x y : ℕ). apart_test rows x y v) (mark_out low 0 u (λ (e : u / 64 ≡ 0). omega arith)) (mark_out high 1 u (λ (e : u / 64 ≡ 1). omega arith))
        ∙ ap (λ (b : Bool). not b and apart_test rows low high v) (bit_out_2 rows v u h l)
    go (inr h) l =
        apart_out rows (mark_word low 0 u) (mark_word high 1 u) v h ∙ sym (apart_out rows low high v h) ∙ ap (λ (b : Bool). not b and apart_test rows low high v) (bit_out rows v u h)

-- joined to none of none
pub apart_none : (rows : List (List ℕ)) (v : ℕ) → apart_test rows 0 0 v ≡ true
apart_none rows v = go (lt_or_ge v 128)
  where
    go : (v < 128) ⊎ (128 ≤ v) → apart_test rows 0 0 v ≡ true
    go (inl h) = apart_in rows 0 0 v h ∙ both (eq-eqb _ 0 (and_zero_r (get_or (get_or rows v []) 0 0))) (eq-eqb _ 0 (and_zero_r (get_or (get_or rows v []) 1 0)))
    go (inr h) = apart_out rows 0 0 v h

-- with the vertices outside a zone marked, the test is that no edge leads out of it
module _ (rows : List (List ℕ)) (zone : List ℕ) (z v : ℕ) where
  one_by_one : (b : Bool) → v < 128 → none_test (get_or (get_or rows v []) 0 0) (out_from zone z 0 64) ≡ b → two_test none_test rows (out_from zone z 0 64) (out_from zone z 64 64) v ≡ inner_test rows zone z v
  unfolding ◌and◌
  one_by_one true h e = ap (λ (b : Bool). b and none_test (get_or (get_or rows v []) 1 0) (out_from zone z 64 64)) e ∙ inner_second rows zone z v h (eqb-true _ _ e)
  one_by_one false h e = ap (λ (b : Bool). b and none_test (get_or (get_or rows v []) 1 0) (out_from zone z 64 64)) e ∙ inner_first rows zone z v h (eqb-false _ _ e)

  pub apart_zone : (low high : ℕ) → low ≡ out_from zone z 0 64 → high ≡ out_from zone z 64 64 → apart_test rows low high v ≡ inner_test rows zone z v
  apart_zone low high d e = ap₂ (λ (x y : ℕ). apart_test rows x y v) d e ∙ go (lt_or_ge v 128)
    where
      go : (v < 128) ⊎ (128 ≤ v) → apart_test rows (out_from zone z 0 64) (out_from zone z 64 64) v ≡ inner_test rows zone z v
      go (inl h) = apart_in rows (out_from zone z 0 64) (out_from zone z 64 64) v h ∙ one_by_one (none_test (get_or (get_or rows v []) 0 0) (out_from zone z 0 64)) h refl
      go (inr h) = apart_out rows (out_from zone z 0 64) (out_from zone z 64 64) v h ∙ inner_out rows zone z v h

-- and so for a list of vertices
pub apart_closed : (rows : List (List ℕ)) (zone : List ℕ) (z : ℕ) (vs : List ℕ) → list_all (apart_test rows (out_from zone z 0 64) (out_from zone z 64 64)) vs ≡ list_all (inner_test rows zone z) vs
apart_closed rows zone z [] = refl
apart_closed rows zone z (v ∷ vs) = ap₂ ◌&&◌ (apart_zone rows zone z v _ _ refl refl) (apart_closed rows zone z vs)
