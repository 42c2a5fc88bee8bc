-- The row of a place as the code tests it: in a clique joined to every place below; else to the place before and, as the kind has it, to the first, and to none between.
use Prim.Native.Nat.{ℕ, zero, suc, ◌+◌, ◌-◌, ◌≤◌, ◌<◌}
use Rattle.std.specs.Prelude.{◌≡◌, ◌⊎◌, Bool, List, length, get_or, eqb}
use Rattle.std.proofs.Math.Path.{refl, ap, sym}
use Rattle.std.proofs.Common.{ap₂, ◌∙◌, inl, inr, eqb-true, add-one}
use Rattle.std.proofs.Math.Bool.{true, false, not}
use Rattle.std.proofs.lemmas.Bool.{eqb-false}
use native.Mathlib.Omega.{arith}
use Rattle.spec.specs.Outcome.{◌and◌, below}
use Rattle.spec.specs.Layout.{linked, same_bool}
use Rattle.theory.specs.Basics.Tests.{below_at, true_of, of_true}
use Rattle.adjacency.specs.Rows.{bit_at, bit_out, bit_out_2, both, lt_or_ge}
use Rattle.kinds.specs.Tests.{pair_test, row_test, shape_test, below_same}
use Rattle.kinds.specs.Links.{links_any, links_next, links_line, links_inner}
use Rattle.kinds.specs.Marks.{apart_test, meet_test, mark_word, meet_more, meet_none, apart_more, apart_none}

-- ---- tests of every number below n

pub below_step : (f : ℕ → Bool) (n : ℕ) → below f (n + 1) ≡ (f n and below f n)
unfolding below ◌and◌
below_step f n = rw (add-one n) (go (f n))
  where
    go : (b : Bool) → ◌≡◌ {A = Bool} (elim b [ true ↦ below f n | false ↦ false ]) (b and below f n)
    go true = refl
    go false = refl

and_swap : (a b c : Bool) → (a and (b and c)) ≡ (b and (a and c))
unfolding ◌and◌
and_swap true true c = refl
and_swap true false c = refl
and_swap false true c = refl
and_swap false false c = refl

-- the first apart from the others
below_first : (f : ℕ → Bool) (n : ℕ) → below f (n + 1) ≡ (f 0 and below (λ i. f (i + 1)) n)
unfolding below
below_first f zero = below_step f 0
below_first f (suc n) =
    below_step f (suc n) ∙ ap (λ (b : Bool). f (suc n) and b) (ap (below f) (sym (add-one n)) ∙ below_first f n)
    ∙ and_swap (f (suc n)) (f 0) (below (λ i. f (i + 1)) n)
    ∙ ap (λ (k : ℕ). f 0 and (f k and below (λ i. f (i + 1)) n)) (sym (add-one n))
    ∙ ap (λ (b : Bool). f 0 and b) (sym (below_step (λ i. f (i + 1)) n) ∙ ap (below (λ i. f (i + 1))) (add-one n))

-- one that fails
pub below_fails : (f : ℕ → Bool) (n j : ℕ) → j < n → f j ≡ false → false ≡ below f n
below_fails f n j l e = go (below f n) refl
  where
    go : (b : Bool) → below f n ≡ b → false ≡ below f n
    go true t = sym e ∙ true_of (below_at f n (of_true t) j l) ∙ sym t
    go false t = sym t

-- ---- the row of place j

same_yes : (b : Bool) → same_bool b true ≡ b
unfolding same_bool
same_yes true = refl
same_yes false = refl

same_no : (b : Bool) → same_bool b false ≡ not b
unfolding same_bool
same_no true = refl
same_no false = refl

-- a place that is neither the one before nor the first is not joined
links_later : (kind size i j : ℕ) → (kind ≡ 3 → ⊥) → (j ≡ i + 1 → ⊥) → (i ≡ 0 → ⊥) → linked kind size i j ≡ false
links_later kind size i j h e g = go (eqb kind 4) refl
  where
    go : (b : Bool) → eqb kind 4 ≡ b → linked kind size i j ≡ false
    go true q = sym (links_inner kind size i j (eqb-true kind 4 q) e g)
    go false q = sym (links_line kind size i j h e (eqb-false kind 4 q))

-- no vertex is joined to one that is not below 128
bit_over : (rows : List (List ℕ)) (u v : ℕ) → 128 ≤ v → bit_at rows u v ≡ false
bit_over rows u v l = go (lt_or_ge u 128)
  where
    go : (u < 128) ⊎ (128 ≤ u) → bit_at rows u v ≡ false
    go (inl h) = sym (bit_out_2 rows u v h l)
    go (inr h) = sym (bit_out rows u v h)

module _ (rows : List (List ℕ)) (vs : List ℕ) where
  -- places j and i are joined
  abbrev pub joined_at : ℕ → ℕ → Bool
  joined_at j i = bit_at rows (get_or vs j 0) (get_or vs i 0)

  -- in a clique all places below are joined to it
  pub row_clique : (j : ℕ) → row_test rows vs 3 j ≡ below (λ i. joined_at j i) j
  row_clique j = below_same (pair_test rows vs 3 j) (λ i. joined_at j i) j (λ i l. ap (same_bool (joined_at j i)) (sym (links_any 3 (length vs) i j refl)) ∙ same_yes (joined_at j i))

  module _ (kind : ℕ) (line : kind ≡ 3 → ⊥) where
    before : (j : ℕ) → pair_test rows vs kind (j + 1) j ≡ joined_at (j + 1) j
    before j = ap (same_bool (joined_at (j + 1) j)) (sym (links_next kind (length vs) j (j + 1) line refl)) ∙ same_yes (joined_at (j + 1) j)

    between : (j i : ℕ) → i < j → pair_test rows vs kind (j + 2) (i + 1) ≡ not (joined_at (j + 2) (i + 1))
    between j i l = ap (same_bool (joined_at (j + 2) (i + 1))) (links_later kind (length vs) (i + 1) (j + 2) line (λ (e : j + 2 ≡ i + 1 + 1). omega arith) (λ (e : i + 1 ≡ 0). omega arith)) ∙ same_no (joined_at (j + 2) (i + 1))

    -- what the code asks of place j: the place before, the first, and those between
    abbrev pub line_test : ℕ → Bool
    line_test j = joined_at j (j - 1) and (same_bool (joined_at j 0) (linked kind (length vs) 0 j) and below (λ i. not (joined_at j (i + 1))) (j - 2))

    -- place 1, and place j + 2
    row_one : row_test rows vs kind 1 ≡ line_test 1
    unfolding below ◌and◌
    row_one = below_step (pair_test rows vs kind 1) 0 ∙ one (pair_test rows vs kind 1 0) (joined_at 1 0) (before 0)
      where
        one : (a b : Bool) → a ≡ b → (a and true) ≡ (b and (a and true))
        one true b e = rw (← e)
        one false b e = rw (← e)

    row_more : (j : ℕ) → row_test rows vs kind (j + 2) ≡ line_test (j + 2)
    row_more j =
        let a : j + 2 ≡ j + 1 + 1 = omega arith in
        let b : j + 2 - 1 ≡ j + 1 = omega arith in
        let c : j + 2 - 2 ≡ j = omega arith in
        ap (below (pair_test rows vs kind (j + 2))) a
        ∙ below_step (pair_test rows vs kind (j + 2)) (j + 1)
        ∙ ap₂ ◌and◌ (ap (λ (k : ℕ). pair_test rows vs kind k (j + 1)) a ∙ before (j + 1) ∙ ap₂ joined_at (sym a) (sym b))
        (below_first (pair_test rows vs kind (j + 2)) j
        ∙ ap (λ (x : Bool). pair_test rows vs kind (j + 2) 0 and x)
        (below_same (λ i. pair_test rows vs kind (j + 2) (i + 1)) (λ i. not (joined_at (j + 2) (i + 1))) j (λ i l. between j i l)
        ∙ ap (below (λ i. not (joined_at (j + 2) (i + 1)))) (sym c)))

    pub row_line : (j : ℕ) → 0 < j → row_test rows vs kind j ≡ line_test j
    row_line zero h = absurd (omega arith)
    row_line (suc zero) h = row_one
    row_line (suc (suc j)) h = let a : suc (suc j) ≡ j + 2 = omega arith in ap (row_test rows vs kind) a ∙ row_more j ∙ ap line_test (sym a)

    -- the ways out of the test: not joined to the place before, not as the kind has it to the first, and what those between say
    module _ (j : ℕ) (pos : 0 < j) where
      pub line_before : joined_at j (j - 1) ≡ false → false ≡ row_test rows vs kind j
      unfolding ◌and◌
      line_before e = sym (row_line j pos ∙ ap (λ (b : Bool). b and (same_bool (joined_at j 0) (linked kind (length vs) 0 j) and below (λ i. not (joined_at j (i + 1))) (j - 2))) e)

      module _ (before : joined_at j (j - 1) ≡ true) where
        rest : row_test rows vs kind j ≡ (same_bool (joined_at j 0) (linked kind (length vs) 0 j) and below (λ i. not (joined_at j (i + 1))) (j - 2))
        unfolding ◌and◌
        rest = row_line j pos ∙ ap (λ (b : Bool). b and (same_bool (joined_at j 0) (linked kind (length vs) 0 j) and below (λ i. not (joined_at j (i + 1))) (j - 2))) before

        pub line_first : same_bool (joined_at j 0) (linked kind (length vs) 0 j) ≡ false → false ≡ row_test rows vs kind j
        unfolding ◌and◌
        line_first e = sym (rest ∙ ap (λ (b : Bool). b and below (λ i. not (joined_at j (i + 1))) (j - 2)) e)

        pub line_between : same_bool (joined_at j 0) (linked kind (length vs) 0 j) ≡ true → below (λ i. not (joined_at j (i + 1))) (j - 2) ≡ row_test rows vs kind j
        unfolding ◌and◌
        line_between e = sym (rest ∙ ap (λ (b : Bool). b and below (λ i. not (joined_at j (i + 1))) (j - 2)) e)

  -- the first row asks nothing
  row_zero : (kind : ℕ) → row_test rows vs kind 0 ≡ true
  unfolding below
  row_zero kind = refl

  pub rows_one : (kind : ℕ) → below (row_test rows vs kind) 1 ≡ true
  unfolding below
  rows_one kind = below_step (row_test rows vs kind) 0 ∙ both (row_zero kind) refl

  -- one row more
  pub rows_more : (kind j : ℕ) → below (row_test rows vs kind) j ≡ true → row_test rows vs kind j ≡ true → below (row_test rows vs kind) (j + 1) ≡ true
  rows_more kind j e w = below_step (row_test rows vs kind) j ∙ both w e

  -- fewer than two places
  pub rows_few : (kind n : ℕ) → n < 2 → true ≡ below (row_test rows vs kind) n
  unfolding below
  rows_few kind zero h = refl
  rows_few kind (suc zero) h = sym (rows_one kind)
  rows_few kind (suc (suc n)) h = absurd (omega arith)

  pub rows_all : (kind n : ℕ) → (2 ≤ n → below (row_test rows vs kind) n ≡ true) → true ≡ below (row_test rows vs kind) n
  rows_all kind n h = go (lt_or_ge n 2)
    where
      go : (n < 2) ⊎ (2 ≤ n) → true ≡ below (row_test rows vs kind) n
      go (inl l) = rows_few kind n l
      go (inr l) = sym (h l)

  -- a clique with a vertex that is not below 128 is of its kind where there is no other
  pub clique_over : (j : ℕ) → j < length vs → 128 ≤ get_or vs j 0 → eqb (length vs) 1 ≡ shape_test rows vs 3
  clique_over j l h = go (eqb (length vs) 1) refl (lt_or_ge 0 j)
    where
      go : (b : Bool) → eqb (length vs) 1 ≡ b → (0 < j) ⊎ (j ≤ 0) → eqb (length vs) 1 ≡ shape_test rows vs 3
      go true e w = let z = eqb-true (length vs) 1 e in e ∙ rows_few 3 (length vs) (omega arith)
      go false e (inl p) = e ∙ below_fails (row_test rows vs 3) (length vs) j l
          (row_clique j ∙ sym (below_fails (λ i. joined_at j i) j 0 p (sym (bit_out rows (get_or vs j 0) (get_or vs 0 0) h))))
      go false e (inr p) =
          let d = eqb-false (length vs) 1 e in
          let z : j ≡ 0 = omega arith in
          e ∙ below_fails (row_test rows vs 3) (length vs) 1 (omega arith)
          (row_clique 1 ∙ sym (below_fails (λ i. joined_at 1 i) 1 0 (omega arith) (bit_over rows (get_or vs 1 0) (get_or vs 0 0) (rw z at h))))

  -- ---- the marked places

  -- a vertex is joined to each marked vertex: to each of the places below j
  abbrev pub Below : ℕ → ℕ → ℕ → Type 0
  Below low high j = (v : ℕ) → v < 128 → meet_test rows low high v ≡ below (λ i. bit_at rows v (get_or vs i 0)) j

  -- a vertex is joined to no marked vertex: to none of the places from 1 on below j - 1
  abbrev pub Between : ℕ → ℕ → ℕ → Type 0
  Between low high j = (v : ℕ) → apart_test rows low high v ≡ below (λ i. not (bit_at rows v (get_or vs (i + 1) 0))) (j - 2)

  pub below_start : (low high : ℕ) → low ≡ 0 → high ≡ 0 → Below low high 0
  unfolding below
  below_start low high d e v l = rw (d, e) (meet_none rows v)

  pub below_next : (low high low' high' j : ℕ) → low' ≡ mark_word low 0 (get_or vs j 0) → high' ≡ mark_word high 1 (get_or vs j 0) → get_or vs j 0 < 128 → Below low high j → Below low' high' (j + 1)
  below_next low high low' high' j d e l h v s =
      ap₂ (λ (x y : ℕ). meet_test rows x y v) d e ∙ meet_more rows low high v (get_or vs j 0) s l ∙ ap (λ (b : Bool). bit_at rows v (get_or vs j 0) and b) (h v s) ∙ sym (below_step (λ i. bit_at rows v (get_or vs i 0)) j)

  pub between_start : (low high j : ℕ) → low ≡ 0 → high ≡ 0 → j ≤ 2 → Between low high j
  unfolding below
  between_start low high j d e l v =
      let z : 0 ≡ j - 2 = omega arith in
      ap₂ (λ (x y : ℕ). apart_test rows x y v) d e ∙ apart_none rows v ∙ ap (below (λ i. not (bit_at rows v (get_or vs (i + 1) 0)))) z

  -- place 0 is not between
  pub between_one : (low high low' high' j : ℕ) → low' ≡ low → high' ≡ high → j ≤ 1 → Between low high j → Between low' high' (j + 1)
  between_one low high low' high' j d e l h v =
      let z : j - 2 ≡ j + 1 - 2 = omega arith in
      ap₂ (λ (x y : ℕ). apart_test rows x y v) d e ∙ h v ∙ ap (below (λ i. not (bit_at rows v (get_or vs (i + 1) 0)))) z

  pub between_next : (low high low' high' j : ℕ) → low' ≡ mark_word low 0 (get_or vs (j - 1) 0) → high' ≡ mark_word high 1 (get_or vs (j - 1) 0) → 1 < j → Between low high j → Between low' high' (j + 1)
  between_next low high low' high' j d e l h v =
      let a : j - 1 ≡ j - 2 + 1 = omega arith in
      let b : j - 2 + 1 ≡ j + 1 - 2 = omega arith in
      ap₂ (λ (x y : ℕ). apart_test rows x y v) d e ∙ apart_more rows low high v (get_or vs (j - 1) 0)
      ∙ ap₂ ◌and◌ (ap (λ (k : ℕ). not (bit_at rows v (get_or vs k 0))) a) (h v)
      ∙ sym (below_step (λ i. not (bit_at rows v (get_or vs (i + 1) 0))) (j - 2))
      ∙ ap (below (λ i. not (bit_at rows v (get_or vs (i + 1) 0)))) b
