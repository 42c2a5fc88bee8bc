-- The kind tests as the code makes them, on the rows.
use Rattle.std.specs.Prelude.{ℕ, zero, suc, ◌-◌, ◌<◌, ◌≡◌, refl, Bool, true, false, not, List, length, get_or, drop, eqb, leb}
use Rattle.std.specs.List.{list_all}
use mathlib.Core.Bool.{beq}
use Rattle.std.proofs.Common.{ap, ap₂, sym, ◌∙◌, arith}
use Rattle.spec.specs.Outcome.{◌and◌, ◌or◌, below}
use Rattle.spec.specs.Layout.{linked, same_bool}
use Rattle.adjacency.specs.Rows.{bit_at}

-- places i and j of the vertices vs of a zone are joined as the kind has it
abbrev pub pair_test : List (List ℕ) → List ℕ → ℕ → ℕ → ℕ → Bool
pair_test rows vs kind j i = same_bool (bit_at rows (get_or vs j 0) (get_or vs i 0)) (linked kind (length vs) i j)

abbrev pub row_test : List (List ℕ) → List ℕ → ℕ → ℕ → Bool
row_test rows vs kind j = below (pair_test rows vs kind j) j

abbrev pub shape_test : List (List ℕ) → List ℕ → ℕ → Bool
shape_test rows vs kind = below (row_test rows vs kind) (length vs)

-- v is not joined to u, or u is in zone z
abbrev pub stays_test : List (List ℕ) → List ℕ → ℕ → ℕ → ℕ → Bool
stays_test rows zone z v u = eqb (get_or zone u 0) z or not (bit_at rows v u)

abbrev pub inner_test : List (List ℕ) → List ℕ → ℕ → ℕ → Bool
inner_test rows zone z v = below (stays_test rows zone z v) 128

-- no vertex but the first has an edge out of the zone
abbrev pub closed_test : List (List ℕ) → List ℕ → List ℕ → ℕ → Bool
closed_test rows vs zone z = list_all (inner_test rows zone z) (drop 1 vs)

unfoldable pub stack_test : List (List ℕ) → List ℕ → List ℕ → ℕ → Bool
stack_test rows vs zone z = shape_test rows vs 1 and closed_test rows vs zone z

-- the test of a kind; other numbers are refused
unfoldable pub test_of : List (List ℕ) → List ℕ → List ℕ → ℕ → ℕ → Bool
unfolding stack_test
test_of rows vs zone z kind = elim (eqb kind 1) [ true ↦ stack_test rows vs zone z | false ↦ elim (leb 2 kind and leb kind 4) [ true ↦ shape_test rows vs kind | false ↦ false ] ]

-- tests that agree below n
pub below_same : (f g : ℕ → Bool) (n : ℕ) → ((i : ℕ) → i < n → f i ≡ g i) → below f n ≡ below g n
unfolding below
below_same f g zero h = refl
below_same f g (suc n) h = ap₂ (λ (a b : Bool). elim a [ true ↦ b | false ↦ false ]) (h n (omega arith)) (below_same f g n (λ i l. h i (omega arith)))

-- a test that holds of each number below n
pub below_all : (f : ℕ → Bool) (n : ℕ) → ((i : ℕ) → i < n → f i ≡ true) → below f n ≡ true
unfolding below
below_all f zero h = refl
below_all f (suc n) h = rw (h n (omega arith), below) (below_all f n (λ i l. h i (omega arith)))

-- equal tests are the same, and the other way round
pub same_true : (x y : Bool) → x ≡ y → same_bool x y ≡ true
unfolding same_bool
same_true true y e = rw (← e)
same_true false y e = rw (← e)

pub same_false : (x y : Bool) → same_bool x y ≡ true → x ≡ y
unfolding same_bool
same_false true true e = refl
same_false true false e = sym e
same_false false true e = e
same_false false false e = refl

-- as the code compares two tests
pub differ : {x y a b : Bool} → x ≡ a → y ≡ b → not (beq x y) ≡ true → same_bool a b ≡ false
unfolding same_bool
differ {x} {y} d e h = rw (← d, ← e) (go x y h)
  where
    go : (x y : Bool) → not (beq x y) ≡ true → same_bool x y ≡ false
    go true true h = sym h
    go true false h = refl
    go false true h = refl
    go false false h = sym h

pub agree : {x y a b : Bool} → x ≡ a → y ≡ b → not (beq x y) ≡ false → same_bool a b ≡ true
unfolding same_bool
agree {x} {y} d e h = rw (← d, ← e) (go x y h)
  where
    go : (x y : Bool) → not (beq x y) ≡ false → same_bool x y ≡ true
    go true true h = refl
    go true false h = sym h
    go false true h = sym h
    go false false h = refl

-- a stack's edges are those of a line, as a hall's
stack_shape : (rows : List (List ℕ)) (vs : List ℕ) → shape_test rows vs 2 ≡ shape_test rows vs 1
unfolding linked
stack_shape rows vs = refl

-- the tests of the kinds: a stack is shaped, and closed
module _ (rows : List (List ℕ)) (vs zone : List ℕ) (z : ℕ) where
  pub stack_not : shape_test rows vs 2 ≡ false → false ≡ test_of rows vs zone z 1
  unfolding test_of stack_test ◌and◌
  stack_not e = sym (ap (λ (b : Bool). b and closed_test rows vs zone z) (sym (stack_shape rows vs) ∙ e))

  pub stack_shaped : shape_test rows vs 2 ≡ true → closed_test rows vs zone z ≡ test_of rows vs zone z 1
  unfolding test_of stack_test ◌and◌
  stack_shaped e = sym (ap (λ (b : Bool). b and closed_test rows vs zone z) (sym (stack_shape rows vs) ∙ e))

  pub hall_shaped : shape_test rows vs 2 ≡ test_of rows vs zone z 2
  unfolding test_of ◌and◌
  hall_shaped = refl

  pub clique_shaped : shape_test rows vs 3 ≡ test_of rows vs zone z 3
  unfolding test_of ◌and◌
  clique_shaped = refl

  pub ring_shaped : shape_test rows vs 4 ≡ test_of rows vs zone z 4
  unfolding test_of ◌and◌
  ring_shaped = refl
