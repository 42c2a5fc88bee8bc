-- The kind test of a part of the listing, by its place there: as Tests has it of the part's own vertices.
use Rattle.std.specs.Prelude.{ℕ, ◌+◌, ◌-◌, ◌≤◌, ◌<◌, ◌≡◌, Bool, true, false, List, length, get_or, drop, eqb, leb}
use Rattle.std.proofs.Common.{ap, ap₂, sym, ◌∙◌, get_or-drop, length-drop, arith}
use Rattle.std.proofs.lemmas.List.{get_or_default}
use Rattle.std.proofs.lemmas.List.Sums.{AllPass-from_list_all, list_all-from_AllPass}
use borrow.Author.Tests.{ne_eqb, le-leb, lt-leb}
use Rattle.spec.specs.Outcome.{◌and◌, below}
use Rattle.spec.specs.Layout.{Map, linked, same_bool, of_kind}
use Rattle.theory.specs.Basics.Tests.{below_at, true_of, of_true}
use Rattle.adjacency.specs.Rows.{bit_at, Shows, same_test}
use Rattle.kinds.specs.Tests.{inner_test, below_same, below_all}
use Rattle.kinds.specs.Tests as own
use Rattle.kinds.specs.Shape.{part, part_length, part_at}
use Rattle.kinds.specs.Closed.{Stack}
use Rattle.kinds.specs.Kind.{Four, stack, hall, clique, ring, four}
use Rattle.kinds.specs.Kind as own_kind

-- places i and j are joined as the kind has it
abbrev pub pair_test : List (List ℕ) → List ℕ → ℕ → ℕ → ℕ → ℕ → ℕ → Bool
pair_test rows listed first kind size j i = same_bool (bit_at rows (get_or listed (first + j) 0) (get_or listed (first + i) 0)) (linked kind size i j)

abbrev pub row_test : List (List ℕ) → List ℕ → ℕ → ℕ → ℕ → ℕ → Bool
row_test rows listed first kind size j = below (pair_test rows listed first kind size j) j

abbrev pub shape_test : List (List ℕ) → List ℕ → ℕ → ℕ → ℕ → Bool
shape_test rows listed first kind size = below (row_test rows listed first kind size) size

-- the vertex at place k + 1 has no edge out of the zone
abbrev pub later_test : List (List ℕ) → List ℕ → List ℕ → ℕ → ℕ → ℕ → Bool
later_test rows listed zone z first k = inner_test rows zone z (get_or listed (first + (k + 1)) 0)

abbrev pub closed_test : List (List ℕ) → List ℕ → List ℕ → ℕ → ℕ → ℕ → Bool
closed_test rows listed zone z first size = below (later_test rows listed zone z first) (size - 1)

unfoldable pub stack_test : List (List ℕ) → List ℕ → List ℕ → ℕ → ℕ → ℕ → Bool
stack_test rows listed zone z first size = shape_test rows listed first 1 size and closed_test rows listed zone z first size

-- the test of a kind; other numbers are refused
unfoldable pub test_of : List (List ℕ) → List ℕ → List ℕ → ℕ → ℕ → ℕ → ℕ → Bool
unfolding stack_test
test_of rows listed zone z kind first size =
    elim (eqb kind 1) [
      | true ↦ stack_test rows listed zone z first size
      | false ↦ elim (eqb kind 2) [
        | true ↦ shape_test rows listed first 2 size
        | false ↦ elim (eqb kind 3) [
          | true ↦ shape_test rows listed first 3 size
          | false ↦ elim (eqb kind 4) [ true ↦ shape_test rows listed first 4 size | false ↦ false ]
        ]
      ]
    ]

-- of a zone that is inside the listing
unfoldable pub kind_test : List (List ℕ) → List ℕ → List ℕ → ℕ → ℕ → ℕ → ℕ → Bool
unfolding test_of
kind_test rows listed zone z kind first size = elim (leb (first + size) 128) [ true ↦ test_of rows listed zone z kind first size | false ↦ false ]

-- a zone that is not inside the listing is refused
pub kind_outside : (rows : List (List ℕ)) (listed zone : List ℕ) (z kind first size : ℕ) → 128 < first + size → false ≡ kind_test rows listed zone z kind first size
unfolding kind_test
kind_outside rows listed zone z kind first size h = rw (kind_test, lt-leb (first + size) 128 h)

module _ (rows : List (List ℕ)) (listed zone : List ℕ) (z kind first size : ℕ) (h : first + size ≤ 128) where
  inside : kind_test rows listed zone z kind first size ≡ test_of rows listed zone z kind first size
  unfolding kind_test
  inside = rw (kind_test, le-leb (first + size) 128 h)

  pub kind_stack : kind ≡ 1 → stack_test rows listed zone z first size ≡ kind_test rows listed zone z kind first size
  unfolding test_of
  kind_stack e = sym (inside ∙ ap (λ (k : ℕ). test_of rows listed zone z k first size) e)

  pub kind_hall : kind ≡ 2 → shape_test rows listed first 2 size ≡ kind_test rows listed zone z kind first size
  unfolding test_of
  kind_hall e = sym (inside ∙ ap (λ (k : ℕ). test_of rows listed zone z k first size) e)

  pub kind_clique : kind ≡ 3 → shape_test rows listed first 3 size ≡ kind_test rows listed zone z kind first size
  unfolding test_of
  kind_clique e = sym (inside ∙ ap (λ (k : ℕ). test_of rows listed zone z k first size) e)

  pub kind_ring : kind ≡ 4 → shape_test rows listed first 4 size ≡ kind_test rows listed zone z kind first size
  unfolding test_of
  kind_ring e = sym (inside ∙ ap (λ (k : ℕ). test_of rows listed zone z k first size) e)

  pub kind_none : (kind ≡ 1 → ⊥) → (kind ≡ 2 → ⊥) → (kind ≡ 3 → ⊥) → (kind ≡ 4 → ⊥) → false ≡ kind_test rows listed zone z kind first size
  unfolding test_of
  kind_none a b c d = sym (inside ∙ rw (test_of, ne_eqb kind 1 a, ne_eqb kind 2 b, ne_eqb kind 3 c, ne_eqb kind 4 d))

-- ---- the test of a part is that of its own vertices

module _ (rows : List (List ℕ)) (listed zone : List ℕ) (z first size : ℕ) (h : first + size ≤ length listed) where
  long : length (part listed first size) ≡ size
  long = part_length listed first size h

  at : (i : ℕ) → i < size → get_or (part listed first size) i 0 ≡ get_or listed (first + i) 0
  at = part_at listed first size h

  -- the shape
  pub part_shape : (kind : ℕ) → own.shape_test rows (part listed first size) kind ≡ shape_test rows listed first kind size
  part_shape kind =
      below_same (own.row_test rows (part listed first size) kind) (row_test rows listed first kind (length (part listed first size))) (length (part listed first size))
      (λ j q. below_same (own.pair_test rows (part listed first size) kind j) (pair_test rows listed first kind (length (part listed first size)) j) j
      (λ i r. ap₂ (λ (x y : ℕ). same_bool (bit_at rows x y) (linked kind (length (part listed first size)) i j)) (at j (omega (arith, long))) (at i (omega (arith, long)))))
      ∙ ap (shape_test rows listed first kind) long

  -- the vertices but the first
  later : (i : ℕ) → i + 1 < size → get_or (drop 1 (part listed first size)) i 0 ≡ get_or listed (first + (i + 1)) 0
  later i q = let e : 1 + i ≡ i + 1 = omega arith in get_or-drop 1 (part listed first size) i 0 ∙ ap (λ (x : ℕ). get_or (part listed first size) x 0) e ∙ at (i + 1) q

  pub part_closed : own.closed_test rows (part listed first size) zone z ≡ closed_test rows listed zone z first size
  part_closed =
      same_test (own.closed_test rows (part listed first size) zone z) (closed_test rows listed zone z first size)
      (λ t. below_all (later_test rows listed zone z first) (size - 1) (λ i l.
      ap (inner_test rows zone z) (sym (later i (omega arith)))
      ∙ AllPass-from_list_all (inner_test rows zone z) (drop 1 (part listed first size)) t i 0 (omega (arith, long, length-drop 1 (part listed first size)))))
      (λ t. list_all-from_AllPass (inner_test rows zone z) (drop 1 (part listed first size)) (λ i d l.
      ap (inner_test rows zone z) (get_or_default (drop 1 (part listed first size)) i d 0 l ∙ later i (omega (arith, long, length-drop 1 (part listed first size))))
      ∙ true_of (below_at (later_test rows listed zone z first) (size - 1) (of_true t) i (omega (arith, long, length-drop 1 (part listed first size))))))

  -- and so the test of each kind
  part_kind : {kind : ℕ} → Four kind → own.test_of rows (part listed first size) zone z kind ≡ test_of rows listed zone z kind first size
  unfolding test_of stack_test own.test_of own.stack_test
  part_kind stack = ap₂ ◌and◌ (part_shape 1) part_closed
  part_kind hall = sym (own.hall_shaped rows (part listed first size) zone z) ∙ part_shape 2
  part_kind clique = sym (own.clique_shaped rows (part listed first size) zone z) ∙ part_shape 3
  part_kind ring = sym (own.ring_shaped rows (part listed first size) zone z) ∙ part_shape 4

  pub part_is : (kind : ℕ) → 1 ≤ kind → kind ≤ 4 → first + size ≤ 128 → own.test_of rows (part listed first size) zone z kind ≡ kind_test rows listed zone z kind first size
  part_is kind a b q = part_kind (four kind a b) ∙ sym (inside rows listed zone z kind first size q)

-- the test of a zone's kind on the rows is the definition's
pub kind_is : (rows : List (List ℕ)) (m : Map) (listed zone : List ℕ) (z kind first size : ℕ) → 1 ≤ kind → kind ≤ 4 → first + size ≤ 128 → length listed ≡ 128
    → Shows rows m.edges → Stack m (part listed first size) zone z
    → kind_test rows listed zone z kind first size ≡ of_kind m (record { kind = kind; vertices = part listed first size })
kind_is rows m listed zone z kind first size a b h l s k =
    sym (part_is rows listed zone z first size (omega arith) kind a b h) ∙ own_kind.kind_is rows m (part listed first size) zone z kind a b s k
