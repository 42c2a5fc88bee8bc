-- The shape test is the definition's.
use Prim.Native.Nat.{ℕ, ◌+◌, ◌≤◌, ◌<◌, min, max}
use Rattle.std.specs.Prelude.{◌≡◌, List, length, get_or, take, drop}
use Rattle.std.proofs.Math.Path.{ap}
use Rattle.std.proofs.Common.{ap₂, ◌∙◌, length-drop, get_or-take, get_or-drop, length-take-le, arith}
use Rattle.std.proofs.Math.Bool.{Bool}
use Rattle.std.proofs.Math.Nat.{min_comm, max_comm}
use Rattle.spec.specs.Outcome.{below}
use Rattle.spec.specs.Layout.{Map, has_edge, joined, linked, same_bool, shaped}
use Rattle.adjacency.specs.Rows.{Shows, shows_joined}
use Rattle.kinds.specs.Tests.{pair_test, row_test, shape_test, below_same}

-- the vertices of a zone in the listing
abbrev pub part : List ℕ → ℕ → ℕ → List ℕ
part listed first size = take size (drop first listed)

module _ (listed : List ℕ) (first size : ℕ) (inside : first + size ≤ length listed) where
  pub part_length : length (part listed first size) ≡ size
  part_length = length-take-le size (drop first listed) (simp length-drop (omega arith))

  pub part_at : (i : ℕ) → i < size → get_or (part listed first size) i 0 ≡ get_or listed (first + i) 0
  part_at i h = get_or-take size (drop first listed) i 0 h ∙ get_or-drop first listed i 0

-- the test on the rows is the definition's
pub shape_is : (rows : List (List ℕ)) (m : Map) (vs : List ℕ) (kind : ℕ) → Shows rows m.edges → shape_test rows vs kind ≡ shaped m (record { kind = kind; vertices = vs })
unfolding shaped joined
shape_is rows m vs kind s = below_same (row_test rows vs kind) (λ j. below (pair j) j) (length vs) (λ j q. below_same (pair_test rows vs kind j) (pair j) j (λ i r. one i j))
  where
    pair : ℕ → ℕ → Bool
    pair j i = same_bool (has_edge m.edges (min (get_or vs i 0) (get_or vs j 0)) (max (get_or vs i 0) (get_or vs j 0))) (linked kind (length vs) i j)

    one : (i j : ℕ) → pair_test rows vs kind j i ≡ pair j i
    one i j = ap (λ (b : Bool). same_bool b (linked kind (length vs) i j)) (shows_joined rows m.edges s (get_or vs j 0) (get_or vs i 0)
        ∙ ap₂ (has_edge m.edges) (min_comm (get_or vs j 0) (get_or vs i 0)) (max_comm (get_or vs j 0) (get_or vs i 0)))
