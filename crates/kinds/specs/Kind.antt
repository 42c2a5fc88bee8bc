-- The kind test is the definition's, for every kind.
use Rattle.std.specs.Prelude.{ℕ, zero, suc, ◌≤◌, ◌<◌, ◌≡◌, refl, false, List}
use Rattle.std.proofs.Common.{ap₂, sym, ◌∙◌, arith}
use Rattle.std.proofs.Math.Decide.{dec_lt}
use borrow.Author.Tests.{ne_eqb, le-leb, lt-leb}
use Rattle.spec.specs.Outcome.{◌and◌}
use Rattle.spec.specs.Layout.{Map, of_kind}
use Rattle.adjacency.specs.Rows.{Shows}
use Rattle.kinds.specs.Tests.{test_of, stack_test, hall_shaped, clique_shaped, ring_shaped}
use Rattle.kinds.specs.Shape.{shape_is}
use Rattle.kinds.specs.Closed.{Stack, closed_is}

-- a number that is no kind is refused
pub kind_none : (rows : List (List ℕ)) (vs zone : List ℕ) (z kind : ℕ) → (kind ≡ 1 → ⊥) → (kind ≡ 2 → ⊥) → (kind ≡ 3 → ⊥) → (kind ≡ 4 → ⊥) → false ≡ test_of rows vs zone z kind
unfolding test_of ◌and◌
kind_none rows vs zone z kind a b c d = go (dec_lt kind 2)
  where
    go : Dec (kind < 2) → false ≡ test_of rows vs zone z kind
    go (yes h) = sym (rw (test_of, ne_eqb kind 1 a, lt-leb 2 kind h) refl)
    go (no n) = sym (rw (test_of, ne_eqb kind 1 a, le-leb 2 kind (omega arith), lt-leb kind 4 (omega (arith, b, c, d))) refl)

-- a kind is one of the four
pub data Four : ℕ → Type 0 where
  stack : Four 1
  hall : Four 2
  clique : Four 3
  ring : Four 4

pub four : (kind : ℕ) → 1 ≤ kind → kind ≤ 4 → Four kind
four zero a b = absurd (omega arith)
four (suc zero) a b = stack
four (suc (suc zero)) a b = hall
four (suc (suc (suc zero))) a b = clique
four (suc (suc (suc (suc zero)))) a b = ring
four (suc (suc (suc (suc (suc k))))) a b = absurd (omega arith)

-- the test of a zone's kind on the rows is the definition's
pub kind_is : (rows : List (List ℕ)) (m : Map) (vs zone : List ℕ) (z kind : ℕ) → 1 ≤ kind → kind ≤ 4 → Shows rows m.edges → Stack m vs zone z
    → test_of rows vs zone z kind ≡ of_kind m (record { kind = kind; vertices = vs })
unfolding of_kind test_of stack_test
kind_is rows m vs zone z kind a b s k = go (four kind a b)
  where
    go : {n : ℕ} → Four n → test_of rows vs zone z n ≡ of_kind m (record { kind = n; vertices = vs })
    go stack = ap₂ ◌and◌ (shape_is rows m vs 1 s) (closed_is rows m vs zone z 1 s k)
    go hall = sym (hall_shaped rows vs zone z) ∙ shape_is rows m vs 2 s
    go clique = sym (clique_shaped rows vs zone z) ∙ shape_is rows m vs 3 s
    go ring = sym (ring_shaped rows vs zone z) ∙ shape_is rows m vs 4 s
