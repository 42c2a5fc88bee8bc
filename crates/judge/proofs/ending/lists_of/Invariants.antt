use mathlib.Core.List.{List}
use mathlib.Core.Path.{◌≡◌}
use Prim.Native.Nat.{ℕ}
use lib.ListN.{length}
use Rattle.spec.specs.Layout.{Map}
use Rattle.spec.specs.Terms.{zone_count}
use Rattle.walking.specs.Given.{Given}
use Rattle.judge.specs.Filling.{Filled}
use Rattle.judge.proofs.ending.lists_of.Given as goal

abbrev pub invariant-loop-z : goal.invariant-loop-z
invariant-loop-z g l =
    (length l.lists.cells ≡ length l.map.listed) × (length l.lists.counts ≡ 64)
    × ((m : Map) (n k : ℕ) (kind zone place : List ℕ) (rows : List (List ℕ)) → Given m n k kind l.map.first l.map.size l.map.listed zone place rows → zone_count m ≡ l.map.zones → Filled m l.map.first l.lists.counts l.lists.cells l.state l.z)
