use Rattle.walking.specs.Endings.{Ending}
use Rattle.walking.specs.Given.{Given}
use Rattle.theory.specs.Maps.Consistent.{Consistent}
use Rattle.spec.specs.Terms.{zone_count}
use Rattle.spec.specs.Run.{goals_from}
use Rattle.spec.specs.Layout.{Map}
use Rattle.spec.specs.Outcome.{ok}
use Rattle.motion.specs.World.{world}
use Prim.Native.Nat.{ℕ}
use mathlib.Core.List.{List}
use mathlib.Core.Path.{◌≡◌}
use Rattle.bringing.proofs.ending.end_zones.Given as goal

abbrev pub invariant-loop-z : goal.invariant-loop-z
invariant-loop-z g l =
    (m : Map) (n k : ℕ) (zone place : List ℕ) (rows : List (List ℕ)) → Given m n k l.map.kind l.map.first l.map.size l.map.listed zone place rows → zone_count m ≡ l.map.zones → Consistent m k l.initial.state
    → goals_from 0 m.zones l.initial.state l.goals ≡ ok tt → Ending m k l.initial.state l.goals (world l.initial.state l.initial.made l.initial.out) l.z (world l.state l.made l.out)
