-- Cliques: the rule of cliques leads to the goal, wherever the robots stand.
-- What it rests on stands in specs/Zones/Clique/Rule.antt.
use Rattle.std.specs.Prelude.{◌≡◌, ◌<◌, ◌*◌, length}
use Rattle.spec.specs.Arrangement.{Arrangement, order}
use Rattle.spec.specs.Terms.{Distinct, Reachable}
use Rattle.spec.specs.Clique.{clique_to}
use Rattle.theory.specs.Zones.Robots.{SameRobots}
use Rattle.theory.specs.Zones.Clique.Rule.{solved, ready}

-- ---- the rule ends in the goal

-- in a clique with an empty place the same robots are reachable, wherever they stand
pub clique_reach : (a g : Arrangement) → Distinct a → length a ≡ length g → length (order a) < length a → SameRobots a g → Reachable 3 a g
clique_reach a g d l f s = (clique_to (length a * 2) a g, solved a g (ready a g d l f s))
