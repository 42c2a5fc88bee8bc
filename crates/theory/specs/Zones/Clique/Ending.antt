-- Cliques: the test and moves of ending are right, and crossings keep configurations.
use Rattle.std.specs.Prelude.{Bool, true, false, length, T}
use Rattle.spec.specs.Outcome.{same_list}
use Rattle.spec.specs.Arrangement.{Arrangement, order, full}
use Rattle.spec.specs.Terms.{Reachable}
use Rattle.spec.specs.Clique.{same_robots, clique_can_end}
use Rattle.theory.specs.Basics.Tests.{Eqb, same, other, eqb?, eq→same}
use Rattle.theory.specs.Zones.Moves.{runs_full}
use Rattle.theory.specs.Zones.Robots.{robots_same, runs_robots}

-- a goal that can be reached may be taken
pub clique_ended : (a g : Arrangement) → Reachable 3 a g → T (clique_can_end a g)
unfolding clique_can_end full
clique_ended a g s = go (eqb? (length (order a)) (length a))
  where
    go : {q : Bool} → Eqb (length (order a)) (length a) q → T (elim q [ true ↦ same_list a g | false ↦ same_robots a g ])
    go (same f) = eq→same a g (runs_full s.1 f)
    go (other n) = robots_same a g (runs_robots s.1)
