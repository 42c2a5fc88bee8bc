use Rattle.std.proofs.Common.{map}
use Rattle.motion.specs.States.{robot_no}
use Rattle.reaching.specs.Row.{Counted}
use Rattle.reaching.proofs.reach.count_robots.Given as goal

abbrev pub invariant-loop-r : goal.invariant-loop-r
invariant-loop-r g l =
    (goal.iterator-loop-r g).can_next l.r-iterator × (goal.iterator-loop-r g).is_finite l.r-iterator
    × Counted (map robot_no l.yielded) l.named.0 l.lower l.all
