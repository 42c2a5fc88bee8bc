use Rattle.zoning.specs.Bytes.{bytes}
use Rattle.placing.specs.Placing.{Going}
use Rattle.placing.proofs.read_robots.Given as goal

abbrev pub invariant-loop-i : goal.invariant-loop-i
invariant-loop-i l = Going (bytes l.payload) l.n l.robots l.starts l.goals l.started l.ended l.i
