use Rattle.motion.specs.States.{Standing}
use Rattle.motion.proofs.State+128+64.standing.Given as goal

abbrev pub invariant-loop-i : goal.invariant-loop-i
invariant-loop-i l = Standing l.starts l.i-end l.i (record { robots = l.robots; vertices = l.vertices })
