use Rattle.std.proofs.Common.{◌≡◌, ◌≤◌, length, map, take}
use Rattle.motion.specs.States.{robot_no, vertex_no}
use Rattle.motion.specs.Tables.{fitted}
use Rattle.motion.proofs.State.of.Given as goal

abbrev pub invariant-loop-i : goal.invariant-loop-i
invariant-loop-i g l = (l.i ≤ length l.fn.robots) × (map robot_no l.on ≡ fitted g.row.N (take l.i l.fn.robots))

abbrev pub invariant-loop-i-2 : goal.invariant-loop-i-2
invariant-loop-i-2 g l = (l.i ≤ length l.fn.vertices) × (map vertex_no l.at ≡ fitted g.row.M (take l.i l.fn.vertices))
