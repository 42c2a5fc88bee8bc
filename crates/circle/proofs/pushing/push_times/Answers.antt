use native.Mathlib.Omega.{arith}
use Prim.Native.Nat.{◌+◌, ◌-◌}
use mathlib.Core.Path.{◌∙◌}
use lib.ListN.{length}
use Rattle.motion.specs.World.{world}
use Rattle.circle.specs.Places.{next_under}
use Rattle.circle.specs.Pushes.{push_robots, pushes_step, pushes_done}
use Rattle.circle.proofs.pushing.push_times.Goals as goal

pub loop-preserved : goal.loop-preserved
loop-preserved g c =
    let a = c.args in
    let o = c.loop in
    let z = a.zone.vertices.now in
    let w = world o.state o.count o.out in
    record {
      size = push_robots w _ z o.at c.push-count.ensures ∙ o.invariant.size;
      inside = omega (arith, next_under (length z) o.at o.invariant.inside, c.next-at.ensures);
      left =
          pushes_step w _ z o.at c.next-at.result (a.n - o.counter) (a.n - (o.counter + 1)) (rw o.invariant.size a.zone.listed) o.invariant.inside (omega arith) c.next-at.ensures c.push-count.ensures
          ∙ o.invariant.left;
    }

pub returns : goal.returns
returns g c =
    let a = c.args in
    let o = c.loop in
    pushes_done (world o.state o.count o.out) a.zone.vertices.now _ o.at (a.n - o.counter) (omega arith) ∙ o.invariant.left
