use Prim.Native.Nat.{◌-◌, ◌<◌}
use mathlib.Core.Path.{◌≡◌}
use lib.ListN.{length}
use Rattle.spec.specs.Ring.{pushes}
use Rattle.spec.specs.State.{arrangement_of, across}
use Rattle.motion.specs.World.{world, made_all}
use Rattle.circle.proofs.pushing.push_times.Given as goal

abbrev pub invariant-loop : goal.invariant-loop
invariant-loop g l =
    record {
      size : length l.state.robots ≡ g.row.N;
      inside : l.at < length l.zone.vertices.now;
      left : made_all (world l.state l.count l.out) (across l.zone.vertices.now (pushes (l.n - l.counter) (arrangement_of l.state l.zone.vertices.now) l.at)) ≡ made_all (world l.initial.state l.count-2 l.initial.out) (across l.zone.vertices.now (pushes l.n (arrangement_of l.initial.state l.zone.vertices.now) l.p));
    }
