use Prim.Native.Nat.{◌-◌, ◌*◌, ◌<◌}
use mathlib.Core.Path.{◌≡◌}
use lib.ListN.{length}
use Rattle.std.specs.Option.{MatchOption}
use Rattle.spec.specs.Ring.{turn_for, ring_enter}
use Rattle.spec.specs.State.{arrangement_of, across}
use Rattle.motion.specs.World.{world, made_all}
use Rattle.turns.specs.Turns.{turn_at}
use Rattle.ring.proofs.enter.Given as goal

abbrev pub invariant-loop : goal.invariant-loop
invariant-loop g l =
    record {
      size : length l.state.robots ≡ g.row.N;
      left : made_all (world l.state l.count l.out) (across l.zone.vertices.now (turn_for (length l.zone.vertices.now * length l.zone.vertices.now - l.counter) (arrangement_of l.state l.zone.vertices.now) l.j l.behind)) ≡ made_all (world l.initial.state l.count-2 l.initial.out) (across l.zone.vertices.now (ring_enter (arrangement_of l.initial.state l.zone.vertices.now) l.j l.behind));
      next : MatchOption l.turn (turn_at (arrangement_of l.state l.zone.vertices.now) l.j l.behind ≡ length l.zone.vertices.now) (λ p. (p < length l.zone.vertices.now) × (p ≡ turn_at (arrangement_of l.state l.zone.vertices.now) l.j l.behind));
    }
