use Rattle.std.proofs.Common.{◌≡◌}
use Rattle.spec.specs.State.{across}
use Rattle.spec.specs.Hall.{lowering, raising}
use Rattle.motion.specs.World.{world, made_all}
use Rattle.hall.specs.Trips.{trips_from}
use Rattle.hall.proofs.trips.settle.Given as goal

abbrev pub invariant-loop-i : goal.invariant-loop-i
invariant-loop-i g l =
    made_all (world l.state l.made l.out) (across l.zone (lowering (trips_from l.line l.places l.goals l.i)))
    ≡ made_all (world l.initial.state l.initial.made l.initial.out) (across l.zone (lowering (trips_from l.line l.places l.goals 0)))

abbrev pub invariant-loop-i-2 : goal.invariant-loop-i-2
invariant-loop-i-2 g l =
    world l.state l.made l.out
    ≡ made_all (world l.initial.state l.initial.made l.initial.out) (across l.zone (raising (trips_from l.line l.places l.goals l.i)))
