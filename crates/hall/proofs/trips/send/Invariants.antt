use Rattle.std.proofs.Common.{◌≡◌, ◌-◌}
use Rattle.spec.specs.State.{across}
use Rattle.spec.specs.Hall.{down, up}
use Rattle.motion.specs.World.{world, made_all}
use Rattle.hall.proofs.trips.send.Given as goal

abbrev pub invariant-loop-at : goal.invariant-loop-at
invariant-loop-at g l =
    made_all (world l.state l.made l.out) (across l.zone (down l.r.0 (l.at - l.to) l.to))
    ≡ made_all (world l.initial.state l.initial.made l.initial.out) (across l.zone (down l.r.0 (l.from - l.to) l.to))

abbrev pub invariant-loop-at-2 : goal.invariant-loop-at-2
invariant-loop-at-2 g l =
    made_all (world l.state l.made l.out) (across l.zone (up l.r.0 (l.to - l.at) l.at))
    ≡ made_all (world l.initial.state l.initial.made l.initial.out) (across l.zone (up l.r.0 (l.to - l.from) l.from))
