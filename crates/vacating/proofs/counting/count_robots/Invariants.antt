use Rattle.std.proofs.Common.{◌≡◌, not, eqb, count_by, take}
use Rattle.spec.specs.State.{robot_on}
use Rattle.vacating.proofs.counting.count_robots.Given as goal

abbrev pub invariant-loop-v : goal.invariant-loop-v
invariant-loop-v g l = l.n ≡ count_by (λ v. not (eqb (robot_on l.state v) 255)) (take l.v-index l.zone)
