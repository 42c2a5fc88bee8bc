use Rattle.std.proofs.Common.{ap, ◌∙◌, not, eqb, count_by, take_all}
use Rattle.spec.specs.State.{robot_on}
use Rattle.vacating.proofs.counting.count_robots.Goals as goal

pub returns : goal.returns
returns g c =
    let o = c.loop-v in
    o.invariant ∙ ap (count_by (λ v. not (eqb (robot_on c.args.state.now v) 255))) (take_all o.v-index c.args.zone.now c.loop-v-test.false)
