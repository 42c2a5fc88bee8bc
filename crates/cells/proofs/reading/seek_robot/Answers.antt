use Rattle.std.proofs.Common.{◌≡◌, ◌≢◌, rules, tests}
use Rattle.std.proofs.lemmas.Iterator.{IsFirst-from_position, YieldsList-from_slice}
use Rattle.spec.specs.State.{robot_on}
use Rattle.cells.specs.Reading.{robot_first}
use Rattle.cells.proofs.reading.seek_robot.Goals as goal

pub returns : goal.returns
returns g c =
    let s = c.args.state.now in
    let r = c.args.r.0 in
    let vs = c.args.zone.now in
    robot_first s r vs c.position.result
    (IsFirst-from_position _ _ _ (λ v. r ≡ robot_on s v) (λ v. r ≢ robot_on s v) c.position.ensures.ran (YieldsList-from_slice vs cc)
    (λ y q k. search (rules, tests)) (λ y q k. search (rules, tests)))
