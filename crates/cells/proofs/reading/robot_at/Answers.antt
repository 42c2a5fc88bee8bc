use Rattle.std.proofs.Common.{◌≡◌, ◌<◌, length, get_or, ap, ◌∙◌, rules}
use Rattle.spec.specs.State.{robot_on}
use Rattle.cells.specs.Reading.{robot_here, robot_past}
use Rattle.cells.proofs.reading.robot_at.Goals as goal

pub returns-in-Some : goal.returns-in-Some
returns-in-Some g c =
    let s = c.args.state.now in
    let z = c.args.zone.now in
    let h : c.args.j < length z = search rules in
    let e : c.in-Some.v.now ≡ get_or z c.args.j 0 = search rules in
    robot_here s z c.args.j c.robot_on.result.0 h (c.robot_on.ensures ∙ ap (robot_on s) e)

pub returns-in-None : goal.returns-in-None
returns-in-None g c = robot_past c.args.state.now c.args.zone.now c.args.j (search rules)
