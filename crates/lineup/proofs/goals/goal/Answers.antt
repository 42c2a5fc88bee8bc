use Rattle.std.proofs.Common.{arith}
use Rattle.lineup.specs.Goals.{goal_below, goal_on, goal_above}
use Rattle.lineup.proofs.goals.goal.Goals as goal

pub returns-then-i-t : goal.returns-then-i-t
returns-then-i-t c =
    let a = c.args in
    omega (arith, goal_below a.t a.u a.j.index a.i a.p c.if-i-t.true)

pub returns-then-i-u : goal.returns-then-i-u
returns-then-i-u c =
    let a = c.args in
    omega (arith, goal_on a.t a.u a.j.index a.i a.p c.if-i-t.false (omega arith))

pub returns : goal.returns
returns c =
    let a = c.args in
    omega (arith, goal_above a.t a.u a.j.index a.i a.p c.if-i-t.false (omega arith))
