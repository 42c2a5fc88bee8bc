use Rattle.std.proofs.Common.{◌≡◌, take, arith}
use Rattle.std.proofs.lemmas.Result.{err_from_is_err_and}
use Rattle.placing.specs.Placing.{going_start, going_start_bad, going_goal_bad, going_more, going_end}
use Rattle.placing.proofs.read_robots.Goals as goal

pub loop-i-init : goal.loop-i-init
loop-i-init c = going_start _ _ _

pub returns-in_err-starts : goal.returns-in_err-starts
returns-in_err-starts c =
    let o = c.loop-i in
    let p = err_from_is_err_and c.from_residual.result c.from_residual.ensures.1 in
    rw (p.1, p.2) (going_start_bad _ _ _ _ _ _ _ _ o.invariant c.loop-i-test.true _ _ (c.in_err-starts.ensures (take o.i o.starts) o.invariant.started_are))

pub returns-in_err-goals : goal.returns-in_err-goals
returns-in_err-goals c =
    let o = c.loop-i in
    let p = err_from_is_err_and c.from_residual-in_err-goals.result c.from_residual-in_err-goals.ensures.1 in
    rw (p.1, p.2) (going_goal_bad _ _ _ _ _ _ _ _ o.invariant c.loop-i-test.true _ _ (c.in_ok-starts.ensures (take o.i o.starts) o.invariant.started_are) _ _ (c.in_err-goals.ensures (take o.i o.goals) o.invariant.ended_are))

pub loop-i-preserved : goal.loop-i-preserved
loop-i-preserved c =
    let o = c.loop-i in
    going_more _ _ _ _ _ _ _ _ o.invariant c.loop-i-test.true _ _ (c.in_ok-starts.ensures (take o.i o.starts) o.invariant.started_are) c.requires _ _ (c.in_ok-goals.ensures (take o.i o.goals) o.invariant.ended_are)

pub returns : goal.returns
returns c =
    let o = c.loop-i in
    let e : o.i ≡ c.args.robots = omega arith in
    going_end _ _ _ _ _ _ _ (rw e at o.invariant) c.requires
