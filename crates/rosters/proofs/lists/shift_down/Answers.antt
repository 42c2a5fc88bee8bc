use Rattle.std.proofs.Common.{◌≡◌, ◌-◌, length, arith}
use Rattle.rosters.specs.Lists.{shift_none, shift_more}
use Rattle.rosters.proofs.lists.shift_down.Goals as goal

pub loop-i-init : goal.loop-i-init
loop-i-init c = shift_none _ _

pub loop-i-preserved : goal.loop-i-preserved
loop-i-preserved c = shift_more _ _ _ _ (omega arith) (omega (arith, c.loop-i-test.true)) c.loop-i.invariant

pub returns : goal.returns
returns c =
    let o = c.loop-i in
    let e : o.i ≡ length c.args.part.now - 1 = omega arith in
    rw (← e) o.invariant
