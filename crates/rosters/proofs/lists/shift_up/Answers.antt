use Rattle.std.proofs.Common.{◌≡◌, ◌+◌, ◌-◌, arith}
use Rattle.rosters.specs.Lists.{part_none, part_more}
use Rattle.rosters.proofs.lists.shift_up.Goals as goal

pub loop-i-init : goal.loop-i-init
loop-i-init c = part_none _ _

pub loop-i-preserved : goal.loop-i-preserved
loop-i-preserved c =
    let o = c.loop-i in
    let e : o.i - 1 + 1 ≡ o.i = omega arith in
    rw e (part_more _ _ o.i _ (omega arith) (omega arith) (omega (arith, c.requires)) o.invariant)

pub returns : goal.returns
returns c =
    let o = c.loop-i in
    let e : o.i ≡ 0 = omega arith in
    rw (← e) o.invariant
