use Rattle.noting.proofs.Follow.{following_start, following_next, following_end}
use Rattle.noting.proofs.write_list.Goals as goal

pub loop-i-init : goal.loop-i-init
loop-i-init g c = following_start _ _ _ _ _ _

pub loop-i-preserved : goal.loop-i-preserved
loop-i-preserved g c =
    following_next _ _ _ _ _ _ c.loop-i.i _ c.loop-i.out _ c.loop-i.invariant c.loop-i-test.true c.robot_after-x.ensures c.put_byte.ensures

pub returns : goal.returns
returns g c = following_end _ _ _ _ _ _ c.loop-i.i c.loop-i.out c.loop-i.invariant c.loop-i-test.false
