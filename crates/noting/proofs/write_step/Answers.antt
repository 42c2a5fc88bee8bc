use Rattle.noting.proofs.Follow.{step_short, step_long}
use Rattle.noting.proofs.write_step.Goals as goal

pub returns-then-filled : goal.returns-then-filled
returns-then-filled g c =
    step_long _ _ _ _ _ _ _ _ _ _ _ c.put_three.ensures c.put_byte.ensures _ c.if-filled.true _ c.write_list.ensures

pub returns : goal.returns
returns g c = step_short _ _ _ _ _ _ _ _ _ _ _ c.put_three.ensures c.put_byte.ensures _ c.if-filled.false
