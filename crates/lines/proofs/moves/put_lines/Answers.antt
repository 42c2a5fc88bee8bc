use native.Mathlib.Omega.{arith}
use Rattle.lines.specs.Lines.{lined_start, lined_more, lined_end}
use Rattle.lines.proofs.moves.put_lines.Goals as goal

pub loop-i-init : goal.loop-i-init
loop-i-init c = lined_start _ _ _ _ _

pub put_line-next-requires : goal.put_line-next-requires
put_line-next-requires c = let l = c.loop-i.invariant.most in let w = c.loop-i.invariant.within in (omega arith, omega arith)

pub loop-i-preserved : goal.loop-i-preserved
loop-i-preserved c = lined_more _ _ _ _ _ _ _ _ c.loop-i.invariant c.loop-i-test.true _ _ c.put_line-next.ensures.put c.put_line-next.ensures.upper_bound

pub returns : goal.returns
returns c = let l = c.loop-i.invariant.most in let w = c.loop-i.invariant.within in record { put = lined_end _ _ _ _ _ _ _ _ c.loop-i.invariant c.loop-i-test.false; upper_bound = omega arith }
