use native.Mathlib.Omega.{arith}
use borrow.Author.Rules.{rules}
use Rattle.lines.specs.Text.{put_none, front_more, front_all}
use Rattle.lines.proofs.fields.put_word.Goals as goal

pub loop-i-init : goal.loop-i-init
loop-i-init c = put_none c.args.text.now 0

pub loop-i-preserved : goal.loop-i-preserved
loop-i-preserved c = front_more _ _ _ c.args.word.now c.loop-i.i (search rules) c.loop-i.invariant c.put.ensures

pub returns : goal.returns
returns c = front_all _ _ _ _ c.loop-i-test.false (omega arith) c.loop-i.invariant
