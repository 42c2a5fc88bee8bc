use mathlib.Core.Path.{sym}
use lib.Seq.{set_out}
use Rattle.lines.proofs.fields.put.Goals as goal

pub returns-else-at-text : goal.returns-else-at-text
returns-else-at-text c = sym (set_out c.args.text.now c.args.at c.args.b c.if-at-text.false)
