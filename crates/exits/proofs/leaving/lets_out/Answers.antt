use Rattle.std.proofs.Common.{ap, ◌∙◌, ne_eqb}
use Rattle.std.proofs.Math.Bool.{not}
use Rattle.exits.specs.Leaving.{lets_any, lets_one}
use Rattle.exits.proofs.leaving.lets_out.Goals as goal

pub returns-then-n-size : goal.returns-then-n-size
returns-then-n-size c = let a = c.args in ap not (ne_eqb _ _ c.if-n-size.true) ∙ lets_any a.n a.size a.x.0 a.r.0 c.if-n-size.true

pub returns-else-n-size : goal.returns-else-n-size
returns-else-n-size c = let a = c.args in c.eq.ensures ∙ lets_one a.n a.size a.x.0 a.r.0 c.if-n-size.false
