use Rattle.std.proofs.Common.{le-ltb, ◌∙◌}
use Rattle.clique.specs.Entering.{named_is, named_past}
use Rattle.clique.proofs.entering.names_at.Goals as goal

pub returns-then-j-list : goal.returns-then-j-list
returns-then-j-list c = c.eq.ensures ∙ named_is c.args.list.now c.args.j c.args.r.0 c.if-j-list.true

pub returns-else-j-list : goal.returns-else-j-list
returns-else-j-list c = le-ltb _ _ c.if-j-list.false ∙ named_past c.args.list.now c.args.j c.args.r.0 c.if-j-list.false
