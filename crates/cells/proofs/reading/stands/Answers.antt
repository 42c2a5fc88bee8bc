use Rattle.std.proofs.Common.{◌∙◌, rules, tests}
use Rattle.cells.specs.Reading.{stands_not, stands_is}
use Rattle.cells.proofs.reading.stands.Goals as goal

pub returns-then-ne : goal.returns-then-ne
returns-then-ne g c = c.eq.ensures ∙ stands_is c.robot_at-x.result.0 c.args.r.0 _ c.robot_at-x.ensures (search (rules, tests))

pub returns-else-ne : goal.returns-else-ne
returns-else-ne g c = c.if-ne.false ∙ stands_not c.robot_at-x.result.0 c.args.r.0 _ c.robot_at-x.ensures (search (rules, tests))
