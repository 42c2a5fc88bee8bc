-- `deliver_kind`: the file, or zeros.
use borrow.Author.Rules.{rules}
use mathlib.Core.Path.{ap, ◌∙◌}
use Rattle.std.proofs.Common.{Err}
use Rattle.answers.specs.Delivered.{answered}
use Rattle.answers.proofs.deliver_kind.Goals as goal

pub returns-in-Err-clause-answer : goal.returns-in-Err-clause-answer
returns-in-Err-clause-answer c = ap (answered (Err c.in-Err.fault)) (search rules) ∙ c.in-Err.ensures.answer
