use mathlib.Core.Path.{sym, ◌∙◌}
use lib.Dec.{eqb→eq}
use borrow.Author.Rules.{rules}
use Rattle.std.proofs.Common.{tests}
use Rattle.theory.specs.Basics.Tests.{of_true}
use Rattle.crossing.proofs.sides.is_ready.Goals as goal

pub returns-then-taken : goal.returns-then-taken
returns-then-taken g c =
    λ q. absurd (of_true q)

pub returns : goal.returns
returns g c =
    λ q. (sym (search (rules, tests)) ∙ c.robot_on-there.ensures, sym c.behind_of-nearest.ensures ∙ eqb→eq _ _ (of_true q))
