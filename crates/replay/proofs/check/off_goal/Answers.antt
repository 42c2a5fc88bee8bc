use borrow.Author.Rules.{rules}
use mathlib.Core.Path.{refl, sym, ◌∙◌}
use Rattle.replay.specs.Check.{goals_next, goals_off, goals_all}
use Rattle.replay.proofs.check.off_goal.Goals as goal

pub loop-i-init : goal.loop-i-init
loop-i-init c = refl

pub returns-then-off : goal.returns-then-off
returns-then-off c =
    goals_off _ c.args.goals.now _ _ (search rules) (search rules) (search rules) ∙ sym c.loop-i.invariant

pub loop-i-preserved : goal.loop-i-preserved
loop-i-preserved c =
    c.loop-i.invariant ∙ goals_next _ c.args.goals.now c.loop-i.i c.args.k (search rules) (search rules) (search rules)

pub returns : goal.returns
returns c = goals_all _ c.args.goals.now _ _ (search rules) (search rules) ∙ sym c.loop-i.invariant
