use Rattle.motion.specs.World.{one_more_lem, no_more}
use borrow.Author.Rules.{rules}
use Rattle.motion.proofs.one_more.Goals as goal

pub returns-then-n-lt4611686018427387904 : goal.returns-then-n-lt4611686018427387904
returns-then-n-lt4611686018427387904 c = one_more_lem _ (search rules)

pub returns : goal.returns
returns c = no_more _ (search rules)
