-- `fill_allowed`: a last block, a fill of 0, a full block.
use borrow.Author.Rules.{rules}
use borrow.Author.Tests.{lt-leb, le-leb}
use Rattle.spec.specs.Outcome.{◌and◌}
use Rattle.spec.specs.Wire.{filled}
use Rattle.checking.proofs.fill_allowed.Goals as goal

pub returns-then-some : goal.returns-then-some
unfolding filled ◌and◌
returns-then-some c = simp (filled, c.if-last.true, le-leb 1 c.args.n (search rules))

pub returns-else-some : goal.returns-else-some
unfolding filled ◌and◌
returns-else-some c = simp (filled, c.if-last.true, lt-leb 1 c.args.n (search rules))

pub returns-else-last : goal.returns-else-last
unfolding filled
returns-else-last c = simp (filled, c.if-last.false)
