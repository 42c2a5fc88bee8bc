use borrow.Author.Rules.{rules}
use Rattle.circle.specs.Places.{around_up, around_over}
use Rattle.circle.proofs.places.around.Goals as goal

pub returns-then-k-m : goal.returns-then-k-m
returns-then-k-m c = around_up c.args.m c.args.p c.args.k (search rules) c.if-k-m.true

pub returns : goal.returns
returns c = around_over c.args.m c.args.p c.args.k (search rules) (search rules)
