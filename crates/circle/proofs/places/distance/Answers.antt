use borrow.Author.Rules.{rules}
use Rattle.circle.specs.Places.{ahead_up, ahead_round}
use Rattle.circle.proofs.places.distance.Goals as goal

pub returns-then-p-j : goal.returns-then-p-j
returns-then-p-j c = ahead_up c.args.m c.args.p c.args.j (search rules) c.if-p-j.true

pub returns : goal.returns
returns c = ahead_round c.args.m c.args.p c.args.j (search rules) (search rules)
