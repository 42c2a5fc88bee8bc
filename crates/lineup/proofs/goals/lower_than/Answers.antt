use Rattle.std.proofs.Common.{arith}
use Rattle.lineup.specs.Goals.{lower_none, lower_named}
use Rattle.theory.specs.Basics.Searches.{index_le}
use Rattle.lineup.proofs.goals.lower_than.Goals as goal

pub returns-then-behind-eq255 : goal.returns-then-behind-eq255
returns-then-behind-eq255 c =
    omega (arith, lower_none c.args.behind c.args.robots.now c.if-behind-eq255.true)

pub returns-then-i-robots : goal.returns-then-i-robots
returns-then-i-robots c =
    omega (arith, lower_named c.args.behind c.args.robots.now c.if-behind-eq255.false)

pub returns : goal.returns
returns c =
    omega (
      arith,
      lower_named c.args.behind c.args.robots.now c.if-behind-eq255.false,
      index_le c.args.behind c.args.robots.now,
    )
