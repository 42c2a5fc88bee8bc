use Rattle.std.proofs.Common.{arith}
use Rattle.configurations.specs.Entering.{turn_past, turn_within}
use Rattle.configurations.proofs.entering.turn_count.Goals as goal

pub returns-then-t-j : goal.returns-then-t-j
returns-then-t-j c =
    let a = c.args in
    (turn_past a.n a.t a.j c.requires.1 c.if-t-j.true, omega (arith, c.if-t-j.true, c.requires))

pub returns : goal.returns
returns c =
    let a = c.args in
    (turn_within a.n a.t a.j c.requires.1 c.if-t-j.false, omega (arith, c.requires))
