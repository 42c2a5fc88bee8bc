use Rattle.std.proofs.Common.{arith}
use Rattle.rosters.specs.Lists.{part_mid, put_there}
use Rattle.rosters.proofs.lists.insert.Goals as goal

pub returns : goal.returns
returns c =
    let a = c.args in
    put_there a.part.now _ _ a.t a.r (omega (arith, c.requires)) (omega (arith, c.requires)) (part_mid a.part.now _ a.t c.requires c.shift_up.ensures)
