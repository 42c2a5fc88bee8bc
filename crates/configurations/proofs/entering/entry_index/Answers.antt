use Rattle.std.proofs.Common.{arith}
use Rattle.rosters.specs.Finding.{index_found, index_missing}
use Rattle.configurations.specs.Entering.{entry_first, entry_after, entry_none}
use Rattle.configurations.proofs.entering.entry_index.Goals as goal

pub returns-then-behind-eq255 : goal.returns-then-behind-eq255
returns-then-behind-eq255 c = (omega arith, entry_first c.args.behind c.args.list.now c.if-behind-eq255.true)

pub returns-in_err-t : goal.returns-in_err-t
returns-in_err-t c =
    let a = c.args in
    rw c.from_residual.ensures (entry_none a.behind a.list.now c.if-behind-eq255.false (index_missing a.behind a.list.now c.index_in.ensures c.in_err-t.was))

pub returns : goal.returns
returns c =
    let a = c.args in
    let f = index_found a.behind a.list.now c.index_in.ensures _ c.in_ok-t.was in
    (omega (arith, f.0), entry_after a.behind _ a.list.now c.if-behind-eq255.false f.1)
