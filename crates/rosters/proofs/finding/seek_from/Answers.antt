use Rattle.std.proofs.Common.{sym, ◌∙◌, arith}
use Rattle.rosters.specs.Finding.{seek_next}
use Rattle.rosters.proofs.finding.seek_from.Goals as goal

pub loop-k-preserved : goal.loop-k-preserved
loop-k-preserved c =
    let o = c.loop-k in
    seek_next c.args.r c.args.list.now o.k _ (omega (arith, c.loop-k-test.true)) (sym c.is_among.ensures ∙ c.if-is_among.false) o.invariant
