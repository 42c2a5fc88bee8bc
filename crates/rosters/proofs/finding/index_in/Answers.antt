use Rattle.std.proofs.Common.{◌∙◌}
use Rattle.rosters.specs.Lists.{rest_is}
use Rattle.rosters.specs.Finding.{rest_found, rest_missing}
use Rattle.rosters.proofs.finding.index_in.Goals as goal

pub returns-in_err-t : goal.returns-in_err-t
returns-in_err-t c =
    let l = c.args.list.now in
    let s = c.seek_from-from.ensures in
    c.from_residual.ensures ∙ rest_missing c.args.r l _ _ s.0 s.1 (rest_is _ l) c.first_in.ensures c.in_err-t.was

pub returns : goal.returns
returns c =
    let l = c.args.list.now in
    let s = c.seek_from-from.ensures in
    rest_found c.args.r l _ _ _ s.0 s.1 (rest_is _ l) c.first_in.ensures c.in_ok-t.was
