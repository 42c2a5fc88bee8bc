use Rattle.std.proofs.Common.{arith}
use Rattle.numbering.specs.Kind.{number_of}
use Rattle.exits.specs.Leaving.{leaver_none, leaver_at}
use Rattle.exits.proofs.leaving.leave_index.Goals as goal

pub returns-in_err-t : goal.returns-in_err-t
returns-in_err-t c =
    let a = c.args in
    leaver_none (number_of a.at.kind) a.part.now a.at.count a.at.size a.r.0 a.at.place (omega (arith, c.requires, a.at.fits)) a.at.inside c.index_in.ensures c.in_err-t.was c.from_residual.ensures

pub returns : goal.returns
returns c =
    let a = c.args in
    leaver_at (number_of a.at.kind) a.part.now a.at.count a.at.size a.r.0 a.at.place (omega (arith, c.requires, a.at.fits)) a.at.inside _ c.index_in.ensures c.in_ok-t.was c.can_go.ensures c.then_some.ensures
