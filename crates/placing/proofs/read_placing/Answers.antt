use Rattle.std.proofs.lemmas.Result.{err_from_is_err_and}
use Rattle.placing.specs.Placing.{no_payload, a_payload}
use Rattle.placing.proofs.read_placing.Goals as goal

pub returns-in_err-len : goal.returns-in_err-len
returns-in_err-len c = λ p on.
    let r = err_from_is_err_and c.from_residual.result c.from_residual.ensures.1 in
    rw (r.1, r.2) (no_payload c.args.file.now p _ c.in_err-len.ensures.by_index)

pub returns : goal.returns
returns c = λ p on. a_payload c.args.file.now p _ _ c.in_ok-len.ensures.by_index c.in_ok-len.ensures.held (c.read_payload.ensures p on)
