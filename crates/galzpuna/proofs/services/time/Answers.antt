use Rattle.std.proofs.lemmas.Result.{err_from_is_err_and}
use Rattle.opening.specs.Opened.{file_refused, opened_yard}
use Rattle.galzpuna.specs.Services.{rounds_refused}
use Rattle.galzpuna.proofs.services.time.Goals as goal

pub returns-in_err-filed : goal.returns-in_err-filed
returns-in_err-filed c =
    let p = err_from_is_err_and c.from_residual.result c.from_residual.ensures.1 in
    rw (p.1, p.2) (rounds_refused _ _ _ _ (opened_yard c.args.map.now c.args.placing.now c.args.moves.now _ (file_refused _ _ _ c.in_err-filed.ensures)) c.args.out.now)
