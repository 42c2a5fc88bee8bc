use Rattle.std.proofs.lemmas.Result.{err_from_is_err_and}
use Rattle.galzpuna.specs.Services.{served_as, rounds_refused, rounds_delivered}
use Rattle.galzpuna.proofs.services.time_filed.Goals as goal

pub returns-in_err-count : goal.returns-in_err-count
returns-in_err-count c =
    let p = err_from_is_err_and c.from_residual.result c.from_residual.ensures.1 in
    rw (p.1, p.2) (rounds_refused _ _ _ _ c.in_err-count.ensures c.args.out.now)

pub returns : goal.returns
returns c = served_as _ _ _ _ (rounds_delivered _ _ _ _ _ _ c.in_ok-count.ensures _ _ c.write_rounds.ensures) c.finish.ensures
