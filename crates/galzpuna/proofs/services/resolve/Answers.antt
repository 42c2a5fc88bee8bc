use native.Mathlib.Omega.{arith}
use Rattle.std.proofs.lemmas.Result.{err_from_is_err_and}
use Rattle.galzpuna.specs.Services.{served_as}
use Rattle.galzpuna.specs.Plans.{resolve_refused, count_few, resolve_delivered}
use Rattle.galzpuna.proofs.services.resolve.Goals as goal

pub returns-in_err-count : goal.returns-in_err-count
returns-in_err-count c =
    let p = err_from_is_err_and c.from_residual.result c.from_residual.ensures.1 in
    rw (p.1, p.2) (resolve_refused _ _ _ _ _ _ c.in_err-count.ensures)

pub overflow_mul-count : goal.overflow_mul-count
overflow_mul-count c = record { fits = omega (arith, count_few _ _ _ _ _ _ c.in_ok-count.ensures.resolved) }

pub overflow_add-count : goal.overflow_add-count
overflow_add-count c = record { fits = omega (arith, count_few _ _ _ _ _ _ c.in_ok-count.ensures.resolved) }

pub returns : goal.returns
returns c = served_as _ _ _ _ (resolve_delivered _ _ _ _ _ _ c.in_ok-count.ensures.resolved) c.finish.ensures
