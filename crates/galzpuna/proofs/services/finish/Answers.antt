use Rattle.std.proofs.lemmas.Result.{err_from_is_err_and}
use Rattle.galzpuna.specs.Services.{finish_refused}
use Rattle.galzpuna.proofs.services.finish.Goals as goal

pub returns-in_err-finish_file : goal.returns-in_err-finish_file
returns-in_err-finish_file c =
    let p = err_from_is_err_and c.from_residual.result c.from_residual.ensures.1 in
    rw (p.1, p.2, ← c.put_word.ensures) (finish_refused _ _ _ c.in_err-finish_file.ensures.answer)
