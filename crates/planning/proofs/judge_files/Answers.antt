use Rattle.std.proofs.lemmas.Result.{err_from_is_err_and}
use Rattle.opening.specs.Opened.{file_refused}
use Rattle.planning.specs.Planned.{cleared_yard}
use Rattle.planning.proofs.judge_files.Goals as goal

pub returns-in_err-filed : goal.returns-in_err-filed
returns-in_err-filed c =
    let p = err_from_is_err_and c.from_residual.result c.from_residual.ensures.1 in
    rw (p.1, p.2) (cleared_yard c.args.map.now c.args.placed.now c.args.plan.now _ (file_refused _ _ _ c.in_err-filed.ensures))
