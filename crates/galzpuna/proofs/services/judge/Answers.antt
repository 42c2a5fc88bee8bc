use Rattle.std.proofs.lemmas.Result.{err_from_is_err_and}
use Rattle.galzpuna.specs.Plans.{judge_refused, judge_cleared}
use Rattle.galzpuna.proofs.services.judge.Goals as goal

pub returns-in_err-judge_files : goal.returns-in_err-judge_files
returns-in_err-judge_files c =
    let p = err_from_is_err_and c.from_residual.result c.from_residual.ensures.1 in
    rw (p.1, p.2) (judge_refused _ _ _ _ c.in_err-judge_files.ensures)

pub returns : goal.returns
returns c = let w = c.in_ok-judge_files.ensures in judge_cleared _ _ _ w.0 w.1
