use Rattle.std.proofs.lemmas.Result.{err_from_is_err_and}
use Rattle.galzpuna.specs.Services.{served_as, draw_refused, starts_of, draw_delivered}
use Rattle.galzpuna.proofs.services.draw_filed.Goals as goal

pub returns-in_err-yard : goal.returns-in_err-yard
returns-in_err-yard c =
    let p = err_from_is_err_and c.from_residual.result c.from_residual.ensures.1 in
    rw (p.1, p.2) (draw_refused _ _ _ _ c.in_err-yard.ensures c.args.out.now)

pub returns : goal.returns
returns c =
    let l = c.in_ok-yard.ensures in
    let es = starts_of _ _ _ _ _ _ l _ c.standing-state.ensures in
    served_as _ _ _ _ (draw_delivered _ _ _ _ _ _ l _ _ _ _ es (c.draw_moves-drawn.ensures l.it.graph l.held l.accepted l.ends)) c.finish.ensures
