use Rattle.std.proofs.Common.{◌∙◌, sym}
use Rattle.std.proofs.lemmas.Result.{err_from_is_err_and}
use Rattle.opening.specs.Filed.{value_is}
use Rattle.opening.specs.Opened.{map_refused, placing_refused, yard_read}
use Rattle.opening.proofs.read_yard.Goals as goal

pub returns-in_err-tables : goal.returns-in_err-tables
returns-in_err-tables c =
    let p = err_from_is_err_and c.from_residual.result c.from_residual.ensures.1 in
    let w = c.args.map.now in
    let read = value_is _ _ w.passed in
    rw (p.1, p.2) (map_refused c.args.map.now.file.now c.args.placed.now _ read w.inside _ _ w.bytes c.in_err-tables.ensures)

pub returns-in_err-placing : goal.returns-in_err-placing
returns-in_err-placing c =
    let p = err_from_is_err_and c.from_residual-in_err-placing.result c.from_residual-in_err-placing.ensures.1 in
    let w = c.args.map.now in
    let read = value_is _ _ w.passed in
    rw (p.1, p.2) (placing_refused c.args.map.now.file.now c.args.placed.now _ read w.inside _ _ c.in_ok-tables.ensures _ (λ x e. c.in_err-placing.ensures x (e ∙ sym c.vertices.ensures)))

pub returns : goal.returns
returns c =
    let w = c.args.map.now in
    let read = value_is _ _ w.passed in
    yard_read c.args.map.now.file.now c.args.placed.now _ read w.inside _ _ c.in_ok-tables.ensures _ (λ x e. c.in_ok-placing.ensures x (e ∙ sym c.vertices.ensures))
