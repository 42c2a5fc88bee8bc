use native.Mathlib.Omega.{arith}
use mathlib.Core.Path.{sym, ◌∙◌}
use Rattle.std.proofs.lemmas.Result.{err_from_is_err_and}
use Rattle.checking.specs.Checked.{held_as}
use Rattle.refusals.specs.Refusals as told
use Rattle.refusals.specs.declared.Refusal.TheVariants.{ListFile}
use Rattle.opening.specs.Opened.{opened_yard, opened_file, opened_list, opened_all}
use Rattle.opening.proofs.open_list.Goals as goal

pub returns-in_err-yard : goal.returns-in_err-yard
returns-in_err-yard c =
    let p = err_from_is_err_and c.from_residual.result c.from_residual.ensures.1 in
    rw (p.1, p.2) (opened_yard c.args.map.now.file.now c.args.placed.now c.args.moves.now _ c.in_err-yard.ensures)

pub returns-in_err-len : goal.returns-in_err-len
returns-in_err-len c =
    let p = err_from_is_err_and c.from_residual-in_err-len.result c.from_residual-in_err-len.ensures.1 in
    let k = c.check_file in
    rw (p.1, p.2) (opened_file c.args.map.now.file.now c.args.placed.now c.args.moves.now _ _ _ c.in_ok-yard.ensures _ (told.file_refused c.args.moves.now 40 4 128 ListFile k.result (k.ensures.by_index 40) _ (told.list_file_refused c.args.moves.now) c.in_err-len.ensures.cases))

pub check_moves-requires : goal.check_moves-requires
check_moves-requires c = c.in_ok-yard.ensures.robots.few

pub returns-in_err-count : goal.returns-in_err-count
returns-in_err-count c =
    let p = err_from_is_err_and c.from_residual-in_err-count.result c.from_residual-in_err-count.ensures.1 in
    let k = c.check_file in
    let w = told.file_read c.args.moves.now 40 4 128 ListFile k.result (k.ensures.by_index 40) c.in_ok-len.len c.in_ok-len.ensures.cases in
    let d = c.in_ok-yard.ensures in
    rw (p.1, p.2)
    (opened_list c.args.map.now.file.now c.args.placed.now c.args.moves.now _ _ _ d (λ i. omega (arith, c.type_inv.moves i)) _ w.1 (held_as _ _ _ _ k.ensures.held w.0).most _
    (c.in_err-count.ensures d.it.graph d.it.placing (sym d.held.size ∙ sym c.vertices-vertices.ensures) (rw c.words.ensures d.shown) (sym d.robots.starts) (sym d.robots.goals)))

pub returns : goal.returns
returns c =
    let k = c.check_file in
    let w = told.file_read c.args.moves.now 40 4 128 ListFile k.result (k.ensures.by_index 40) c.in_ok-len.len c.in_ok-len.ensures.cases in
    let d = c.in_ok-yard.ensures in
    opened_all c.args.map.now.file.now c.args.placed.now c.args.moves.now _ _ _ d (λ i. omega (arith, c.type_inv.moves i)) _ w.1 (held_as _ _ _ _ k.ensures.held w.0).most _
    (c.in_ok-count.ensures d.it.graph d.it.placing (sym d.held.size ∙ sym c.vertices-vertices.ensures) (rw c.words.ensures d.shown) (sym d.robots.starts) (sym d.robots.goals))
