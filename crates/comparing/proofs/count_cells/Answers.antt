use Rattle.std.proofs.Common.{sym, ap, ◌∙◌, not, eqb, count_by, take_all}
use Rattle.comparing.specs.Comparing.{order_count}
use Rattle.comparing.proofs.count_cells.Goals as goal

pub returns : goal.returns
returns c =
    let l = c.args.cells.now in
    let o = c.loop-x in
    o.invariant ∙ ap (count_by (λ x. not (eqb x 0))) (take_all o.x-index l c.loop-x-test.false) ∙ sym (order_count l)
