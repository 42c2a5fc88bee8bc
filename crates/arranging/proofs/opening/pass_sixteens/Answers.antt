use Rattle.std.proofs.Common.{◌∙◌, arith, rules}
use Rattle.arranging.specs.Toward.{open_sixteen, part_length}
use Rattle.arranging.proofs.opening.pass_sixteens.Goals as goal

pub has_open-requires : goal.has_open-requires
has_open-requires c =
    let a = c.args in
    let o = c.loop-i in
    (part_length a.cells.now o.i (omega (arith, c.min-n.ensures)), part_length a.goal.now o.i (omega (arith, c.min-n.ensures)))

pub loop-i-preserved : goal.loop-i-preserved
loop-i-preserved c =
    let a = c.args in
    let o = c.loop-i in
    (omega arith, open_sixteen a.cells.now a.goal.now o.i c.min-n.result (omega arith) (omega (arith, c.min-n.ensures)) (omega (arith, c.min-n.ensures)) (c.has_open.ensures (search rules)) ∙ o.invariant.1)
