use Rattle.std.proofs.Common.{sym, ◌∙◌, arith}
use Rattle.arranging.specs.Toward.{open_here, open_further, open_end}
use Rattle.arranging.proofs.opening.open_target.Goals as goal

pub returns-then-n-from : goal.returns-then-n-from
returns-then-n-from c = omega (arith, c.min-n.ensures, open_end c.args.cells.now c.args.goal.now c.args.from (omega (arith, c.min-n.ensures)))

pub returns-then-is_open : goal.returns-then-is_open
returns-then-is_open c = (
  omega (arith, c.min-n.ensures),
  open_here c.args.cells.now c.args.goal.now c.args.from (omega (arith, c.min-n.ensures)) (sym c.is_open.ensures ∙ c.if-is_open.true),
)

pub returns-then-is_open-2 : goal.returns-then-is_open-2
returns-then-is_open-2 c =
    let o = c.loop-i in (
      omega (arith, c.min-n.ensures),
      open_here c.args.cells.now c.args.goal.now o.i (omega (arith, c.min-n.ensures)) (sym c.is_open-in-loop-i.ensures ∙ c.if-is_open-2.true) ∙ o.invariant,
    )

pub loop-i-preserved : goal.loop-i-preserved
loop-i-preserved c =
    let o = c.loop-i in
    open_further c.args.cells.now c.args.goal.now o.i (omega (arith, c.min-n.ensures)) (sym c.is_open-in-loop-i.ensures ∙ c.if-is_open-2.false) ∙ o.invariant

pub returns : goal.returns
returns c =
    let o = c.loop-i in
    omega (arith, o.invariant, c.min-n.ensures, c.pass_sixteens-i.ensures.within, open_end c.args.cells.now c.args.goal.now o.i (omega (arith, c.min-n.ensures)))
