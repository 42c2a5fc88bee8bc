-- `fill_ok`: the fill is allowed, so the padding stands in the block.
use Rattle.spec.specs.Outcome.{◌and◌}
use Rattle.spec.specs.Wire.{fill_ok}
use Rattle.checking.specs.Block.{filled_le, padding}
use native.Mathlib.Omega.{arith}
use mathlib.Core.Path.{sym, ◌∙◌}
use Rattle.checking.proofs.fill_ok.Goals as goal

pub slice_bounds-zeros-count : goal.slice_bounds-zeros-count
slice_bounds-zeros-count c = let h = filled_le _ _ (sym c.fill_allowed.ensures ∙ c.if-fill_allowed.true) in omega (arith, h, c.word_at-n.ensures.0)

pub slice_bounds-zeros-start : goal.slice_bounds-zeros-start
slice_bounds-zeros-start c = let h = filled_le _ _ (sym c.fill_allowed.ensures ∙ c.if-fill_allowed.true) in omega (arith, h, c.word_at-n.ensures.0)

pub returns-then-fill_allowed : goal.returns-then-fill_allowed
unfolding ◌and◌ fill_ok
returns-then-fill_allowed c =
    let b = c.args.block.now in
    let n = c.word_at-n in
    c.zeros.ensures ∙ sym (rw (← n.ensures.0, sym c.fill_allowed.ensures ∙ c.if-fill_allowed.true, padding b n.result))

pub returns-else-fill_allowed : goal.returns-else-fill_allowed
unfolding ◌and◌ fill_ok
returns-else-fill_allowed c = c.if-fill_allowed.false ∙ sym (rw (← c.word_at-n.ensures.0, sym c.fill_allowed.ensures ∙ c.if-fill_allowed.false))
