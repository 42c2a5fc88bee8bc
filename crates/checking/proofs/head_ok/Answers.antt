-- `head_ok`: the three tests of the head, in the definition's order.
use Rattle.std.proofs.Common.{◌≡◌, ◌∙◌, sym, true, false}
use borrow.Author.Tests.{eq-eqb, ne_eqb}
use Rattle.spec.specs.Outcome.{◌and◌}
use Rattle.spec.specs.Wire.{head_ok}
use Rattle.checking.proofs.head_ok.Goals.{then-block-kind, else-block-kind}
use Rattle.checking.proofs.head_ok.Goals as goal

pub returns-then-block-eq0 : goal.returns-then-block-eq0
unfolding ◌and◌ head_ok
returns-then-block-eq0 c =
    elim c.if-block-kind.branch [
      | then-block-kind w ↦ sym (rw (eq-eqb _ _ w.if-block-kind.true, sym w.value-is ∙ c.if-block-eq0.true, c.word_at.ensures.0))
      | else-block-kind w ↦ let z : true ≡ false = sym c.if-block-eq0.true ∙ w.value-is ∙ ne_eqb _ _ w.if-block-kind.false in cc
    ]

pub returns-else-block-eq0 : goal.returns-else-block-eq0
unfolding ◌and◌ head_ok
returns-else-block-eq0 c =
    elim c.if-block-kind.branch [
      | then-block-kind w ↦ sym (rw (eq-eqb _ _ w.if-block-kind.true, sym w.value-is ∙ c.if-block-eq0.false, c.if-block-eq0.false))
      | else-block-kind w ↦ sym (rw (ne_eqb _ _ w.if-block-kind.false, c.if-block-eq0.false))
    ]
