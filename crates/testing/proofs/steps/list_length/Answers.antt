use borrow.Author.Rules.{rules}
use native.Mathlib.Omega.{arith}
use Rattle.testing.specs.Steps.{extra_other, extra_filled, extra_free}
use Rattle.testing.proofs.steps.list_length.Goals.{else-eq-via-then-eq+else-n-size, else-eq-via-else-eq}
use Rattle.testing.proofs.steps.list_length.Goals as goal

pub returns-then-n-size : goal.returns-then-n-size
returns-then-n-size c = extra_filled _ _ _ (search rules) (omega arith)

pub returns : goal.returns
returns c =
    elim c.else-eq.branch [
      | else-eq-via-then-eq+else-n-size w ↦ extra_free _ _ _ (λ e. omega arith)
      | else-eq-via-else-eq w ↦ extra_other _ _ _ (search rules)
    ]
