use borrow.Author.Tests.{le-ltb}
use mathlib.Core.Path.{sym, ◌∙◌}
use Rattle.testing.specs.Testing.{numbered_robot, numbered_from, numbered_to}
use Rattle.testing.proofs.tests.are_numbered.Goals.{then-r-k, else-r-k}
use Rattle.std.proofs.lemmas.Bool.{false≢true}
use Rattle.testing.proofs.tests.are_numbered.Goals as goal

pub returns-then-u-n : goal.returns-then-u-n
returns-then-u-n g c =
    rw (← c.vertices-n.ensures) (elim c.if-r-k.branch [
      | then-r-k w ↦ numbered_to _ _ _ _ _ w.if-r-k.true (sym w.value-is ∙ c.if-u-n.true)
      | else-r-k w ↦ absurd (false≢true (sym (le-ltb _ _ w.if-r-k.false) ∙ sym w.value-is ∙ c.if-u-n.true))
    ])

pub returns-else-u-n : goal.returns-else-u-n
returns-else-u-n g c =
    rw (← c.vertices-n.ensures) (elim c.if-r-k.branch [
      | then-r-k w ↦ c.if-u-n.false ∙ numbered_from _ _ _ _ _ w.if-r-k.true (sym w.value-is ∙ c.if-u-n.false)
      | else-r-k w ↦ c.if-u-n.false ∙ numbered_robot _ _ _ _ _ w.if-r-k.false
    ])
