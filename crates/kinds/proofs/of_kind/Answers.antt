use Rattle.std.proofs.Common.{sym, ◌∙◌}
use Rattle.kinds.specs.Marks.{apart_closed}
use Rattle.kinds.specs.Tests.{stack_not, stack_shaped, hall_shaped, clique_shaped, ring_shaped}
use Rattle.kinds.proofs.of_kind.Goals as goal

pub returns-then-line_ok : goal.returns-then-line_ok
returns-then-line_ok c = rw (c.in-Stack.is) (c.closed_ok.ensures ∙ apart_closed _ _ _ _ ∙ stack_shaped _ _ _ _ (sym c.line_ok.ensures ∙ c.if-line_ok.true))

pub returns-else-line_ok : goal.returns-else-line_ok
returns-else-line_ok c = rw (c.in-Stack.is) (c.if-line_ok.false ∙ stack_not _ _ _ _ (sym c.line_ok.ensures ∙ c.if-line_ok.false))

pub returns-in-Hall : goal.returns-in-Hall
returns-in-Hall c = rw (c.in-Hall.is) (c.line_ok-in-Hall.ensures ∙ hall_shaped _ _ _ _)

pub returns-in-Clique : goal.returns-in-Clique
returns-in-Clique c = rw (c.in-Clique.is) (c.clique_ok.ensures ∙ clique_shaped _ _ _ _)

pub returns-in-Ring : goal.returns-in-Ring
returns-in-Ring c = rw (c.in-Ring.is) (c.line_ok-in-Ring.ensures ∙ ring_shaped _ _ _ _)
