use Rattle.std.proofs.Common.{◌≡◌, false, ap, ◌∙◌, eq-eqb, refl, arith}
use Rattle.kinds.specs.Links.{line_number, line_not_clique, links_next, links_line, links_round}
use Rattle.kinds.proofs.first_linked.Goals as goal

pub returns-then-next : goal.returns-then-next
returns-then-next c = eq-eqb _ _ c.if-next.true ∙ links_next _ _ 0 _ (line_not_clique c.args.ring) (omega arith)

pub returns-then-ring : goal.returns-then-ring
returns-then-ring c = links_round _ _ 0 _ (ap line_number c.if-ring.true) (λ e. c.if-next.false (omega arith)) refl

pub returns-else-ring : goal.returns-else-ring
returns-else-ring c = c.if-ring.false ∙ links_line _ _ 0 _ (line_not_clique c.args.ring) (λ e. c.if-next.false (omega arith))
    (λ e. let q : line_number false ≡ 4 = rw c.if-ring.false at e in omega arith)
