use borrow.Author.Rules.{rules}
use mathlib.Core.Path.{sym, ◌∙◌}
use Rattle.replay.specs.Check.{edge_shown, no_robot, no_from, no_to, no_edge, not_at_from, to_taken, legal_move}
use Rattle.replay.proofs.check.fault_of.Goals.{then-r-k-via-then-r-k, then-r-k-via-else-r-k+then-from-n, then-r-k-via-else-r-k+else-from-n+then-to-n, then-ne-via-then-ne, then-ne-via-else-ne+then-ne-2}
use Rattle.replay.proofs.check.fault_of.Goals as goal

pub returns-then-r-k : goal.returns-then-r-k
returns-then-r-k c =
    λ m e h i.
    elim c.then-r-k.branch [
      | then-r-k-via-then-r-k w ↦ no_robot m _ _ _ _ _ i w.if-r-k.true
      | then-r-k-via-else-r-k+then-from-n w ↦ no_from m _ _ _ _ _ i w.if-r-k.false (rw e w.if-from-n.true)
      | then-r-k-via-else-r-k+else-from-n+then-to-n w ↦ no_to m _ _ _ _ _ i w.if-r-k.false (rw e w.if-from-n.false) (rw e w.if-to-n.true)
    ]

pub returns-then-not-edge_between : goal.returns-then-not-edge_between
returns-then-not-edge_between c =
    λ m e h i.
    no_edge m _ _ _ _ _ i c.if-r-k.false (rw e c.if-from-n.false) (rw e c.if-to-n.false)
    (edge_shown _ m h _ _ ∙ sym c.edge_between.ensures ∙ c.if-not-edge_between.true)

pub returns-then-ne : goal.returns-then-ne
returns-then-ne c =
    λ m e h i.
    let j = edge_shown _ m h _ _ ∙ sym c.edge_between.ensures ∙ c.if-not-edge_between.false in
    elim c.then-ne.branch [
      | then-ne-via-then-ne w ↦ not_at_from m _ _ _ _ _ i c.if-r-k.false (rw e c.if-from-n.false) (rw e c.if-to-n.false) j (search rules)
      | then-ne-via-else-ne+then-ne-2 w ↦ to_taken m _ _ _ _ _ i c.if-r-k.false (rw e c.if-from-n.false) (rw e c.if-to-n.false) j (search rules) (search rules)
    ]

pub returns : goal.returns
returns c =
    λ m e h i.
    legal_move m _ _ _ _ _ i c.if-r-k.false (rw e c.if-from-n.false) (rw e c.if-to-n.false)
    (edge_shown _ m h _ _ ∙ sym c.edge_between.ensures ∙ c.if-not-edge_between.false) (search rules) (search rules)
