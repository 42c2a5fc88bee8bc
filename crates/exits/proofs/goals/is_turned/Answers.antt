use Rattle.std.proofs.Common.{◌∙◌, List, ℕ, take, sym, ap, ap₂, rules}
use Rattle.spec.specs.Outcome.{same_list}
use Rattle.rosters.specs.Lists.{rest_is}
use Rattle.rosters.specs.Finding.{index_found, index_missing}
use Rattle.exits.specs.Goals.{turned_other, turned_empty, turned_none, turned_then, turned_not}
use Rattle.exits.proofs.goals.is_turned.Goals as goal

pub returns-then-list-goal : goal.returns-then-list-goal
returns-then-list-goal c = turned_other c.args.list.now c.args.goal.now c.if-list-goal.true

pub returns-in_default : goal.returns-in_default
returns-in_default c = c.is_empty.ensures ∙ turned_empty c.args.list.now c.args.goal.now (search rules)

pub returns-in_default-index_in : goal.returns-in_default-index_in
returns-in_default-index_in c =
    let l = c.args.list.now in
    let o = c.args.goal.now in
    turned_none _ l o (search rules) (search rules) (index_missing _ o c.index_in.ensures c.in_default-index_in.is)

pub returns-then-same_cells : goal.returns-then-same_cells
returns-then-same_cells c =
    let l = c.args.list.now in
    let o = c.args.goal.now in
    let t : ℕ = c.in-Some-index_in.t in
    let i = index_found _ o c.index_in.ensures t c.in-Some-index_in.is in
    let s = c.split_at.ensures in
    c.same_cells-then-same_cells.ensures ∙ ap (λ (x : List ℕ). same_list x (take t o)) s.back
    ∙ turned_then _ l o t (search rules) (search rules) i.1 c.if-list-goal.false (sym c.if-same_cells.true ∙ c.same_cells.ensures ∙ ap₂ same_list s.front (rest_is t o))

pub returns-else-same_cells : goal.returns-else-same_cells
returns-else-same_cells c =
    let l = c.args.list.now in
    let o = c.args.goal.now in
    let t : ℕ = c.in-Some-index_in.t in
    let i = index_found _ o c.index_in.ensures t c.in-Some-index_in.is in
    let s = c.split_at.ensures in
    c.if-same_cells.false ∙ turned_not _ l o t (search rules) (search rules) i.1 c.if-list-goal.false (sym c.if-same_cells.false ∙ c.same_cells.ensures ∙ ap₂ same_list s.front (rest_is t o))
