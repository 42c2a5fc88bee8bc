use Rattle.std.proofs.Common.{sym, ◌∙◌}
use Rattle.comparing.specs.Comparing.{robots_other, robots_not, robots_same}
use Rattle.comparing.proofs.same_robots.Goals as goal

pub returns-then-count_cells : goal.returns-then-count_cells
returns-then-count_cells c = robots_other c.args.cells.now c.args.goal.now (λ q. c.if-count_cells.true (c.count_cells.ensures ∙ q ∙ sym c.count_cells-2.ensures))

pub returns-then-all_in : goal.returns-then-all_in
returns-then-all_in c =
    c.all_in-then-all_in.ensures
    ∙ robots_same c.args.cells.now c.args.goal.now (sym c.count_cells.ensures ∙ c.if-count_cells.false ∙ c.count_cells-2.ensures) (sym c.if-all_in.true ∙ c.all_in.ensures)

pub returns-else-all_in : goal.returns-else-all_in
returns-else-all_in c =
    c.if-all_in.false ∙ robots_not c.args.cells.now c.args.goal.now (sym c.count_cells.ensures ∙ c.if-count_cells.false ∙ c.count_cells-2.ensures) (sym c.if-all_in.false ∙ c.all_in.ensures)
