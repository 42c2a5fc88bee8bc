use Rattle.std.proofs.Common.{add-one, sym, ◌∙◌, rules, tests}
use Rattle.theory.specs.Maps.Cells.{cell_of_lem, cell_none}
use Rattle.cells.proofs.arrangement.cell_of.Goals as goal

pub returns-then-eq : goal.returns-then-eq
returns-then-eq c = sym (cell_none (search (rules, tests)))

pub returns : goal.returns
returns c = add-one _ ∙ sym (cell_of_lem (search (rules, tests)))
