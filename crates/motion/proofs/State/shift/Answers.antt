use mathlib.Core.Path.{ap, ◌∙◌}
use Rattle.spec.specs.State as meaning
use Rattle.spec.specs.Arrangement.{mv}
use Rattle.motion.specs.States.{moved_leaves, moved_by, code_state}
use Rattle.motion.proofs.State.shift.Goals as goal

pub returns : goal.returns
returns g c =
    let a = c.args in
    let s = c.self.inside in
    moved_leaves s (code_state c.put_cell.new.cells s.vertices) (code_state c.put_cell-2.new.cells s.vertices) _ a.r a.from a.to
    (ap (λ l. code_state l s.vertices) c.put_cell.ensures)
    (ap (λ l. code_state l s.vertices) c.put_cell-2.ensures)
    (ap (λ l. code_state c.put_cell-2.new.cells l) c.put_cell-3.ensures)
    ∙ ap (λ (x : meaning.State). moved_by x (mv a.r.0 a.from.0 a.to.0)) c.self.view_is
