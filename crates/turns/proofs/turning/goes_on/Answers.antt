use Rattle.std.proofs.Common.{ap, ◌∙◌, eq-eqb, not}
use Rattle.spec.specs.Arrangement.{cell}
use Rattle.spec.specs.State.{arrangement_of}
use Rattle.turns.specs.Steps.{goes_not, goes_on_lem}
use Rattle.turns.proofs.turning.goes_on.Goals as goal

pub returns-then-p-j : goal.returns-then-p-j
returns-then-p-j g c =
    let a = c.args in
    c.eq-free.ensures
    ∙ goes_on_lem a.state.now a.zone.now a.j a.p c.robot_at.result.0 c.if-p-j.true (c.robot_at.ensures ∙ ap (cell (arrangement_of a.state.now a.zone.now)) c.next.ensures)

pub returns-else-p-j : goal.returns-else-p-j
returns-else-p-j g c =
    let a = c.args in
    ap not (eq-eqb a.p a.j c.if-p-j.false) ∙ goes_not (arrangement_of a.state.now a.zone.now) a.j a.p c.if-p-j.false
