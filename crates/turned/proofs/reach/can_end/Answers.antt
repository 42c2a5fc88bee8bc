use mathlib.Core.Path.{sym, ◌∙◌}
use Rattle.spec.specs.State.{arrangement_of}
use Rattle.turned.specs.Comparing.{end_full, end_open}
use Rattle.turned.proofs.reach.can_end.Goals as goal

pub returns-then-is_full : goal.returns-then-is_full
returns-then-is_full g c =
    let a = c.args in
    c.same_cells.ensures ∙ end_full (arrangement_of a.state.now a.zone.now) (arrangement_of a.goals.now a.zone.now) (sym c.is_full.ensures ∙ c.if-is_full.true)

pub returns : goal.returns
returns g c =
    let a = c.args in
    c.same_turned.ensures ∙ end_open (arrangement_of a.state.now a.zone.now) (arrangement_of a.goals.now a.zone.now) (sym c.is_full.ensures ∙ c.if-is_full.false)
