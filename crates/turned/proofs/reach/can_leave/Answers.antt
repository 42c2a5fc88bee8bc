use Rattle.std.proofs.Common.{suc, length, ltb, ap, sym, ◌∙◌}
use Rattle.spec.specs.Arrangement.{seek}
use Rattle.cells.specs.Cells.{found_inside}
use Rattle.spec.specs.State.{arrangement_of}
use Rattle.motion.specs.Across.{arrangement_length}
use Rattle.circle.specs.Reading.{leave_full, leave_open}
use Rattle.turned.proofs.reach.can_leave.Goals as goal

pub returns-then-is_full : goal.returns-then-is_full
returns-then-is_full g c =
    let a = c.args in
    c.stands.ensures ∙ leave_full (arrangement_of a.state.now a.zone.now) a.r.0 a.j (sym c.is_full.ensures ∙ c.if-is_full.true)

pub returns : goal.returns
returns g c =
    let a = c.args in
    c.is_some.ensures ∙ found_inside (length a.zone.now) (seek (suc a.r.0) (arrangement_of a.state.now a.zone.now)) c.place_of.result c.place_of.ensures
    ∙ ap (ltb (seek (suc a.r.0) (arrangement_of a.state.now a.zone.now))) (sym (arrangement_length a.state.now a.zone.now))
    ∙ leave_open (arrangement_of a.state.now a.zone.now) a.r.0 a.j (sym c.is_full.ensures ∙ c.if-is_full.false)
