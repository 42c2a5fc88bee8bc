use Rattle.std.proofs.Common.{length, sym, ◌∙◌}
use Rattle.spec.specs.State.{arrangement_of}
use Rattle.motion.specs.Across.{arrangement_length}
use Rattle.reaching.specs.Reach.{can_leave_room, can_leave_none}
use Rattle.reaching.proofs.reach.can_leave.Goals as goal

pub returns-then-lower-all : goal.returns-then-lower-all
returns-then-lower-all g c =
    let a = c.args in
    let n = c.count_robots-lower in
    c.has_room.ensures
    ∙ can_leave_room (arrangement_of a.state.now a.zone.now) a.r.0 n.result.lower n.result.all n.ensures a.j (length a.zone.now)
    (sym (arrangement_length a.state.now a.zone.now)) c.if-lower-all.true

pub returns-else-lower-all : goal.returns-else-lower-all
returns-else-lower-all g c =
    let a = c.args in
    let n = c.count_robots-lower in
    can_leave_none (arrangement_of a.state.now a.zone.now) a.r.0 n.result.lower n.result.all n.ensures a.j c.if-lower-all.false
