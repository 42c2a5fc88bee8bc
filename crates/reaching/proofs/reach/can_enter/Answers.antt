use Rattle.std.proofs.Common.{length, sym, ◌∙◌}
use Rattle.spec.specs.State.{arrangement_of}
use Rattle.motion.specs.Across.{arrangement_length}
use Rattle.reaching.specs.Reach.{can_enter_first, can_enter_room, can_enter_none}
use Rattle.reaching.proofs.reach.can_enter.Goals as goal

pub returns-then-behind-eq255 : goal.returns-then-behind-eq255
returns-then-behind-eq255 g c =
    let a = c.args in
    let n = c.count_robots-lower in
    c.has_room.ensures
    ∙ can_enter_first (arrangement_of a.state.now a.zone.now) a.behind n.result.lower n.result.all n.ensures a.j (length a.zone.now)
    (sym (arrangement_length a.state.now a.zone.now)) c.if-behind-eq255.true

pub returns-then-lower-all : goal.returns-then-lower-all
returns-then-lower-all g c =
    let a = c.args in
    let n = c.count_robots-lower in
    c.has_room-then-lower-all.ensures
    ∙ can_enter_room (arrangement_of a.state.now a.zone.now) a.behind n.result.lower n.result.all n.ensures a.j (length a.zone.now)
    (sym (arrangement_length a.state.now a.zone.now)) c.if-behind-eq255.false c.if-lower-all.true

pub returns-else-lower-all : goal.returns-else-lower-all
returns-else-lower-all g c =
    let a = c.args in
    let n = c.count_robots-lower in
    can_enter_none (arrangement_of a.state.now a.zone.now) a.behind n.result.lower n.result.all n.ensures a.j c.if-behind-eq255.false c.if-lower-all.false
