use Rattle.reaching.specs.Reach.{room_below, room_above}
use Rattle.reaching.proofs.reach.has_room.Goals as goal

pub returns-then-t-j : goal.returns-then-t-j
returns-then-t-j c = let a = c.args in room_above a.size a.j a.t a.u _ c.if-t-j.true c.saturating_sub.ensures

pub returns-else-t-j : goal.returns-else-t-j
returns-else-t-j c = let a = c.args in room_below a.size a.j a.t a.u c.if-t-j.false
