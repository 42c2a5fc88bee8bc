use mathlib.Core.Path.{◌∙◌}
use Rattle.numbering.specs.Kind.{number_of}
use Rattle.theory.specs.Zones.Kinds.{kind?}
use Rattle.exits.specs.Leaving.{goes, chosen_pinned, chosen_hall}
use Rattle.exits.proofs.leaving.can_go.Goals as goal

pub returns-then-is_pinned : goal.returns-then-is_pinned
unfolding goes
returns-then-is_pinned c =
    let a = c.args in
    c.lets_out-free.ensures ∙ chosen_pinned (kind? (number_of a.at.kind)) _ _ c.if-is_pinned.true c.is_pinned.ensures

pub returns-else-is_pinned : goal.returns-else-is_pinned
unfolding goes
returns-else-is_pinned c =
    let a = c.args in
    c.has_room-room.ensures ∙ chosen_hall (kind? (number_of a.at.kind)) _ _ c.if-is_pinned.false c.is_pinned.ensures
