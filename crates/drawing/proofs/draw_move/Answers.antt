use borrow.Author.Rules.{rules}
use native.Mathlib.Omega.{arith}
use Rattle.drawing.specs.Drawn.{drawn_inside, part_held, place_low, drawn_crossing, part_short, step_near}
use Rattle.drawing.proofs.draw_move.Goals as goal

pub returns-then-inside-clause-move_drawn : goal.returns-then-inside-clause-move_drawn
returns-then-inside-clause-move_drawn c m h hv g =
    drawn_inside _ m h g _ _ hv _ _ c.zone_of-from.ensures.zone c.zone_of-to.ensures.zone _ _ _ _ (search rules)

pub returns-then-not-has_part-clause-move_drawn : goal.returns-then-not-has_part-clause-move_drawn
returns-then-not-has_part-clause-move_drawn c m h hv g =
    let p = part_held _ m h g _ _ hv _ _ c.zone_of-from.ensures.zone c.zone_of-to.ensures.zone in
    absurd (search rules)

pub returns-then-j-part-clause-move_drawn : goal.returns-then-j-part-clause-move_drawn
returns-then-j-part-clause-move_drawn c m h hv g =
    let l =
    place_low _ m h g _ _ hv _ _ c.zone_of-from.ensures.zone c.zone_of-to.ensures.zone _ _ _
    c.kind_of-kind.ensures c.place_of-j.ensures c.vertices_of-part.ensures in
    absurd (omega arith)

pub returns-clause-move_drawn : goal.returns-clause-move_drawn
returns-clause-move_drawn c m h hv g =
    drawn_crossing _ m h g _ _ hv _ _ c.zone_of-from.ensures.zone c.zone_of-to.ensures.zone _ _ _
    c.kind_of-kind.ensures c.place_of-j.ensures c.vertices_of-part.ensures _ _ _ _ (search rules) _ _ _ _
    c.behind_of-behind.ensures c.fills-filled.ensures c.write_step-bytes.ensures.0 c.write_step-bytes.ensures.1

pub returns-clause-steps_bound : goal.returns-clause-steps_bound
returns-clause-steps_bound c = (search rules, step_near _ _ _ _ _ _ _ _ _ _ c.write_step-bytes.ensures.0 (part_short c.args.map.now c.zone_of-to.result.0 _ (c.has_part.ensures.short (search rules)) c.vertices_of-part.ensures))
