use Rattle.std.proofs.Common.{ℕ, length, get_or, refl, ap, ◌∙◌, rules, tests}
use Rattle.spec.specs.Arrangement.{mv, seek}
use Rattle.spec.specs.State.{arrangement_of}
use Rattle.cells.specs.Cells.{found_or_size}
use Rattle.motion.specs.World.{world, made}
use Rattle.motion.specs.Across.{across_move_lem, made_nothing}
use Rattle.vacating.specs.Leaving.{room_none, room_made, made_single}
use Rattle.vacating.proofs.leaving.make_room.Goals as goal

pub returns-then-eq : goal.returns-then-eq
returns-then-eq g c =
    let a = c.args in
    made_nothing (world a.state.now a.count a.out.now) a.zone.now _
    (room_none (arrangement_of a.state.now a.zone.now) a.j c.robot_at-x.result.0 c.robot_at-x.ensures (search (rules, tests)))

pub returns : goal.returns
returns g c =
    let a = c.args in
    let z = a.zone.now in
    let g = arrangement_of a.state.now z in
    let w = world a.state.now a.count a.out.now in
    let x = c.robot_at-x.result.0 in
    let free = c.unwrap_or-free.ensures ∙ found_or_size (length z) (seek 0 g) c.first_free.result c.first_free.ensures in
    made_single w _ z (mv x a.j (seek 0 g)) _
    (c.make.ensures ∙ ap (made w) (across_move_lem z _ x a.j (seek 0 g) _ _ refl c.vertex_at-v.ensures (c.vertex_at-w.ensures ∙ ap (λ (i : ℕ). get_or z i 0) free)))
    (room_made g a.j x c.robot_at-x.ensures (search (rules, tests)))
