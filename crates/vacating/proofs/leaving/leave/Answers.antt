use Rattle.std.proofs.Common.{ℕ, suc, List, length, get_or, refl, ap, sym, ◌∙◌}
use Rattle.spec.specs.Arrangement.{Move, mv, seek}
use Rattle.spec.specs.Clique.{make_room}
use Rattle.spec.specs.State.{arrangement_of, across}
use Rattle.cells.specs.Cells.{found_or_size}
use Rattle.motion.specs.World.{world, made, made_all}
use Rattle.motion.specs.Across.{across_move_lem, made_nothing, made_last}
use Rattle.vacating.specs.Leaving.{leave_stays, leave_goes}
use Rattle.vacating.proofs.leaving.leave.Goals as goal

pub returns-then-here : goal.returns-then-here
returns-then-here g c =
    let a = c.args in
    made_nothing (world a.state.now a.count a.out.now) a.zone.now _
    (leave_stays (arrangement_of a.state.now a.zone.now) a.r.0 a.j (sym c.if-here.true ∙ c.stands-here.ensures))

pub returns : goal.returns
returns g c =
    let a = c.args in
    let z = a.zone.now in
    let g = arrangement_of a.state.now z in
    let r = a.r.0 in
    let from = c.unwrap_or-i.ensures ∙ found_or_size (length z) (seek (suc r) g) c.place_of.result c.place_of.ensures in
    let w = world a.state.now a.count a.out.now in
    made_last w _ _ z (mv r (seek (suc r) g) a.j) (make_room g a.j) c.make_room-next.ensures
    (c.make.ensures ∙ ap (made _) (across_move_lem z _ r (seek (suc r) g) a.j _ _ refl (c.vertex_at-v.ensures ∙ ap (λ (i : ℕ). get_or z i 0) from) c.vertex_at-w.ensures))
    ∙ ap (λ (ms : List Move). made_all w (across z ms)) (sym (leave_goes g r a.j (sym c.if-here.false ∙ c.stands-here.ensures)))
