use Rattle.std.proofs.Common.{◌≡◌, List, rules, ap, ◌∙◌}
use Rattle.spec.specs.Arrangement.{Move, order}
use Rattle.spec.specs.Outcome.{index_of}
use Rattle.spec.specs.State.{across, arrangement_of}
use Rattle.motion.specs.World.{world, made_all}
use Rattle.hall.specs.Ends.{leave_is}
use Rattle.hall.proofs.leave.Goals as goal

pub returns : goal.returns
returns g c =
    let a = c.args in
    let z = a.zone.vertices.now in
    let m = c.make_way.ensures in
    let shows = m.1.shows in
    let says = m.1.says in
    let e : m.0 ≡ index_of a.r.0 (order (arrangement_of a.state.now z)) = search rules in
    m.2 ∙ ap (λ (ms : List Move). made_all (world a.state.now a.count a.out.now) (across z ms))
    (leave_is (arrangement_of a.state.now z) a.r.0 m.0 a.j.index e)
