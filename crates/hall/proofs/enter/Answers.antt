use Rattle.std.proofs.Common.{◌≡◌, List, length, min, rules, ap, ◌∙◌}
use Rattle.spec.specs.Arrangement.{Move, order}
use Rattle.lineup.specs.Goals.{lower_of}
use Rattle.spec.specs.State.{across, arrangement_of}
use Rattle.motion.specs.World.{world, made_all}
use Rattle.hall.specs.Ends.{enter_is}
use Rattle.hall.proofs.enter.Goals as goal

pub returns : goal.returns
returns g c =
    let a = c.args in
    let z = a.zone.vertices.now in
    let m = c.make_way.ensures in
    let shows = m.1.shows in
    let says = m.1.says in
    let e : m.0 ≡ min (lower_of a.behind (order (arrangement_of a.state.now z))) (length (order (arrangement_of a.state.now z))) = search rules in
    m.2 ∙ ap (λ (ms : List Move). made_all (world a.state.now a.count a.out.now) (across z ms))
    (enter_is (arrangement_of a.state.now z) a.behind m.0 a.j.index e)
