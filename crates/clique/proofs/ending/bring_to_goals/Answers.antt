use Rattle.std.proofs.Common.{◌*◌, List, length, ap, ap₂, sym, ◌∙◌, arith, rules}
use Rattle.spec.specs.Arrangement.{Move}
use Rattle.spec.specs.Clique.{clique_to}
use Rattle.spec.specs.State.{arrangement_of, across}
use Rattle.motion.specs.World.{world, made_all}
use Rattle.motion.specs.Across.{arrangement_length}
use Rattle.comparing.specs.Comparing.{end_is}
use Rattle.tabling.specs.Table.{distinct_of}
use Rattle.clique.specs.Entering.{cells_are}
use Rattle.clique.proofs.ending.bring_to_goals.Goals as goal

pub go_toward-requires : goal.go_toward-requires
go_toward-requires g c =
    let p = c.args in
    let z = p.zone.vertices.now in
    let f = cells_are p.state.now z _ p.zone.short c.cells_of.ensures in
    let h = cells_are p.goals.now z _ p.zone.short c.cells_of-2.ensures in
    let l = ap length f ∙ arrangement_length p.state.now z in
    (search rules, (omega (arith, l, p.zone.short), ap length h ∙ arrangement_length p.goals.now z ∙ sym l, distinct_of f c.requires))

pub returns : goal.returns
returns g c =
    let p = c.args in
    let z = p.zone.vertices.now in
    let f = cells_are p.state.now z _ p.zone.short c.cells_of.ensures in
    let h = cells_are p.goals.now z _ p.zone.short c.cells_of-2.ensures in
    c.go_toward.ensures
    ∙ ap (λ (ms : List Move). made_all (world p.state.now p.count p.out.now) (across z ms))
    (ap₂ (clique_to (length z * 2)) f h ∙ end_is (arrangement_of p.state.now z) (arrangement_of p.goals.now z) (length z) (sym (arrangement_length p.state.now z)))
