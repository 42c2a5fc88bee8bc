use Rattle.std.proofs.Common.{◌≡◌, ◌*◌, List, true, length, ap, ap₂, sym, ◌∙◌, arith, rules}
use Rattle.spec.specs.Arrangement.{Move}
use Rattle.spec.specs.Clique.{clique_to}
use Rattle.spec.specs.State.{across}
use Rattle.motion.specs.World.{world, made_all}
use Rattle.motion.specs.Across.{arrangement_length}
use Rattle.tabling.specs.Table.{distinct_of}
use Rattle.clique.specs.Entering.{cells_are, named_cells, cells_named, filled_still}
use Rattle.clique.proofs.entering.fill.Goals as goal

pub go_toward-requires : goal.go_toward-requires
go_toward-requires g c =
    let p = c.args in
    let z = p.zone.vertices.now in
    let f = cells_are p.state.now z _ p.zone.short c.cells_of.ensures in
    let l = ap length f ∙ arrangement_length p.state.now z in
    (search rules, (omega (arith, l, p.zone.short), ap length c.goal_cells.ensures ∙ cells_named p.list.now p.j ∙ c.requires.list_len ∙ sym l, distinct_of f c.requires.distinct))

pub returns-then-moves : goal.returns-then-moves
returns-then-moves g c =
    let p = c.args in
    let z = p.zone.vertices.now in
    let f = cells_are p.state.now z _ p.zone.short c.cells_of.ensures in
    let h = c.goal_cells.ensures ∙ named_cells p.list.now p.j c.requires.numbered in
    c.go_toward.ensures ∙ ap (λ (ms : List Move). made_all (world p.state.now p.count p.out.now) (across z ms)) (ap₂ (clique_to (length z * 2)) f h)

pub returns : goal.returns
returns g c =
    let p = c.args in
    let z = p.zone.vertices.now in
    let f = cells_are p.state.now z _ p.zone.short c.cells_of.ensures in
    let h = c.goal_cells.ensures ∙ named_cells p.list.now p.j c.requires.numbered in
    let q : c.same_cells-moves.result ≡ true = search rules in
    filled_still (length z * 2) _ _ _ _ z (world p.state.now p.count p.out.now) _ f h q c.same_cells-moves.ensures
