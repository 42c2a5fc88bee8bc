use Rattle.motion.specs.Coupling.{listed_short}
use Rattle.numbering.specs.Kind.{number_of}
use Rattle.crossing.specs.Sides.{left_near}
use Rattle.motion.specs.World.{world}
use Rattle.spec.specs.State.{arrangement_of}
use mathlib.Core.Path.{◌≡◌, sym, ◌∙◌}
use borrow.Author.Rules.{rules}
use Rattle.std.proofs.Common.{tests}
use Rattle.crossing.proofs.sides.leave_in.Goals as goal

pub returns-then-near : goal.returns-then-near
unfolding arrangement_of
returns-then-near g c =
    let a = c.args in
    let q : c.robot_on-there.result.0 ≡ 255 = search (rules, tests) in
    let w : c.robot_at-x.result.0 ≡ a.r.0 = search (rules, tests) in
    left_near (number_of a.kind) a.state.now a.zone.vertices.now c.requires.proper a.j c.requires.zone_len_bound.0 a.r.0 a.u.0 _ _ _ (world a.state.now a.count a.out.now) _ c.requires.zone_len_bound.1 c.requires.j_value (sym q ∙ c.robot_on-there.ensures) c.near_place-i.ensures c.robot_at-x.ensures w c.vertex_at-w.ensures c.make.ensures

pub leave-requires : goal.leave-requires
unfolding arrangement_of
leave-requires g c =
    let a = c.args in
    (search rules, (search rules, ((listed_short 128 a.zone.vertices.now a.zone.listed, c.requires.zone_len_bound.0), c.requires.j_value)))

pub returns : goal.returns
unfolding arrangement_of
returns g c = c.leave.ensures
