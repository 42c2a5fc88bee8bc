use Rattle.std.proofs.Common.{refl, ap, ◌∙◌, List, take, length-take, arith}
use Rattle.std.proofs.lemmas.Fn.{says_at}
use Rattle.spec.specs.Arrangement.{Move}
use Rattle.spec.specs.State.{across, arrangement_of}
use Rattle.motion.specs.World.{world, made_all}
use Rattle.motion.specs.Across.{arrangement_length}
use Rattle.lineup.specs.Goals.{goals_capped}
use Rattle.hall.specs.Ends.{way_is}
use Rattle.hall.proofs.make_way.Goals as goal

pub returns : goal.returns
returns g c =
    let a = c.args in
    let z = a.zone.vertices.now in
    let l = c.line_up-n in
    let s = says_at g.F.Fn c.below-t.ensures refl in (
      c.below-t.result,
      record { shown = s.shown; shows = s.shows ∙ l.ensures.robots; says = s.says },
      c.settle.ensures
          ∙ ap (λ (ms : List Move). made_all (world a.state.now a.count a.out.now) (across z ms))
          (way_is (arrangement_of a.state.now z) l.result c.below-t.result a.m a.j.index _ _ _
          (omega (arith, l.ensures.short, arrangement_length a.state.now z, a.zone.short)) l.ensures
          (c.spread.ensures ∙ goals_capped c.below-t.result _ _ _ a.j.index (take l.result l.new.places) c.saturating_add.ensures (omega (arith, length-take l.result l.new.places, a.zone.short, l.ensures.short, arrangement_length a.state.now z)))),
    )
