use Rattle.std.proofs.Common.{◌+◌, ◌-◌, refl, ap, ◌∙◌, arith}
use Rattle.spec.specs.Arrangement.{mv}
use Rattle.spec.specs.State.{across}
use Rattle.spec.specs.Hall.{down, up}
use Rattle.motion.specs.World.{world, made, made_none}
use Rattle.motion.specs.Across.{across_move_lem, across_nil, made_more, made_both}
use Rattle.hall.specs.Trips.{down_more, down_done, up_more, up_done}
use Rattle.hall.proofs.trips.send.Goals as goal

pub loop-at-preserved : goal.loop-at-preserved
loop-at-preserved g c =
    let a = c.args in
    let o = c.loop-at in
    let z = a.zone.now in
    let w = world o.state o.made o.out in
    made_more w _ z (mv a.r.0 (o.at - 1 + 1) (o.at - 1)) (down a.r.0 (o.at - 1 - a.to) a.to) _
    (c.make-made.ensures ∙ ap (made w) (across_move_lem z _ a.r.0 (o.at - 1 + 1) (o.at - 1) _ _ refl c.vertex_at-v.ensures c.vertex_at-w.ensures))
    (down_more a.r.0 o.at a.to (omega arith)) ∙ o.invariant

pub loop-at-2-preserved : goal.loop-at-2-preserved
loop-at-2-preserved g c =
    let a = c.args in
    let o = c.loop-at-2 in
    let z = a.zone.now in
    let w = world o.state o.made o.out in
    made_more w _ z (mv a.r.0 o.at (o.at + 1)) (up a.r.0 (a.to - (o.at + 1)) (o.at + 1)) _
    (c.make-made-in-loop-at-2.ensures
    ∙ ap (made w) (across_move_lem z _ a.r.0 o.at (o.at + 1) _ _ refl c.vertex_at-v-in-loop-at-2.ensures c.vertex_at-w-in-loop-at-2.ensures))
    (up_more a.r.0 o.at a.to (omega arith)) ∙ o.invariant

pub returns : goal.returns
returns g c =
    let a = c.args in
    let o = c.loop-at in
    let p = c.loop-at-2 in
    let z = a.zone.now in
    made_none (world p.state p.made p.out) _ (ap (across z) (up_done a.r.0 p.at a.to (omega arith)) ∙ across_nil z) ∙ p.invariant
    ∙ made_both (world a.state.now a.count a.out.now) (world o.state o.made o.out) z (down a.r.0 (a.from - a.to) a.to) (up a.r.0 (a.to - a.from) a.from)
    (made_none (world o.state o.made o.out) _ (ap (across z) (down_done a.r.0 o.at a.to (omega arith)) ∙ across_nil z) ∙ o.invariant)
