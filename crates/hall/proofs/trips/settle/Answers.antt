use Rattle.std.proofs.Common.{◌+◌, ◌-◌, ◌≡◌, ℕ, List, get_or, length, ap, sym, ◌∙◌, arith}
use Rattle.spec.specs.Arrangement.{Move}
use Rattle.spec.specs.State.{across}
use Rattle.spec.specs.Hall.{trips, down, up, lowering, raising, hall_moves}
use Rattle.motion.specs.World.{world, made_all, made_none}
use Rattle.motion.specs.Across.{across_nil, made_both}
use Rattle.hall.specs.Trips.{trips_from, down_alone, up_alone, lowering_more, lowering_skip, lowering_done, raising_more, raising_skip, raising_done}
use Rattle.hall.proofs.trips.settle.Goals as goal
use Rattle.hall.proofs.trips.settle.Goals.{then-goals-i, else-goals-i}

pub loop-i-preserved : goal.loop-i-preserved
loop-i-preserved g c =
    let a = c.args in
    let o = c.loop-i in
    let z = a.zone.now in
    let v = world o.state o.made o.out in
    let rs = a.line.now in
    let ps = a.places.now in
    let gs = a.goals.now in
    let after = λ (ms : List Move). made_all v (across z ms) in
    elim c.if-goals-i.branch [
      | then-goals-i w ↦
          rw (w.state-is, w.made-is, w.out-is)
          (made_both v _ z (down (get_or rs o.i 0) (get_or ps o.i 0 - get_or gs o.i 0) (get_or gs o.i 0)) (lowering (trips_from rs ps gs (o.i + 1)))
          (w.send-made.ensures ∙ ap after (down_alone (get_or rs o.i 0) (get_or ps o.i 0) (get_or gs o.i 0) (omega arith)))
          ∙ ap after (sym (lowering_more rs ps gs c.requires.0 c.requires.1 o.i c.loop-i-test.true)) ∙ o.invariant)
      | else-goals-i w ↦
          rw (w.state-is, w.made-is, w.out-is)
          (ap after (lowering_skip rs ps gs c.requires.0 c.requires.1 o.i c.loop-i-test.true w.if-goals-i.false) ∙ o.invariant)
    ]

pub loop-i-2-init : goal.loop-i-2-init
loop-i-2-init g c =
    let a = c.args in
    let z = a.zone.now in
    made_none _ _ (ap (across z) (raising_done a.line.now a.places.now a.goals.now c.requires.0 c.requires.1 (length a.line.now) (omega arith)) ∙ across_nil z)

pub loop-i-2-preserved-then-places-i : goal.loop-i-2-preserved-then-places-i
loop-i-2-preserved-then-places-i g c =
    let a = c.args in
    let l = c.loop-i in
    let o = c.loop-i-2 in
    let z = a.zone.now in
    let u = world l.state l.made l.out in
    let v = world o.state o.made o.out in
    let rs = a.line.now in
    let ps = a.places.now in
    let gs = a.goals.now in
    let r = get_or rs (o.i - 1) 0 in
    let p = get_or ps (o.i - 1) 0 in
    let q = get_or gs (o.i - 1) 0 in
    c.send-made-then-places-i.ensures
    ∙ ap (λ (ms : List Move). made_all v (across z ms)) (up_alone r p q (omega arith))
    ∙ made_both u v z (raising (trips_from rs ps gs o.i)) (up r (q - p) p) o.invariant
    ∙ ap (λ (ms : List Move). made_all u (across z ms)) (sym (raising_more rs ps gs c.requires.0 c.requires.1 o.i (omega arith) (omega arith)))

pub loop-i-2-preserved : goal.loop-i-2-preserved
loop-i-2-preserved g c =
    let a = c.args in
    let l = c.loop-i in
    let o = c.loop-i-2 in
    o.invariant
    ∙ ap (λ (ms : List Move). made_all (world l.state l.made l.out) (across a.zone.now ms))
    (raising_skip a.line.now a.places.now a.goals.now c.requires.0 c.requires.1 o.i (omega arith) (omega arith) c.if-places-i.false)

pub returns : goal.returns
unfolding hall_moves
returns g c =
    let a = c.args in
    let l = c.loop-i in
    let o = c.loop-i-2 in
    let z = a.zone.now in
    let u = world l.state l.made l.out in
    let rs = a.line.now in
    let ps = a.places.now in
    let gs = a.goals.now in
    let e : o.i ≡ 0 = omega arith in
    o.invariant
    ∙ ap (λ (k : ℕ). made_all u (across z (raising (trips_from rs ps gs k)))) e
    ∙ made_both (world a.state.now a.count a.out.now) u z (lowering (trips rs ps gs)) (raising (trips rs ps gs))
    (made_none u _ (ap (across z) (lowering_done rs ps gs c.requires.0 c.requires.1 l.i (omega arith)) ∙ across_nil z) ∙ l.invariant)
