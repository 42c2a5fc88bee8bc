use borrow.Author.Rules.{rules}
use Rattle.stepping.specs.Steps.{next_room, next_to, next_is, next_step, next_made, next_end}
use Rattle.walking.specs.Walk.{walk_start, walk_end, walk_over}
use Rattle.motion.specs.World.{world}
use Rattle.wire.specs.Payload.{payload, held_length}
use Prim.Native.Nat.{◌<◌}
use lib.ListN.{take}
use native.Mathlib.Omega.{arith}
use Rattle.resolve.proofs.walk.walk.Goals as goal

pub loop-i-init : goal.loop-i-init
loop-i-init g c =
    let a = c.args in
    (λ x. walk_start x.map x.given.accepted x.k x.given.few (take x.len (payload a.file.now)) a.count (world a.state.now 0 a.out.now) (omega (arith, held_length a.file.now x.len x.most, x.two)) x.consistent, c.payload_ahead-four.ensures.0)

pub returns-then-over : goal.returns-then-over
returns-then-over g c =
    λ x.
    let a = c.args in
    let l = c.loop-i in
    walk_over x.map x.given.accepted x.k x.given.few (take x.len (payload a.file.now)) a.count (world a.state.now 0 a.out.now) l.i l.o (world l.state l.made l.out) (l.invariant.0 x) (search rules)

pub list_length_at-e-requires : goal.list_length_at-e-requires
list_length_at-e-requires g c =
    let a = c.args in
    let x = c.requires in
    let l = c.loop-i in
    let w = l.invariant.0 x in
    let h : l.i < a.count = omega (arith, c.loop-i-test.true) in
    let f = l.invariant.1 (next_room a.file.now a.count a.map.now.kind a.map.now.first a.map.now.size a.map.now.listed a.map.now.zone a.map.now.place (world a.state.now 0 a.out.now) x l.i l.o (world l.state l.made l.out) w h) in
    let y = next_to a.file.now a.count a.map.now.kind a.map.now.first a.map.now.size a.map.now.listed a.map.now.zone a.map.now.place (world a.state.now 0 a.out.now) x l.i l.o (world l.state l.made l.out) w h l.four f in
    (search rules, (search rules, (y.below, y.here)))

pub overflow_add-next : goal.overflow_add-next
overflow_add-next g c =
    let a = c.args in
    let x = c.requires in
    let l = c.loop-i in
    let w = l.invariant.0 x in
    let h : l.i < a.count = omega (arith, c.loop-i-test.true) in
    let f = l.invariant.1 (next_room a.file.now a.count a.map.now.kind a.map.now.first a.map.now.size a.map.now.listed a.map.now.zone a.map.now.place (world a.state.now 0 a.out.now) x l.i l.o (world l.state l.made l.out) w h) in
    let e = c.list_length_at-e.result in
    let q = c.list_length_at-e.ensures in
    omega (arith, next_end a.file.now a.count a.map.now.kind a.map.now.first a.map.now.size a.map.now.listed a.map.now.zone a.map.now.place (world a.state.now 0 a.out.now) x l.i l.o (world l.state l.made l.out) w h l.four f e q)

pub overflow_add-next-in-loop-i : goal.overflow_add-next-in-loop-i
overflow_add-next-in-loop-i g c =
    let a = c.args in
    let x = c.requires in
    let l = c.loop-i in
    let w = l.invariant.0 x in
    let h : l.i < a.count = omega (arith, c.loop-i-test.true) in
    let f = l.invariant.1 (next_room a.file.now a.count a.map.now.kind a.map.now.first a.map.now.size a.map.now.listed a.map.now.zone a.map.now.place (world a.state.now 0 a.out.now) x l.i l.o (world l.state l.made l.out) w h) in
    let e = c.list_length_at-e.result in
    let q = c.list_length_at-e.ensures in
    omega (arith, next_end a.file.now a.count a.map.now.kind a.map.now.first a.map.now.size a.map.now.listed a.map.now.zone a.map.now.place (world a.state.now 0 a.out.now) x l.i l.o (world l.state l.made l.out) w h l.four f e q)

pub payload_ahead-ahead-requires : goal.payload_ahead-ahead-requires
payload_ahead-ahead-requires g c =
    let a = c.args in
    let x = c.requires in
    let l = c.loop-i in
    let w = l.invariant.0 x in
    let h : l.i < a.count = omega (arith, c.loop-i-test.true) in
    let f = l.invariant.1 (next_room a.file.now a.count a.map.now.kind a.map.now.first a.map.now.size a.map.now.listed a.map.now.zone a.map.now.place (world a.state.now 0 a.out.now) x l.i l.o (world l.state l.made l.out) w h) in
    let e = c.list_length_at-e.result in
    let q = c.list_length_at-e.ensures in
    omega (arith, next_end a.file.now a.count a.map.now.kind a.map.now.first a.map.now.size a.map.now.listed a.map.now.zone a.map.now.place (world a.state.now 0 a.out.now) x l.i l.o (world l.state l.made l.out) w h l.four f e q)

pub make_step-made-requires : goal.make_step-made-requires
make_step-made-requires g c =
    let a = c.args in
    let x = c.requires in
    let l = c.loop-i in
    let w = l.invariant.0 x in
    let h : l.i < a.count = omega (arith, c.loop-i-test.true) in
    let f = l.invariant.1 (next_room a.file.now a.count a.map.now.kind a.map.now.first a.map.now.size a.map.now.listed a.map.now.zone a.map.now.place (world a.state.now 0 a.out.now) x l.i l.o (world l.state l.made l.out) w h) in
    let e = c.list_length_at-e.result in
    let q = c.list_length_at-e.ensures in
    (search rules, (search rules, (next_step a.file.now a.count a.map.now.kind a.map.now.first a.map.now.size a.map.now.listed a.map.now.zone a.map.now.place (world a.state.now 0 a.out.now) x l.i l.o (world l.state l.made l.out) w h l.four f e q, f)))

pub loop-i-preserved : goal.loop-i-preserved
loop-i-preserved g c =
    let a = c.args in
    let x = c.requires in
    let l = c.loop-i in
    let w = l.invariant.0 x in
    let h : l.i < a.count = omega (arith, c.loop-i-test.true) in
    let f = l.invariant.1 (next_room a.file.now a.count a.map.now.kind a.map.now.first a.map.now.size a.map.now.listed a.map.now.zone a.map.now.place (world a.state.now 0 a.out.now) x l.i l.o (world l.state l.made l.out) w h) in
    let e = c.list_length_at-e.result in
    let q = c.list_length_at-e.ensures in (
      λ x.
          let w = l.invariant.0 x in
          next_made a.file.now a.count a.map.now.kind a.map.now.first a.map.now.size a.map.now.listed a.map.now.zone a.map.now.place (world a.state.now 0 a.out.now) x l.i l.o (world l.state l.made l.out) w h l.four f e q _
          (c.make_step-made.ensures x.map x.n x.k x.len x.rows x.given w.consistent x.most (next_is a.file.now a.count a.map.now.kind a.map.now.first a.map.now.size a.map.now.listed a.map.now.zone a.map.now.place (world a.state.now 0 a.out.now) x l.i l.o (world l.state l.made l.out) w h l.four f e q)),
      c.payload_ahead-ahead.ensures.0,
    )

pub returns : goal.returns
returns g c =
    λ x.
    let a = c.args in
    let l = c.loop-i in
    (l.o, walk_end x.map x.given.accepted x.k x.given.few (take x.len (payload a.file.now)) a.count (world a.state.now 0 a.out.now) l.i l.o (world l.state l.made l.out) (l.invariant.0 x) (omega arith))
