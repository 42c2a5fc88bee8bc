use mathlib.Core.Path.{refl, ap, sym, ◌∙◌}
use Prim.Native.Nat.{◌<◌}
use native.Mathlib.Omega.{arith}
use Rattle.std.proofs.lemmas.List.{length-replicate}
use lib.ListN.{length, length-set}
use Rattle.spec.specs.Terms.{zone_count}
use Rattle.theory.specs.Basics.Lists.{get_d_uniform}
use Rattle.judge.specs.Filling.{filled_more, filled_all}
use Rattle.judge.proofs.ending.lists_of.Goals as goal

pub loop-z-init : goal.loop-z-init
loop-z-init g c =
    (length-replicate g.row.L 0 ∙ sym c.room-room.ensures.1, refl, λ m n k kind zone place rows d e. record { lists = λ y l b. absurd (omega arith); few = λ y h. rw (get_d_uniform 64 y 0) (omega arith) })

pub loop-z-preserved : goal.loop-z-preserved
loop-z-preserved g c =
    let t = c.args.map.now in
    let l = c.loop-z in
    let w = c.fill_zone.ensures in (
      w.change.long ∙ l.invariant.0,
      ap length w.count ∙ length-set l.lists.counts l.z _ ∙ l.invariant.1,
      λ m n k kind zone place rows d e.
          let h : l.z < zone_count m = rw (e, ← c.zones-z-end.ensures) c.loop-z-test.true in
          filled_more m n k kind t.first t.size t.listed zone place rows d _ l.lists.counts l.lists.cells _ _ l.z l.invariant.0 l.invariant.1 h (l.invariant.2 m n k kind zone place rows d e) w,
    )

pub returns : goal.returns
returns g c =
    let l = c.loop-z in
    (l.invariant.0, l.invariant.1, λ m n k kind zone place rows d e h. filled_all m c.args.map.now.first l.lists.counts l.lists.cells _ l.z (rw (e, ← c.zones-z-end.ensures) c.loop-z-test.false) (l.invariant.2 m n k kind zone place rows d e))
