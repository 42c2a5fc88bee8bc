use borrow.Author.Rules.{rules}
use mathlib.Core.Path.{◌≡◌}
use Prim.Native.Nat.{◌+◌, ◌*◌}
use Rattle.replay.specs.Moves.{file_bytes, three_bytes, three_move_lem}
use Rattle.drawing.specs.Drawn.{drawing_next, all_drawn}
use native.Mathlib.Omega.{arith}
use Rattle.drawing.proofs.draw_moves.Goals as goal

pub loop-i-preserved : goal.loop-i-preserved
loop-i-preserved c =
    let o = c.loop-i in (
      omega (arith, c.draw_move-d.ensures.steps_bound.0),
      omega (arith, c.draw_move-d.ensures.steps_bound.1),
      (let w : 2 + o.i * 3 + 3 ≡ 2 + (o.i + 1) * 3 = omega arith in rw w at (c.place_after-at.ensures (2 + o.i * 3) o.invariant.2)),
      λ m h g en.
          let x = c.three_from-x in
          let t = x.ensures (2 + o.i * 3) o.invariant.2 in
          drawing_next m (file_bytes c.args.file.now) _ _ _ o.i _ _ _ _ _ _ _ (o.invariant.3 m h g en) c.loop-i-test.true
          (three_move_lem c.args.file.now o.i x.result t) c.shift.ensures
          (c.draw_move-d.ensures.move_drawn m h (rw (three_bytes c.args.file.now o.i x.result t).2 (en o.i c.loop-i-test.true)) g),
    )

pub returns : goal.returns
returns c = λ m h g en. all_drawn m _ _ _ _ c.loop-i.i _ _ _ (c.loop-i.invariant.3 m h g en) (search rules)
