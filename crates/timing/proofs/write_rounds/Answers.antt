use borrow.Author.Rules.{rules}
use Prim.Native.Nat.{◌+◌, ◌*◌}
use mathlib.Core.Path.{◌≡◌, refl}
use Rattle.replay.specs.Moves.{three_bytes}
use Rattle.timing.specs.Rounds.{timing_start, timing_more, timing_end, entry_small, left_entry_small}
use native.Mathlib.Omega.{arith}
use Rattle.timing.proofs.write_rounds.Goals as goal

pub loop-i-init : goal.loop-i-init
loop-i-init c = (refl, refl, timing_start _ _ _)

pub overflow_add-last : goal.overflow_add-last
overflow_add-last c =
    let k = c.loop-i.invariant.2.kept in
    omega (arith, entry_small _ _ _ _ k c.three_from-x.result.first (search rules))

pub overflow_cast-round : goal.overflow_cast-round
overflow_cast-round c =
    let k = c.loop-i.invariant.2.kept in
    omega (arith, c.max-round.ensures, entry_small _ _ _ _ k c.three_from-x.result.first (search rules), left_entry_small _ _ _ _ k c.three_from-x.result.third (search rules))

pub place_after-at-requires : goal.place_after-at-requires
place_after-at-requires c = omega (arith, c.loop-i.invariant.0, c.loop-i.invariant.2.within)

pub word_after-place-requires : goal.word_after-place-requires
word_after-place-requires c = omega (arith, c.loop-i.invariant.1, c.loop-i.invariant.2.within)

pub loop-i-preserved : goal.loop-i-preserved
loop-i-preserved c =
    let o = c.loop-i in
    let x = c.three_from-x in
    let e = three_bytes c.args.file.now o._i x.result (x.ensures (2 + o._i * 3) o.invariant.0) in
    let w : 2 + o._i * 3 + 3 ≡ 2 + (o._i + 1) * 3 = omega arith in
    let y : 2 + o._i * 2 + 2 ≡ 2 + (o._i + 1) * 2 = omega arith in (
      rw w at (c.place_after-at.ensures (2 + o._i * 3) o.invariant.0),
      rw y at (c.word_after-place.ensures (2 + o._i * 2) o.invariant.1 (omega arith)),
      timing_more _ _ _ o._i _ _ _ o.last o.left o.out _ _ o.invariant.2 (search rules) e.0 e.1 e.2
          (search rules)
          (search rules)
          (search rules)
          c.max-round.ensures
          (c.put_word_at.ensures (2 + o._i * 2) o.invariant.1 (omega arith)),
    )

pub returns : goal.returns
returns c = timing_end _ _ _ _ _ _ _ c.loop-i.invariant.2 (search rules)
