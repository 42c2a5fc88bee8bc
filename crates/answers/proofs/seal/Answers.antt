-- `seal`: at each turn, the blocks passed are finished and the others as they were.
use lib.ListN.{length-drop, length-take}
use lib.Seq.{length-take-le}
use Rattle.wire.specs.Payload.{payload}
use Rattle.answers.specs.Sealed.{up_to, up_all, part_is, seal_step, seal_end}
use native.Mathlib.Omega.{arith}
use Prim.Native.Nat.{ℕ, ◌+◌, ◌-◌, ◌*◌, ◌/◌}
use mathlib.Core.Path.{◌≡◌, refl, ap, ◌∙◌}
use lib.ListN.{length, take, drop}
use borrow.Author.Rules.{rules}
use Rattle.answers.proofs.seal.Goals as goal

pub loop-i-init : goal.loop-i-init
unfolding up_to
loop-i-init c = (refl, refl)

pub seal_block-requires : goal.seal_block-requires
seal_block-requires c =
    let o = c.loop-i in
    let j : o.i * 512 + 512 - o.i * 512 ≡ 512 = omega arith in (
      ap (λ (x : ℕ). length (take x (drop (o.i * 512) o.out))) j ∙ length-take-le 512 (drop (o.i * 512) o.out) (omega (arith, length-drop (o.i * 512) o.out)),
      omega arith,
    )

pub loop-i-preserved : goal.loop-i-preserved
loop-i-preserved c =
    let a = c.args in
    let o = c.loop-i in
    let k = a.kind in
    let f = c.min-fill.result in
    let j : o.i * 512 + 512 - o.i * 512 ≡ 512 = omega arith in
    let e = seal_step a.out.now o.out c.seal_block.new.part k o.i a.len f _ j (search rules)
    (part_is a.out.now o.i a.len f (omega arith) (omega arith) c.min-fill.ensures) o.invariant.1 c.seal_block.ensures in
    (ap length e ∙ up_all a.out.now k (o.i + 1) (take a.len (payload a.out.now)) (omega arith), e)

pub returns : goal.returns
returns c =
    let a = c.args in
    let o = c.loop-i in
    let n = (a.len + 503) / 504 in
    let e : o.i ≡ n = omega arith in
    let l = o.invariant.0 in
    seal_end a.out.now o.out _ a.kind a.len n _ _ (omega arith) refl (rw e at o.invariant.1) l (c.fill.ensures.after (λ y h. h)) (simp (length-take, length-drop) (omega arith)) refl
