use Rattle.std.proofs.Common.{◌≡◌, ◌+◌, ◌-◌, refl, ap₂, ◌∙◌, arith}
use Rattle.std.proofs.Common.{eqb, get_or}
use Rattle.kinds.specs.Words.{out_from, out_room, out_more, byte_out}
use Rattle.kinds.proofs.outside_word.Goals as goal

pub loop-i-init : goal.loop-i-init
unfolding out_from
loop-i-init c = refl

pub overflow_mul-word : goal.overflow_mul-word
overflow_mul-word c =
    let a = c.args in
    let o = c.loop-i in
    let r = out_room a.zone.now a.z (a.from + o.i) (64 - o.i) (omega arith) in
    let e : o.word ≡ out_from a.zone.now a.z (a.from + o.i) (64 - o.i) = o.invariant in
    record { fits = omega arith }

pub overflow_add-word : goal.overflow_add-word
overflow_add-word c =
    let a = c.args in
    let o = c.loop-i in
    let r = out_room a.zone.now a.z (a.from + o.i) (64 - o.i) (omega arith) in
    let e : o.word ≡ out_from a.zone.now a.z (a.from + o.i) (64 - o.i) = o.invariant in
    let b = (byte_out (eqb (get_or a.zone.now (a.from + (o.i - 1)) 0) a.z)).1 in
    record { fits = omega (arith, b, c.from.ensures, r, e) }

pub loop-i-preserved : goal.loop-i-preserved
loop-i-preserved c =
    let a = c.args in
    let o = c.loop-i in
    let e : o.word ≡ out_from a.zone.now a.z (a.from + o.i) (64 - o.i) = o.invariant in
    omega (arith, out_more a.zone.now a.z a.from o.i c.loop-i-test.true (omega arith), e, c.from.ensures, (byte_out (eqb (get_or a.zone.now (a.from + (o.i - 1)) 0) a.z)).0)

pub returns : goal.returns
returns c =
    let a = c.args in
    let o = c.loop-i in
    let x : a.from + o.i ≡ a.from = omega arith in
    let y : 64 - o.i ≡ 64 = omega arith in
    o.invariant ∙ ap₂ (out_from a.zone.now a.z) x y
