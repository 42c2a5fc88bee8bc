use Rattle.std.proofs.Common.{◌≡◌, ℕ, ◌-◌, ◌≤◌, drop, ap, ◌∙◌, arith}
use Rattle.std.proofs.lemmas.Nat.{pow_pos}
use Rattle.tabling.specs.Places.{free_word, free_room, free_start, free_step, bit_under}
use Rattle.tabling.proofs.placing.free_word.Goals as goal

pub loop-k-init : goal.loop-k-init
loop-k-init g c = record { fits = pow_pos _; word = λ a t. free_start a c.min-k.result (omega (arith, c.min-k.ensures, t.0)) }

pub overflow_mul-w : goal.overflow_mul-w
overflow_mul-w g c = let o = c.loop-k in omega (arith, (free_room o.k o.w 0 (omega arith) (omega (arith, c.min-k.ensures)) o.invariant.fits (omega arith)).1)

pub overflow_add-w : goal.overflow_add-w
overflow_add-w g c =
    let o = c.loop-k in
    omega (arith, (free_room o.k o.w c.from.result (omega arith) (omega (arith, c.min-k.ensures)) o.invariant.fits (omega (arith, c.from.ensures, bit_under c.is_empty.result))).1)

pub loop-k-preserved : goal.loop-k-preserved
loop-k-preserved g c =
    let o = c.loop-k in
    let u : c.loop-k.k ≤ 64 = omega (arith, c.min-k.ensures) in
    record {
      fits = (free_room o.k o.w c.from.result (omega arith) u o.invariant.fits (omega (arith, c.from.ensures, bit_under c.is_empty.result))).0;
      word = λ a t. free_step a o.k o.w c.from.result c.is_empty.result (omega arith) (omega (arith, c.min-k.ensures, t.0)) u (o.invariant.word a t) c.from.ensures (t.1 (o.k - 1) (omega (arith, c.min-k.ensures)) _ c.is_empty.ensures);
    }

pub returns : goal.returns
returns g c = λ a t.
    let o = c.loop-k in
    let e : c.loop-k.k ≡ 0 = omega arith in
    o.invariant.word a t ∙ ap (λ (i : ℕ). free_word (64 - i) (drop i a)) e
