use borrow.Author.Tests.{eqb-true, eqb-false}
use native.Mathlib.Omega.{arith}
use Prim.Native.Nat.{ℕ, ◌*◌, ◌/◌, ◌<◌}
use mathlib.Core.List.{List, []}
use mathlib.Core.Path.{◌≡◌, ap, sym, ◌∙◌}
use lib.ListN.{length, get_or}
use Rattle.std.specs.Simd.{first_chunks}
use Rattle.checking.specs.Block.{block_at, chunk_at}
use Rattle.checking.specs.Checked.{size_odd, size_none, size_over, going_start, going_sum, going_head, going_fill, going_end, going_whole, good_le, going_more}
use Rattle.checking.proofs.check_kind.Goals.{then-not-is_empty-via-then-not-is_empty, then-not-is_empty-via-else-not-is_empty+then-count-lt1, then-not-is_empty-via-else-not-is_empty+else-count-lt1+then-count-limit}
use Rattle.checking.proofs.check_kind.Goals as goal

-- block i of the file's blocks
block : (f : List ℕ) (blocks : List (List ℕ)) (i : ℕ) → blocks ≡ first_chunks 512 (length f / 512) f → length blocks ≡ length f / 512 → i < length blocks
    → get_or blocks i [] ≡ block_at f (i * 512)
block f blocks i e l h = ap (λ (x : List (List ℕ)). get_or x i []) e ∙ chunk_at (length f / 512) i f [] (omega arith)

pub returns-then-not-is_empty-clause-by_index : goal.returns-then-not-is_empty-clause-by_index
returns-then-not-is_empty-clause-by_index c base =
    let f = c.args.file.now in
    let n = c.args.kind in
    let m = c.args.limit in
    let e = c.as_chunks.ensures in
    elim c.then-not-is_empty.branch [
      | then-not-is_empty-via-then-not-is_empty w ↦ size_odd f base n m (λ z. eqb-false _ _ (sym c.is_empty.ensures ∙ w.if-not-is_empty.true) (e.back_len ∙ z))
      | then-not-is_empty-via-else-not-is_empty+then-count-lt1 w ↦ size_none f base n m (sym e.back_len ∙ eqb-true _ _ (sym c.is_empty.ensures ∙ w.if-not-is_empty.false)) (omega (arith, e.front_len, w.if-count-lt1.true))
      | then-not-is_empty-via-else-not-is_empty+else-count-lt1+then-count-limit w ↦ size_over f base n m (sym e.back_len ∙ eqb-true _ _ (sym c.is_empty.ensures ∙ w.if-not-is_empty.false)) (omega (arith, e.front_len, w.if-count-lt1.false)) (omega (arith, e.front_len, w.if-count-limit.true))
    ]

pub loop-i-init : goal.loop-i-init
loop-i-init c = going_start _ _ c.args.file.now _ (sym c.as_chunks.ensures.back_len ∙ eqb-true _ _ (sym c.is_empty.ensures ∙ c.if-not-is_empty.false)) c.as_chunks.ensures.front_len c.if-count-lt1.false (omega (arith, c.if-count-limit.false))

pub returns-then-not-sum_ok : goal.returns-then-not-sum_ok
returns-then-not-sum_ok c =
    let f = c.args.file.now in
    let o = c.loop-i in
    let b = block f _ o.i c.as_chunks.ensures.front c.as_chunks.ensures.front_len c.loop-i-test.true in
    record {
      by_index = going_sum _ _ f _ o.i o.len o.invariant c.loop-i-test.true (rw b at (sym c.sum_ok.ensures ∙ c.if-not-sum_ok.true));
      held = omega (arith, o.invariant.limited, c.loop-i-test.true);
    }

pub returns-then-not-head_ok : goal.returns-then-not-head_ok
returns-then-not-head_ok c =
    let f = c.args.file.now in
    let o = c.loop-i in
    let b = block f _ o.i c.as_chunks.ensures.front c.as_chunks.ensures.front_len c.loop-i-test.true in
    record {
      by_index = going_head _ _ f _ o.i o.len o.invariant c.loop-i-test.true (rw b at (sym c.sum_ok.ensures ∙ c.if-not-sum_ok.false)) (rw b at (sym c.head_ok.ensures ∙ c.if-not-head_ok.true));
      held = omega (arith, o.invariant.limited, c.loop-i-test.true);
    }

pub returns-then-not-fill_ok : goal.returns-then-not-fill_ok
returns-then-not-fill_ok c =
    let f = c.args.file.now in
    let o = c.loop-i in
    let b = block f _ o.i c.as_chunks.ensures.front c.as_chunks.ensures.front_len c.loop-i-test.true in
    record {
      by_index = going_fill _ _ f _ o.i o.len o.invariant c.loop-i-test.true (rw b at (sym c.sum_ok.ensures ∙ c.if-not-sum_ok.false)) (rw b at (sym c.head_ok.ensures ∙ c.if-not-head_ok.false)) (rw b at (sym c.fill_ok.ensures ∙ c.if-not-fill_ok.true));
      held = omega (arith, o.invariant.limited, c.loop-i-test.true);
    }

pub overflow_add-len : goal.overflow_add-len
overflow_add-len c =
    let o = c.loop-i in
    let b = block c.args.file.now _ o.i c.as_chunks.ensures.front c.as_chunks.ensures.front_len c.loop-i-test.true in
    omega (
      arith,
      o.invariant.limited,
      good_le _ _ c.args.file.now _ o.i o.len o.invariant c.loop-i-test.true c.word_at-len.result (rw b at c.word_at-len.ensures.0)
          (rw b at (sym c.sum_ok.ensures ∙ c.if-not-sum_ok.false)) (rw b at (sym c.head_ok.ensures ∙ c.if-not-head_ok.false)) (rw b at (sym c.fill_ok.ensures ∙ c.if-not-fill_ok.false)),
    )

pub loop-i-preserved : goal.loop-i-preserved
loop-i-preserved c =
    let o = c.loop-i in
    let b = block c.args.file.now _ o.i c.as_chunks.ensures.front c.as_chunks.ensures.front_len c.loop-i-test.true in
    going_more _ _ c.args.file.now _ o.i o.len o.invariant c.loop-i-test.true c.word_at-len.result (rw b at c.word_at-len.ensures.0)
    (rw b at (sym c.sum_ok.ensures ∙ c.if-not-sum_ok.false)) (rw b at (sym c.head_ok.ensures ∙ c.if-not-head_ok.false)) (rw b at (sym c.fill_ok.ensures ∙ c.if-not-fill_ok.false))

pub returns : goal.returns
returns c =
    let o = c.loop-i in
    record { by_index = going_end _ _ c.args.file.now _ o.i o.len o.invariant (omega arith); held = going_whole _ _ c.args.file.now _ o.i o.len o.invariant (omega arith) }
