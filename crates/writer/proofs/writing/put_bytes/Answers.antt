-- `put_bytes`: the bytes stand side by side, or are laid one by one.
use borrow.Author.Rules.{rules}
use borrow.Author.Tests.{leb-true, lt-leb}
use native.Mathlib.Omega.{arith}
use Prim.Native.Nat.{ℕ, ◌+◌, ◌-◌, ◌%◌, ◌≤◌}
use mathlib.Core.Bool.{true, false}
use mathlib.Core.List.{List}
use mathlib.Core.Path.{◌≡◌, ap, sym, ◌∙◌}
use lib.ListN.{length, get_or}
use Rattle.writer.specs.Laid.{laid, laid_out, laid_run, laid_more}
use Rattle.writer.proofs.writing.put_bytes.Goals.{then-inside, else-inside}
use Rattle.writer.proofs.writing.put_bytes.Goals as goal

pub loop-i-preserved : goal.loop-i-preserved
loop-i-preserved g c =
    let o = c.loop-i in
    let n : length c.args.bytes ≡ g.row.N = search rules in
    c.put_byte.ensures ∙ ap (λ (l : List ℕ). laid l (c.args.off + o.i) (get_or c.args.bytes o.i 0)) o.invariant ∙ sym (laid_more c.args.out.now c.args.off o.i c.args.bytes (omega arith))

pub returns-then-whole : goal.returns-then-whole
returns-then-whole g c =
    let a = c.args in
    let p = c.place_of-at.result in
    let n : length a.bytes ≡ g.row.N = search rules in
    elim c.if-inside.branch [
      | then-inside w ↦
          let l = leb-true (p + g.row.N) (length a.out.now) (sym w.whole-is ∙ c.if-whole.true) in
          let i : p % 512 + length a.bytes ≤ 510 = search rules in
          rw c.copy_from_slice.ensures.after (laid_run a.out.now p a.off (p + g.row.N - p) a.bytes c.place_of-at.ensures i (omega (arith, l)) (omega arith))
      | else-inside w ↦ let z : true ≡ false = sym c.if-whole.true ∙ w.whole-is ∙ lt-leb _ _ w.if-inside.false in cc
    ]

pub returns-else-off-out : goal.returns-else-off-out
returns-else-off-out g c = sym (laid_out c.args.out.now c.args.off c.args.bytes (omega arith))
