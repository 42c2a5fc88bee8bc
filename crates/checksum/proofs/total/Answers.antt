use borrow.Author.Rules.{rules}
use native.Mathlib.Omega.{arith}
use Prim.Native.Nat.{◌+◌, ◌-◌, ◌*◌}
use mathlib.Core.Path.{◌≡◌, sym, ◌∙◌}
use lib.ListN.{length, drop}
use Rattle.checksum.specs.Sum.{fold_none, fold_eight, fold_all}
use Rattle.checksum.proofs.total.Goals as goal

pub loop-i-init : goal.loop-i-init
loop-i-init c = (search rules, search rules, fold_none c.args.block.now (λ i. search rules) (search rules))

pub loop-i-preserved : goal.loop-i-preserved
loop-i-preserved c =
    let f = c.args.block.now in
    let l = c.loop-i in
    let k : length f ≡ 512 = search rules in
    let p : l.i * 8 + 8 ≡ (l.i + 1) * 8 = omega arith in
    let n : 512 - l.i * 8 - 8 ≡ 512 - (l.i * 8 + 8) = omega arith in (
      search rules,
      search rules,
      rw (c.little_at-even.ensures.0, c.little_at-odd.ensures.0, ← p, ← n)
          (sym (fold_eight f l.even l.odd (l.i * 8) (512 - l.i * 8) (omega arith) (omega arith)) ∙ l.invariant.2),
    )

pub returns : goal.returns
returns c =
    let l = c.loop-i in
    (sym (fold_all (drop (l.i * 8) c.args.block.now) (l.even + l.odd) (512 - l.i * 8) (omega arith)) ∙ l.invariant.2, search rules)
