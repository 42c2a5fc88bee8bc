-- `checksum_of`: the sum is folded by one rest, but for a sum of 0.
use borrow.Author.Rules.{rules}
use native.Mathlib.Omega.{arith}
use mathlib.Core.Path.{sym, ◌∙◌}
use lib.ListN.{take}
use Rattle.checksum.specs.Sum.{sum_unstored, checksum_zero, checksum_more}
use Rattle.checksum.proofs.checksum_of.Goals as goal

pub returns-then-s-eq0 : goal.returns-then-s-eq0
returns-then-s-eq0 c =
    let f = c.args.block.now in
    let e = c.total-s.ensures.0 ∙ sum_unstored f (λ i. search rules) (search rules) c.requires in
    sym (checksum_zero (take 510 f) c.total-s.result e c.if-s-eq0.true)

pub returns : goal.returns
returns c =
    let f = c.args.block.now in
    let e = c.total-s.ensures.0 ∙ sum_unstored f (λ i. search rules) (search rules) c.requires in
    sym (checksum_more (take 510 f) c.total-s.result e (omega arith))
