-- `sum_ok`: the sum of all words tells whether the stored one is the checksum of the others.
use borrow.Author.Rules.{rules}
use borrow.Author.Tests.{eq-eqb}
use mathlib.Core.Bool.{not}
use native.Mathlib.Omega.{arith}
use mathlib.Core.Path.{◌≡◌, ap, sym, ◌∙◌}
use mathlib.Core.Logic.{◌≢◌}
use Rattle.checksum.specs.Sum.{stored_zeros, stored_nothing, stored_sums}
use Rattle.checking.proofs.sum_ok.Goals as goal

pub returns-then-all_ones : goal.returns-then-all_ones
returns-then-all_ones c =
    let q : c.word_at-stored.result ≡ 65535 = search rules in
    c.zeros.ensures ∙ stored_zeros c.args.block.now (λ i. search rules) (search rules) (sym c.word_at-stored.ensures.0 ∙ q)

pub returns-else-s-ne0 : goal.returns-else-s-ne0
returns-else-s-ne0 c =
    ap not (eq-eqb _ _ c.if-s-ne0.false) ∙ stored_nothing c.args.block.now (λ i. search rules) (search rules) c.total-s.result c.total-s.ensures.0 c.if-s-ne0.false

pub returns-then-s-ne0 : goal.returns-then-s-ne0
returns-then-s-ne0 c =
    let q : c.word_at-stored.result ≢ 65535 = search rules in
    stored_sums c.args.block.now (λ i. search rules) (search rules) c.total-s.result c.total-s.ensures.0 (λ z. q (c.word_at-stored.ensures.0 ∙ z)) (omega arith)
