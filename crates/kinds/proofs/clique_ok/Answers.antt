use Rattle.std.proofs.Common.{◌≡◌, ap, sym, ◌∙◌, refl, get_or, length, arith}
use Rattle.spec.specs.Outcome.{below}
use Rattle.kinds.specs.Tests.{row_test}
use Rattle.kinds.specs.Places.{below_start, below_next, below_fails, row_clique, rows_more, clique_over}
use Rattle.kinds.proofs.clique_ok.Goals as goal

pub loop-v-init : goal.loop-v-init
unfolding below
loop-v-init c =
    let a = c.args in
    let n = c.none-before.ensures in
    (below_start a.rows.now a.vertices.now _ _ n.0 n.1, refl)

pub returns-then-v-ge128 : goal.returns-then-v-ge128
returns-then-v-ge128 c = clique_over c.args.rows.now c.args.vertices.now c.loop-v.v-index c.loop-v-test.true c.if-v-ge128.true

pub returns-then-not-all_joined : goal.returns-then-not-all_joined
returns-then-not-all_joined c =
    let a = c.args in
    let o = c.loop-v in
    let v = get_or a.vertices.now o.v-index 0 in
    below_fails (row_test a.rows.now a.vertices.now 3) (length a.vertices.now) o.v-index c.loop-v-test.true
    (row_clique a.rows.now a.vertices.now o.v-index ∙ sym (o.invariant.0 v c.if-v-ge128.false) ∙ sym c.all_joined.ensures ∙ c.if-not-all_joined.true)

pub loop-v-preserved : goal.loop-v-preserved
loop-v-preserved c =
    let a = c.args in
    let o = c.loop-v in
    let v = get_or a.vertices.now o.v-index 0 in
    let w = row_clique a.rows.now a.vertices.now o.v-index ∙ sym (o.invariant.0 v c.if-v-ge128.false) ∙ sym c.all_joined.ensures ∙ c.if-not-all_joined.false in
    (below_next a.rows.now a.vertices.now o.before.low o.before.high _ _ o.v-index c.insert.ensures.0 c.insert.ensures.1 c.if-v-ge128.false o.invariant.0, rows_more a.rows.now a.vertices.now 3 o.v-index o.invariant.1 w)

pub returns : goal.returns
returns c =
    let a = c.args in
    let o = c.loop-v in
    let z : o.v-index ≡ length a.vertices.now = omega (arith, o.auto.v-index-end) in
    sym (sym (ap (below (row_test a.rows.now a.vertices.now 3)) z) ∙ o.invariant.1)
