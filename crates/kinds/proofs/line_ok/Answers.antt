use Rattle.kinds.specs.Links.{line_number}
use Rattle.std.proofs.Common.{◌≡◌, ◌≤◌, ap, sym, ◌∙◌, length, arith, true}
use Rattle.spec.specs.Outcome.{below}
use Rattle.kinds.specs.Tests.{row_test}
use Rattle.kinds.specs.Places.{between_start, between_one, between_next, below_fails, rows_one, rows_more, rows_all}
use Rattle.kinds.proofs.line_ok.Goals.{then-j-gt1, else-j-gt1}
use Rattle.kinds.proofs.line_ok.Goals as goal

pub loop-j-init : goal.loop-j-init
loop-j-init c =
    let a = c.args in
    let n = c.none-between.ensures in
    (between_start a.rows.now a.vertices.now _ _ 1 n.0 n.1 (omega arith), rows_one a.rows.now a.vertices.now (line_number a.ring))

pub returns-then-not-row_ok : goal.returns-then-not-row_ok
returns-then-not-row_ok c =
    let a = c.args in
    below_fails (row_test a.rows.now a.vertices.now (line_number a.ring)) (length a.vertices.now) c.loop-j.j c.loop-j-test.true (sym c.row_ok.ensures ∙ c.if-not-row_ok.true)

pub loop-j-preserved : goal.loop-j-preserved
loop-j-preserved c =
    let a = c.args in
    let o = c.loop-j in (
      elim c.if-j-gt1.branch [
        | then-j-gt1 w ↦ between_next a.rows.now a.vertices.now o.between.low o.between.high _ _ o.j (ap (λ v. v.low) w.between-is ∙ w.insert.ensures.0) (ap (λ v. v.high) w.between-is ∙ w.insert.ensures.1) w.if-j-gt1.true o.invariant.0
        | else-j-gt1 w ↦ between_one a.rows.now a.vertices.now o.between.low o.between.high _ _ o.j (ap (λ v. v.low) w.between-is) (ap (λ v. v.high) w.between-is) w.if-j-gt1.false o.invariant.0
      ],
      rows_more a.rows.now a.vertices.now (line_number a.ring) o.j o.invariant.1 (sym c.row_ok.ensures ∙ c.if-not-row_ok.false),
    )

pub returns : goal.returns
returns c =
    let a = c.args in
    let o = c.loop-j in
    let all : (2 ≤ length a.vertices.now) → below (row_test a.rows.now a.vertices.now (line_number a.ring)) (length a.vertices.now) ≡ true = λ h.
    let z : o.j ≡ length a.vertices.now = omega (arith, o.auto.j-end) in
    sym (ap (below (row_test a.rows.now a.vertices.now (line_number a.ring))) z) ∙ o.invariant.1 in
    rows_all a.rows.now a.vertices.now (line_number a.ring) (length a.vertices.now) all
