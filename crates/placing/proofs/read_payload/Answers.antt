use Rattle.std.proofs.Common.{◌∙◌, arith}
use Rattle.std.proofs.lemmas.Result.{err_from_is_err_and}
use Rattle.zoning.specs.Bytes.{bytes, held_size, present, missing}
use Rattle.placing.specs.Placing.{placing_refused, count_short, count_over, count_above, placing_fault, placing_surplus, placing_whole}
use Rattle.placing.proofs.read_payload.Goals.{then-many-via-then-many, then-many-via-else-many+then-robots-n}
use Rattle.placing.proofs.read_payload.Goals as goal

pub returns-in_err-robots : goal.returns-in_err-robots
returns-in_err-robots c = λ p on.
    let a = c.args in
    let r = err_from_is_err_and c.from_residual.result c.from_residual.ensures.1 in
    let w = missing (bytes a.payload.now) 0 c.byte.result c.byte.ensures _ _ c.in_err-robots.ensures.value in
    rw (r.1, r.2, w.1) (placing_refused _ _ (count_short _ _ p on (w.0 25)))

pub returns-then-many : goal.returns-then-many
returns-then-many c = λ p on.
    let a = c.args in
    let k = present (bytes a.payload.now) 0 c.byte.result c.byte.ensures _ _ c.in_ok-robots.ensures.value 25 in
    placing_refused _ _ (elim c.then-many.branch [
      | then-many-via-then-many w ↦ count_over _ _ p on _ k (omega arith)
      | then-many-via-else-many+then-robots-n w ↦ count_above _ _ p on _ k (omega arith) (omega arith)
    ])

pub returns-in_err-tables : goal.returns-in_err-tables
returns-in_err-tables c = λ p on.
    let a = c.args in
    let k = present (bytes a.payload.now) 0 c.byte.result c.byte.ensures _ _ c.in_ok-robots.ensures.value 25 in
    let r = err_from_is_err_and c.from_residual-in_err-tables.result c.from_residual-in_err-tables.ensures.1 in
    rw (r.1, r.2) (placing_fault _ _ p on _ k (omega arith) (omega arith) _ c.in_err-tables.ensures)

pub returns-then-end-payload : goal.returns-then-end-payload
returns-then-end-payload c = λ p on.
    let a = c.args in
    let k = present (bytes a.payload.now) 0 c.byte.result c.byte.ensures _ _ c.in_ok-robots.ensures.value 25 in
    placing_refused _ _ (placing_surplus _ _ p on _ k (omega arith) (omega arith) _ c.in_ok-tables.ensures (λ e. c.if-end-payload.true (e ∙ held_size a.payload.now.file.now a.payload.now.len)))

pub returns : goal.returns
returns c = λ p on.
    let a = c.args in
    let k = present (bytes a.payload.now) 0 c.byte.result c.byte.ensures _ _ c.in_ok-robots.ensures.value 25 in
    placing_whole _ _ p on _ k (omega arith) (omega arith) _ c.in_ok-tables.ensures (omega (arith, held_size a.payload.now.file.now a.payload.now.len))
