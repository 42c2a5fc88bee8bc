use Rattle.std.proofs.Common.{arith}
use Rattle.std.proofs.lemmas.Result.{err_from_is_err_and}
use Rattle.zoning.specs.Bytes.{bytes, present, missing}
use Rattle.placing.specs.Placing.{vertex_short, vertex_over, vertex_twice, vertex_good}
use Rattle.placing.proofs.read_vertex.Goals.{then-i-n-via-then-i-n, then-i-n-via-else-i-n+then-marks-i}
use Rattle.placing.proofs.read_vertex.Goals as goal

pub returns-in_err-v : goal.returns-in_err-v
returns-in_err-v c = λ l k.
    let a = c.args in
    let p = err_from_is_err_and c.from_residual.result c.from_residual.ensures.1 in
    let w = missing (bytes a.payload.now) a.o c.byte.result c.byte.ensures _ _ c.in_err-v.ensures.value in
    rw (p.1, p.2, w.1) (vertex_short _ _ _ _ _ _ k (w.0 25))

pub returns-then-i-n : goal.returns-then-i-n
returns-then-i-n c = λ l k.
    let a = c.args in
    let v = present (bytes a.payload.now) a.o c.byte.result c.byte.ensures _ _ c.in_ok-v.ensures.value 25 in
    elim c.then-i-n.branch [
      | then-i-n-via-then-i-n w ↦ vertex_over _ _ _ _ _ _ k _ v w.if-i-n.true
      | then-i-n-via-else-i-n+then-marks-i w ↦ vertex_twice _ _ _ _ _ _ k _ v w.if-i-n.false w.if-marks-i.true
    ]

pub returns : goal.returns
returns c = λ l k.
    let a = c.args in
    let v = present (bytes a.payload.now) a.o c.byte.result c.byte.ensures _ _ c.in_ok-v.ensures.value 25 in
    vertex_good _ _ _ _ _ _ k _ v c.if-i-n.false (omega arith) c.if-marks-i.false
