use Rattle.std.proofs.lemmas.Result.{err_from_is_err_and}
use Rattle.zoning.specs.Bytes.{bytes, present, missing}
use Rattle.zoning.specs.Heads.{count_short, count_low, count_high, count_good}
use Rattle.zoning.proofs.heads.read_count.Goals.{then-n-lt1-via-then-n-lt1, then-n-lt1-via-else-n-lt1+then-n-most}
use Rattle.zoning.proofs.heads.read_count.Goals as goal

pub returns-in_err-n : goal.returns-in_err-n
returns-in_err-n c =
    let a = c.args in
    let p = err_from_is_err_and c.from_residual.result c.from_residual.ensures.1 in
    let w = missing (bytes a.payload.now) a.o c.byte.result c.byte.ensures _ _ c.in_err-n.ensures.value in
    rw (p.1, p.2, w.1) (count_short _ _ _ (w.0 15))

pub returns-then-n-lt1 : goal.returns-then-n-lt1
returns-then-n-lt1 c =
    let a = c.args in
    let k = present (bytes a.payload.now) a.o c.byte.result c.byte.ensures _ _ c.in_ok-n.ensures.value 15 in
    elim c.then-n-lt1.branch [
      | then-n-lt1-via-then-n-lt1 w ↦ count_low _ _ _ _ k w.if-n-lt1.true
      | then-n-lt1-via-else-n-lt1+then-n-most w ↦ count_high _ _ _ _ k w.if-n-lt1.false w.if-n-most.true
    ]

pub returns : goal.returns
returns c =
    let a = c.args in
    let k = present (bytes a.payload.now) a.o c.byte.result c.byte.ensures _ _ c.in_ok-n.ensures.value 15 in
    count_good _ _ _ _ k c.if-n-lt1.false c.if-n-most.false
