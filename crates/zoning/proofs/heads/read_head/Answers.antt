use native.Mathlib.Omega.{arith}
use Rattle.std.proofs.Common.{◌+◌, sym, ap, ◌∙◌}
use Rattle.std.proofs.lemmas.Result.{err_from_is_err_and}
use Rattle.spec.specs.Outcome.{ok}
use Rattle.zoning.specs.Bytes.{bytes, present, missing}
use Rattle.zoning.specs.Heads.{head_short, head_kind, head_end, head_small, head_good}
use Rattle.zoning.proofs.heads.read_head.Goals as goal

pub returns-in_err-number : goal.returns-in_err-number
returns-in_err-number c =
    let a = c.args in
    let p = err_from_is_err_and c.from_residual.result c.from_residual.ensures.1 in
    let w = missing (bytes a.payload.now) a.o c.byte.result c.byte.ensures _ _ c.in_err-number.ensures.value in
    rw (p.1, p.2, w.1) (head_short (bytes a.payload.now) a.o (w.0 15))

pub returns-in_default : goal.returns-in_default
returns-in_default c =
    let a = c.args in
    let n = present (bytes a.payload.now) a.o c.byte.result c.byte.ensures _ _ c.in_ok-number.ensures.value 15 in
    head_kind (bytes a.payload.now) a.o _ n c.in_default.ensures.1

pub returns-in_err-size : goal.returns-in_err-size
returns-in_err-size c =
    let a = c.args in
    let p = err_from_is_err_and c.from_residual-in_err-size.result c.from_residual-in_err-size.ensures.1 in
    let n = present (bytes a.payload.now) a.o c.byte.result c.byte.ensures _ _ c.in_ok-number.ensures.value 15 in
    let w = missing (bytes a.payload.now) (a.o + 1) c.byte-2.result c.byte-2.ensures _ _ c.in_err-size.ensures.value in
    rw (p.1, p.2, w.1) (head_end (bytes a.payload.now) a.o c.in-Ok.kind (n ∙ ap ok (sym c.in-Ok.ensures)) (w.0 15))

pub returns-then-size-least : goal.returns-then-size-least
returns-then-size-least c =
    let a = c.args in
    let n = present (bytes a.payload.now) a.o c.byte.result c.byte.ensures _ _ c.in_ok-number.ensures.value 15 in
    let s = present (bytes a.payload.now) (a.o + 1) c.byte-2.result c.byte-2.ensures _ _ c.in_ok-size.ensures.value 15 in
    head_small (bytes a.payload.now) a.o c.in-Ok.kind (n ∙ ap ok (sym c.in-Ok.ensures)) _ s (omega (arith, c.least_size-least.ensures, c.if-size-least.true))

pub returns : goal.returns
returns c =
    let a = c.args in
    let n = present (bytes a.payload.now) a.o c.byte.result c.byte.ensures _ _ c.in_ok-number.ensures.value 15 in
    let s = present (bytes a.payload.now) (a.o + 1) c.byte-2.result c.byte-2.ensures _ _ c.in_ok-size.ensures.value 15 in
    head_good (bytes a.payload.now) a.o c.in-Ok.kind (n ∙ ap ok (sym c.in-Ok.ensures)) _ s (omega (arith, c.least_size-least.ensures, c.if-size-least.false))
