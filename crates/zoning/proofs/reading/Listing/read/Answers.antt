use Rattle.std.proofs.Common.{◌≡◌, ◌+◌, ◌<◌, get_or, arith}
use Rattle.std.proofs.lemmas.Result.{err_from_is_err_and}
use Rattle.zoning.specs.Bytes.{bytes, present, missing}
use Rattle.zoning.specs.Table.{entry_same}
use Rattle.zoning.specs.Vertices.{space, going_start, going_more, going_short, going_over, going_twice, going_end}
use Rattle.zoning.proofs.reading.Listing.read.Goals as goal

pub loop-k-init : goal.loop-k-init
loop-k-init c = going_start _ _ _ _ _ _ c.requires.rep

pub returns-in_err-v : goal.returns-in_err-v
returns-in_err-v c =
    let a = c.args in
    let o = c.loop-k in
    let p = err_from_is_err_and c.from_residual.result c.from_residual.ensures.1 in
    let w = missing (bytes a.payload.now) (a.from + o.k) c.byte.result c.byte.ensures _ _ c.in_err-v.ensures.value in
    rw (p.1, p.2, w.1) (record { answer = going_short _ _ _ _ _ _ _ _ o.invariant c.loop-k-test.true (w.0 15); going = tt })

pub returns-then-v-counts : goal.returns-then-v-counts
returns-then-v-counts c =
    let a = c.args in
    let o = c.loop-k in
    let v = present (bytes a.payload.now) (a.from + o.k) c.byte.result c.byte.ensures _ _ c.in_ok-v.ensures.value 15 in
    record { answer = going_over _ _ _ _ _ _ _ _ o.invariant c.loop-k-test.true _ v (omega arith); going = tt }

pub returns-then-old : goal.returns-then-old
returns-then-old c =
    let a = c.args in
    let o = c.loop-k in
    let v = present (bytes a.payload.now) (a.from + o.k) c.byte.result c.byte.ensures _ _ c.in_ok-v.ensures.value 15 in
    record { answer = going_twice _ _ _ _ _ _ _ _ o.invariant c.loop-k-test.true _ v (omega arith) (omega arith) (rw c.from-i.ensures at c.if-old.true); going = tt }

pub bounds-self-self : goal.bounds-self-self
bounds-self-self c =
    let o = c.loop-k in
    let l : c.from-i.result < 128 = omega arith in
    space o.self _ o.invariant.rep l (entry_same o.self _ o.invariant.rep l c.if-old.false)

pub loop-k-preserved : goal.loop-k-preserved
loop-k-preserved c =
    let a = c.args in
    let o = c.loop-k in
    let l : c.in_ok-v.v < 128 = omega arith in
    let e : get_or o.self.zone c.in_ok-v.v 0 ≡ 255 = rw c.from-i.ensures at c.if-old.false in
    let v = present (bytes a.payload.now) (a.from + o.k) c.byte.result c.byte.ensures _ _ c.in_ok-v.ensures.value 15 in
    rw c.from-i.ensures (going_more _ _ _ _ _ _ _ _ o.invariant c.in_ok-v.v l (entry_same o.self _ o.invariant.rep l e) (omega arith) c.loop-k-test.true v (omega arith))

pub returns : goal.returns
returns c =
    let a = c.args in
    let o = c.loop-k in
    let e : o.k ≡ a.size = omega arith in
    let g = rw e at o.invariant in
    record { answer = going_end _ _ _ _ _ _ _ g; going = g }
