use Rattle.std.proofs.Common.{◌≡◌, refl, arith}
use Rattle.std.proofs.lemmas.Result.{err_from_is_err_and}
use Rattle.std.proofs.lemmas.List.{map-set}
use Rattle.numbering.specs.Kind.{number_of}
use Rattle.zoning.specs.Heads.{head_in}
use Rattle.zoning.specs.Reading.{all_head, all_vertices, all_more, all_start, all_end}
use Rattle.zoning.specs.Found.{all_held}
use Rattle.zoning.proofs.reading.read_zones.Goals as goal

pub loop-i-init : goal.loop-i-init
loop-i-init c = (omega arith, all_start _ _ _)

pub returns-in_err-head : goal.returns-in_err-head
returns-in_err-head c =
    let o = c.loop-i in
    let p = err_from_is_err_and c.from_residual.result c.from_residual.ensures.1 in
    rw (p.1, p.2) (record { answer = all_head _ _ _ _ _ _ _ o.invariant.1 c.loop-i-test.true _ _ c.in_err-head.ensures; tables = tt })

pub returns-in_err-read : goal.returns-in_err-read
returns-in_err-read c =
    let o = c.loop-i in
    let p = err_from_is_err_and c.from_residual-in_err-read.result c.from_residual-in_err-read.ensures.1 in
    rw (p.1, p.2) (record { answer = all_vertices _ _ _ _ _ _ _ o.invariant.1 c.loop-i-test.true _ c.in_ok-head.ensures _ _ c.in_err-read.ensures.answer; tables = tt })

pub loop-i-preserved : goal.loop-i-preserved
loop-i-preserved c =
    let o = c.loop-i in
    let r = c.in_ok-read.ensures in (
      omega (arith, o.invariant.0),
      rw (map-set number_of o.kind o.i c.in_ok-head.head.kind) (all_more _ _ _ _ _ _ _ _ _ _ r.going o.invariant.1 c.loop-i-test.true (omega arith) (head_in c.in_ok-head.head) c.in_ok-head.ensures refl refl r.answer),
    )

pub returns : goal.returns
returns c =
    let o = c.loop-i in
    let e : o.i ≡ c.args.counts.zones = omega arith in
    record { answer = all_end _ _ _ _ _ _ _ o.invariant.1 e; tables = all_held _ _ _ _ _ _ _ o.invariant.1 e }
