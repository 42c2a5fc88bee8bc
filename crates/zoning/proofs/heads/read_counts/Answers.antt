use Rattle.std.proofs.lemmas.Result.{err_from_is_err_and}
use Rattle.zoning.specs.Bytes.{bytes}
use Rattle.zoning.specs.Heads.{count_most, counts_vertices, counts_zones, counts_good}
use Rattle.zoning.proofs.heads.read_counts.Goals as goal

pub returns-in_err-vertices : goal.returns-in_err-vertices
returns-in_err-vertices c =
    let a = c.args in
    let p = err_from_is_err_and c.from_residual.result c.from_residual.ensures.1 in
    rw (p.1, p.2) (counts_vertices (bytes a.payload.now) _ _ c.in_err-vertices.ensures)

pub returns-in_err-zones : goal.returns-in_err-zones
returns-in_err-zones c =
    let a = c.args in
    let p = err_from_is_err_and c.from_residual-in_err-zones.result c.from_residual-in_err-zones.ensures.1 in
    rw (p.1, p.2) (counts_zones (bytes a.payload.now) _ c.in_ok-vertices.ensures _ _ c.in_err-zones.ensures)

pub invariant_of-result : goal.invariant_of-result
invariant_of-result c = record { few = (count_most _ _ _ _ c.in_ok-vertices.ensures, count_most _ _ _ _ c.in_ok-zones.ensures) }

pub returns : goal.returns
returns c = counts_good (bytes c.args.payload.now) _ c.in_ok-vertices.ensures _ c.in_ok-zones.ensures
