use Rattle.std.proofs.lemmas.Result.{err_from_is_err_and}
use Rattle.layout.specs.Rest.{map_at, edges_in, rest_refused, rest_ready, rest_tested}
use Rattle.layout.proofs.map.read_rest.Goals as goal

pub returns-in_err-edges_of : goal.returns-in_err-edges_of
returns-in_err-edges_of c =
    let w = c.args.counts.few in
    let p = err_from_is_err_and c.from_residual.result c.from_residual.ensures.1 in
    rw (p.1, p.2) (rest_refused _ _ _ _ _ w.0 w.1 c.requires _ c.covered.ensures _ _ (rw c.clear.ensures at c.in_err-edges_of.ensures))

pub returns : goal.returns
returns c =
    let a = c.args in
    let w = a.counts.few in
    let e = rw c.clear.ensures at c.in_ok-edges_of.ensures in
    let r = rest_ready _ _ _ _ _ w.0 w.1 c.requires _ c.covered.ensures _ e in
    rest_tested _ _ _ _ _ w.0 w.1 c.requires _ c.covered.ensures _ e _ (c.test_kinds.ensures (map_at a.counts.vertices a.zones.now a.counts.zones (edges_in a.payload.now.file.now a.zones.now)) r)
