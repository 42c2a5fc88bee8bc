use Rattle.std.proofs.Common.{◌∙◌}
use Rattle.std.proofs.lemmas.Result.{err_from_is_err_and}
use Rattle.layout.specs.Rest.{map_counts, map_zones, map_rest}
use Rattle.layout.specs.Map.{layout_refused, layout_made}
use Rattle.layout.proofs.map.read_layout.Goals as goal

pub returns-in_err-counts : goal.returns-in_err-counts
returns-in_err-counts c =
    let p = err_from_is_err_and c.from_residual.result c.from_residual.ensures.1 in
    rw (p.1, p.2) (layout_refused _ _ _ (map_counts _ _ _ c.in_err-counts.ensures))

pub returns-in_err-read : goal.returns-in_err-read
returns-in_err-read c =
    let p = err_from_is_err_and c.from_residual-in_err-read.result c.from_residual-in_err-read.ensures.1 in
    rw (p.1, p.2) (layout_refused _ _ _ (map_zones _ c.in_ok-counts.counts c.in_ok-counts.ensures _ _ c.in_err-read.ensures.answer))

pub returns-in_err-read_rest : goal.returns-in_err-read_rest
returns-in_err-read_rest c =
    let p = err_from_is_err_and c.from_residual-in_err-read_rest.result c.from_residual-in_err-read_rest.ensures.1 in
    rw (p.1, p.2) (layout_refused _ _ _ (map_rest _ c.in_ok-counts.counts c.in_ok-counts.ensures c.in_ok-read.read c.in_ok-read.ensures ∙ c.in_err-read_rest.ensures.answer))

pub returns : goal.returns
returns c =
    let k = c.in_ok-counts in
    let w = k.counts.few in
    layout_made c.args.payload.now.file.now _ _ _ c.in_ok-read.read w.0 w.1 c.in_ok-read.ensures _ (map_rest _ k.counts k.ensures c.in_ok-read.read c.in_ok-read.ensures) _ c.in_ok-read_rest.ensures
