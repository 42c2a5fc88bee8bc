use Rattle.std.proofs.Common.{sym, ◌∙◌}
use Rattle.testing.specs.Testing.{crosses_none, crosses_zones}
use Rattle.testing.proofs.tests.is_crossing.Goals as goal

pub returns-then-joined : goal.returns-then-joined
returns-then-joined g c = λ m k d hu hv.
    let t = c.args.map.now in
    c.ne.ensures ∙ rw (c.zone_at.ensures, c.zone_at-then-joined.ensures) (crosses_zones m t.vertices k t.kind t.first t.size t.listed t.zone t.place _ d _ _ hu hv (sym c.joined.ensures ∙ c.if-joined.true))

pub returns-else-joined : goal.returns-else-joined
returns-else-joined g c = λ m k d hu hv.
    let t = c.args.map.now in
    c.if-joined.false ∙ crosses_none m t.vertices k t.kind t.first t.size t.listed t.zone t.place _ d _ _ (sym c.joined.ensures ∙ c.if-joined.false)
