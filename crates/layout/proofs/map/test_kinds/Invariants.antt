use mathlib.Core.Path.{◌≡◌}
use lib.ListN.{drop}
use Rattle.spec.specs.Layout.{Map, kinds_from}
use Rattle.zoning.specs.Zones.{zones_in}
use Rattle.zoning.specs.Found.{heads_of}
use Rattle.layout.specs.Kinds.{Ready}
use Rattle.layout.proofs.map.test_kinds.Given as goal

abbrev pub invariant-loop-i : goal.invariant-loop-i
invariant-loop-i l = (m : Map) → Ready l.rows m (heads_of l.zones) l.zones.listed l.zones.zone l.fn.counts.zones → kinds_from m 0 (zones_in (heads_of l.zones) l.zones.listed l.fn.counts.zones) ≡ kinds_from m l.i (drop l.i (zones_in (heads_of l.zones) l.zones.listed l.fn.counts.zones))
