use Prim.Native.Nat.{◌+◌, ◌*◌, ◌≤◌}
use mathlib.Core.List.{map}
use Rattle.numbering.specs.Kind.{number_of}
use Rattle.zoning.specs.Bytes.{bytes}
use Rattle.zoning.specs.Zones.{heads_at}
use Rattle.zoning.specs.Reading.{GoingAll}
use Rattle.zoning.proofs.reading.read_zones.Given as goal

abbrev pub invariant-loop-i : goal.invariant-loop-i
invariant-loop-i l = (l.next ≤ 2 + l.i * 257) × GoingAll (bytes l.payload) l.counts.vertices l.counts.zones (heads_at (map number_of l.kind) l.first l.size) l.listing l.i l.next
