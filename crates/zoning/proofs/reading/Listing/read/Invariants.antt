use Rattle.zoning.specs.Bytes.{bytes}
use Rattle.zoning.specs.Vertices.{Going}
use Rattle.zoning.proofs.reading.Listing.read.Given as goal

abbrev pub invariant-loop-k : goal.invariant-loop-k
invariant-loop-k l = Going (bytes l.payload) l.counts.vertices l.z l.size l.from l.initial.self l.self l.k
