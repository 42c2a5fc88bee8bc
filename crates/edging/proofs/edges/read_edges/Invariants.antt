use Prim.Native.Nat.{◌+◌, ◌*◌, ◌<◌}
use mathlib.Core.Path.{◌≡◌}
use Rattle.wire.specs.Payload.{place_of}
use Rattle.edging.specs.Edges.{GoingEdges}
use Rattle.edging.proofs.edges.read_edges.Given as goal

abbrev pub invariant-loop-k : goal.invariant-loop-k
invariant-loop-k l = (0 < l.e → l.at ≡ place_of (l.from + l.k * 2)) × GoingEdges l.payload.file.now l.payload.len l.n l.e l.from l.initial.rows l.rows l.k l.least
