use mathlib.Core.Path.{◌≡◌}
use Prim.Native.Nat.{◌+◌, ◌*◌}
use lib.ListN.{take}
use Rattle.spec.specs.Layout.{Map}
use Rattle.adjacency.specs.Rows.{Shows}
use Rattle.wire.specs.Payload.{payload, place_of}
use Rattle.replay.specs.Moves.{Replayed}
use Rattle.replay.proofs.check.replay_moves.Given as goal

abbrev pub invariant-loop-i : goal.invariant-loop-i
invariant-loop-i l =
    (l.at ≡ place_of (2 + l.i-counter * 3))
    × ((m : Map) → m.size ≡ l.graph.vertices → Shows l.graph.rows.now m.edges → Replayed m l.k (take l.p.len (payload l.p.file.now)) l.count l.initial.state l.i-counter l.state)
