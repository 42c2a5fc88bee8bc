use mathlib.Core.Path.{◌≡◌}
use Prim.Native.Nat.{◌+◌, ◌*◌, ◌≤◌}
use Rattle.spec.specs.Layout.{Map}
use Rattle.theory.specs.Maps.Layout.{Accepted}
use Rattle.layout.specs.Map.{MapHeld}
use Rattle.wire.specs.Payload.{place_of}
use Rattle.replay.specs.Moves.{file_bytes}
use Rattle.drawing.specs.Drawn.{EndsOn, Drawing}
use Rattle.drawing.proofs.draw_moves.Given as goal

abbrev pub invariant-loop-i : goal.invariant-loop-i
invariant-loop-i l =
    (l.d.steps ≤ l.i) × (l.d.bytes ≤ 2 + l.i * 132) × (l.at ≡ place_of (2 + l.i * 3))
    × ((m : Map) → MapHeld l.map m → Accepted m → EndsOn m (file_bytes l.file) l.count
    → Drawing m (file_bytes l.file) l.count l.initial.state l.initial.out l.i l.state l.d.steps l.d.bytes l.out)
