use Prim.Native.Nat.{◌+◌, ◌*◌}
use mathlib.Core.Path.{◌≡◌}
use Rattle.wire.specs.Payload.{place_of}
use Rattle.replay.specs.Moves.{file_bytes}
use Rattle.timing.specs.Rounds.{Timing}
use Rattle.timing.proofs.write_rounds.Given as goal

abbrev pub invariant-loop-i : goal.invariant-loop-i
invariant-loop-i l = (l.at ≡ place_of (2 + l._i * 3)) × (l.place ≡ place_of (2 + l._i * 2)) × Timing (file_bytes l.file) l.count l.initial.out l._i l.last l.left l.out
