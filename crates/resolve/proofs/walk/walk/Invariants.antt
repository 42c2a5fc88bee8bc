use Rattle.walking.specs.Walk.{Walking}
use Rattle.walking.specs.OnMap.{StartedOn}
use Rattle.motion.specs.World.{world}
use Rattle.wire.specs.Payload.{payload, FourAt}
use lib.ListN.{length, take}
use Prim.Native.Nat.{◌+◌, ◌*◌, ◌/◌, ◌≤◌}
use Rattle.resolve.proofs.walk.walk.Given as goal

-- the steps before have been made, and the four bytes of the next one are read, where there is one
abbrev pub invariant-loop-i : goal.invariant-loop-i
invariant-loop-i g l =
    ((x : StartedOn l.file l.count l.map l.initial.state) → Walking x.map x.k (take x.len (payload l.file)) l.count (world l.initial.state 0 l.initial.out) l.i l.o (world l.state l.made l.out))
    × (l.o + 4 ≤ length l.file / 512 * 504 → FourAt l.file l.o l.four)
