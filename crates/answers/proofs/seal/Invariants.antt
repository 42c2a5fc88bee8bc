-- `seal`: at each turn, the blocks passed are finished and the others as they were.
use mathlib.Core.List.{◌++◌}
use Rattle.wire.specs.Payload.{payload}
use Rattle.answers.specs.Sealed.{up_to}
use Prim.Native.Nat.{◌*◌}
use mathlib.Core.Path.{◌≡◌}
use lib.ListN.{length, take, drop}
use Rattle.answers.proofs.seal.Given as goal

abbrev pub invariant-loop-i : goal.invariant-loop-i
invariant-loop-i l =
    (length l.out ≡ length l.initial.out) × (l.out ≡ up_to l.kind (take l.len (payload l.initial.out)) l.i ++ drop (l.i * 512) l.initial.out)
