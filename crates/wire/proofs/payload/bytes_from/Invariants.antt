-- `bytes_from`: at each turn, the bytes passed are read, and the next one's place is known, if it is not past the file's end.
use Prim.Native.Nat.{ℕ, ◌+◌}
use mathlib.Core.Path.{◌≡◌}
use lib.ListN.{length}
use Rattle.wire.specs.Payload.{place_of, Near, Copied}
use Rattle.wire.proofs.payload.bytes_from.Given as goal

abbrev pub invariant-loop-byte : goal.invariant-loop-byte
invariant-loop-byte g l =
    (length l.byte-items ≡ g.row.N)
    × ((off : ℕ) → l.initial.place ≡ place_of off → Near l.file l.place (off + l.byte-index) × Copied l.file off l.byte-items l.byte-index)
