-- What is known of a map whose blocks have passed.
use Rattle.std.specs.Prelude.{ℕ, ◌≡◌, List, take, Option, Some, None}
use Rattle.spec.specs.Outcome.{Outcome, ok, refuse}
use Rattle.spec.specs.Wire.{payload_of}
use Rattle.wire.specs.Payload.{payload}

-- the value of an outcome, none of a refusal
abbrev pub value_of : {A : Type 0} → Outcome A → Option A
value_of (ok x) = Some x
value_of (refuse number place) = None

-- the blocks of a map pass, with a payload of len bytes
abbrev pub Passed : List ℕ → ℕ → Type 0
Passed file len = value_of (payload_of 10 1 9 file) ≡ Some (take len (payload file))

-- an outcome with a value
pub value_is : {A : Type 0} (o : Outcome A) (x : A) → value_of o ≡ Some x → o ≡ ok x
value_is (ok y) x e = let q : y ≡ x = cc in cc
value_is (refuse number place) x e = cc
