-- A written file is read back.
-- What it rests on stands in specs/Codec/ReadBack.antt.
use Rattle.std.specs.Prelude.{◌≡◌, length}
use mathlib.Core.List.{List}
use Prim.Native.Nat.{ℕ, ◌*◌, ◌≤◌}
use native.Mathlib.Omega.{arith}
use Rattle.spec.specs.Outcome.{ok}
use Rattle.spec.specs.Wire.{file_of, payload_of}
use Rattle.theory.specs.Codec.ReadBack.{read_back}

-- ---- the file

-- under a limit that two bytes can number the limit is enough
pub read_file : (base kind limit : ℕ) (p : List ℕ) → 1 ≤ length p → length p ≤ 504 * limit → limit ≤ 65536
    → payload_of base kind limit (file_of kind p) ≡ ok p
read_file base kind limit p h k l = read_back base kind limit p h k (omega arith)
