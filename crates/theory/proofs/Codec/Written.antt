-- A file that is read was written so, byte for byte.
-- What it rests on stands in specs/Codec/Written.antt.
use Rattle.std.specs.Prelude.{◌≡◌, ◌↔◌, List}
use Prim.Native.Nat.{ℕ, ◌*◌, ◌≤◌}
use Rattle.std.proofs.Math.ListN.{length}
use Rattle.spec.specs.Outcome.{ok}
use Rattle.spec.specs.Wire.{file_of, payload_of}
use Rattle.spec.specs.Terms.{Bytes}
use Rattle.theory.proofs.Codec.ReadBack.{read_file}
use Rattle.theory.specs.Codec.Written.{written_file}

-- ---- exactly

-- the reader takes exactly what the writer makes, byte for byte: of bytes, under a limit that two bytes can number
pub exact : (base kind limit : ℕ) (f p : List ℕ) → limit ≤ 65536 → Bytes f → (payload_of base kind limit f ≡ ok p) ↔ ((f ≡ file_of kind p) × (1 ≤ length p) × (length p ≤ 504 * limit))
exact base kind limit f p h k = (
  λ e. let w = written_file base kind limit f p k e in (w.0, w.1, w.2),
  λ s. rw s.0 (read_file base kind limit p s.1 s.2 h),
)
