-- A written file is read back.
use Rattle.std.specs.Prelude.{◌≡◌, length, replicate, drop, T, eqb}
use Rattle.std.proofs.Math.Path.{refl, sym, ap}
use Rattle.std.proofs.Common.{◌∙◌, length-append, take_all, take-add, lit<, le→leb}
use mathlib.Core.List.{List, [], ◌∷◌, ◌++◌}
use Prim.Native.Nat.{ℕ, zero, suc, ◌+◌, ◌-◌, ◌*◌, ◌≤◌, ◌<◌, ◌/◌, ◌%◌}
use native.Mathlib.Omega.{arith}
use Rattle.std.proofs.Math.ListN.{take, length-take, length-drop}
use Rattle.spec.specs.Outcome.{ok, u16}
use Rattle.spec.specs.Wire.{checksum, block_of, blocks_from, filled, payload_from, file_of, payload_of}
use Rattle.spec.specs.Terms.{Bytes}
use Rattle.theory.specs.Basics.Outcomes.{pass}
use Rattle.theory.specs.Basics.Tests.{eq→eqb, eqb_false, and_both}
use Rattle.theory.specs.Codec.Words.{bytes_cons, bytes_append, bytes_take, bytes_drop, u16_bytes, zeros_bytes}
use Rattle.theory.specs.Codec.Blocks.{payload_none, block_length, read_block}

module _ (kind : ℕ) (p : List ℕ) where
  -- the part of a payload in block i
  part_at : ℕ → List ℕ
  part_at i = take 504 (drop (i * 504) p)

  -- a part is at most 504 bytes
  part_small : (i : ℕ) → length (part_at i) ≤ 504
  unfolding part_at
  part_small i = omega (arith, length-take 504 (drop (i * 504) p))

  -- how long the blocks of a payload are
  pub blocks_length : (i left : ℕ) → length (blocks_from kind p i left) ≡ left * 512
  unfolding blocks_from part_at
  blocks_length i zero = refl
  blocks_length i (suc left) = rw (length-append, block_length kind i (take 504 (drop (i * 504) p)) (part_small i), blocks_length (i + 1) left) (omega arith)

  -- every part but the last is 504 bytes, and the last is not empty
  part_filled : (i left : ℕ) → (i + left) * 504 < length p → T (filled (eqb left 0) (length (part_at i)))
  unfolding filled part_at
  part_filled i zero h =
      let l = length-take 504 (drop (i * 504) p) in
      let d = length-drop (i * 504) p in
      and_both _ _ (le→leb 1 (length (part_at i)) (omega arith)) (le→leb (length (part_at i)) 504 (omega arith))
  part_filled i (suc left) h = rw (eqb_false {m = suc left} {n = 0} (omega arith)) (eq→eqb (length (part_at i)) 504 (omega (arith, length-take 504 (drop (i * 504) p), length-drop (i * 504) p)))

  -- written blocks are read back, after those before
  pub read_blocks : (base i left : ℕ) → (i + left) * 504 < length p + 504 → length p ≤ (i + left) * 504 → i + left ≤ 65536
      → payload_from base kind i left (blocks_from kind p i left) (take (i * 504) p) ≡ ok p
  unfolding blocks_from part_at
  read_blocks base i zero c d e = payload_none base kind i [] (take (i * 504) p) ∙ ap ok (take_all (i * 504) p (omega arith))
  read_blocks base i (suc left) c d e =
      let s : i * 504 + 504 ≡ (i + 1) * 504 = omega arith in
      let j : take (i * 504) p ++ take 504 (drop (i * 504) p) ≡ take ((i + 1) * 504) p = sym (take-add (i * 504) 504 p) ∙ ap (λ k. take k p) s in
      read_block kind i (take 504 (drop (i * 504) p)) (part_small i) base left (blocks_from kind p (i + 1) left) (take (i * 504) p) (omega arith) (part_filled i left (omega arith))
      ∙ ap (payload_from base kind (i + 1) left (blocks_from kind p (i + 1) left)) j ∙ read_blocks base (i + 1) left (omega arith) (omega arith) (omega arith)

-- ---- the file

-- the number of blocks
unfoldable pub block_count : (p : List ℕ) → ℕ
block_count p = (length p + 503) / 504

-- how long the file of a payload is
pub file_length : (kind : ℕ) (p : List ℕ) → length (file_of kind p) ≡ block_count p * 512
unfolding file_of block_count
file_length kind p = blocks_length kind p 0 ((length p + 503) / 504)

-- a written file is read back, of any kind and under any limit, if its payload is not empty, is within the limit and needs no more blocks than two bytes can number
pub read_back : (base kind limit : ℕ) (p : List ℕ) → 1 ≤ length p → length p ≤ 504 * limit → length p ≤ 504 * 65536
    → payload_of base kind limit (file_of kind p) ≡ ok p
unfolding payload_of
read_back base kind limit p h k l =
    rw (file_length kind p, whole_mod (block_count p), whole_div (block_count p))
    (pass _ _ _ _ (and_both _ _ tt (and_both _ _ (le→leb _ _ low) (le→leb _ _ high))) ∙ all_read)
  where
    whole_mod : (n : ℕ) → n * 512 % 512 ≡ 0
    whole_mod n = omega arith

    whole_div : (n : ℕ) → n * 512 / 512 ≡ n
    whole_div n = omega arith

    low : 1 ≤ block_count p
    low = unfold block_count in omega arith

    high : block_count p ≤ limit
    high = unfold block_count in omega arith

    all_read : payload_from base kind 0 (block_count p) (file_of kind p) [] ≡ ok p
    all_read = unfold file_of block_count in read_blocks kind p base 0 ((length p + 503) / 504) (omega arith) (omega arith) (omega arith)

-- ---- its bytes

-- a written block is bytes, if its kind is one and the payload is bytes
block_bytes : (kind i : ℕ) (part : List ℕ) → kind < 256 → Bytes part → Bytes (block_of kind i part)
unfolding block_of
block_bytes kind i part h k =
    let head : List ℕ = kind ∷ 0 ∷ u16 i in
    let body : List ℕ = head ++ u16 (length part) ++ part ++ replicate (504 - length part) 0 in
    bytes_append body (u16 (checksum body))
    (bytes_append (head ++ u16 (length part) ++ part) (replicate (504 - length part) 0)
    (bytes_append (head ++ u16 (length part)) part
    (bytes_append head (u16 (length part)) (bytes_cons kind (0 ∷ u16 i) h (bytes_cons 0 (u16 i) (lit< tt) (u16_bytes i))) (u16_bytes (length part))) k)
    (zeros_bytes (504 - length part))) (u16_bytes (checksum body))

-- so are written blocks
blocks_bytes : (kind : ℕ) (p : List ℕ) (i left : ℕ) → kind < 256 → Bytes p → Bytes (blocks_from kind p i left)
unfolding blocks_from
blocks_bytes kind p i zero h k = λ j. lit< tt
blocks_bytes kind p i (suc left) h k = bytes_append (block_of kind i (take 504 (drop (i * 504) p))) (blocks_from kind p (i + 1) left)
    (block_bytes kind i (take 504 (drop (i * 504) p)) h (bytes_take 504 (drop (i * 504) p) (bytes_drop (i * 504) p k))) (blocks_bytes kind p (i + 1) left h k)

-- and so is a written file
pub file_bytes_lem : (kind : ℕ) (p : List ℕ) → kind < 256 → Bytes p → Bytes (file_of kind p)
unfolding file_of
file_bytes_lem kind p h k = blocks_bytes kind p 0 ((length p + 503) / 504) h k
