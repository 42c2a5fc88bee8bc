-- One block: a written one is read back.
use Rattle.std.specs.Prelude.{◌≡◌, Bool, List, ◌++◌, ◌∷◌, [], take, drop, get_or, eqb, T}
use Rattle.std.proofs.Math.Path.{refl}
use Rattle.std.proofs.Common.{◌∙◌, append_assoc, take_at, drop_at, get_or-append-add}
use Prim.Native.Nat.{ℕ, ◌+◌, suc, ◌-◌, ◌/◌, ◌%◌, ◌≤◌, ◌<◌}
use native.Mathlib.Omega.{arith}
use Rattle.std.proofs.Math.ListN.{length, replicate, length-append}
use Rattle.std.proofs.lemmas.List.{length-replicate, get_or_at}
use Rattle.std.proofs.Math.Dec.{eqb_refl}
use Rattle.spec.specs.Outcome.{◌>>◌, Outcome, check, ok, u16}
use Rattle.spec.specs.Wire.{checksum, word, head_ok, fill_ok, payload_from, block_of, filled}
use Rattle.theory.specs.Basics.Outcomes.{pass}
use Rattle.theory.specs.Basics.Tests.{eq→eqb, and_both}
use Rattle.theory.specs.Codec.Words.{word_u16, all_zeros}

-- payloadFrom's body, for the block b and what follows it
unfoldable pub one_block : ℕ → ℕ → ℕ → ℕ → List ℕ → List ℕ → List ℕ → Outcome (List ℕ)
one_block base kind i rest b d done = do
  check (eqb (word b 510) (checksum (take 510 b))) (base + 2) i
  check (head_ok kind i b) (base + 3) i
  check (fill_ok (eqb rest 0) b) (base + 4) i
  payload_from base kind (i + 1) rest d (done ++ take (word b 4) (drop 6 b))

-- one block more is one block, then the others
pub payload_step : (base kind i rest : ℕ) (f done : List ℕ) → payload_from base kind i (suc rest) f done ≡ one_block base kind i rest (take 512 f) (drop 512 f) done
unfolding payload_from one_block
payload_step base kind i rest f done = refl

-- no block more gives what was read before
pub payload_none : (base kind i : ℕ) (f done : List ℕ) → payload_from base kind i 0 f done ≡ ok done
unfolding payload_from
payload_none base kind i f done = refl

-- a block without its checksum
unfoldable pub body_of : ℕ → ℕ → List ℕ → List ℕ
body_of kind i part = (kind ∷ 0 ∷ u16 i) ++ u16 (length part) ++ part ++ replicate (504 - length part) 0

-- a block is its body and the body's checksum
pub block_split : (kind i : ℕ) (part : List ℕ) → block_of kind i part ≡ body_of kind i part ++ u16 (checksum (body_of kind i part))
unfolding block_of body_of
block_split kind i part = refl

module _ (kind i : ℕ) (part : List ℕ) (small : length part ≤ 504) where
  -- the body is 510 bytes
  body_length : length (body_of kind i part) ≡ 510
  unfolding body_of u16
  body_length = let l : length (part ++ replicate (504 - length part) 0) ≡ 504 = simp (length-append, length-replicate) (omega arith) in rw l

  -- a block is 512 bytes
  pub block_length : length (block_of kind i part) ≡ 512
  unfolding u16
  block_length = rw (block_split kind i part, length-append, body_length)

  -- its first 510 bytes are the body
  block_front : take 510 (block_of kind i part) ≡ body_of kind i part
  block_front = rw (block_split kind i part) (take_at (body_of kind i part) _ 510 body_length)

  -- a checksum is a two-byte number
  checksum_small : (bs : List ℕ) → checksum bs < 65536
  unfolding checksum
  checksum_small bs = omega arith

  -- the stored checksum is that of the body
  block_sum : word (block_of kind i part) 510 ≡ checksum (take 510 (block_of kind i part))
  unfolding word u16
  block_sum = rw (block_front, block_split kind i part) (rw (first, second) (word_u16 c (checksum_small (body_of kind i part))))
    where
      c : ℕ
      c = checksum (body_of kind i part)

      first : get_or (body_of kind i part ++ (c / 256 % 256) ∷ (c % 256) ∷ []) 510 0 ≡ c / 256 % 256
      first = get_or_at (body_of kind i part) (c / 256 % 256) (c % 256 ∷ []) 0 510 body_length

      second : get_or (body_of kind i part ++ (c / 256 % 256) ∷ (c % 256) ∷ []) 511 0 ≡ c % 256
      second = rw body_length at (get_or-append-add (body_of kind i part) ((c / 256 % 256) ∷ (c % 256) ∷ []) 1 0)

  -- the stored fill is the part's length
  block_fill : word (block_of kind i part) 4 ≡ length part
  unfolding word block_of u16
  block_fill = word_u16 (length part) (omega arith)

  -- the head is right where two bytes can hold the block number
  block_head : i < 65536 → T (head_ok kind i (block_of kind i part))
  unfolding head_ok word block_of u16
  block_head h = and_both _ _ (eqb_refl kind) (and_both _ _ tt (eq→eqb _ _ (word_u16 i h)))

  -- what follows the head
  block_rest : drop 6 (block_of kind i part) ≡ part ++ replicate (504 - length part) 0 ++ u16 (checksum (body_of kind i part))
  unfolding block_of body_of u16
  block_rest = refl

  -- the part is read back
  block_part : take (length part) (drop 6 (block_of kind i part)) ≡ part
  block_part = rw (block_rest, append_assoc part) (take_at part _ (length part) refl)

  -- the part and the padding are 504 bytes
  padded : length (part ++ replicate (504 - length part) 0) ≡ 504
  padded = simp (length-append, length-replicate) (omega arith)

  -- the padding is zeros
  block_padding : drop (length part) (take 504 (drop 6 (block_of kind i part))) ≡ replicate (504 - length part) 0
  block_padding = rw (block_rest, take_at (part ++ replicate (504 - length part) 0) (u16 (checksum (body_of kind i part))) 504 padded) (drop_at part _ (length part) refl)

  -- the fill and the padding pass the test
  fill_ok_lem : (last : Bool) → T (filled last (length part)) → T (fill_ok last (block_of kind i part))
  unfolding fill_ok
  fill_ok_lem last t = and_both _ _ (rw block_fill t) (rw (block_fill, block_padding) (all_zeros (504 - length part)))

  -- a written block is read back
  pub read_block : (base rest : ℕ) (more done : List ℕ) → i < 65536 → T (filled (eqb rest 0) (length part))
      → payload_from base kind i (suc rest) (block_of kind i part ++ more) done ≡ payload_from base kind (i + 1) rest more (done ++ part)
  read_block base rest more done h t =
      rw (payload_step, take_at (block_of kind i part) more 512 block_length, drop_at (block_of kind i part) more 512 block_length) read_one
    where
      read_one : one_block base kind i rest (block_of kind i part) more done ≡ payload_from base kind (i + 1) rest more (done ++ part)
      read_one = unfold one_block in pass _ _ _ _ (eq→eqb _ _ block_sum) ∙ pass _ _ _ _ (block_head h) ∙ pass _ _ _ _ (fill_ok_lem (eqb rest 0) t) ∙ rw (block_fill, block_part)
