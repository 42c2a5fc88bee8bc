-- A file that is read was written so, byte for byte.
use Rattle.std.specs.Prelude.{◌≡◌, refl, Bool, true, false, List, [], ◌∷◌, ◌++◌, drop, leb, T, eqb}
use Rattle.std.proofs.Math.Path.{sym, ap, ap₂}
use Rattle.std.proofs.Common.{◌∙◌, append_assoc, append-nil, le_of_eq, arith, length-take, take-append-drop, length-append, drop-cons, take-take, take_at, drop_at, take_all, lit<}
use Prim.Native.Nat.{ℕ, ◌+◌, ◌-◌, ◌*◌, ◌≤◌, zero, suc, ◌<◌, ◌/◌, ◌%◌}
use Rattle.std.proofs.Math.ListN.{length, get_or, take, replicate, length-drop}
use Rattle.std.proofs.Math.Seq.{length-take-le, drop-length}
use Rattle.std.proofs.Math.Dec.{eqb→eq, leb→le}
use Rattle.spec.specs.Outcome.{all, u16, ok}
use Rattle.spec.specs.Wire.{checksum, word, block_of, head_ok, blocks_from, filled, fill_ok, payload_from, file_of, payload_of}
use Rattle.spec.specs.Terms.{Bytes}
use Rattle.theory.specs.Basics.Outcomes.{ok_injective, passed}
use Rattle.theory.specs.Basics.Tests.{and_left, and_right, eqb_false}
use Rattle.theory.specs.Codec.Blocks.{body_of, block_split, one_block, payload_step, payload_none}
use Rattle.theory.specs.Codec.Words.{u16_word, zeros_of, bytes_take, bytes_drop, bytes_append}

-- ---- one block

module _ (b : List ℕ) (bytes : Bytes b) (whole : length b ≡ 512) where
  -- a block's head, byte by byte
  cut_six : b ≡ get_or b 0 0 ∷ get_or b 1 0 ∷ get_or b 2 0 ∷ get_or b 3 0 ∷ get_or b 4 0 ∷ get_or b 5 0 ∷ drop 6 b
  cut_six = drop-cons b 0 0 (omega arith) ∙ ap (λ r. get_or b 0 0 ∷ r) (drop-cons b 1 0 (omega arith) ∙ ap (λ r. get_or b 1 0 ∷ r) (drop-cons b 2 0 (omega arith)
      ∙ ap (λ r. get_or b 2 0 ∷ r) (drop-cons b 3 0 (omega arith) ∙ ap (λ r. get_or b 3 0 ∷ r) (drop-cons b 4 0 (omega arith) ∙ ap (λ r. get_or b 4 0 ∷ r) (drop-cons b 5 0 (omega arith))))))

  -- a block's checksum, byte by byte
  cut_end : drop 510 b ≡ get_or b 510 0 ∷ get_or b 511 0 ∷ []
  cut_end = drop-cons b 510 0 (omega arith) ∙ ap (λ r. get_or b 510 0 ∷ r) (drop-cons b 511 0 (omega arith) ∙ ap (λ r. get_or b 511 0 ∷ r) (rw (← whole) (drop-length b)))

  module _ (kind i : ℕ) (h : T (head_ok kind i b)) (l : word b 4 ≤ 504) (z : T (all (λ x. eqb x 0) (drop (word b 4) (take 504 (drop 6 b))))) where
    -- the block's part of the payload
    part : List ℕ
    part = take (word b 4) (drop 6 b)

    -- it is as long as the fill says
    part_length : length part ≡ word b 4
    unfolding part
    part_length = length-take-le (word b 4) (drop 6 b) (omega (arith, length-drop 6 b))

    -- bytes 2 and 3 are the block's number
    u16_i : u16 i ≡ get_or b 2 0 ∷ get_or b 3 0 ∷ []
    unfolding head_ok word
    u16_i = ap u16 (sym (eqb→eq (get_or b 2 0 * 256 + get_or b 3 0) i (and_right _ _ (and_right _ _ h)))) ∙ u16_word (get_or b 2 0) (get_or b 3 0) (bytes 2) (bytes 3)

    -- bytes 4 and 5 are the part's length
    u16_fill : u16 (length part) ≡ get_or b 4 0 ∷ get_or b 5 0 ∷ []
    unfolding word
    u16_fill = ap u16 part_length ∙ u16_word (get_or b 4 0) (get_or b 5 0) (bytes 4) (bytes 5)

    -- bytes 6 to 509 are the part and zeros
    middle : take 504 (drop 6 b) ≡ part ++ replicate (504 - length part) 0
    unfolding part
    middle =
        let d : length (drop (word b 4) (take 504 (drop 6 b))) ≡ 504 - word b 4 = simp (length-drop, length-take) (omega (arith, length-drop 6 b)) in
        sym (take-append-drop (word b 4) (take 504 (drop 6 b)))
        ∙ rw (take-take (word b 4) 504 (drop 6 b) l, part_length) (ap (λ r. take (word b 4) (drop 6 b) ++ r) (zeros_of _ z ∙ ap (λ n. replicate n 0) d))

    -- all before the checksum is the body that is written for the part
    front : take 510 b ≡ body_of kind i part
    unfolding body_of head_ok
    front = ap (take 510) cut_six
        ∙ rw (u16_i, u16_fill, middle, eqb→eq (get_or b 0 0) kind (and_left _ _ h), eqb→eq (get_or b 1 0) 0 (and_left _ _ (and_right _ _ h)))

    -- a block that is read was written so
    pub written_block : T (eqb (word b 510) (checksum (take 510 b))) → b ≡ block_of kind i (take (word b 4) (drop 6 b))
    unfolding part word
    written_block c = rw (block_split kind i part)
        (sym (take-append-drop 510 b)
        ∙ rw (← front, ← eqb→eq (get_or b 510 0 * 256 + get_or b 511 0) (checksum (take 510 b)) c, u16_word (get_or b 510 0) (get_or b 511 0) (bytes 510) (bytes 511)) (ap (λ r. take 510 b ++ r) cut_end))

-- ---- all the blocks

-- no block holds more than 504 bytes of payload
fill_most : (last : Bool) (n : ℕ) → T (filled last n) → n ≤ 504
unfolding filled
fill_most true n t = leb→le n 504 (and_right (leb 1 n) (leb n 504) t)
fill_most false n t = le_of_eq (eqb→eq n 504 t)

module _ (base kind : ℕ) where
  -- what one block tells
  record First (i rest : ℕ) (b d done p : List ℕ) : Type 0 where
    part : List ℕ
    whole : b ≡ block_of kind i part
    fill : T (filled (eqb rest 0) (length part))
    follow : payload_from base kind (i + 1) rest d (done ++ part) ≡ ok p

  -- a block that passes was written from its part
  first_block : (i rest : ℕ) (b d done p : List ℕ) → Bytes b → length b ≡ 512 → one_block base kind i rest b d done ≡ ok p → First i rest b d done p
  unfolding one_block fill_ok filled
  first_block i rest b d done p h l e =
      let one = passed _ _ _ _ _ e in
      let two = passed _ _ _ _ _ one.1 in
      let three = passed _ _ _ _ _ two.1 in
      let s : word b 4 ≤ 504 = fill_most (eqb rest 0) (word b 4) (and_left _ _ three.0) in
      let n : length (take (word b 4) (drop 6 b)) ≡ word b 4 = length-take-le (word b 4) (drop 6 b) (omega (arith, length-drop 6 b)) in
      record {
        part = take (word b 4) (drop 6 b);
        whole = written_block b h l kind i two.0 s (and_right _ _ three.0) one.0;
        fill = rw n (and_left _ _ three.0);
        follow = three.1;
      }

  -- the blocks of a file that is read are the written ones
  pub record Written (n i : ℕ) (f done p : List ℕ) : Type 0 where
    pub more : List ℕ
    pub parts : p ≡ done ++ more
    pub file : f ≡ blocks_from kind p i (suc n)
    pub over : (i + n) * 504 < length p
    pub most : length p ≤ (i + suc n) * 504

  -- the last block of a file ends the payload
  last_block : (i : ℕ) (f done p : List ℕ) → length f ≡ 512 → length done ≡ i * 504 → First i 0 (take 512 f) (drop 512 f) done p → Written 0 i f done p
  unfolding blocks_from filled
  last_block i f done p l k o =
      record { more = o.part; parts = all; file = sym (take_all 512 f (omega arith)) ∙ o.whole ∙ ap (block_of kind i) (sym same) ∙ sym (append-nil _); over = omega (arith, long, one); most = omega (arith, long, top) }
    where
      one : 1 ≤ length o.part
      one = leb→le _ _ (and_left _ _ o.fill)

      top : length o.part ≤ 504
      top = leb→le _ _ (and_right _ _ o.fill)

      all : p ≡ done ++ o.part
      all = ok_injective (sym o.follow ∙ payload_none base kind (i + 1) (drop 512 f) (done ++ o.part))

      long : length p ≡ i * 504 + length o.part
      long = ap length all ∙ length-append done o.part ∙ ap (λ n. n + length o.part) k

      same : take 504 (drop (i * 504) p) ≡ o.part
      same = ap (λ l. take 504 (drop (i * 504) l)) all ∙ ap (take 504) (drop_at done o.part (i * 504) k) ∙ take_all 504 o.part top

  -- a block before the last is full, and the payload goes on
  more_block : (n i : ℕ) (f done p : List ℕ) → length done ≡ i * 504 → (o : First i (suc n) (take 512 f) (drop 512 f) done p)
      → (length (done ++ o.part) ≡ (i + 1) * 504 → Written n (i + 1) (drop 512 f) (done ++ o.part) p) → Written (suc n) i f done p
  unfolding blocks_from filled
  more_block n i f done p k o ih =
      record { more = o.part ++ w.more; parts = all; file = sym (take-append-drop 512 f) ∙ ap₂ (λ r s. r ++ s) (o.whole ∙ ap (block_of kind i) (sym same)) w.file; over = omega (arith, w.over); most = omega (arith, w.most) }
    where
      full : length o.part ≡ 504
      full = eqb→eq (length o.part) 504 (rw (eqb_false {m = suc n} {n = 0} (omega arith)) at o.fill)

      w : Written n (i + 1) (drop 512 f) (done ++ o.part) p
      w = ih (length-append done o.part ∙ omega (arith, full))

      all : p ≡ done ++ (o.part ++ w.more)
      all = w.parts ∙ append_assoc done o.part w.more

      same : take 504 (drop (i * 504) p) ≡ o.part
      same = ap (λ l. take 504 (drop (i * 504) l)) all ∙ ap (take 504) (drop_at done (o.part ++ w.more) (i * 504) k) ∙ take_at o.part w.more 504 full

  -- all the blocks of a file that is read were written so
  written_blocks : (n i : ℕ) (f done p : List ℕ) → Bytes f → length f ≡ suc n * 512 → length done ≡ i * 504 → payload_from base kind i (suc n) f done ≡ ok p → Written n i f done p
  written_blocks zero i f done p h l k e =
      last_block i f done p (omega arith) k (first_block i 0 (take 512 f) (drop 512 f) done p (bytes_take 512 f h) (omega (arith, length-take 512 f)) (rw payload_step at e))
  written_blocks (suc n) i f done p h l k e =
      let o : First i (suc n) (take 512 f) (drop 512 f) done p = first_block i (suc n) (take 512 f) (drop 512 f) done p (bytes_take 512 f h) (omega (arith, length-take 512 f)) (rw payload_step at e) in
      more_block n i f done p k o (λ k. written_blocks n (i + 1) (drop 512 f) (done ++ o.part) p (bytes_drop 512 f h) (omega (arith, length-drop 512 f)) k o.follow)

-- ---- the file

-- a file that is read is the file of its payload
pub written_file : (base kind limit : ℕ) (f p : List ℕ) → Bytes f → payload_of base kind limit f ≡ ok p
    → (f ≡ file_of kind p) × (1 ≤ length p) × (length p ≤ 504 * limit) × (length f ≤ limit * 512)
unfolding payload_of file_of
written_file base kind limit f p h e =
    let one = passed _ _ _ _ _ e in
    let m : length f % 512 ≡ 0 = eqb→eq (length f % 512) 0 (and_left _ _ one.0) in
    let a : 1 ≤ length f / 512 = leb→le _ _ (and_left _ _ (and_right _ _ one.0)) in
    let c : length f / 512 ≤ limit = leb→le _ _ (and_right _ _ (and_right _ _ one.0)) in
    let n : ℕ = length f / 512 - 1 in
    let s : length f / 512 ≡ suc n = omega arith in
    let w : Written base kind n 0 f [] p = written_blocks base kind n 0 f [] p h (omega arith) refl (rw s at one.1) in
    let z : suc n ≡ (length p + 503) / 504 = omega (arith, w.over, w.most) in
    (w.file ∙ ap (blocks_from kind p 0) z, omega (arith, w.over), omega (arith, w.most), omega arith)

-- the payload of blocks of bytes is bytes
payload_bytes : (base kind n i : ℕ) (f done p : List ℕ) → Bytes f → Bytes done → payload_from base kind i n f done ≡ ok p → Bytes p
unfolding one_block
payload_bytes base kind zero i f done p h k e = rw (sym (ok_injective (sym (payload_none base kind i f done) ∙ e))) k
payload_bytes base kind (suc n) i f done p h k e =
    let b = take 512 f in
    let o = (passed _ _ _ _ _ (passed _ _ _ _ _ (passed _ _ _ _ _ (rw payload_step at e)).1).1).1 in
    payload_bytes base kind n (i + 1) (drop 512 f) (done ++ take (word b 4) (drop 6 b)) p (bytes_drop 512 f h)
    (bytes_append done _ k (bytes_take (word b 4) (drop 6 b) (bytes_drop 6 b (bytes_take 512 f h)))) o

-- its payload is bytes
pub written_bytes : (base kind limit : ℕ) (f p : List ℕ) → Bytes f → payload_of base kind limit f ≡ ok p → Bytes p
unfolding payload_of
written_bytes base kind limit f p h e = payload_bytes base kind (length f / 512) 0 f [] p h (λ i. lit< tt) (passed _ _ _ _ _ e).1

-- ---- its length

-- what is read of a block is at most 504 bytes, whatever the block holds
block_most : (last : Bool) (b : List ℕ) → T (fill_ok last b) → length (take (word b 4) (drop 6 b)) ≤ 504
unfolding fill_ok
block_most last b t = omega (arith, fill_most last (word b 4) (and_left _ _ t), length-take (word b 4) (drop 6 b))

-- each block adds at most 504 bytes
blocks_most : (base kind n i : ℕ) (f done p : List ℕ) → payload_from base kind i n f done ≡ ok p → length p ≤ length done + n * 504
unfolding one_block
blocks_most base kind zero i f done p e = omega (arith, ap length (ok_injective (sym (payload_none base kind i f done) ∙ e)))
blocks_most base kind (suc n) i f done p e =
    let b = take 512 f in
    let o = passed _ _ _ _ _ (passed _ _ _ _ _ (passed _ _ _ _ _ (rw payload_step at e)).1).1 in
    let m = block_most (eqb n 0) b o.0 in
    omega (arith, blocks_most base kind n (i + 1) (drop 512 f) (done ++ take (word b 4) (drop 6 b)) p o.1, length-append done (take (word b 4) (drop 6 b)))

-- a payload is at most 504 bytes for each block of the limit, whatever the file holds
pub payload_most : (base kind limit : ℕ) (f p : List ℕ) → payload_of base kind limit f ≡ ok p → length p ≤ 504 * limit
unfolding payload_of
payload_most base kind limit f p e =
    let one = passed _ _ _ _ _ e in
    let c : length f / 512 ≤ limit = leb→le _ _ (and_right _ _ (and_right _ _ one.0)) in
    let l : length p ≤ 0 + length f / 512 * 504 = blocks_most base kind (length f / 512) 0 f [] p one.1 in
    omega arith
