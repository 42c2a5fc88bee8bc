-- What the check of a file says, and that it says what `payload_of` does.
use Prim.Native.Nat.{ℕ, suc, ◌+◌, ◌-◌, ◌*◌, ◌/◌, ◌%◌, ◌≤◌, ◌<◌}
use Rattle.std.specs.Prelude.{◌≡◌, refl, Bool, true, false, List, [], ◌++◌, length, take, drop, eqb, Result, Ok, Err}
use Rattle.std.proofs.Common.{ap, subst, ◌∙◌, drop-drop, take-take, take-add}
use Rattle.std.proofs.Math.Path.{sym}
use borrow.Author.Tests.{eqb-true, eqb-false, eq-eqb, ne_eqb, le-leb, lt-leb}
use native.Mathlib.Omega.{arith}
use Rattle.spec.specs.Outcome.{Outcome, ok, refuse, ◌>>◌, check, ◌and◌}
use Rattle.spec.specs.Wire.{word, head_ok, filled, fill_ok, payload_from, payload_of}
use Rattle.checking.specs.Block.{block_at, sum_ok, block_part, fill_filled, filled_le, filled_some, filled_full}
use Rattle.wire.specs.Payload.{payload, chunk}
use Rattle.checking.specs.declared.FileFault.{FileFault}
use Rattle.checking.specs.declared.FileFault.TheVariants.{Length, Checksum, Head, Fill}

-- document 01's number and place for each case; `base` is 10, 20, 30, 40 for map, placing, plan, moves
abbrev pub checked_of : ℕ → List ℕ → Result ℕ FileFault → Outcome (List ℕ)
checked_of base f (Ok m) = ok (take m (payload f))
checked_of base f (Err Length) = refuse (base + 1) 0
checked_of base f (Err (Checksum i)) = refuse (base + 2) i
checked_of base f (Err (Head i)) = refuse (base + 3) i
checked_of base f (Err (Fill i)) = refuse (base + 4) i

-- a file with a payload of m bytes is whole blocks, within the limit, and has room for them
pub record Whole (limit : ℕ) (f : List ℕ) (m : ℕ) : Type 0 where
  pub blocks : length f % 512 ≡ 0
  pub some : 1 ≤ m
  pub most : m ≤ length f / 512 * 504
  pub limited : length f ≤ limit * 512

-- what callers know of each case: a payload stands in the file; a block that is refused is within the limit
abbrev pub Held : ℕ → List ℕ → Result ℕ FileFault → Type 0
Held limit f (Ok m) = Whole limit f m
Held limit f (Err Length) = Unit {0}
Held limit f (Err (Checksum i)) = i < limit
Held limit f (Err (Head i)) = i < limit
Held limit f (Err (Fill i)) = i < limit

-- ---- what callers cite

-- where a check has come out as `s`, the case's facts hold
pub held_as : (limit : ℕ) (f : List ℕ) (r s : Result ℕ FileFault) → Held limit f r → r ≡ s → Held limit f s
held_as limit f r s h z = subst (λ (x : Result ℕ FileFault). Held limit f x) z h

-- ---- one block

module _ (base kind i n : ℕ) (rest done : List ℕ) (more : i < n) where
  -- the definition, at one block
  one : payload_from base kind i (n - i) rest done
      ≡ (check (sum_ok (take 512 rest)) (base + 2) i
      >> (check (head_ok kind i (take 512 rest)) (base + 3) i
      >> (check (fill_ok (eqb (n - (i + 1)) 0) (take 512 rest)) (base + 4) i
      >> payload_from base kind (i + 1) (n - (i + 1)) (drop 512 rest) (done ++ take (word (take 512 rest) 4) (drop 6 (take 512 rest))))))
  unfolding payload_from
  one = let s : n - i ≡ suc (n - (i + 1)) = omega arith in rw s

  -- a wrong checksum
  pub refused_sum : sum_ok (take 512 rest) ≡ false → payload_from base kind i (n - i) rest done ≡ refuse (base + 2) i
  unfolding check ◌>>◌
  refused_sum s = one ∙ rw s

  -- a wrong head
  pub refused_head : sum_ok (take 512 rest) ≡ true → head_ok kind i (take 512 rest) ≡ false
      → payload_from base kind i (n - i) rest done ≡ refuse (base + 3) i
  unfolding check ◌>>◌
  refused_head s h = one ∙ rw (s, h)

  -- a wrong fill or padding
  pub refused_fill : sum_ok (take 512 rest) ≡ true → head_ok kind i (take 512 rest) ≡ true
      → fill_ok (eqb (n - (i + 1)) 0) (take 512 rest) ≡ false
      → payload_from base kind i (n - i) rest done ≡ refuse (base + 4) i
  unfolding check ◌>>◌
  refused_fill s h g = one ∙ rw (s, h, g)

  -- a good block
  passed_block : sum_ok (take 512 rest) ≡ true → head_ok kind i (take 512 rest) ≡ true
      → fill_ok (eqb (n - (i + 1)) 0) (take 512 rest) ≡ true
      → payload_from base kind i (n - i) rest done
      ≡ payload_from base kind (i + 1) (n - (i + 1)) (drop 512 rest) (done ++ take (word (take 512 rest) 4) (drop 6 (take 512 rest)))
  unfolding check ◌>>◌
  passed_block s h g = one ∙ rw (s, h, g)

-- ---- the size of a file

module _ (f : List ℕ) (base kind limit : ℕ) where
  -- not whole blocks
  pub size_odd : (length f % 512 ≡ 0 → ⊥) → refuse (base + 1) 0 ≡ payload_of base kind limit f
  unfolding payload_of check ◌>>◌ ◌and◌
  size_odd h = simp (payload_of, ne_eqb _ _ h)

  -- length 0
  pub size_none : length f % 512 ≡ 0 → length f / 512 < 1 → refuse (base + 1) 0 ≡ payload_of base kind limit f
  unfolding payload_of check ◌>>◌ ◌and◌
  size_none h g = simp (payload_of, eq-eqb _ _ h, lt-leb _ _ g)

  -- over the limit
  pub size_over : length f % 512 ≡ 0 → 1 ≤ length f / 512 → limit < length f / 512 → refuse (base + 1) 0 ≡ payload_of base kind limit f
  unfolding payload_of check ◌>>◌ ◌and◌
  size_over h g l = simp (payload_of, eq-eqb _ _ h, le-leb _ _ g, lt-leb _ _ l)

  -- a size that passes
  pub size_fits : length f % 512 ≡ 0 → 1 ≤ length f / 512 → length f / 512 ≤ limit
      → payload_of base kind limit f ≡ payload_from base kind 0 (length f / 512) f []
  unfolding payload_of check ◌>>◌ ◌and◌
  size_fits h g l = simp (payload_of, eq-eqb _ _ h, le-leb _ _ g, le-leb _ _ l)

-- ---- the blocks of a file, one after the other

-- the payload with one more block's part
grown : (f : List ℕ) (i w : ℕ) → (i + 1) * 512 ≤ length f → w ≤ 504
    → take (i * 504) (payload f) ++ take w (drop 6 (block_at f (i * 512))) ≡ take (i * 504 + w) (payload f)
grown f i w h g =
    let c : take w (drop 6 (block_at f (i * 512))) ≡ take w (drop (i * 504) (payload f)) =
    block_part f (i * 512) w g ∙ sym (take-take w 504 (drop (i * 512 + 6) f) g) ∙ ap (take w) (sym (chunk f i h)) ∙ take-take w 504 (drop (i * 504) (payload f)) g in
    rw c (sym (take-add (i * 504) w (payload f)))

-- the last block is the one with none after it
pub last_block : (i n : ℕ) → i < n → eqb (i + 1) n ≡ eqb (n - (i + 1)) 0
last_block i n h = go (eqb (i + 1) n) refl
  where
    go : (t : Bool) → eqb (i + 1) n ≡ t → eqb (i + 1) n ≡ eqb (n - (i + 1)) 0
    go true e = e ∙ sym (eq-eqb (n - (i + 1)) 0 (omega (arith, eqb-true (i + 1) n e)))
    go false e = e ∙ sym (ne_eqb (n - (i + 1)) 0 (λ (z : n - (i + 1) ≡ 0). eqb-false (i + 1) n e (omega (arith, z))))

-- the check of a file of n blocks stands before block i, with len bytes of payload behind it
pub record Going (kind limit : ℕ) (f : List ℕ) (n i len : ℕ) : Type 0 where
  pub blocks : length f % 512 ≡ 0
  pub count : n ≡ length f / 512
  pub some : 1 ≤ n
  pub limited : n ≤ limit
  pub upto : i ≤ n
  pub most : len ≤ i * 504
  pub behind : 0 < i → 1 ≤ len
  pub before : i < n → len ≡ i * 504
  pub same : (base : ℕ) → payload_of base kind limit f ≡ payload_from base kind i (n - i) (drop (i * 512) f) (take len (payload f))

-- it starts before block 0
pub going_start : (kind limit : ℕ) (f : List ℕ) (n : ℕ) → length f % 512 ≡ 0 → n ≡ length f / 512 → 1 ≤ n → n ≤ limit → Going kind limit f n 0 0
going_start kind limit f n h e g l =
    record {
      blocks = h;
      count = e;
      some = g;
      limited = l;
      upto = omega arith;
      most = omega arith;
      behind = λ (z : 0 < 0). omega (arith, z);
      before = λ z. omega arith;
      same = λ base. let k : length f / 512 ≡ n - 0 = omega arith in size_fits f base kind limit h (omega arith) (omega arith) ∙ ap (λ (k : ℕ). payload_from base kind 0 k f []) k;
    }

module _ (kind limit : ℕ) (f : List ℕ) (n i len : ℕ) (g : Going kind limit f n i len) where
  -- it ends with a wrong checksum
  pub going_sum : i < n → sum_ok (block_at f (i * 512)) ≡ false → (base : ℕ) → refuse (base + 2) i ≡ payload_of base kind limit f
  going_sum h s base = sym (g.same base ∙ refused_sum base kind i n (drop (i * 512) f) (take len (payload f)) h s)

  -- with a wrong head
  pub going_head : i < n → sum_ok (block_at f (i * 512)) ≡ true → head_ok kind i (block_at f (i * 512)) ≡ false
      → (base : ℕ) → refuse (base + 3) i ≡ payload_of base kind limit f
  going_head h s t base = sym (g.same base ∙ refused_head base kind i n (drop (i * 512) f) (take len (payload f)) h s t)

  -- with a wrong fill or padding
  pub going_fill : i < n → sum_ok (block_at f (i * 512)) ≡ true → head_ok kind i (block_at f (i * 512)) ≡ true
      → fill_ok (eqb (i + 1) n) (block_at f (i * 512)) ≡ false → (base : ℕ) → refuse (base + 4) i ≡ payload_of base kind limit f
  going_fill h s t u base =
      sym (g.same base ∙ refused_fill base kind i n (drop (i * 512) f) (take len (payload f)) h s t (rw (last_block i n h) at u))

  -- or with the payload, after the last block
  pub going_end : n ≤ i → (base : ℕ) → ok (take len (payload f)) ≡ payload_of base kind limit f
  unfolding payload_from
  going_end h base = let e : n - i ≡ 0 = omega arith in sym (g.same base ∙ rw e)

  -- which stands in the file
  pub going_whole : n ≤ i → Whole limit f len
  going_whole h = record { blocks = g.blocks; some = g.behind (omega arith); most = omega arith; limited = omega arith }

  module _ (h : i < n) (w : ℕ) (is : w ≡ word (block_at f (i * 512)) 4) (s : sum_ok (block_at f (i * 512)) ≡ true)
      (t : head_ok kind i (block_at f (i * 512)) ≡ true) (u : fill_ok (eqb (i + 1) n) (block_at f (i * 512)) ≡ true) where
    -- the fill of a good block is allowed
    allowed : filled (eqb (i + 1) n) w ≡ true
    allowed = rw is (fill_filled (eqb (i + 1) n) (block_at f (i * 512)) u)

    -- so at most 504
    pub good_le : w ≤ 504
    good_le = filled_le (eqb (i + 1) n) w allowed

    -- and 504 where another block follows
    good_full : i + 1 < n → w ≡ 504
    good_full k = let z : eqb (i + 1) n ≡ false = ne_eqb (i + 1) n (λ (e : i + 1 ≡ n). omega (arith, e)) in filled_full w (rw z at allowed)

    -- the definition goes on to the next block
    next : (base : ℕ) → payload_from base kind i (n - i) (drop (i * 512) f) (take len (payload f))
        ≡ payload_from base kind (i + 1) (n - (i + 1)) (drop ((i + 1) * 512) f) (take (len + w) (payload f))
    next base =
        let a : i * 512 + 512 ≡ (i + 1) * 512 = omega arith in
        passed_block base kind i n (drop (i * 512) f) (take len (payload f)) h s t (rw (last_block i n h) at u)
        ∙ rw (g.before h, ← is, grown f i w (omega arith) good_le, drop-drop 512 (i * 512) f, a)

    -- a good block brings it to the next
    pub going_more : Going kind limit f n (i + 1) (len + w)
    going_more =
        record {
          blocks = g.blocks;
          count = g.count;
          some = g.some;
          limited = g.limited;
          upto = omega arith;
          most = omega (arith, good_le);
          behind = λ z. omega (arith, filled_some (eqb (i + 1) n) w allowed);
          before = λ k. omega (arith, good_full k, g.before h);
          same = λ base. g.same base ∙ next base;
        }
