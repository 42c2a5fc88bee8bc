-- The stored checksum of a block that stands anywhere in a longer list, by the sum of all its words.
use Rattle.std.specs.Prelude.{ℕ, ◌+◌, ◌*◌, ◌%◌, ◌≤◌, ◌<◌, ◌≡◌, false, List, length, get_or, take, drop, eqb}
use Rattle.std.proofs.Common.{ap, ap₂, sym, ◌∙◌, get_or-drop, get_or-take, take-take, length-drop, length-take-le, arith}
use Rattle.spec.specs.Outcome.{all}
use Rattle.spec.specs.Wire.{add_round, sum_words, checksum, word}
use Rattle.spec.specs.Terms.{Bytes}
use Rattle.checksum.specs.Sum.{folded, bytes_take}
use Rattle.checksum.specs.Sum as block

-- what is left of a list of bytes is bytes
bytes_drop : (n : ℕ) (l : List ℕ) → Bytes l → Bytes (drop n l)
bytes_drop n l h i = rw get_or-drop (h (n + i))

module _ (f : List ℕ) (at : ℕ) (h : Bytes f) (l : at + 512 ≤ length f) where
  -- the block is 512 bytes
  bytes : Bytes (take 512 (drop at f))
  bytes = bytes_take 512 (drop at f) (bytes_drop at f h)

  long : length (take 512 (drop at f)) ≡ 512
  long = length-take-le 512 (drop at f) (omega (arith, length-drop at f))

  -- and each stands in the list
  byte_in : (i : ℕ) → i < 512 → get_or (take 512 (drop at f)) i 0 ≡ get_or f (at + i) 0
  byte_in i q = get_or-take 512 (drop at f) i 0 q ∙ get_or-drop at f i 0

  -- its stored word
  stored : word (take 512 (drop at f)) 510 ≡ word f (at + 510)
  unfolding word
  stored =
      let e : at + 511 ≡ at + 510 + 1 = omega arith in
      ap₂ (λ (a b : ℕ). a * 256 + b) (byte_in 510 (omega arith)) (byte_in 511 (omega arith) ∙ ap (λ (i : ℕ). get_or f i 0) e)

  -- and its other bytes
  others : take 510 (take 512 (drop at f)) ≡ take 510 (drop at f)
  others = take-take 510 512 (drop at f) (omega arith)

  -- the sum of the block is that of its other bytes with the stored word
  pub sum_stored : sum_words (take 512 (drop at f)) ≡ add_round (word f (at + 510)) (sum_words (take 510 (drop at f)))
  sum_stored = block.sum_stored (take 512 (drop at f)) bytes long ∙ ap₂ (λ (w : ℕ) (bs : List ℕ). add_round w (sum_words bs)) stored others

  -- or just that, where the stored word is 0
  pub sum_unstored : word f (at + 510) ≡ 0 → sum_words (take 512 (drop at f)) ≡ sum_words (take 510 (drop at f))
  sum_unstored z = block.sum_unstored (take 512 (drop at f)) bytes long (stored ∙ z) ∙ ap sum_words others

  -- the stored word is the checksum of the others: of the block, and of the list
  held : eqb (word (take 512 (drop at f)) 510) (checksum (take 510 (take 512 (drop at f)))) ≡ eqb (word f (at + 510)) (checksum (take 510 (drop at f)))
  held = ap₂ (λ (w : ℕ) (bs : List ℕ). eqb w (checksum bs)) stored others

  -- the stored word is 65535: the checksum where the others are zeros
  pub stored_zeros : word f (at + 510) ≡ 65535 → (n : ℕ) → n ≡ 510 → all (λ x. eqb x 0) (take n (drop at f)) ≡ eqb (word f (at + 510)) (checksum (take 510 (drop at f)))
  stored_zeros e n z =
      ap (λ (k : ℕ). all (λ x. eqb x 0) (take k (drop at f))) z
      ∙ ap (λ (bs : List ℕ). all (λ x. eqb x 0) bs) (sym others)
      ∙ block.stored_zeros (take 512 (drop at f)) bytes long (stored ∙ e)
      ∙ held

  module _ (s : ℕ) (e : folded (s * 256) ≡ sum_words (take 512 (drop at f))) where
    -- the whole sum is 0: it is not
    pub stored_nothing : s ≡ 0 → false ≡ eqb (word f (at + 510)) (checksum (take 510 (drop at f)))
    stored_nothing z = block.stored_nothing (take 512 (drop at f)) bytes long s e z ∙ held

    -- any other: where the whole sum is a multiple of 65535
    pub stored_sums : (word f (at + 510) ≡ 65535 → ⊥) → 0 < s → eqb (s % 65535) 0 ≡ eqb (word f (at + 510)) (checksum (take 510 (drop at f)))
    stored_sums w p = block.stored_sums (take 512 (drop at f)) bytes long s e (λ q. w (sym stored ∙ q)) p ∙ held
