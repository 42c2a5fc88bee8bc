-- A block, and where it stands in a file.
use Rattle.std.specs.Prelude.{ℕ, zero, suc, ◌+◌, ◌-◌, ◌*◌, ◌≤◌, ◌<◌, ◌≡◌, refl, Bool, true, false, List, [], ◌∷◌, fold, get_or, take, drop, eqb, leb}
use Rattle.std.proofs.Common.{ap, sym, ◌∙◌, drop-drop, take-take, leb-true, eqb-true, ne_eqb, arith}
use Rattle.std.specs.Int.Bits.{bit_or, or_zero_l, or_add_and}
use Rattle.std.proofs.lemmas.Nat.{and_le_r}
use Rattle.std.specs.Simd.{first_chunks}
use Rattle.spec.specs.Outcome.{all, ◌and◌}
use Rattle.spec.specs.Wire.{checksum, word, filled, fill_ok}
use Rattle.checksum.specs.Sum.{front_not}
use Rattle.wire.specs.Payload.{drop_take}

-- the block that stands at an offset
abbrev pub block_at : List ℕ → ℕ → List ℕ
block_at f at = take 512 (drop at f)

-- is the stored checksum that of the block's other bytes
abbrev pub sum_ok : List ℕ → Bool
sum_ok b = eqb (word b 510) (checksum (take 510 b))

-- ---- bytes that are all zero, by the bits of all of them together

-- from bits that are set before
or_all_from : (a : ℕ) (xs : List ℕ) → eqb (fold bit_or a xs) 0 ≡ (eqb a 0 and all (λ x. eqb x 0) xs)
unfolding all ◌and◌
or_all_from zero [] = refl
or_all_from (suc a) [] = rw (ne_eqb (suc a) 0 (λ z. omega (arith, z)))
or_all_from a (b ∷ rest) = or_all_from (bit_or a b) rest ∙ sym (go a b)
  where
    go : (a b : ℕ) → (eqb a 0 and all (λ x. eqb x 0) (b ∷ rest)) ≡ (eqb (bit_or a b) 0 and all (λ x. eqb x 0) rest)
    go zero zero = rw (or_zero_l 0)
    go zero (suc b) = front_not (suc b) rest (λ z. omega (arith, z)) ∙ rw (or_zero_l (suc b), ne_eqb (suc b) 0 (λ z. omega (arith, z)))
    go (suc a) b = rw (ne_eqb (suc a) 0 (λ z. omega (arith, z)), ne_eqb (bit_or (suc a) b) 0 (λ z. omega (arith, z, or_add_and (suc a) b, and_le_r (suc a) b)))

-- none is set at the end where each byte is zero
pub or_all : (xs : List ℕ) → eqb (fold bit_or 0 xs) 0 ≡ all (λ x. eqb x 0) xs
unfolding ◌and◌
or_all xs = or_all_from 0 xs

-- ---- a block's parts

-- n bytes of payload, in the file
pub block_part : (f : List ℕ) (at n : ℕ) → n ≤ 504 → take n (drop 6 (block_at f at)) ≡ take n (drop (at + 6) f)
block_part f at n h = rw (drop_take 6 512 (drop at f), take-take n 506 (drop 6 (drop at f)) (omega arith), drop-drop 6 at f)

-- the padding after n bytes of payload
pub padding : (b : List ℕ) (n : ℕ) → drop n (take 504 (drop 6 b)) ≡ take (510 - (6 + n)) (drop (6 + n) b)
padding b n =
    let e : 504 - n ≡ 510 - (6 + n) = omega arith in
    rw (drop_take n 504 (drop 6 b), drop-drop n 6 b, e)

-- block i of the first k
pub chunk_at : (k i : ℕ) (f d : List ℕ) → i < k → get_or (first_chunks 512 k f) i d ≡ block_at f (i * 512)
chunk_at zero i f d h = absurd (omega arith)
chunk_at (suc k) zero f d h = refl
chunk_at (suc k) (suc i) f d h =
    let e : 512 + i * 512 ≡ suc i * 512 = omega arith in
    chunk_at k i (drop 512 f) d (omega arith) ∙ ap (take 512) (drop-drop (i * 512) 512 f ∙ ap (λ (x : ℕ). drop x f) e)

-- ---- what a fill that passes tells

-- the first of two tests that both hold
and_left : (a b : Bool) → (a and b) ≡ true → a ≡ true
unfolding ◌and◌
and_left true b e = refl
and_left false b e = e

-- and the second
and_right : (a b : Bool) → (a and b) ≡ true → b ≡ true
unfolding ◌and◌
and_right true b e = e
and_right false b e = let z : b ≡ true = cc in z

-- an allowed fill is at most 504
pub filled_le : (last : Bool) (n : ℕ) → filled last n ≡ true → n ≤ 504
unfolding filled
filled_le true n e = leb-true n 504 (and_right (leb 1 n) (leb n 504) e)
filled_le false n e = omega (arith, eqb-true n 504 e)

-- at least 1
pub filled_some : (last : Bool) (n : ℕ) → filled last n ≡ true → 1 ≤ n
unfolding filled
filled_some true n e = leb-true 1 n (and_left (leb 1 n) (leb n 504) e)
filled_some false n e = omega (arith, eqb-true n 504 e)

-- and 504 in all but the last block
pub filled_full : (n : ℕ) → filled false n ≡ true → n ≡ 504
unfolding filled
filled_full n e = eqb-true n 504 e

-- the fill of a block that passes is allowed
pub fill_filled : (last : Bool) (b : List ℕ) → fill_ok last b ≡ true → filled last (word b 4) ≡ true
unfolding fill_ok
fill_filled last b e = and_left (filled last (word b 4)) (all (λ x. eqb x 0) (drop (word b 4) (take 504 (drop 6 b)))) e
