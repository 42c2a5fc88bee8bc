-- Two-byte numbers, zeros and bytes.
use Rattle.std.specs.Prelude.{◌≡◌, refl, [], ◌∷◌, List, ◌++◌, ℕ, ◌+◌, ◌*◌, ◌/◌, ◌%◌, ◌<◌, zero, suc, replicate, length, get_or, take, drop, T, eqb}
use Rattle.std.proofs.Common.{ap₂, arith, length-take, get_or-take, get_or-drop, eqb→eq, lit<}
use Rattle.std.proofs.Math.ListN.{get_or-eq_default}
use Rattle.std.proofs.Math.Decide.{dec_lt}
use Rattle.spec.specs.Outcome.{u16, all}
use Rattle.spec.specs.Terms.{Bytes}
use Rattle.theory.specs.Basics.Lists.{get_d_uniform, Each, none, ◌&&&◌, all→each}

-- a number below 65536 is read back from its two bytes
pub word_u16 : (n : ℕ) → n < 65536 → n / 256 % 256 * 256 + n % 256 ≡ n
word_u16 n h = omega arith

-- two bytes are those of the number that they are read as
pub u16_word : (a b : ℕ) → a < 256 → b < 256 → u16 (a * 256 + b) ≡ a ∷ b ∷ []
unfolding u16
u16_word a b h k =
    let e : (a * 256 + b) / 256 % 256 ≡ a = omega arith in
    let f : (a * 256 + b) % 256 ≡ b = omega arith in
    rw (e, f)

-- ---- zeros

-- zeros pass the test of padding
pub all_zeros : (n : ℕ) → T (all (λ x. eqb x 0) (replicate n 0))
unfolding all
all_zeros zero = tt
all_zeros (suc n) = all_zeros n

-- what passes it is zeros
pub zeros_of : (xs : List ℕ) → T (all (λ x. eqb x 0) xs) → xs ≡ replicate (length xs) 0
zeros_of xs t = go (all→each (λ x. eqb x 0) xs t)
  where
    go : {xs : List ℕ} → Each (λ x. T (eqb x 0)) xs → xs ≡ replicate (length xs) 0
    go none = refl
    go (◌&&&◌ {x} {xs} h hs) = ap₂ {C = List ℕ} (λ y ys. y ∷ ys) (eqb→eq x 0 h) (go hs)

-- ---- parts of bytes

-- parts of a slice of bytes are bytes
pub bytes_take : (n : ℕ) (f : List ℕ) → Bytes f → Bytes (take n f)
bytes_take n f h i = go (dec_lt i n)
  where
    go : Dec (i < n) → get_or (take n f) i 0 < 256
    go (yes l) = rw (get_or-take n f i 0 l) (h i)
    go (no l) = rw (get_or-eq_default (take n f) 0 {n = i} (omega (arith, length-take n f))) (lit< tt)

-- what is left of a slice of bytes is bytes
pub bytes_drop : (n : ℕ) (f : List ℕ) → Bytes f → Bytes (drop n f)
bytes_drop n f h i = rw get_or-drop (h (n + i))

-- bytes after bytes are bytes
pub bytes_append : (xs ys : List ℕ) → Bytes xs → Bytes ys → Bytes (xs ++ ys)
bytes_append [] ys h k i = k i
bytes_append (x ∷ xs) ys h k zero = h 0
bytes_append (x ∷ xs) ys h k (suc i) = bytes_append xs ys (λ i. h (suc i)) k i

-- a byte before bytes
pub bytes_cons : (x : ℕ) (xs : List ℕ) → x < 256 → Bytes xs → Bytes (x ∷ xs)
bytes_cons x xs h k zero = h
bytes_cons x xs h k (suc i) = k i

-- a two-byte number is two bytes
pub u16_bytes : (n : ℕ) → Bytes (u16 n)
unfolding u16
u16_bytes n zero = omega arith
u16_bytes n (suc zero) = omega arith
u16_bytes n (suc (suc i)) = lit< tt

-- zeros are bytes
pub zeros_bytes : (n : ℕ) → Bytes (replicate n 0)
zeros_bytes n i = rw get_d_uniform (lit< tt)
