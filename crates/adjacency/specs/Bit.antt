-- Bit i of a number, and the laws of setting one.
use Rattle.std.specs.Prelude.{◌≡◌, refl, ℕ, zero, suc, ◌/◌, ◌%◌, ◌^◌, ◌<◌}
use Rattle.std.proofs.Common.{ap, ◌∙◌, pow-suc, div-one, mul-div_cancel, mod-lt, zero-lt-suc, arith}
use Rattle.std.proofs.Math.Nat.{pow-succ', div-div-eq-div-mul, zero-div, mul-mod_left}
use Rattle.std.specs.Int.Bits.{bit_or, or_zero_r}
use Rattle.std.proofs.lemmas.Nat.{or_shr, or_mod}

-- bit i of n, 0 or 1
abbrev pub bit_of : ℕ → ℕ → ℕ
bit_of n i = n / 2 ^ i % 2

-- bit 0, and bit i + 1
pub bit_zero : (n : ℕ) → bit_of n zero ≡ n % 2
bit_zero n = rw div-one

pub bit_suc : (n i : ℕ) → bit_of n (suc i) ≡ bit_of (n / 2) i
bit_suc n i = rw (pow-succ', ← div-div-eq-div-mul)

-- the bits of 2 ^ b
pub pow_bit_same : (b : ℕ) → bit_of (2 ^ b) b ≡ 1
pow_bit_same zero = refl
pow_bit_same (suc b) = bit_suc (2 ^ suc b) b ∙ rw (pow-suc, mul-div_cancel (2 ^ b) (zero-lt-suc 1)) (pow_bit_same b)

zero_bit : (i : ℕ) → bit_of 0 i ≡ 0
zero_bit i = rw zero-div

pub pow_bit_other : (b i : ℕ) → (b ≡ i → ⊥) → bit_of (2 ^ b) i ≡ 0
pow_bit_other zero zero h = absurd (h refl)
pow_bit_other zero (suc i) h = bit_suc 1 i ∙ zero_bit i
pow_bit_other (suc b) zero h = bit_zero (2 ^ suc b) ∙ rw (pow-suc, mul-mod_left)
pow_bit_other (suc b) (suc i) h =
    bit_suc (2 ^ suc b) i ∙ rw (pow-suc, mul-div_cancel (2 ^ b) (zero-lt-suc 1)) (pow_bit_other b i (λ e. h (ap suc e)))

or_bit : (a b i : ℕ) → bit_of (bit_or a b) i ≡ bit_or (bit_of a i) (bit_of b i)
or_bit a b i = rw (or_shr, or_mod (a / 2 ^ i) (b / 2 ^ i) 1)

or_one : (x : ℕ) → x < 2 → bit_or x 1 ≡ 1
or_one zero h = refl
or_one (suc zero) h = refl
or_one (suc (suc x)) h = absurd (omega arith)

-- setting bit b
pub set_same : (n b : ℕ) → bit_of (bit_or n (2 ^ b)) b ≡ 1
set_same n b = or_bit n (2 ^ b) b ∙ rw pow_bit_same (or_one (bit_of n b) (mod-lt (n / 2 ^ b) (zero-lt-suc 1)))

pub set_other : (n b i : ℕ) → (b ≡ i → ⊥) → bit_of (bit_or n (2 ^ b)) i ≡ bit_of n i
set_other n b i h = or_bit n (2 ^ b) i ∙ rw (pow_bit_other b i h) (or_zero_r (bit_of n i))
