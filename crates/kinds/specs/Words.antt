-- A vertex has no edge out of its zone if its row and the words of the vertices outside have no bit in common.
use Rattle.std.specs.Prelude.{ℕ, zero, suc, ◌+◌, ◌-◌, ◌*◌, ◌/◌, ◌%◌, ◌^◌, ◌≤◌, ◌<◌, min, ◌≡◌, refl, ◌⊎◌, Bool, false, List, [], get_or}
use Rattle.std.proofs.Math.Path.{ap, ap₂}
use Rattle.std.proofs.Common.{sym, ◌∙◌, inl, inr, pow-suc}
use Rattle.std.proofs.Math.Bool.{true, not}
use Rattle.std.proofs.Math.Dec.{eqb}
use Rattle.std.specs.Int.Bits.{bit_and, and_step, and_zero_r}
use borrow.Author.Tests.{eq-eqb, eqb-true}
use Rattle.std.proofs.Math.Nat.{pow-le-pow_right}
use native.Mathlib.Omega.{arith}
use mir.Val.{bool_byte}
use Rattle.spec.specs.Outcome.{◌or◌}
use Rattle.theory.specs.Basics.Tests.{below_at, true_of, of_true}
use Rattle.adjacency.specs.Bit.{bit_of, bit_zero, bit_suc}
use Rattle.adjacency.specs.Rows.{bit_at, bit_in_lem, bit_out, same_test, or_left, or_right, lt_or_ge}
use Rattle.kinds.specs.Tests.{stays_test, inner_test, below_all}

-- 0 where the vertex is in zone z, else 1
abbrev pub out_bit : Bool → ℕ
out_bit true = 0
out_bit false = 1

-- the word of k vertices from `at` on: bit i says that vertex at + i is not in zone z
unfoldable pub out_from : List ℕ → ℕ → ℕ → ℕ → ℕ
out_from zone z at zero = 0
out_from zone z at (suc k) = out_from zone z (at + 1) k * 2 + out_bit (eqb (get_or zone at 0) z)

bit_lt : (b : Bool) → out_bit b < 2
bit_lt true = omega arith
bit_lt false = omega arith

-- as the code has it
pub byte_out : (b : Bool) → (bool_byte (not b) ≡ out_bit b) × (bool_byte (not b) < 2)
byte_out true = (refl, omega arith)
byte_out false = (refl, omega arith)

-- it has k bits
pub out_lt : (zone : List ℕ) (z at k : ℕ) → out_from zone z at k < 2 ^ k
unfolding out_from
out_lt zone z at zero = omega arith
out_lt zone z at (suc k) = omega (arith, out_lt zone z (at + 1) k, bit_lt (eqb (get_or zone at 0) z), pow-suc 2 k)

-- a word of fewer than 64 bits has room for one more
pub out_room : (zone : List ℕ) (z at k : ℕ) → k < 64 → out_from zone z at k * 2 + 1 < 18446744073709551616
out_room zone z at k h = omega (arith, out_lt zone z at k, pow-suc 2 k, pow-le-pow_right {n = 2} (omega arith) {i = suc k} {j = 64} (omega arith))

-- one vertex more, from the last down
pub out_more : (zone : List ℕ) (z from i : ℕ) → 0 < i → i ≤ 64 → out_from zone z (from + (i - 1)) (64 - (i - 1)) ≡ out_from zone z (from + i) (64 - i) * 2 + out_bit (eqb (get_or zone (from + (i - 1)) 0) z)
unfolding out_from
out_more zone z from i h l =
    let a : 64 - (i - 1) ≡ suc (64 - i) = omega arith in
    let b : from + (i - 1) + 1 ≡ from + i = omega arith in
    ap (out_from zone z (from + (i - 1))) a ∙ ap (λ (x : ℕ). out_from zone z x (64 - i) * 2 + out_bit (eqb (get_or zone (from + (i - 1)) 0) z)) b

-- vertex at + i is in zone z, or bit i of the word is not set
abbrev clear_at : List ℕ → ℕ → ℕ → ℕ → ℕ → Bool
clear_at zone z at a i = eqb (get_or zone (at + i) 0) z or not (eqb (bit_of a i) 1)

-- one bit more at the bottom
pub split : (a w d : ℕ) → d < 2 → bit_and a (w * 2 + d) ≡ bit_and (a / 2) w * 2 + min (a % 2) d
split a w d h =
    let x : (w * 2 + d) / 2 ≡ w = omega arith in
    let y : (w * 2 + d) % 2 ≡ d = omega arith in
    and_step a (w * 2 + d) ∙ ap₂ (λ (p q : ℕ). bit_and (a / 2) p * 2 + min (a % 2) q) x y

-- no bit in common: each vertex is in the zone or its bit is not set
common_none : (zone : List ℕ) (z at k a : ℕ) → bit_and a (out_from zone z at k) ≡ 0 → (i : ℕ) → i < k → clear_at zone z at a i ≡ true
unfolding out_from ◌or◌
common_none zone z at zero a e i h = absurd (omega arith)
common_none zone z at (suc k) a e zero h = go (eqb (get_or zone at 0) z) refl
  where
    o : at + 0 ≡ at
    o = omega arith

    s : bit_and (a / 2) (out_from zone z (at + 1) k) * 2 + min (a % 2) (out_bit (eqb (get_or zone at 0) z)) ≡ 0
    s = sym (split a (out_from zone z (at + 1) k) (out_bit (eqb (get_or zone at 0) z)) (bit_lt (eqb (get_or zone at 0) z))) ∙ e

    go : (b : Bool) → eqb (get_or zone at 0) z ≡ b → clear_at zone z at a 0 ≡ true
    go true q = or_left (eqb (get_or zone (at + 0) 0) z) (not (eqb (bit_of a 0) 1)) (ap (λ (x : ℕ). eqb (get_or zone x 0) z) o ∙ q)
    go false q =
        let t : min (a % 2) 1 ≡ 0 = omega (arith, rw q at s) in
        let r : a % 2 ≡ 0 = omega arith in
        or_right (eqb (get_or zone (at + 0) 0) z) (not (eqb (bit_of a 0) 1)) (ap (λ (x : ℕ). not (eqb x 1)) (bit_zero a ∙ r))
common_none zone z at (suc k) a e (suc i) h =
    let s = sym (split a (out_from zone z (at + 1) k) (out_bit (eqb (get_or zone at 0) z)) (bit_lt (eqb (get_or zone at 0) z))) ∙ e in
    let t : bit_and (a / 2) (out_from zone z (at + 1) k) ≡ 0 = omega arith in
    let o : at + 1 + i ≡ at + suc i = omega arith in
    ap₂ (λ (x y : ℕ). eqb (get_or zone x 0) z or not (eqb y 1)) (sym o) (bit_suc a i) ∙ common_none zone z (at + 1) k (a / 2) t i (omega arith)

-- a bit that is not 1
pub clear : (x : ℕ) → x < 2 → not (eqb x 1) ≡ true → x ≡ 0
clear zero l e = refl
clear (suc zero) l e = absurd (let q : ◌≡◌ {A = ℕ} (elim false as (λ _. ℕ) [ true ↦ 0 | false ↦ 1 ]) (elim true as (λ _. ℕ) [ true ↦ 0 | false ↦ 1 ]) = ap (λ (b : Bool). elim b as (λ _. ℕ) [ true ↦ 0 | false ↦ 1 ]) e in omega arith)
clear (suc (suc x)) l e = absurd (omega arith)

-- and the other way
none_common : (zone : List ℕ) (z at k a : ℕ) → ((i : ℕ) → i < k → clear_at zone z at a i ≡ true) → bit_and a (out_from zone z at k) ≡ 0
unfolding out_from ◌or◌
none_common zone z at zero a h = and_zero_r a
none_common zone z at (suc k) a h =
    split a (out_from zone z (at + 1) k) (out_bit (eqb (get_or zone at 0) z)) (bit_lt (eqb (get_or zone at 0) z))
    ∙ ap₂ (λ (p q : ℕ). p * 2 + q) (none_common zone z (at + 1) k (a / 2) later) (go (eqb (get_or zone at 0) z) refl)
  where
    o : at + 0 ≡ at
    o = omega arith

    later : (i : ℕ) → i < k → clear_at zone z (at + 1) (a / 2) i ≡ true
    later i l =
        let p : at + 1 + i ≡ at + suc i = omega arith in
        ap₂ (λ (x y : ℕ). eqb (get_or zone x 0) z or not (eqb y 1)) p (sym (bit_suc a i)) ∙ h (suc i) (omega arith)

    go : (b : Bool) → eqb (get_or zone at 0) z ≡ b → min (a % 2) (out_bit (eqb (get_or zone at 0) z)) ≡ 0
    go true q = ap (λ (b : Bool). min (a % 2) (out_bit b)) q ∙ omega arith
    go false q =
        let w : clear_at zone z at a 0 ≡ true = h 0 (omega arith) in
        let c : (eqb (get_or zone (at + 0) 0) z) ≡ false = ap (λ (x : ℕ). eqb (get_or zone x 0) z) o ∙ q in
        let t : not (eqb (bit_of a 0) 1) ≡ true = rw c at w in
        let r : a % 2 ≡ 0 = clear (a % 2) (omega arith) (ap (λ (x : ℕ). not (eqb x 1)) (sym (bit_zero a)) ∙ t) in
        omega arith

-- the bits of a row, by its two words
pub low_bit : (rows : List (List ℕ)) (v u : ℕ) → v < 128 → u < 64 → bit_at rows v u ≡ eqb (bit_of (get_or (get_or rows v []) 0 0) u) 1
low_bit rows v u h l =
    let a : u / 64 ≡ 0 = omega arith in
    let b : u % 64 ≡ u = omega arith in
    sym (bit_in_lem rows v u h (omega arith)) ∙ ap₂ (λ (x y : ℕ). eqb (bit_of (get_or (get_or rows v []) x 0) y) 1) a b

pub high_bit : (rows : List (List ℕ)) (v i : ℕ) → v < 128 → i < 64 → bit_at rows v (64 + i) ≡ eqb (bit_of (get_or (get_or rows v []) 1 0) i) 1
high_bit rows v i h l =
    let a : (64 + i) / 64 ≡ 1 = omega arith in
    let b : (64 + i) % 64 ≡ i = omega arith in
    sym (bit_in_lem rows v (64 + i) h (omega arith)) ∙ ap₂ (λ (x y : ℕ). eqb (bit_of (get_or (get_or rows v []) x 0) y) 1) a b

module _ (rows : List (List ℕ)) (zone : List ℕ) (z v : ℕ) where
  -- a vertex that is not below 128 has no edge
  pub inner_out : 128 ≤ v → true ≡ inner_test rows zone z v
  inner_out h = sym (below_all (stays_test rows zone z v) 128 (λ u l. or_right (eqb (get_or zone u 0) z) _ (ap not (sym (bit_out rows v u h)))))

  module _ (low : v < 128) where
    first_word : inner_test rows zone z v ≡ true → bit_and (get_or (get_or rows v []) 0 0) (out_from zone z 0 64) ≡ 0
    first_word t = none_common zone z 0 64 (get_or (get_or rows v []) 0 0) (λ i l.
        let o : 0 + i ≡ i = omega arith in
        ap₂ (λ (x : ℕ) (b : Bool). eqb (get_or zone x 0) z or not b) o (sym (low_bit rows v i low l)) ∙ true_of (below_at (stays_test rows zone z v) 128 (of_true t) i (omega arith)))

    second_word : inner_test rows zone z v ≡ true → bit_and (get_or (get_or rows v []) 1 0) (out_from zone z 64 64) ≡ 0
    second_word t = none_common zone z 64 64 (get_or (get_or rows v []) 1 0) (λ i l.
        ap (λ (b : Bool). eqb (get_or zone (64 + i) 0) z or not b) (sym (high_bit rows v i low l)) ∙ true_of (below_at (stays_test rows zone z v) 128 (of_true t) (64 + i) (omega arith)))

    -- a bit in common with the first word, or with the second, is an edge out of the zone
    pub inner_first : (bit_and (get_or (get_or rows v []) 0 0) (out_from zone z 0 64) ≡ 0 → ⊥) → false ≡ inner_test rows zone z v
    inner_first h = go (inner_test rows zone z v) refl
      where
        go : (b : Bool) → inner_test rows zone z v ≡ b → false ≡ inner_test rows zone z v
        go true t = absurd (h (first_word t))
        go false t = sym t

    pub inner_second : bit_and (get_or (get_or rows v []) 0 0) (out_from zone z 0 64) ≡ 0 → eqb (bit_and (get_or (get_or rows v []) 1 0) (out_from zone z 64 64)) 0 ≡ inner_test rows zone z v
    unfolding ◌or◌
    inner_second f = same_test (eqb (bit_and (get_or (get_or rows v []) 1 0) (out_from zone z 64 64)) 0) (inner_test rows zone z v)
        (λ e. below_all (stays_test rows zone z v) 128 (λ u l. one (eqb-true _ _ e) u l (lt_or_ge u 64)))
        (λ t. eq-eqb _ _ (second_word t))
      where
        one : bit_and (get_or (get_or rows v []) 1 0) (out_from zone z 64 64) ≡ 0 → (u : ℕ) → u < 128 → (u < 64) ⊎ (64 ≤ u) → stays_test rows zone z v u ≡ true
        one s u l (inl q) =
            let o : 0 + u ≡ u = omega arith in
            ap₂ (λ (x : ℕ) (b : Bool). eqb (get_or zone x 0) z or not b) (sym o) (low_bit rows v u low q) ∙ common_none zone z 0 64 (get_or (get_or rows v []) 0 0) f u q
        one s u l (inr q) =
            let o : u ≡ 64 + (u - 64) = omega arith in
            ap (stays_test rows zone z v) o
            ∙ ap (λ (b : Bool). eqb (get_or zone (64 + (u - 64)) 0) z or not b) (high_bit rows v (u - 64) low (omega arith)) ∙ common_none zone z 64 64 (get_or (get_or rows v []) 1 0) s (u - 64) (omega arith)
