-- The Internet checksum by a plain sum that is folded once at the end (RFC 1071, 2 (A) to (C)).
use Rattle.std.specs.Prelude.{ℕ, zero, suc, ◌+◌, ◌-◌, ◌*◌, ◌/◌, ◌%◌, ◌≤◌, ◌<◌, ◌≡◌, refl, Bool, true, false, List, [], ◌∷◌, length, get_or, take, drop, ltb, eqb}
use Rattle.std.proofs.Common.{ap, ◌∙◌, drop-cons, take_all, ltb-true, ltb-false, lt-ltb, le-ltb, eqb-true, eq-eqb, ne_eqb, add-one, arith}
use Rattle.std.proofs.Math.Path.{sym}
use Rattle.std.proofs.lemmas.Bool.{eqb-false}
use Rattle.spec.specs.Outcome.{all}
use Rattle.spec.specs.Wire.{add_round, sum_words, checksum, word}
use Rattle.spec.specs.Terms.{Bytes}

-- the plain sum of the 16-bit words
unfoldable pub plain : List ℕ → ℕ
plain [] = 0
plain (a ∷ []) = a * 256
plain (a ∷ b ∷ rest) = a * 256 + b + plain rest

-- n folded to 16 bits: what is left when carries have gone round to the low end
unfoldable pub folded : ℕ → ℕ
folded zero = 0
folded (suc n) = n % 65535 + 1

-- but for 0, it is the rest by 65535, counted from 1
pub folded_is : (n : ℕ) → 0 < n → folded n ≡ (n - 1) % 65535 + 1
unfolding folded
folded_is zero h = absurd (omega arith)
folded_is (suc n) h = ap (λ (k : ℕ). k % 65535 + 1) (omega arith)

-- 0 stays 0
pub folded_zero : folded 0 ≡ 0
unfolding folded
folded_zero = refl

-- any other number, by cases
folded_suc : (n : ℕ) → folded (suc n) ≡ n % 65535 + 1
unfolding folded
folded_suc n = refl

-- addition with no carry
round_low : (a b : ℕ) → a + b < 65536 → add_round a b ≡ a + b
unfolding add_round
round_low a b h = rw (add_round, lt-ltb (a + b) 65536 h)

-- addition with a carry that goes round
round_high : (a b : ℕ) → 65536 ≤ a + b → add_round a b ≡ a + b - 65535
unfolding add_round
round_high a b h = rw (add_round, le-ltb (a + b) 65536 h)

-- a word may be added before or after folding
pub folded_add : (w n : ℕ) → w < 65536 → add_round w (folded n) ≡ folded (w + n)
folded_add zero zero h = ap (add_round 0) folded_zero ∙ round_low 0 0 (omega arith) ∙ sym folded_zero
folded_add (suc w) zero h =
    ap (add_round (suc w)) folded_zero ∙ round_low (suc w) 0 (omega arith) ∙ sym (folded_is (suc w + 0) (omega arith) ∙ omega arith)
folded_add w (suc n) h = go (ltb (w + folded (suc n)) 65536) refl
  where
    r : folded (suc n) ≡ n % 65535 + 1
    r = folded_suc n

    go : (t : Bool) → ltb (w + folded (suc n)) 65536 ≡ t → add_round w (folded (suc n)) ≡ folded (w + suc n)
    go true e =
        let l = ltb-true _ _ e in
        round_low w (folded (suc n)) l ∙ sym (folded_is (w + suc n) (omega arith) ∙ omega (arith, r))
    go false e =
        let l = ltb-false _ _ e in
        round_high w (folded (suc n)) l ∙ sym (folded_is (w + suc n) (omega arith) ∙ omega (arith, r))

-- so the sum with each carry going round at once is the plain sum, folded at the end
pub sum_plain : (bs : List ℕ) → Bytes bs → sum_words bs ≡ folded (plain bs)
unfolding sum_words plain
sum_plain [] h = sym folded_zero
sum_plain (a ∷ []) h = one (a * 256) (omega (arith, h 0))
  where
    one : (w : ℕ) → w < 65536 → w ≡ folded w
    one zero l = sym folded_zero
    one (suc n) l = sym (folded_suc n ∙ omega arith)
sum_plain (a ∷ b ∷ rest) h =
    ap (add_round (a * 256 + b)) (sum_plain rest (λ i. h (suc (suc i)))) ∙ folded_add (a * 256 + b) (plain rest) (omega (arith, h 0, h 1))

-- the first word of what is left
pub plain_more : (f : List ℕ) (o k : ℕ) → o + 2 ≤ length f → plain (take (k + 2) (drop o f)) ≡ word f o + plain (take k (drop (o + 2) f))
unfolding plain word
plain_more f o k h =
    let h1 : o < length f = omega arith in
    let h2 : suc o < length f = omega arith in
    let e : k + 2 ≡ suc (suc k) = omega arith in
    let e2 : o + 2 ≡ suc (suc o) = omega arith in
    rw (e, e2, drop-cons f o 0 h1, drop-cons f (suc o) 0 h2) two
  where
    two : plain (get_or f o 0 ∷ get_or f (suc o) 0 ∷ take k (drop (suc (suc o)) f)) ≡ word f o + plain (take k (drop (suc (suc o)) f))
    two = ap (λ (x : ℕ). get_or f o 0 * 256 + get_or f x 0 + plain (take k (drop (suc (suc o)) f))) (sym (add-one o))

-- the same, by how much is left
pub plain_less : (f : List ℕ) (o n : ℕ) → 2 ≤ n → o + 2 ≤ length f → plain (take n (drop o f)) ≡ word f o + plain (take (n - 2) (drop (o + 2) f))
plain_less f o n k h =
    let e : n ≡ n - 2 + 2 = omega arith in
    ap (λ (m : ℕ). plain (take m (drop o f))) e ∙ plain_more f o (n - 2) h

-- nothing is left
pub plain_none : (f : List ℕ) (n : ℕ) → n ≡ 0 → plain (take n f) ≡ 0
unfolding plain
plain_none f n h = ap (λ (m : ℕ). plain (take m f)) h

-- the front of a list of bytes is bytes
pub bytes_take : (n : ℕ) (l : List ℕ) → Bytes l → Bytes (take n l)
bytes_take zero l h i = omega arith
bytes_take (suc n) [] h i = h i
bytes_take (suc n) (x ∷ l) h zero = h 0
bytes_take (suc n) (x ∷ l) h (suc i) = bytes_take n l (λ j. h (suc j)) i

-- the sum of the front
sum_part : (n : ℕ) (f : List ℕ) → Bytes f → sum_words (take n f) ≡ folded (plain (take n f))
sum_part n f h = sum_plain (take n f) (bytes_take n f h)

-- ---- four bytes at once, the low byte first

-- the 32-bit number at o, its low byte first
abbrev pub little : List ℕ → ℕ → ℕ
little f o = get_or f o 0 + get_or f (o + 1) 0 * 256 + get_or f (o + 2) 0 * 65536 + get_or f (o + 3) 0 * 16777216

-- multiples of 65535 fold away
folded_same : (m n k : ℕ) → m ≡ n + 65535 * k → (n ≡ 0 → k ≡ 0) → folded m ≡ folded n
folded_same m zero k e z = ap folded (omega (arith, z refl))
folded_same m (suc n) k e z = folded_is m (omega arith) ∙ omega arith ∙ sym (folded_suc n)

-- two words may be summed as one 32-bit number whose bytes stand the other way round
fold_bytes : (s a b c d x : ℕ)
    → folded ((s + (a + b * 256 + c * 65536 + d * 16777216)) * 256 + x) ≡ folded (s * 256 + (a * 256 + b + (c * 256 + d + x)))
fold_bytes s a b c d x = folded_same _ _ (b + c * 256 + d * 65537) (omega arith) (λ z. omega arith)

-- four bytes of a file go from what is left to what is summed
pub fold_four : (f : List ℕ) (s o n : ℕ) → 4 ≤ n → o + 4 ≤ length f
    → folded (s * 256 + plain (take n (drop o f))) ≡ folded ((s + little f o) * 256 + plain (take (n - 4) (drop (o + 4) f)))
unfolding word
fold_four f s o n k h =
    let a : o + 2 + 2 ≡ o + 4 = omega arith in
    let b : n - 2 - 2 ≡ n - 4 = omega arith in
    let c : o + 2 + 1 ≡ o + 3 = omega arith in
    let p : plain (take n (drop o f)) ≡ word f o + (word f (o + 2) + plain (take (n - 4) (drop (o + 4) f))) =
    plain_less f o n (omega arith) (omega arith)
    ∙ ap (λ (x : ℕ). word f o + x) (plain_less f (o + 2) (n - 2) (omega arith) (omega arith) ∙ rw (a, b)) in
    ap (λ (x : ℕ). folded (s * 256 + x)) p ∙ rw c
    (sym (fold_bytes s (get_or f o 0) (get_or f (o + 1) 0) (get_or f (o + 2) 0) (get_or f (o + 3) 0) (plain (take (n - 4) (drop (o + 4) f)))))

-- eight bytes, in two sums
pub fold_eight : (f : List ℕ) (s t o n : ℕ) → 8 ≤ n → o + 8 ≤ length f
    → folded ((s + t) * 256 + plain (take n (drop o f))) ≡ folded ((s + little f o + (t + little f (o + 4))) * 256 + plain (take (n - 8) (drop (o + 8) f)))
fold_eight f s t o n k h =
    let a : o + 4 + 4 ≡ o + 8 = omega arith in
    let b : n - 4 - 4 ≡ n - 8 = omega arith in
    let c : s + t + little f o + little f (o + 4) ≡ s + little f o + (t + little f (o + 4)) = omega arith in
    fold_four f (s + t) o n (omega arith) (omega arith)
    ∙ fold_four f (s + t + little f o) (o + 4) (n - 4) (omega arith) (omega arith)
    ∙ rw (a, b, c)

-- a block is all its 512 bytes
whole : (f : List ℕ) → length f ≡ 512 → take 512 f ≡ f
whole f l = take_all 512 f (omega (arith, l))

-- nothing summed yet
pub fold_none : (f : List ℕ) → Bytes f → length f ≡ 512 → folded ((0 + 0) * 256 + plain (take (512 - 0) (drop 0 f))) ≡ sum_words f
fold_none f h l =
    let b : (0 + 0) * 256 + plain (take 512 f) ≡ plain f = omega (arith, ap plain (whole f l)) in
    ap folded b ∙ sym (sum_plain f h)

-- nothing left
pub fold_all : (f : List ℕ) (s n : ℕ) → n ≡ 0 → folded (s * 256 + plain (take n f)) ≡ folded (s * 256)
fold_all f s n h = ap folded (omega (arith, plain_none f n h))

-- ---- the word behind the others

-- as the last of a sum
plain_end : (f : List ℕ) (k o : ℕ) → o + k * 2 + 2 ≤ length f → plain (take (k * 2 + 2) (drop o f)) ≡ plain (take (k * 2) (drop o f)) + word f (o + k * 2)
plain_end f zero o h =
    let a : o + 0 ≡ o = omega arith in
    rw a (omega (arith, plain_more f o 0 (omega arith), plain_none (drop (o + 2) f) 0 refl, plain_none (drop o f) 0 refl))
plain_end f (suc k) o h =
    let a : suc k * 2 ≡ k * 2 + 2 = omega arith in
    let b : o + 2 + k * 2 ≡ o + (k * 2 + 2) = omega arith in
    let r : plain (take (k * 2 + 2) (drop (o + 2) f)) ≡ plain (take (k * 2) (drop (o + 2) f)) + word f (o + (k * 2 + 2)) = rw b at (plain_end f k (o + 2) (omega arith)) in
    rw a (omega (arith, plain_more f o (k * 2 + 2) (omega arith), r, plain_more f o (k * 2) (omega arith)))

-- a word is below 65536
word_lt : (f : List ℕ) (o : ℕ) → Bytes f → word f o < 65536
unfolding word
word_lt f o h = omega (arith, h o, h (o + 1))

-- a sum is below 65536
sum_lt : (bs : List ℕ) → Bytes bs → sum_words bs < 65536
sum_lt bs h = rw (sum_plain bs h) (go (plain bs))
  where
    go : (n : ℕ) → folded n < 65536
    go zero = rw folded_zero (omega arith)
    go (suc n) = rw (folded_suc n) (omega arith)

module _ (f : List ℕ) (h : Bytes f) (l : length f ≡ 512) where
  -- the sum of a block is that of its other bytes with the stored word
  pub sum_stored : sum_words f ≡ add_round (word f 510) (sum_words (take 510 f))
  sum_stored =
      sum_plain f h
      ∙ ap folded (sym (ap plain (whole f l)) ∙ plain_end f 255 0 (omega arith) ∙ omega arith)
      ∙ sym (folded_add (word f 510) (plain (take 510 f)) (word_lt f 510 h))
      ∙ ap (add_round (word f 510)) (sym (sum_part 510 f h))

  -- or just that, where the stored word is 0
  pub sum_unstored : word f 510 ≡ 0 → sum_words f ≡ sum_words (take 510 f)
  sum_unstored z =
      let x : ℕ = sum_words (take 510 f) in
      sum_stored ∙ rw z (round_low 0 x (omega (arith, sum_lt (take 510 f) (bytes_take 510 f h))) ∙ omega arith)

-- ---- the checksum from a sum that is not folded yet

-- of a sum of 0
pub checksum_zero : (bs : List ℕ) (n : ℕ) → folded (n * 256) ≡ sum_words bs → n ≡ 0 → checksum bs ≡ 65535
unfolding checksum
checksum_zero bs n e z = ap (λ (s : ℕ). 65535 - s) (sym e ∙ ap folded (omega arith) ∙ folded_zero)

-- of any other
pub checksum_more : (bs : List ℕ) (n : ℕ) → folded (n * 256) ≡ sum_words bs → 0 < n → checksum bs ≡ 65534 - (n * 256 - 1) % 65535
unfolding checksum
checksum_more bs n e p = ap (λ (s : ℕ). 65535 - s) (sym e ∙ folded_is (n * 256) (omega arith)) ∙ omega arith

-- ---- the stored checksum, by the sum of all words

-- multiples of 65535 have the rest 0, and the number before one has 65534
multiple : (k : ℕ) → 65535 * k % 65535 ≡ 0
multiple k = omega arith

before_multiple : (k : ℕ) → 0 < k → (65535 * k - 1) % 65535 ≡ 65534
before_multiple k p = omega arith

-- 256 times a sum folds to 65535 just where the sum is a multiple of it
full_rest : (s : ℕ) → 0 < s → (s * 256 - 1) % 65535 ≡ 65534 → s % 65535 ≡ 0
full_rest s p e =
    let m : ℕ = (s * 256 - 1) / 65535 + 1 in
    let a : s * 256 ≡ 65535 * m = omega (arith, e) in
    let k : ℕ = m * 256 - s in
    let b : s ≡ 65535 * k = omega (arith, a) in
    ap (λ (x : ℕ). x % 65535) b ∙ multiple k

rest_full : (s : ℕ) → 0 < s → s % 65535 ≡ 0 → (s * 256 - 1) % 65535 ≡ 65534
rest_full s p e =
    let k : ℕ = s / 65535 in
    let a : s * 256 ≡ 65535 * (k * 256) = omega (arith, e) in
    ap (λ (x : ℕ). (x - 1) % 65535) a ∙ before_multiple (k * 256) (omega (arith, e))

-- a sum of 0 and a word fold to no word's complement
stored_none : (w x s : ℕ) → x < 65536 → folded (s * 256) ≡ add_round w x → s ≡ 0 → eqb w (65535 - x) ≡ false
stored_none w x s l e z = ne_eqb w (65535 - x) (λ q. go (ltb (w + x) 65536) refl q)
  where
    n : add_round w x ≡ 0
    n = sym e ∙ ap folded (omega arith) ∙ folded_zero

    go : (t : Bool) → ltb (w + x) 65536 ≡ t → w ≡ 65535 - x → ⊥
    go true u q = omega (arith, n, round_low w x (ltb-true (w + x) 65536 u), q)
    go false u q = omega (arith, ltb-false (w + x) 65536 u, q)

-- a word below 65535 is the complement just where the sum with it is a multiple of 65535
stored_some : (w x s : ℕ) → w < 65535 → x < 65536 → folded (s * 256) ≡ add_round w x → 0 < s → eqb w (65535 - x) ≡ eqb (s % 65535) 0
stored_some w x s m l e p = go (eqb (s % 65535) 0) refl (ltb (w + x) 65536) refl
  where
    f : (s * 256 - 1) % 65535 + 1 ≡ add_round w x
    f = sym (folded_is (s * 256) (omega arith)) ∙ e

    go : (t : Bool) → eqb (s % 65535) 0 ≡ t → (u : Bool) → ltb (w + x) 65536 ≡ u → eqb w (65535 - x) ≡ eqb (s % 65535) 0
    go true t true u = eq-eqb w (65535 - x) (omega (arith, f, round_low w x (ltb-true (w + x) 65536 u), rest_full s p (eqb-true (s % 65535) 0 t))) ∙ sym t
    go true t false u = absurd (omega (arith, f, round_high w x (ltb-false (w + x) 65536 u), rest_full s p (eqb-true (s % 65535) 0 t)))
    go false t true u = ne_eqb w (65535 - x) (λ q. eqb-false (s % 65535) 0 t (full_rest s p (omega (arith, f, round_low w x (ltb-true (w + x) 65536 u), q)))) ∙ sym t
    go false t false u = ne_eqb w (65535 - x) (λ q. omega (arith, ltb-false (w + x) 65536 u, q)) ∙ sym t

-- a byte that is not 0 in front
pub front_not : (b : ℕ) (rest : List ℕ) → (b ≡ 0 → ⊥) → all (λ x. eqb x 0) (b ∷ rest) ≡ false
unfolding all
front_not b rest z = rw (all, ne_eqb b 0 z)

-- all bytes are 0 just where the plain sum is
plain_zeros : (bs : List ℕ) → all (λ x. eqb x 0) bs ≡ eqb (plain bs) 0
unfolding plain all
plain_zeros [] = refl
plain_zeros (zero ∷ []) = refl
plain_zeros (suc a ∷ []) = front_not (suc a) [] (λ z. omega (arith, z)) ∙ sym (ne_eqb (suc a * 256) 0 (λ z. omega (arith, z)))
plain_zeros (zero ∷ zero ∷ rest) = let e : plain rest ≡ 0 * 256 + 0 + plain rest = omega arith in plain_zeros rest ∙ ap (λ (x : ℕ). eqb x 0) e
plain_zeros (zero ∷ suc b ∷ rest) = front_not (suc b) rest (λ z. omega (arith, z)) ∙ sym (ne_eqb (0 * 256 + suc b + plain rest) 0 (λ z. omega (arith, z)))
plain_zeros (suc a ∷ b ∷ rest) = front_not (suc a) (b ∷ rest) (λ z. omega (arith, z)) ∙ sym (ne_eqb (suc a * 256 + b + plain rest) 0 (λ z. omega (arith, z)))

-- 65535 is the checksum of zeros alone
pub checksum_zeros : (bs : List ℕ) → Bytes bs → eqb 65535 (checksum bs) ≡ all (λ x. eqb x 0) bs
unfolding checksum
checksum_zeros bs h = ap (λ (x : ℕ). eqb 65535 (65535 - x)) (sum_plain bs h) ∙ go (plain bs) ∙ sym (plain_zeros bs)
  where
    go : (n : ℕ) → eqb 65535 (65535 - folded n) ≡ eqb n 0
    go zero = ap (λ (x : ℕ). eqb 65535 (65535 - x)) folded_zero
    go (suc n) = ne_eqb 65535 (65535 - folded (suc n)) (λ z. omega (arith, z, folded_suc n)) ∙ sym (ne_eqb (suc n) 0 (λ z. omega (arith, z)))

module _ (f : List ℕ) (h : Bytes f) (l : length f ≡ 512) where
  -- a block's stored word is 65535: its checksum where the others are zeros
  pub stored_zeros : word f 510 ≡ 65535 → all (λ x. eqb x 0) (take 510 f) ≡ eqb (word f 510) (checksum (take 510 f))
  stored_zeros e = rw e (sym (checksum_zeros (take 510 f) (bytes_take 510 f h)))

  module _ (s : ℕ) (e : folded (s * 256) ≡ sum_words f) where
    -- the whole sum is 0: it is not
    pub stored_nothing : s ≡ 0 → false ≡ eqb (word f 510) (checksum (take 510 f))
    unfolding checksum
    stored_nothing z = sym (stored_none (word f 510) _ s (sum_lt (take 510 f) (bytes_take 510 f h)) (e ∙ sum_stored f h l) z)

    -- any other: where the whole sum is a multiple of 65535
    pub stored_sums : (word f 510 ≡ 65535 → ⊥) → 0 < s → eqb (s % 65535) 0 ≡ eqb (word f 510) (checksum (take 510 f))
    unfolding checksum
    stored_sums w p = sym (stored_some (word f 510) _ s (omega (arith, w, word_lt f 510 h)) (sum_lt (take 510 f) (bytes_take 510 f h)) (e ∙ sum_stored f h l) p)
