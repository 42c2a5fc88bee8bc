-- Numbers as text, and text that is put into a buffer piece by piece.
use Rattle.std.specs.Prelude.{ℕ, zero, suc, ◌+◌, ◌*◌, ◌/◌, ◌%◌, ◌≤◌, ◌<◌, ◌≡◌, refl, Bool, true, false, List, [], ◌∷◌, ◌++◌, length, get_or, set, drop, take, ltb}
use Rattle.std.proofs.Common.{sym, ap, ◌∙◌, length-append, take_all, take_at, take-suc, add-one, lt-ltb, le-ltb, ltb-true, ltb-false}
use Rattle.std.proofs.lemmas.List.Edits.{sets, sets-eq}
use Rattle.std.proofs.Math.Seq.{length-sets}
use native.Mathlib.Omega.{arith}

-- ---- decimal numbers, in ASCII

-- the digits of n, the most significant first; `most` bounds their number
unfoldable pub digits_of : ℕ → ℕ → List ℕ
digits_of zero n = []
digits_of (suc most) n = elim (ltb n 10) [ true ↦ (48 + n) ∷ [] | false ↦ digits_of most (n / 10) ++ (48 + n % 10) ∷ [] ]

-- n in decimal
unfoldable pub decimal : ℕ → List ℕ
unfolding digits_of
decimal n = digits_of (suc n) n

-- a number of one digit
digits_one : (most n : ℕ) → n < 10 → digits_of (suc most) n ≡ (48 + n) ∷ []
unfolding digits_of
digits_one most n h = rw (lt-ltb n 10 h, digits_of)

-- a number of more digits
digits_more : (most n : ℕ) → 10 ≤ n → digits_of (suc most) n ≡ digits_of most (n / 10) ++ (48 + n % 10) ∷ []
unfolding digits_of
digits_more most n h = rw (le-ltb n 10 h, digits_of)

-- one number is below ten or not
pub data Ten (n : ℕ) : Type 0 where
  below : n < 10 → Ten n
  above : 10 ≤ n → Ten n

ten : (n : ℕ) → Ten n
ten n = go (ltb n 10) refl
  where
    go : (t : Bool) → ltb n 10 ≡ t → Ten n
    go true e = below (ltb-true n 10 e)
    go false e = above (ltb-false n 10 e)

-- any bound above n gives the same digits
digits_same : (f g n : ℕ) → n < f → n < g → digits_of f n ≡ digits_of g n
digits_same zero g n h k = absurd (omega arith)
digits_same (suc f) zero n h k = absurd (omega arith)
digits_same (suc f) (suc g) n h k = go (ten n) (λ a. digits_same f g (n / 10) (omega arith) (omega arith))
  where
    go : Ten n → (10 ≤ n → digits_of f (n / 10) ≡ digits_of g (n / 10)) → digits_of (suc f) n ≡ digits_of (suc g) n
    go (below b) i = digits_one f n b ∙ sym (digits_one g n b)
    go (above a) i = digits_more f n a ∙ ap (λ (l : List ℕ). l ++ (48 + n % 10) ∷ []) (i a) ∙ sym (digits_more g n a)

-- below ten it is one digit
pub decimal_one : (n : ℕ) → n < 10 → decimal n ≡ (48 + n) ∷ []
unfolding decimal
decimal_one n h = digits_one n n h

-- from ten on a digit follows those of the tenth part
pub decimal_more : (n : ℕ) → 10 ≤ n → decimal n ≡ decimal (n / 10) ++ (48 + n % 10) ∷ []
unfolding decimal
decimal_more n h = digits_more n n h ∙ ap (λ (l : List ℕ). l ++ (48 + n % 10) ∷ []) (digits_same n (suc (n / 10)) (n / 10) (omega arith) (omega arith))

-- the least number of k + 1 digits
unfoldable pub power : ℕ → ℕ
power zero = 1
power (suc k) = 10 * power k

digits_few : (f k n : ℕ) → n < power (suc k) → length (digits_of f n) ≤ suc k
unfolding power
digits_few zero k n h = unfold digits_of in omega arith
digits_few (suc f) zero n h = rw (digits_one f n (omega arith)) (omega arith)
digits_few (suc f) (suc k) n h = go (ten n) (digits_few f k (n / 10) (omega arith))
  where
    go : Ten n → length (digits_of f (n / 10)) ≤ suc k → length (digits_of (suc f) n) ≤ suc (suc k)
    go (below b) i = rw (digits_one f n b) (omega arith)
    go (above a) i = rw (digits_more f n a, length-append) (omega arith)

-- how many digits a number below a power of ten has at most
pub decimal_few : (k n : ℕ) → n < power (suc k) → length (decimal n) ≤ suc k
unfolding decimal
decimal_few k n h = digits_few (suc n) k n h

-- ---- text in a buffer

-- the bytes bs are put into the buffer t from `at` on, which leaves u, and the next byte's place is r; what is past the end is left out
pub record Put (t : List ℕ) (at : ℕ) (bs u : List ℕ) (r : ℕ) : Type 0 where
  pub bytes : u ≡ sets t at bs
  pub next : r ≡ at + length bs

-- nothing is put
pub put_none : (t : List ℕ) (at : ℕ) → Put t at [] t at
put_none t at = record { bytes = refl; next = omega arith }

sets_append : (t : List ℕ) (at : ℕ) (xs ys : List ℕ) → sets (sets t at xs) (at + length xs) ys ≡ sets t at (xs ++ ys)
sets_append t at [] ys = let e : at + 0 ≡ at = omega arith in ap (λ (i : ℕ). sets t i ys) e
sets_append t at (x ∷ xs) ys =
    let e : at + suc (length xs) ≡ suc at + length xs = omega arith in
    ap (λ (i : ℕ). sets (sets (set t at x) (suc at) xs) i ys) e ∙ sets_append (set t at x) (suc at) xs ys

-- some bytes and then more
pub put_then : {t u v xs ys : List ℕ} {at r s : ℕ} → Put t at xs u r → Put u r ys v s → Put t at (xs ++ ys) v s
put_then {t} {u} {v} {xs} {ys} {at} {r} {s} p q = record {
  bytes = q.bytes ∙ rw (p.bytes, p.next) (sets_append t at xs ys);
  next = omega (arith, p.next, q.next, length-append xs ys);
}

-- one byte
pub put_one : {t u : List ℕ} {at b : ℕ} → u ≡ set t at b → Put t at (b ∷ []) u (at + 1)
put_one e = record { bytes = e; next = refl }

-- other words for the same bytes
pub put_as : {t u xs ys : List ℕ} {at r : ℕ} → xs ≡ ys → Put t at xs u r → Put t at ys u r
put_as e p = rw e at p

-- the buffer keeps its length
pub put_length : {t u bs : List ℕ} {at r : ℕ} → Put t at bs u r → length u ≡ length t
put_length {t} {u} {bs} {at} {r} p = ap length p.bytes ∙ length-sets t at bs

-- one byte more of a word
pub put_more : (t u v word : List ℕ) (at i : ℕ) → i < length word → Put t at (take i word) u (at + i) → v ≡ set u (at + i) (get_or word i 0) → Put t at (take (i + 1) word) v (at + (i + 1))
put_more t u v word at i h p e =
    let n : at + (i + 1) ≡ at + i + 1 = omega arith in
    let w : take i word ++ get_or word i 0 ∷ [] ≡ take (i + 1) word = rw (add-one i) (sym (take-suc word i 0 h)) in
    rw n (put_as w (put_then p (put_one e)))

-- all bytes of a word
pub put_all : (t u word : List ℕ) (at i : ℕ) → length word ≤ i → Put t at (take i word) u (at + i) → Put t at word u (at + i)
put_all t u word at i h p = put_as (take_all i word h) p

-- another word for the next byte's place
put_next : {t u bs : List ℕ} {at r s : ℕ} → r ≡ s → Put t at bs u r → Put t at bs u s
put_next e p = record { bytes = p.bytes; next = sym e ∙ p.next }

-- a word that stands at the front: one byte more, and all
pub front_more : (t u v word : List ℕ) (i : ℕ) → i < length word → Put t 0 (take i word) u i → v ≡ set u i (get_or word i 0) → Put t 0 (take (i + 1) word) v (i + 1)
front_more t u v word i h p e =
    let z : i ≡ 0 + i = omega arith in
    let n : 0 + (i + 1) ≡ i + 1 = omega arith in
    put_next n (put_more t u v word 0 i h (put_next z p) (e ∙ ap (λ (k : ℕ). set u k (get_or word i 0)) z))

pub front_all : (t u word : List ℕ) (i : ℕ) → length word ≤ i → i ≤ length word → Put t 0 (take i word) u i → Put t 0 word u (length word)
front_all t u word i h l p =
    let z : i ≡ 0 + i = omega arith in
    let n : 0 + i ≡ length word = omega arith in
    put_next n (put_all t u word 0 i h (put_next z p))

-- a number of one digit
pub put_low : (t u : List ℕ) (at n : ℕ) → n < 10 → u ≡ set t at (48 + n) → Put t at (decimal n) u (at + 1)
put_low t u at n h e = put_as (sym (decimal_one n h)) (put_one e)

-- the digits of the tenth part, and one more
pub put_high : (t u v : List ℕ) (at r n : ℕ) → 10 ≤ n → Put t at (decimal (n / 10)) u r → v ≡ set u r (48 + n % 10) → Put t at (decimal n) v (r + 1)
put_high t u v at r n h p e = put_as (sym (decimal_more n h)) (put_then p (put_one e))

-- a number of 32 bits has at most ten digits
pub put_ten : {t u : List ℕ} {at n r : ℕ} → Put t at (decimal n) u r → n < 4294967296 → r ≤ at + 10
put_ten {t} {u} {at} {n} {r} p h = omega (arith, p.next, decimal_few 9 n (unfold power in omega arith))

-- what a buffer that is long enough begins with then
pub put_whole : {t u bs : List ℕ} {r : ℕ} → Put t 0 bs u r → r ≤ length t → take r u ≡ bs
put_whole {t} {u} {bs} {r} p h =
    let n : r ≡ length bs = omega (arith, p.next) in
    ap (take r) (p.bytes ∙ sets-eq bs t 0 (omega arith)) ∙ take_at bs (drop (0 + length bs) t) r (sym n)
