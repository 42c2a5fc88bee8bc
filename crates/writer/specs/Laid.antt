-- A payload's bytes laid to their places in a buffer; what falls past the buffer's end is lost.
use Rattle.std.specs.Prelude.{ℕ, zero, suc, ◌+◌, ◌*◌, ◌/◌, ◌≤◌, ◌<◌, ◌%◌, ◌≡◌, refl, List, [], ◌∷◌, ◌++◌, length, get_or, take, drop, set}
use Rattle.std.proofs.Common.{ap, sym, ◌∙◌, length-set, get_or-set_same, get_or-set_other, ext_get_or, append_assoc, drop-drop, length-take-le, arith}
use Rattle.std.proofs.Math.Seq.{set_out}
use Rattle.std.proofs.lemmas.List.{set_comm, take_more}
use Rattle.std.proofs.lemmas.List.Edits.{sets, sets-eq}
use borrow.Rule.Slice.PartMut.{put_mid}
use Rattle.spec.specs.Outcome.{u16}
use Rattle.wire.specs.Payload.{payload, place_of, held_length, held_byte}

-- byte b laid as byte `off` of the payload
abbrev pub laid : List ℕ → ℕ → ℕ → List ℕ
laid o off b = set o (place_of off) b

-- bytes laid one after the other, from byte `off` of the payload on
abbrev pub laid_all : List ℕ → ℕ → List ℕ → List ℕ
laid_all o off [] = o
laid_all o off (b ∷ bs) = laid_all (laid o off b) (off + 1) bs

-- the buffer keeps its length
pub laid_length : (o : List ℕ) (off : ℕ) (bs : List ℕ) → length (laid_all o off bs) ≡ length o
laid_length o off [] = refl
laid_length o off (b ∷ bs) = laid_length (laid o off b) (off + 1) bs ∙ length-set o (place_of off) b

-- bytes past the buffer's end are lost
pub laid_out : (o : List ℕ) (off : ℕ) (bs : List ℕ) → length o ≤ off → laid_all o off bs ≡ o
laid_out o off [] h = refl
laid_out o off (b ∷ bs) h =
    ap (λ (l : List ℕ). laid_all l (off + 1) bs) (set_out o (place_of off) b (omega arith)) ∙ laid_out o (off + 1) bs (omega arith)

-- bytes in two runs
pub laid_append : (o : List ℕ) (off : ℕ) (xs ys : List ℕ) → laid_all o off (xs ++ ys) ≡ laid_all (laid_all o off xs) (off + length xs) ys
laid_append o off [] ys = let e : off ≡ off + 0 = omega arith in ap (λ (k : ℕ). laid_all o k ys) e
laid_append o off (x ∷ xs) ys =
    let e : off + 1 + length xs ≡ off + suc (length xs) = omega arith in
    laid_append (laid o off x) (off + 1) xs ys ∙ ap (λ (k : ℕ). laid_all (laid_all (laid o off x) (off + 1) xs) k ys) e

-- two bytes that one block holds stand side by side
pub laid_two : (o : List ℕ) (off a b : ℕ) → off % 504 < 503 → set (set o (place_of off) a) (place_of off + 1) b ≡ laid_all o off (a ∷ b ∷ [])
laid_two o off a b h = let e : place_of off + 1 ≡ place_of (off + 1) = omega arith in ap (λ (i : ℕ). set (set o (place_of off) a) i b) e

-- the two bytes of a number that one block holds, from their place `at` on: both in the buffer, one, or none
module _ (o : List ℕ) (at n off : ℕ) (e : at ≡ place_of off) (h : off % 504 < 503) where
  pub word_within : set (set o at (n / 256 % 256)) (at + 1) (n % 256) ≡ laid_all o off (u16 n)
  unfolding u16
  word_within = rw e (laid_two o off (n / 256 % 256) (n % 256) h)

  pub word_cut : length o ≤ at + 1 → set o at (n / 256 % 256) ≡ laid_all o off (u16 n)
  word_cut l = sym (set_out (set o at (n / 256 % 256)) (at + 1) (n % 256) (simp length-set l)) ∙ word_within

  pub word_past : length o ≤ at → o ≡ laid_all o off (u16 n)
  word_past l = sym (set_out o at (n / 256 % 256) l) ∙ word_cut (omega arith)

-- bytes that one block holds stand side by side, from their place `at` on
sets_laid : (o : List ℕ) (at off : ℕ) (bs : List ℕ) → at ≡ place_of off → at % 512 + length bs ≤ 510 → sets o at bs ≡ laid_all o off bs
sets_laid o at off [] e h = refl
sets_laid o at off (b ∷ []) e h = ap (λ (i : ℕ). set o i b) e
sets_laid o at off (b ∷ c ∷ bs) e h =
    let n : suc at ≡ place_of (off + 1) = omega arith in
    sets_laid (set o at b) (suc at) (off + 1) (c ∷ bs) n (omega arith) ∙ ap (λ (i : ℕ). laid_all (set o i b) (off + 1) (c ∷ bs)) e

-- so that they are copied there at once
pub laid_run : (o : List ℕ) (at off k : ℕ) (bs : List ℕ) → at ≡ place_of off → at % 512 + length bs ≤ 510 → at + length bs ≤ length o → k ≡ length bs
    → put_mid at k o bs ≡ laid_all o off bs
laid_run o at off k bs e h l q =
    rw (q, drop-drop (length bs) at o, ← append_assoc (take at o) bs (drop (at + length bs) o)) (sym (sets-eq bs o at l) ∙ sets_laid o at off bs e h)

-- one more byte laid
pub laid_more : (o : List ℕ) (off i : ℕ) (bs : List ℕ) → i < length bs → laid_all o off (take (i + 1) bs) ≡ laid (laid_all o off (take i bs)) (off + i) (get_or bs i 0)
laid_more o off i bs h =
    let n : length (take i bs) ≡ i = length-take-le i bs (omega arith) in
    rw (take_more bs i 0 h, laid_append o off (take i bs) (get_or bs i 0 ∷ []), n)

-- two bytes of a payload have two places
pub place_apart : (i j : ℕ) → i < j → place_of i ≡ place_of j → ⊥
place_apart i j h e = omega arith

-- a byte laid before or after a run that stands behind it
one_early : (o : List ℕ) (i b off : ℕ) (bs : List ℕ) → i < off → laid_all (laid o i b) off bs ≡ laid (laid_all o off bs) i b
one_early o i b off [] h = refl
one_early o i b off (x ∷ bs) h =
    ap (λ (l : List ℕ). laid_all l (off + 1) bs) (set_comm o (place_of i) (place_of off) b x (place_apart i off h))
    ∙ one_early (laid o off x) i b (off + 1) bs (omega arith)

-- a run laid before or after one that stands behind it
pub laid_early : (o : List ℕ) (i : ℕ) (xs : List ℕ) (off : ℕ) (ys : List ℕ) → i + length xs ≤ off
    → laid_all (laid_all o i xs) off ys ≡ laid_all (laid_all o off ys) i xs
laid_early o i [] off ys h = refl
laid_early o i (x ∷ xs) off ys h =
    laid_early (laid o i x) (i + 1) xs off ys (omega arith)
    ∙ ap (λ (l : List ℕ). laid_all l (i + 1) xs) (one_early o i x off ys (omega arith))

-- the count, which is known only at the end, may be laid last
pub laid_count_last : (o count bs : List ℕ) → laid_all (laid_all o (length count) bs) 0 count ≡ laid_all o 0 (count ++ bs)
laid_count_last o count bs =
    let e : 0 + length count ≡ length count = omega arith in
    sym (laid_append o 0 count bs ∙ rw e (laid_early o 0 count (length count) bs (omega arith)))

-- a byte that no later one replaces
laid_other : (o : List ℕ) (off i : ℕ) (bs : List ℕ) → i < off → get_or (laid_all o off bs) (place_of i) 0 ≡ get_or o (place_of i) 0
laid_other o off i [] h = refl
laid_other o off i (b ∷ bs) h =
    laid_other (laid o off b) (off + 1) i bs (omega arith) ∙ get_or-set_other o (place_of off) (place_of i) b 0 (place_apart i off h)

-- a byte that is laid is there
pub laid_at : (o : List ℕ) (off : ℕ) (bs : List ℕ) (i : ℕ) → i < length bs → place_of (off + i) < length o
    → get_or (laid_all o off bs) (place_of (off + i)) 0 ≡ get_or bs i 0
laid_at o off [] i h p = absurd (omega arith)
laid_at o off (b ∷ bs) zero h p =
    let e : off + 0 ≡ off = omega arith in
    rw e (laid_other (laid o off b) (off + 1) off bs (omega arith) ∙ get_or-set_same o (place_of off) b 0 (rw e at p))
laid_at o off (b ∷ bs) (suc i) h p =
    let e : off + suc i ≡ off + 1 + i = omega arith in
    rw e (laid_at (laid o off b) (off + 1) bs i (omega arith) (rw (length-set, ← e) p))

-- a payload that is laid in a buffer with room stands there
pub laid_payload : (o p : List ℕ) → (length p + 503) / 504 * 512 ≤ length o → take (length p) (payload (laid_all o 0 p)) ≡ p
laid_payload o p h =
    let l = laid_length o 0 p in
    let m : length p ≤ length (laid_all o 0 p) / 512 * 504 = omega arith in
    let n = held_length (laid_all o 0 p) (length p) m in
    ext_get_or 0 (take (length p) (payload (laid_all o 0 p))) p n
    (λ i q.
    let e : 0 + i ≡ i = omega arith in
    held_byte (laid_all o 0 p) (length p) m i (omega arith) ∙ rw e at (laid_at o 0 p i (omega arith) (omega arith)))
