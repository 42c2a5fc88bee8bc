-- A payload where it stands in a file: 504 bytes of each block, after the six of its head.
use Rattle.std.specs.Prelude.{ℕ, zero, suc, ◌+◌, ◌-◌, ◌*◌, ◌/◌, ◌%◌, ◌≤◌, ◌<◌, ◌≡◌, refl, ◌⊎◌, Bool, true, false, List, [], ◌∷◌, ◌++◌, length, get_or, set, take, drop, ltb}
use Rattle.std.proofs.Common.{ap, sym, ◌∙◌, inl, inr, ⊎_elim, length-append, length-drop, get_or-drop, get_or-take, get_or-append-add, get_or-set_same, get_or-set_other, length-take-le, ext_get_or, lit<, ltb-true, ltb-false, add-one, arith}
use Rattle.std.proofs.Math.ListN.{get_or-append, get_or-eq_default}
use Rattle.std.proofs.Math.Seq.{take-nil}
use Rattle.std.proofs.Math.Decide.{ℕ_discrete}
use Rattle.spec.specs.Wire.{word}
use Rattle.spec.specs.Terms.{Bytes}
use Rattle.wire.specs.declared.Three.{Three}
use Rattle.wire.specs.declared.Four.{Four}

-- a part of the front of a list
pub drop_take : (m n : ℕ) (l : List ℕ) → drop m (take n l) ≡ take (n - m) (drop m l)
drop_take zero n l = let e : n ≡ n - 0 = omega arith in ap (λ (k : ℕ). take k l) e
drop_take (suc m) zero l = let e : 0 ≡ 0 - suc m = omega arith in ap (λ (k : ℕ). take k (drop (suc m) l)) e
drop_take (suc m) (suc n) [] = sym (take-nil (suc n - suc m))
drop_take (suc m) (suc n) (x ∷ l) = let e : n - m ≡ suc n - suc m = omega arith in drop_take m n l ∙ ap (λ (k : ℕ). take k (drop m l)) e

-- the payload parts of the first k blocks
unfoldable pub parts : List ℕ → ℕ → List ℕ
parts f zero = []
parts f (suc k) = parts f k ++ take 504 (drop (k * 512 + 6) f)

-- the payload parts of all blocks, padding too
unfoldable pub payload : List ℕ → List ℕ
payload f = parts f (length f / 512)

-- where byte `off` of the payload stands in the file
abbrev pub place_of : ℕ → ℕ
place_of off = off / 504 * 512 + 6 + off % 504

-- the two-byte number at `off` of the payload
abbrev pub word_at : List ℕ → ℕ → ℕ
word_at f off = get_or f (place_of off) 0 * 256 + get_or f (place_of (off + 1)) 0

-- past the file's end it is 0
pub word_out : (f : List ℕ) (off : ℕ) → length f ≤ off → word_at f off ≡ 0
word_out f off h =
    rw (get_or-eq_default f 0 {n = place_of off} (omega arith), get_or-eq_default f 0 {n = place_of (off + 1)} (omega arith))

-- the three bytes from `off` of the payload on
pub record ThreeAt (f : List ℕ) (off : ℕ) (t : Three) : Type 0 where
  pub first : t.first ≡ get_or f (place_of off) 0
  pub second : t.second ≡ get_or f (place_of (off + 1)) 0
  pub third : t.third ≡ get_or f (place_of (off + 2)) 0

-- one number is below another or not
pub lt_or_ge : (a b : ℕ) → (a < b) ⊎ (b ≤ a)
lt_or_ge a b = go (ltb a b) refl
  where
    go : (t : Bool) → ltb a b ≡ t → (a < b) ⊎ (b ≤ a)
    go true e = inl (ltb-true a b e)
    go false e = inr (ltb-false a b e)

-- the four bytes from `off` of the payload on
pub record FourAt (f : List ℕ) (off : ℕ) (t : Four) : Type 0 where
  pub first : t.first ≡ get_or f (place_of off) 0
  pub second : t.second ≡ get_or f (place_of (off + 1)) 0
  pub third : t.third ≡ get_or f (place_of (off + 2)) 0
  pub fourth : t.fourth ≡ get_or f (place_of (off + 3)) 0

-- the first i bytes of a list are those of the payload from `from` on
abbrev pub Copied : List ℕ → ℕ → List ℕ → ℕ → Type 0
Copied f from list i = (j : ℕ) → j < i → get_or list j 0 ≡ get_or f (place_of (from + j)) 0

-- with one more
pub copied_more : (f : List ℕ) (from : ℕ) (list : List ℕ) (i x : ℕ) → i < length list → x ≡ get_or f (place_of (from + i)) 0 → Copied f from list i → Copied f from (set list i x) (i + 1)
copied_more f from list i x h e c j b = pick (ℕ_discrete j i)
  where
    pick : Dec (j ≡ i) → get_or (set list i x) j 0 ≡ get_or f (place_of (from + j)) 0
    pick (yes q) = rw q (get_or-set_same list i x 0 h ∙ e)
    pick (no q) = get_or-set_other list i j x 0 q ∙ c j (omega arith)

-- byte `off` of the payload stands at `place`, if not past the file's end
abbrev pub Near : List ℕ → ℕ → ℕ → Type 0
Near f place off = (place < length f → place ≡ place_of off) × (place ≤ place_of off)

-- so that it is read there, as every place past the end reads 0
pub near_read : (f : List ℕ) (place off : ℕ) → Near f place off → get_or f place 0 ≡ get_or f (place_of off) 0
near_read f place off h =
    ⊎_elim
    (λ (q : place < length f). ap (λ (i : ℕ). get_or f i 0) (h.0 q))
    (λ (q : length f ≤ place). get_or-eq_default f 0 q ∙ sym (get_or-eq_default f 0 (omega (arith, h.1))))
    (lt_or_ge place (length f))

-- where a payload byte stands in its block: behind the six bytes of the head
pub place_rest : (off : ℕ) → place_of off % 512 ≡ 6 + off % 504
place_rest off = omega arith

-- three of them, one by one
pub three_copied : (f : List ℕ) (off : ℕ) (l : List ℕ) → Copied f off l 3 → ThreeAt f off (record { first = get_or l 0 0; second = get_or l 1 0; third = get_or l 2 0 })
three_copied f off l c =
    let z : off + 0 ≡ off = omega arith in
    record { first = rw z at (c 0 (omega arith)); second = c 1 (omega arith); third = c 2 (omega arith) }

-- and four
pub four_copied : (f : List ℕ) (off : ℕ) (l : List ℕ) → Copied f off l 4
    → FourAt f off (record { first = get_or l 0 0; second = get_or l 1 0; third = get_or l 2 0; fourth = get_or l 3 0 })
four_copied f off l c =
    let z : off + 0 ≡ off = omega arith in
    record { first = rw z at (c 0 (omega arith)); second = c 1 (omega arith); third = c 2 (omega arith); fourth = c 3 (omega arith) }

-- k parts are 504 bytes each
pub parts_length : (f : List ℕ) (k : ℕ) → k * 512 ≤ length f → length (parts f k) ≡ k * 504
unfolding parts
parts_length f zero h = refl
parts_length f (suc k) h =
    let e : length (take 504 (drop (k * 512 + 6) f)) ≡ 504 = length-take-le 504 (drop (k * 512 + 6) f) (simp length-drop (omega arith)) in
    length-append (parts f k) (take 504 (drop (k * 512 + 6) f)) ∙ omega (arith, e, parts_length f k (omega arith))

-- one part more
pub parts_more : (f : List ℕ) (k : ℕ) → parts f (k + 1) ≡ parts f k ++ take 504 (drop (k * 512 + 6) f)
unfolding parts
parts_more f k = rw (add-one k)

-- a byte of the parts, in the file
pub parts_at : (f : List ℕ) (k off : ℕ) → k * 512 ≤ length f → off < k * 504 → get_or (parts f k) off 0 ≡ get_or f (place_of off) 0
unfolding parts
parts_at f zero off h p = absurd (omega arith)
parts_at f (suc k) off h p =
    let l = parts_length f k (omega arith) in
    ⊎_elim
    (λ (q : off < k * 504). get_or-append (parts f k) (take 504 (drop (k * 512 + 6) f)) 0 off (omega arith) ∙ parts_at f k off (omega arith) q)
    (λ (q : k * 504 ≤ off).
    let e : off ≡ length (parts f k) + (off - k * 504) = omega arith in
    let e2 : k * 512 + 6 + (off - k * 504) ≡ place_of off = omega arith in
    ap (λ (i : ℕ). get_or (parts f k ++ take 504 (drop (k * 512 + 6) f)) i 0) e
    ∙ get_or-append-add (parts f k) (take 504 (drop (k * 512 + 6) f)) (off - k * 504) 0
    ∙ get_or-take 504 (drop (k * 512 + 6) f) (off - k * 504) 0 (omega arith)
    ∙ get_or-drop (k * 512 + 6) f (off - k * 504) 0 ∙ ap (λ (i : ℕ). get_or f i 0) e2)
    (lt_or_ge off (k * 504))

-- all parts of a file
pub payload_length : (f : List ℕ) → length (payload f) ≡ length f / 512 * 504
unfolding payload
payload_length f = parts_length f (length f / 512) (omega arith)

-- a byte of the payload, in the file
pub payload_at : (f : List ℕ) (off : ℕ) → off < length f / 512 * 504 → get_or (payload f) off 0 ≡ get_or f (place_of off) 0
unfolding payload
payload_at f off p = parts_at f (length f / 512) off (omega arith) p

-- the part of the payload in block k, in the file
pub chunk : (f : List ℕ) (k : ℕ) → (k + 1) * 512 ≤ length f → take 504 (drop (k * 504) (payload f)) ≡ take 504 (drop (k * 512 + 6) f)
chunk f k h =
    let l = payload_length f in
    let a : length (take 504 (drop (k * 504) (payload f))) ≡ 504 = length-take-le 504 (drop (k * 504) (payload f)) (simp length-drop (omega arith)) in
    let b : length (take 504 (drop (k * 512 + 6) f)) ≡ 504 = length-take-le 504 (drop (k * 512 + 6) f) (simp length-drop (omega arith)) in
    ext_get_or 0 (take 504 (drop (k * 504) (payload f))) (take 504 (drop (k * 512 + 6) f)) (a ∙ sym b)
    (λ i q.
    let q2 : i < 504 = omega arith in
    let e : place_of (k * 504 + i) ≡ k * 512 + 6 + i = omega arith in
    get_or-take 504 (drop (k * 504) (payload f)) i 0 q2 ∙ get_or-drop (k * 504) (payload f) i 0
    ∙ payload_at f (k * 504 + i) (omega arith) ∙ ap (λ (x : ℕ). get_or f x 0) e
    ∙ sym (get_or-take 504 (drop (k * 512 + 6) f) i 0 q2 ∙ get_or-drop (k * 512 + 6) f i 0))

-- ---- the first m bytes of the payload: what a checked file holds

module _ (f : List ℕ) (m : ℕ) (most : m ≤ length f / 512 * 504) where
  -- they are m
  pub held_length : length (take m (payload f)) ≡ m
  held_length = length-take-le m (payload f) (omega (arith, payload_length f))

  -- each stands at its place in the file
  pub held_byte : (off : ℕ) → off < m → get_or (take m (payload f)) off 0 ≡ get_or f (place_of off) 0
  held_byte off h = get_or-take m (payload f) off 0 h ∙ payload_at f off (omega arith)

  -- so does each two-byte number
  pub held_word : (off : ℕ) → off + 1 < m → word (take m (payload f)) off ≡ word_at f off
  unfolding word
  held_word off h = rw (held_byte off (omega arith), held_byte (off + 1) h)

  -- they are bytes if the file's are
  pub held_bytes : Bytes f → Bytes (take m (payload f))
  held_bytes h i =
      ⊎_elim (λ (q : i < m). rw (held_byte i q) (h (place_of i)))
      (λ (q : m ≤ i). rw (get_or-eq_default (take m (payload f)) 0 {n = i} (omega (arith, held_length))) (lit< tt))
      (lt_or_ge i m)
