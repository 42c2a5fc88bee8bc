-- A block that is made in place.
use Prim.Native.Nat.{ℕ, zero, suc, ◌+◌, ◌-◌, ◌/◌, ◌%◌, ◌≤◌}
use Rattle.std.specs.Prelude.{◌≡◌, refl, take, drop, replicate}
use Rattle.std.proofs.Common.{ap, sym, ◌∙◌, length-append, length-drop, drop_of_length-le, length-take-le, take_at, get_or-append-add, arith}
use mathlib.Core.List.{List, [], ◌∷◌, ◌++◌, append_assoc, append-nil}
use Rattle.std.proofs.Math.ListN.{length, get_or}
use Rattle.std.proofs.lemmas.List.{length-replicate}
use Rattle.std.proofs.Math.Seq.{take-append-add}
use borrow.Rule.Slice.PartMut.{put_mid}
use Rattle.spec.specs.Outcome.{u16}
use Rattle.spec.specs.Wire.{word, checksum, block_of}

-- one more zero behind zeros
rep_snoc : (n : ℕ) (ys : List ℕ) → replicate n 0 ++ (0 ∷ ys) ≡ replicate (suc n) 0 ++ ys
rep_snoc zero ys = refl
rep_snoc (suc n) ys = ap (λ (l : List ℕ). 0 ∷ l) (rep_snoc n ys)

-- a block's bytes before its checksum
unfoldable pub body_of : ℕ → ℕ → List ℕ → List ℕ
body_of kind i part = (kind ∷ 0 ∷ u16 i) ++ u16 (length part) ++ part ++ replicate (504 - length part) 0

-- how long the payload part is
part_length : (l : List ℕ) (fill : ℕ) → length l ≡ 512 → fill ≤ 504 → length (take fill (drop 6 l)) ≡ fill
part_length l fill h p = length-take-le fill (drop 6 l) (simp length-drop (omega arith))

-- how long the body is
body_length : (l : List ℕ) (kind i fill : ℕ) → length l ≡ 512 → fill ≤ 504 → length (body_of kind i (take fill (drop 6 l))) ≡ 510
unfolding body_of u16
body_length l kind i fill h p =
    let x = part_length l fill h p in
    let r : length {A = ℕ} (replicate (504 - length (take fill (drop 6 l))) 0) ≡ 504 - length (take fill (drop 6 l)) = length-replicate (504 - length (take fill (drop 6 l))) 0 in
    omega (arith, length-append (take fill (drop 6 l)) (replicate (504 - length (take fill (drop 6 l))) 0))

-- two zeros are the end of zeros
rep_two : (n : ℕ) → replicate {A = ℕ} (suc (suc n)) 0 ≡ replicate n 0 ++ (0 ∷ 0 ∷ [])
rep_two n = sym (append-nil {A = ℕ} (replicate (suc (suc n)) 0)) ∙ sym (rep_snoc (suc n) []) ∙ sym (rep_snoc n (0 ∷ []))

-- a block is its body and the checksum
block_is : (kind i : ℕ) (part : List ℕ) → block_of kind i part ≡ body_of kind i part ++ u16 (checksum (body_of kind i part))
unfolding block_of body_of
block_is kind i part = refl

module _ (l : List ℕ) (kind i fill : ℕ) (h : length l ≡ 512) (p : fill ≤ 504) where
  -- the bytes before the checksum
  abbrev body : List ℕ
  body = body_of kind i (take fill (drop 6 l))

  -- head and zeros written make the body, and two zeros behind it
  pub made : (n : ℕ) (x y g z : List ℕ) → n ≡ kind → x ≡ u16 i → y ≡ u16 fill → g ≡ n ∷ 0 ∷ get_or x 0 0 ∷ get_or x 1 0 ∷ get_or y 0 0 ∷ get_or y 1 0 ∷ []
      → z ≡ replicate (length (take (512 - (6 + fill)) (drop (6 + fill) (g ++ drop 6 l)))) 0
      → put_mid (6 + fill) (512 - (6 + fill)) (g ++ drop 6 l) z ≡ body_of kind i (take fill (drop 6 l)) ++ (0 ∷ 0 ∷ [])
  unfolding body_of u16
  made n x y g z q a b e f =
      let t : List ℕ = kind ∷ 0 ∷ i / 256 % 256 ∷ i % 256 ∷ fill / 256 % 256 ∷ fill % 256 ∷ [] in
      let g_is : g ≡ t = rw (q, a, b) at e in
      let m : length (t ++ drop 6 l) ≡ 512 = omega (arith, length-drop 6 l) in
      let k : 512 - (6 + fill) ≡ 506 - fill = omega arith in
      let r : length (drop (6 + fill) (t ++ drop 6 l)) ≡ 506 - fill = omega (arith, length-drop (6 + fill) (t ++ drop 6 l)) in
      let j : length (take (506 - fill) (drop (6 + fill) (t ++ drop 6 l))) ≡ 506 - fill = length-take-le (506 - fill) (drop (6 + fill) (t ++ drop 6 l)) (omega arith) in
      let d : drop (506 - fill) (drop (6 + fill) (t ++ drop 6 l)) ≡ [] = drop_of_length-le (drop (6 + fill) (t ++ drop 6 l)) {i = 506 - fill} (omega arith) in
      let z_is : z ≡ replicate (506 - fill) 0 = rw (g_is, k, j) at f in
      let two : 506 - fill ≡ suc (suc (504 - fill)) = omega arith in
      rw (
        z_is,
        g_is,
        k,
        d,
        append-nil {A = ℕ} (replicate (506 - fill) 0),
        two,
        rep_two (504 - fill),
        part_length l fill h p,
        take-append-add t (drop 6 l) fill,
        append_assoc (t ++ take fill (drop 6 l)) (replicate (504 - fill) 0) (0 ∷ 0 ∷ []),
      )

  module _ (m : List ℕ) (w : m ≡ body_of kind i (take fill (drop 6 l)) ++ (0 ∷ 0 ∷ [])) where
    -- they are a block's bytes
    made_length : length m ≡ 512
    made_length = ap length w ∙ length-append body (0 ∷ 0 ∷ []) ∙ omega (arith, body_length l kind i fill h p)

    -- the word where the checksum will stand is 0
    pub unstored : word m 510 ≡ 0
    unfolding word
    unstored =
        let n : length body ≡ 510 = body_length l kind i fill h p in
        let u : get_or (body ++ (0 ∷ 0 ∷ [])) 510 0 ≡ 0 = rw n at (get_or-append-add body (0 ∷ 0 ∷ []) 0 0) in
        let v : get_or (body ++ (0 ∷ 0 ∷ [])) 511 0 ≡ 0 = rw n at (get_or-append-add body (0 ∷ 0 ∷ []) 1 0) in
        rw w (omega (arith, u, v))

    -- the checksum written makes the block
    pub sealed : (c : ℕ) (s : List ℕ) → c ≡ checksum (take 510 m) → s ≡ u16 c → put_mid 510 2 m s ≡ block_of kind i (take fill (drop 6 l))
    sealed c s z e =
        let t : take 510 m ≡ body = ap (take 510) w ∙ take_at body (0 ∷ 0 ∷ []) 510 (body_length l kind i fill h p) in
        let d : drop 2 (drop 510 m) ≡ [] = drop_of_length-le (drop 510 m) {i = 2} (omega (arith, length-drop 510 m, made_length)) in
        let y : c ≡ checksum body = z ∙ ap checksum t in
        rw (e, d, append-nil (u16 c), t, y) (sym (block_is kind i (take fill (drop 6 l))))

-- how long a block is
pub block_length : (kind i : ℕ) (part : List ℕ) → length part ≤ 504 → length (block_of kind i part) ≡ 512
unfolding body_of u16
block_length kind i part h =
    let r : length {A = ℕ} (replicate (504 - length part) 0) ≡ 504 - length part = length-replicate (504 - length part) 0 in
    let b : length (body_of kind i part) ≡ 510 = omega (arith, length-append part (replicate (504 - length part) 0)) in
    ap length (block_is kind i part) ∙ length-append (body_of kind i part) (u16 (checksum (body_of kind i part))) ∙ omega arith
