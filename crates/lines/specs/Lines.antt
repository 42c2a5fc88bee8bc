-- The lines as they are read from the files of moves and rounds, and how long they are.
use Rattle.std.specs.Prelude.{ℕ, zero, suc, ◌+◌, ◌-◌, ◌*◌, ◌/◌, ◌%◌, ◌≤◌, ◌<◌, ◌≡◌, refl, List, [], ◌∷◌, ◌++◌, length, get_or, set, take, drop, replicate}
use Rattle.std.proofs.Common.{sym, ap, ap₂, ◌∙◌, ⊎_elim, length-append, length-take, length-drop, get_or-append-add, get_or-take, get_or-drop, drop-drop, arith}
use Rattle.std.proofs.Math.ListN.{get_or-append}
use Rattle.spec.specs.Outcome.{u16}
use Rattle.spec.specs.Wire.{checksum, block_of, file_of}
use Rattle.spec.specs.Arrangement.{Move, mv}
use Rattle.spec.specs.State.{move_bytes, word_bytes}
use Rattle.theory.specs.Codec.Words.{word_u16}
use Rattle.wire.specs.Payload.{place_of, lt_or_ge}
use Rattle.answers.specs.Sealed.{up_to, up_length, file_up}
use Rattle.replay.specs.Moves.{move_by, moves_by, bytes_of}
use Rattle.lines.specs.Text.{decimal, decimal_few, power, Put, put_none, put_one, put_then, put_as}
use Rattle.lines.specs.Listing.{space, newline, field, line_of, lines_of}

-- ---- reading

-- n rounds of a sheet's payload whose bytes are given by offset, from round i on
unfoldable pub rounds_by : (ℕ → ℕ) → ℕ → ℕ → List ℕ
rounds_by byte i zero = []
rounds_by byte i (suc n) = (byte (2 + i * 2) * 256 + byte (2 + i * 2 + 1)) ∷ rounds_by byte (i + 1) n

-- the lines of n moves, from move i on, as they are read
unfoldable pub lines_by : (ℕ → ℕ) → (ℕ → ℕ) → ℕ → ℕ → List ℕ
lines_by move round i n = lines_of (moves_by move i n) (rounds_by round i n)

-- line i as it is read
abbrev pub line_by : (ℕ → ℕ) → (ℕ → ℕ) → ℕ → List ℕ
line_by move round i = line_of (move_by move i) (round (2 + i * 2) * 256 + round (2 + i * 2 + 1))

-- one line more at the front
lines_next : (move round : ℕ → ℕ) (i n : ℕ) → i < n → lines_by move round i (n - i) ≡ line_by move round i ++ lines_by move round (i + 1) (n - (i + 1))
unfolding lines_by moves_by rounds_by lines_of
lines_next move round i n h = let e : n - i ≡ suc (n - (i + 1)) = omega arith in rw e

-- no line is left
lines_done : (move round : ℕ → ℕ) (i n : ℕ) → n ≤ i → lines_by move round i (n - i) ≡ []
unfolding lines_by moves_by rounds_by lines_of
lines_done move round i n h = let e : n - i ≡ 0 = omega arith in rw e

-- ---- a payload in its file

-- a byte of a block's part
block_byte : (kind i : ℕ) (part : List ℕ) (s : ℕ) → s < length part → get_or (block_of kind i part) (6 + s) 0 ≡ get_or part s 0
unfolding block_of u16
block_byte kind i part s h =
    let head : List ℕ = (kind ∷ 0 ∷ u16 i) ++ u16 (length part) in
    let body : List ℕ = head ++ part ++ replicate (504 - length part) 0 in
    let l : length (head ++ part) ≡ 6 + length part = length-append head part in
    get_or-append body (u16 (checksum body)) 0 (6 + s) (omega (arith, length-append (head ++ part) (replicate (504 - length part) 0)))
    ∙ get_or-append (head ++ part) (replicate (504 - length part) 0) 0 (6 + s) (omega arith)
    ∙ get_or-append-add head part s 0

-- a byte of the payload in the first k blocks
up_byte : (kind : ℕ) (p : List ℕ) (k off : ℕ) → off < length p → off < k * 504 → get_or (up_to kind p k) (place_of off) 0 ≡ get_or p off 0
unfolding up_to
up_byte kind p zero off h g = absurd (omega arith)
up_byte kind p (suc k) off h g =
    let part : List ℕ = take 504 (drop (k * 504) p) in
    let l : length (up_to kind p k) ≡ k * 512 = up_length kind p k in
    ⊎_elim
    (λ (q : off < k * 504). get_or-append (up_to kind p k) (block_of kind k part) 0 (place_of off) (omega arith) ∙ up_byte kind p k off h q)
    (λ (q : k * 504 ≤ off).
    let s : ℕ = off - k * 504 in
    let e : place_of off ≡ length (up_to kind p k) + (6 + (off - k * 504)) = omega arith in
    let o : k * 504 + (off - k * 504) ≡ off = omega arith in
    ap (λ (j : ℕ). get_or (up_to kind p k ++ block_of kind k part) j 0) e
    ∙ get_or-append-add (up_to kind p k) (block_of kind k part) (6 + (off - k * 504)) 0
    ∙ block_byte kind k part (off - k * 504) (simp (length-take, length-drop) (omega arith))
    ∙ get_or-take 504 (drop (k * 504) p) (off - k * 504) 0 (omega arith) ∙ get_or-drop (k * 504) p (off - k * 504) 0 ∙ ap (λ (j : ℕ). get_or p j 0) o)
    (lt_or_ge off (k * 504))

-- a byte of the payload, where it stands in the file and what follows it
pub file_byte : (kind : ℕ) (p z : List ℕ) (off : ℕ) → off < length p → get_or (file_of kind p ++ z) (place_of off) 0 ≡ get_or p off 0
file_byte kind p z off h =
    let n : ℕ = (length p + 503) / 504 in
    let l : length (up_to kind p ((length p + 503) / 504)) ≡ (length p + 503) / 504 * 512 = up_length kind p ((length p + 503) / 504) in
    rw (file_up kind p)
    (get_or-append (up_to kind p ((length p + 503) / 504)) z 0 (place_of off) (omega arith) ∙ up_byte kind p ((length p + 503) / 504) off h (omega arith))

-- the moves of a payload are those that it was made of
pub moves_of : (p : List ℕ) (xs : List Move) (i : ℕ) → drop (2 + i * 3) p ≡ move_bytes xs → moves_by (bytes_of p) i (length xs) ≡ xs
unfolding moves_by move_bytes
moves_of p [] i e = refl
moves_of p (x ∷ xs) i e =
    let byte : (n : ℕ) → get_or p (2 + i * 3 + n) 0 ≡ get_or (x.robot ∷ x.from ∷ x.to ∷ move_bytes xs) n 0 = λ n. sym (get_or-drop (2 + i * 3) p n 0) ∙ ap (λ (y : List ℕ). get_or y n 0) e in
    let a0 : 2 + i * 3 ≡ 2 + i * 3 + 0 = omega arith in
    let a1 : 3 + i * 3 ≡ 2 + i * 3 + 1 = omega arith in
    let a2 : 4 + i * 3 ≡ 2 + i * 3 + 2 = omega arith in
    let p0 : get_or p (2 + i * 3) 0 ≡ x.robot = ap (λ (j : ℕ). get_or p j 0) a0 ∙ byte 0 in
    let p1 : get_or p (3 + i * 3) 0 ≡ x.from = ap (λ (j : ℕ). get_or p j 0) a1 ∙ byte 1 in
    let p2 : get_or p (4 + i * 3) 0 ≡ x.to = ap (λ (j : ℕ). get_or p j 0) a2 ∙ byte 2 in
    let n : 2 + (i + 1) * 3 ≡ 2 + i * 3 + 3 = omega arith in
    let rest : drop (2 + (i + 1) * 3) p ≡ move_bytes xs = ap (λ (j : ℕ). drop j p) n ∙ sym (drop-drop 3 (2 + i * 3) p) ∙ ap (drop 3) e in
    let here : mv (get_or p (2 + i * 3) 0) (get_or p (3 + i * 3) 0) (get_or p (4 + i * 3) 0) ≡ x = λ j. mv (p0 j) (p1 j) (p2 j) in
    ap₂ (λ (y : Move) (ys : List Move). y ∷ ys) here (moves_of p xs (i + 1) rest)

-- the n rounds of a sheet's payload are those that it was made of
pub rounds_of : (p : List ℕ) (ws : List ℕ) (i n : ℕ) → ((l : ℕ) → l < n → get_or ws l 0 < 65536) → drop (2 + i * 2) p ≡ word_bytes ws → length p ≡ 2 + (i + n) * 2 → rounds_by (bytes_of p) i n ≡ ws
unfolding rounds_by word_bytes u16
rounds_of p [] i zero h e k = refl
rounds_of p [] i (suc n) h e k = let d : length p - (2 + i * 2) ≡ 0 = sym (length-drop (2 + i * 2) p) ∙ ap length e in absurd (omega arith)
rounds_of p (w ∷ ws) i zero h e k =
    let d : length p - (2 + i * 2) ≡ suc (suc (length (word_bytes ws))) = sym (length-drop (2 + i * 2) p) ∙ ap length e in absurd (omega arith)
rounds_of p (w ∷ ws) i (suc n) h e k =
    let byte : (j : ℕ) → get_or p (2 + i * 2 + j) 0 ≡ get_or (w / 256 % 256 ∷ w % 256 ∷ word_bytes ws) j 0 = λ j. sym (get_or-drop (2 + i * 2) p j 0) ∙ ap (λ (y : List ℕ). get_or y j 0) e in
    let a0 : 2 + i * 2 ≡ 2 + i * 2 + 0 = omega arith in
    let p0 : get_or p (2 + i * 2) 0 ≡ w / 256 % 256 = ap (λ (j : ℕ). get_or p j 0) a0 ∙ byte 0 in
    let p1 : get_or p (2 + i * 2 + 1) 0 ≡ w % 256 = byte 1 in
    let m : 2 + (i + 1) * 2 ≡ 2 + i * 2 + 2 = omega arith in
    let rest : drop (2 + (i + 1) * 2) p ≡ word_bytes ws = ap (λ (j : ℕ). drop j p) m ∙ sym (drop-drop 2 (2 + i * 2) p) ∙ ap (drop 2) e in
    let here : get_or p (2 + i * 2) 0 * 256 + get_or p (2 + i * 2 + 1) 0 ≡ w = rw (p0, p1) (word_u16 w (h 0 (omega arith))) in
    ap₂ (λ (y : ℕ) (ys : List ℕ). y ∷ ys) here (rounds_of p ws (i + 1) n (λ l q. h (suc l) (omega arith)) rest (omega arith))

-- payloads that agree on the rounds' bytes have the same rounds
pub rounds_same : (f g : ℕ → ℕ) (i n : ℕ) → ((off : ℕ) → off < 2 + (i + n) * 2 → f off ≡ g off) → rounds_by f i n ≡ rounds_by g i n
unfolding rounds_by
rounds_same f g i zero h = refl
rounds_same f g i (suc n) h =
    rw (h (2 + i * 2) (omega arith), h (2 + i * 2 + 1) (omega arith), rounds_same f g (i + 1) n (λ off l. h off (omega arith)))

-- ---- the lines put one after the other

-- a number and the byte after it
pub field_put : {t u v : List ℕ} {at r : ℕ} (n after : ℕ) → Put t at (decimal n) u r → v ≡ set u r after → Put t at (field n after) v (r + 1)
unfolding field
field_put n after p e = put_then p (put_one e)

-- how long they are
pub field_few : (k n after : ℕ) → n < power (suc k) → length (field n after) ≤ suc (suc k)
unfolding field
field_few k n after h = rw length-append (omega (arith, decimal_few k n h))

-- a line is at most 18 bytes
line_few : (m : Move) (r : ℕ) → m.robot < 256 → m.from < 256 → m.to < 256 → r < 65536 → length (line_of m r) ≤ 18
unfolding line_of
line_few m r a b c d =
    simp length-append
    (omega (
      arith,
      decimal_few 2 m.robot (unfold power in omega arith),
      decimal_few 2 m.from (unfold power in omega arith),
      decimal_few 2 m.to (unfold power in omega arith),
      decimal_few 4 r (unfold power in omega arith),
    ))

-- a line, field by field
pub line_put : (move round : ℕ → ℕ) (i : ℕ) {t u v w x : List ℕ} {at a b c r : ℕ} (robot from to n : ℕ)
    → robot ≡ move (2 + i * 3) → from ≡ move (3 + i * 3) → to ≡ move (4 + i * 3) → n ≡ round (2 + i * 2) * 256 + round (2 + i * 2 + 1)
    → robot < 256 → from < 256 → to < 256 → n < 65536
    → Put t at (field robot space) u a → Put u a (field from space) v b → Put v b (field to space) w c → Put w c (field n newline) x r
    → Put t at (line_by move round i) x r × (r ≤ at + 18)
unfolding line_of
line_put move round i {at} {r} robot from to n er ef et en hr hf ht hn p q s z =
    let l : Put _ at (line_of (mv robot from to) n) _ r = put_then (put_then (put_then p q) s) z in
    let e : line_of (mv robot from to) n ≡ line_by move round i = rw (er, ef, et, en) in
    (put_as e l, omega (arith, l.next, line_few (mv robot from to) n hr hf ht hn))

-- i of n lines are put: whatever puts the rest has put them all, and the place is at most 18 bytes on for each
pub record Lined (move round : ℕ → ℕ) (n : ℕ) (t₀ : List ℕ) (at₀ i : ℕ) (t : List ℕ) (at : ℕ) : Type 0 where
  pub within : i ≤ n
  pub most : at ≤ at₀ + i * 18
  pub rest : (u : List ℕ) (r : ℕ) → Put t at (lines_by move round i (n - i)) u r → Put t₀ at₀ (lines_by move round 0 n) u r

module _ (move round : ℕ → ℕ) (n : ℕ) (t₀ : List ℕ) (at₀ : ℕ) where
  -- none is put yet
  pub lined_start : Lined move round n t₀ at₀ 0 t₀ at₀
  lined_start = record { within = omega arith; most = omega arith; rest = λ u r p. let e : n - 0 ≡ n = omega arith in rw e at p }

  -- one more
  pub lined_more : (i : ℕ) (t : List ℕ) (at : ℕ) → Lined move round n t₀ at₀ i t at → i < n → (u : List ℕ) (r : ℕ) → Put t at (line_by move round i) u r → r ≤ at + 18
      → Lined move round n t₀ at₀ (i + 1) u r
  lined_more i t at l h u r p k = record {
    within = omega arith;
    most = omega (arith, l.most);
    rest = λ v s q. l.rest v s (put_as (sym (lines_next move round i n h)) (put_then p q));
  }

  -- all are put
  pub lined_end : (i : ℕ) (t : List ℕ) (at : ℕ) → Lined move round n t₀ at₀ i t at → n ≤ i → Put t₀ at₀ (lines_by move round 0 n) t at
  lined_end i t at l h = l.rest t at (put_as (sym (lines_done move round i n h)) (put_none t at))
