-- A whole file that is made in place.
use Rattle.std.specs.Prelude.{ℕ, zero, suc, ◌+◌, ◌-◌, ◌*◌, ◌/◌, ◌≤◌, ◌≡◌, ◌<◌, refl, List, [], ◌++◌, length, take, drop, replicate}
use Rattle.std.proofs.Common.{ap, sym, ◌∙◌, ⊎_elim, append_assoc, append-nil, length-append, length-take, length-drop, drop-drop, take-take, take_all, take_at, drop_at, drop_of_length-le, min, add-one, arith}
use borrow.Rule.Slice.PartMut.{put_mid}
use Rattle.spec.specs.Wire.{block_of, blocks_from, file_of}
use Rattle.wire.specs.Payload.{drop_take, payload, chunk, held_length, lt_or_ge}
use Rattle.answers.specs.Made.{block_length}

-- the first k blocks of a payload
unfoldable pub up_to : ℕ → List ℕ → ℕ → List ℕ
up_to kind p zero = []
up_to kind p (suc k) = up_to kind p k ++ block_of kind k (take 504 (drop (k * 504) p))

-- one more block
up_more : (kind : ℕ) (p : List ℕ) (k : ℕ) → up_to kind p (k + 1) ≡ up_to kind p k ++ block_of kind k (take 504 (drop (k * 504) p))
unfolding up_to
up_more kind p k = rw (add-one k)

-- how long they are
pub up_length : (kind : ℕ) (p : List ℕ) (k : ℕ) → length (up_to kind p k) ≡ k * 512
unfolding up_to
up_length kind p zero = refl
up_length kind p (suc k) =
    length-append (up_to kind p k) (block_of kind k (take 504 (drop (k * 504) p)))
    ∙ omega (arith, up_length kind p k, block_length kind k (take 504 (drop (k * 504) p)) (simp length-take (omega arith)))

-- the definition's blocks from block i on, after those before
blocks_up : (kind i left : ℕ) (p : List ℕ) → up_to kind p i ++ blocks_from kind p i left ≡ up_to kind p (i + left)
unfolding blocks_from
blocks_up kind i zero p = let e : i ≡ i + 0 = omega arith in append-nil (up_to kind p i) ∙ ap (up_to kind p) e
blocks_up kind i (suc left) p =
    let e : i + 1 + left ≡ i + suc left = omega arith in
    sym (append_assoc (up_to kind p i) (block_of kind i (take 504 (drop (i * 504) p))) (blocks_from kind p (i + 1) left))
    ∙ rw (← up_more kind p i) (blocks_up kind (i + 1) left p) ∙ ap (up_to kind p) e

-- all the blocks of the definition
blocks_all : (kind n : ℕ) (p : List ℕ) → blocks_from kind p 0 n ≡ up_to kind p n
unfolding up_to
blocks_all kind n p = let e : 0 + n ≡ n = omega arith in rw e at (blocks_up kind 0 n p)

-- the file is its blocks
pub file_up : (kind : ℕ) (p : List ℕ) → file_of kind p ≡ up_to kind p ((length p + 503) / 504)
unfolding file_of
file_up kind p = blocks_all kind ((length p + 503) / 504) p

-- ---- the part of a payload in block k, in the buffer where it stands

-- a full part
part_full : (f : List ℕ) (k len : ℕ) → (k + 1) * 512 ≤ length f → (k + 1) * 504 ≤ len
    → take 504 (drop (k * 504) (take len (payload f))) ≡ take 504 (drop (k * 512 + 6) f)
part_full f k len h g = rw (drop_take (k * 504) len (payload f), take-take 504 (len - k * 504) (drop (k * 504) (payload f)) (omega arith), chunk f k h)

-- the last part
part_last : (f : List ℕ) (k len : ℕ) → (k + 1) * 512 ≤ length f → len ≤ (k + 1) * 504 → len ≤ length f / 512 * 504
    → take 504 (drop (k * 504) (take len (payload f))) ≡ take (len - k * 504) (drop (k * 512 + 6) f)
part_last f k len h g u =
    let t : length (take (len - k * 504) (drop (k * 504) (payload f))) ≤ 504 = simp length-take (omega arith) in
    let s : len - k * 504 ≤ 504 = omega arith in
    rw (
      drop_take (k * 504) len (payload f),
      take_all 504 (take (len - k * 504) (drop (k * 504) (payload f))) t,
      ← take-take (len - k * 504) 504 (drop (k * 504) (payload f)) s,
      chunk f k h,
      take-take (len - k * 504) 504 (drop (k * 512 + 6) f) s,
    )

-- either
pub part_is : (f : List ℕ) (k len fill : ℕ) → (k + 1) * 512 ≤ length f → len ≤ length f / 512 * 504 → fill ≡ min (len - k * 504) 504
    → take 504 (drop (k * 504) (take len (payload f))) ≡ take fill (drop (k * 512 + 6) f)
part_is f k len fill h u e =
    ⊎_elim
    (λ (w : len - k * 504 < 504). let q : fill ≡ len - k * 504 = omega arith in rw q (part_last f k len h (omega arith) u))
    (λ (w : 504 ≤ len - k * 504). let q : fill ≡ 504 = omega arith in rw q (part_full f k len h (omega arith)))
    (lt_or_ge (len - k * 504) 504)

-- ---- block after block is finished in the buffer

-- one more block
pub seal_step : (f m b : List ℕ) (kind k len fill j : ℕ) → j ≡ 512 → fill ≤ 504
    → take 504 (drop (k * 504) (take len (payload f))) ≡ take fill (drop (k * 512 + 6) f)
    → m ≡ up_to kind (take len (payload f)) k ++ drop (k * 512) f
    → b ≡ block_of kind k (take fill (drop 6 (take j (drop (k * 512) m))))
    → take (k * 512) m ++ (b ++ drop j (drop (k * 512) m)) ≡ up_to kind (take len (payload f)) (k + 1) ++ drop ((k + 1) * 512) f
seal_step f m b kind k len fill j o g e w z =
    let p : List ℕ = take len (payload f) in
    let l : length (up_to kind p k) ≡ k * 512 = up_length kind p k in
    let d : drop (k * 512) m ≡ drop (k * 512) f = ap (drop (k * 512)) w ∙ drop_at (up_to kind p k) (drop (k * 512) f) (k * 512) l in
    let t : take (k * 512) m ≡ up_to kind p k = ap (take (k * 512)) w ∙ take_at (up_to kind p k) (drop (k * 512) f) (k * 512) l in
    let a : k * 512 + 512 ≡ (k + 1) * 512 = omega arith in
    let r : drop j (drop (k * 512) m) ≡ drop ((k + 1) * 512) f =
    ap (λ (x : ℕ). drop x (drop (k * 512) m)) o ∙ ap (drop 512) d ∙ drop-drop 512 (k * 512) f ∙ ap (λ (x : ℕ). drop x f) a in
    let q : b ≡ block_of kind k (take 504 (drop (k * 504) p)) =
    z ∙ ap (λ (x : ℕ). block_of kind k (take fill (drop 6 (take x (drop (k * 512) m))))) o
    ∙ ap (λ (x : List ℕ). block_of kind k (take fill (drop 6 (take 512 x)))) d
    ∙ ap (block_of kind k) (rw (drop_take 6 512 (drop (k * 512) f), take-take fill 506 (drop 6 (drop (k * 512) f)) (omega arith), drop-drop 6 (k * 512) f) (sym e)) in
    rw (t, q, r, up_more kind p k) (sym (append_assoc (up_to kind p k) (block_of kind k (take 504 (drop (k * 504) p))) (drop ((k + 1) * 512) f)))

-- the buffer keeps its length
pub up_all : (f : List ℕ) (kind k : ℕ) (p : List ℕ) → k * 512 ≤ length f → length (up_to kind p k ++ drop (k * 512) f) ≡ length f
up_all f kind k p h = length-append (up_to kind p k) (drop (k * 512) f) ∙ omega (arith, up_length kind p k, length-drop (k * 512) f)

-- the file, with zeros behind it
pub seal_end : (f m z : List ℕ) (kind len n k j : ℕ) → len ≤ length f / 512 * 504 → n ≡ (len + 503) / 504
    → m ≡ up_to kind (take len (payload f)) n ++ drop (n * 512) f → length m ≡ length f → z ≡ replicate j 0 → j ≡ length m - n * 512 → k ≡ length m - n * 512
    → put_mid (n * 512) k m z ≡ file_of kind (take len (payload f)) ++ replicate (length f - (len + 503) / 504 * 512) 0
seal_end f m z kind len n k j u e w s y o q =
    let p : List ℕ = take len (payload f) in
    let v : length p ≡ len = held_length f len u in
    let t : take (n * 512) m ≡ up_to kind p n = ap (take (n * 512)) w ∙ take_at (up_to kind p n) (drop (n * 512) f) (n * 512) (up_length kind p n) in
    let d : drop (length m - n * 512) (drop (n * 512) m) ≡ [] = drop_of_length-le (drop (n * 512) m) {i = length m - n * 512} (omega (arith, length-drop (n * 512) m)) in
    rw (y, o, q, t, d, append-nil {A = ℕ} (replicate (length m - n * 512) 0), s, e, file_up kind p, v)
