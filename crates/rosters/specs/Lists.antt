-- Lists of robots in lent bytes.
use Rattle.std.specs.Prelude.{◌≡◌, refl, List, ◌∷◌, ◌++◌, ℕ, suc, ◌+◌, ◌-◌, ◌≤◌, ◌<◌, length, get_or, set, take, drop, reverse}
use Rattle.std.proofs.Common.{sym, ap, ◌∙◌, arith, length-set, length-drop}
use Rattle.std.proofs.Math.Decide.{ℕ_discrete, dec_lt}
use Rattle.std.proofs.Math.ListN.{get_or-append}
use borrow.Rule.Slice.PartMut.{put_mid, same_len_mid}
use Rattle.std.proofs.lemmas.List.{reverse-append, reverse-reverse}
use lib.Seq.{length-take-le, get_or-take, get_or-drop, get_or-set_same, get_or-set_other, ext_get_or, get_or-append-add, take_all}
use Rattle.orders.specs.Orders.{without, put_in, turned_by}
use Rattle.orders.specs.Lengths.{without_length, put_length}

-- the rest of a row from element a on, as the code takes it
pub rest_is : (a : ℕ) (cells : List ℕ) → take (length cells - a) (drop a cells) ≡ drop a cells
rest_is a cells = take_all (length cells - a) (drop a cells) (omega (arith, length-drop a cells))

-- its length
pub rest_length : (a : ℕ) (cells : List ℕ) → length (take (length cells - a) (drop a cells)) ≡ length cells - a
rest_length a cells = ap length (rest_is a cells) ∙ length-drop a cells

-- ---- appended lists, element by element

-- an element of the first
pub append_left : (xs ys : List ℕ) (n k : ℕ) → length xs ≡ n → k < n → get_or (xs ++ ys) k 0 ≡ get_or xs k 0
append_left xs ys n k e h = get_or-append xs ys 0 k (omega (arith, e))

-- an element of the second
pub append_right : (xs ys : List ℕ) (n k : ℕ) → length xs ≡ n → n ≤ k → get_or (xs ++ ys) k 0 ≡ get_or ys (k - n) 0
append_right xs ys n k e h =
    let q : k ≡ length xs + (k - n) = omega (arith, e) in
    ap (λ (i : ℕ). get_or (xs ++ ys) i 0) q ∙ get_or-append-add xs ys (k - n) 0

-- ---- a part in the middle put back, element by element

module _ (p s : List ℕ) (a c : ℕ) (fits : a + c ≤ length p) (e : length s ≡ c) where
  -- what stands before it
  front : length (take a p) ≡ a
  front = length-take-le a p (omega arith)

  mid_before : (k : ℕ) → k < a → get_or (put_mid a c p s) k 0 ≡ get_or p k 0
  mid_before k h = append_left (take a p) (s ++ drop c (drop a p)) a k front h ∙ get_or-take a p k 0 h

  -- the part
  mid_in : (k : ℕ) → a ≤ k → k < a + c → get_or (put_mid a c p s) k 0 ≡ get_or s (k - a) 0
  mid_in k h l = append_right (take a p) (s ++ drop c (drop a p)) a k front h ∙ append_left s (drop c (drop a p)) c (k - a) e (omega arith)

  -- what stands behind it
  mid_after : (k : ℕ) → a + c ≤ k → get_or (put_mid a c p s) k 0 ≡ get_or p k 0
  mid_after k h =
      let back : a + (c + (k - a - c)) ≡ k = omega arith in
      append_right (take a p) (s ++ drop c (drop a p)) a k front (omega arith) ∙ append_right s (drop c (drop a p)) c (k - a) e (omega arith)
      ∙ get_or-drop c (drop a p) (k - a - c) 0 ∙ get_or-drop a p (c + (k - a - c)) 0 ∙ ap (λ (i : ℕ). get_or p i 0) back

-- an element of the part that was lent
lent_at : (p : List ℕ) (a c i k : ℕ) → i < c → a + i ≡ k → get_or (take c (drop a p)) i 0 ≡ get_or p k 0
lent_at p a c i k h e = get_or-take c (drop a p) i 0 h ∙ get_or-drop a p i 0 ∙ ap (λ (x : ℕ). get_or p x 0) e

-- ---- an element taken out

-- a list without an element, element by element
without_under : (t : ℕ) (l : List ℕ) (k : ℕ) → t < length l → k < t → get_or (without t l) k 0 ≡ get_or l k 0
unfolding without
without_under t l k h b = append_left (take t l) (drop (suc t) l) t k (length-take-le t l (omega arith)) b ∙ get_or-take t l k 0 b

without_over : (t : ℕ) (l : List ℕ) (k : ℕ) → t < length l → t ≤ k → get_or (without t l) k 0 ≡ get_or l (k + 1) 0
unfolding without
without_over t l k h b =
    let e : suc t + (k - t) ≡ k + 1 = omega arith in
    append_right (take t l) (drop (suc t) l) t k (length-take-le t l (omega arith)) b ∙ get_or-drop (suc t) l (k - t) 0 ∙ ap (λ (i : ℕ). get_or l i 0) e

-- as far as element i those behind element t have come one nearer
pub record Shifting (p : List ℕ) (t i : ℕ) (q : List ℕ) : Type 0 where
  pub long : length q ≡ length p
  pub under : (k : ℕ) → k < t → get_or q k 0 ≡ get_or p k 0
  pub over : (k : ℕ) → t ≤ k → k < i → get_or q k 0 ≡ get_or p (k + 1) 0
  pub past : (k : ℕ) → i ≤ k → get_or q k 0 ≡ get_or p k 0

-- none yet
pub shift_none : (p : List ℕ) (t : ℕ) → Shifting p t t p
shift_none p t = record { long = refl; under = λ k b. refl; over = λ k b d. absurd (omega arith); past = λ k b. refl }

-- one more
pub shift_more : (p : List ℕ) (t i : ℕ) (q : List ℕ) → t ≤ i → i < length p → Shifting p t i q → Shifting p t (i + 1) (set q i (get_or q (i + 1) 0))
shift_more p t i q h l s = record {
  long = length-set q i _ ∙ s.long;
  under = λ k b. get_or-set_other q i k _ 0 (λ e. omega arith) ∙ s.under k b;
  over = λ k b d. high k b d (ℕ_discrete k i);
  past = λ k b. get_or-set_other q i k _ 0 (λ e. omega arith) ∙ s.past k (omega arith);
}
  where
    high : (k : ℕ) → t ≤ k → k < i + 1 → Dec (k ≡ i) → get_or (set q i (get_or q (i + 1) 0)) k 0 ≡ get_or p (k + 1) 0
    high k b d (yes e) = rw e (get_or-set_same q i _ 0 (omega (arith, s.long)) ∙ s.past (i + 1) (omega arith))
    high k b d (no n) = get_or-set_other q i k _ 0 n ∙ s.over k b (omega arith)

-- in the part from element t on
pub shift_mid : (p s : List ℕ) (t : ℕ) → t < length p → Shifting (take (length p - t) (drop t p)) 0 (length (take (length p - t) (drop t p)) - 1) s → Shifting p t (length p - 1) (put_mid t (length p - t) p s)
shift_mid p s t h x =
    let m : length (take (length p - t) (drop t p)) ≡ length p - t = length-take-le (length p - t) (drop t p) (omega (arith, length-drop t p)) in
    let e : length s ≡ length p - t = x.long ∙ m in
    record {
      long = same_len_mid t (length p - t) p s x.long;
      under = λ k b. mid_before p s t (length p - t) (omega arith) e k b;
      over = λ k b d. mid_in p s t (length p - t) (omega arith) e k b (omega arith) ∙ x.over (k - t) (omega arith) (omega (arith, m)) ∙ lent_at p t (length p - t) (k - t + 1) (k + 1) (omega arith) (omega arith);
      past = λ k b. last k b (dec_lt k (length p)) m e;
    }
  where
    last : (k : ℕ) → length p - 1 ≤ k → Dec (k < length p) → length (take (length p - t) (drop t p)) ≡ length p - t → length s ≡ length p - t → get_or (put_mid t (length p - t) p s) k 0 ≡ get_or p k 0
    last k b (yes d) m e = mid_in p s t (length p - t) (omega arith) e k (omega arith) (omega arith) ∙ x.past (k - t) (omega (arith, m)) ∙ lent_at p t (length p - t) (k - t) k (omega arith) (omega arith)
    last k b (no d) m e = mid_after p s t (length p - t) (omega arith) e k (omega arith)

-- as long, and the first are the list p without its element t
abbrev pub TakenOut : List ℕ → ℕ → List ℕ → Type 0
TakenOut p t q = (length q ≡ length p) × (take (length p - 1) q ≡ without t p)

module _ (p q : List ℕ) (t : ℕ) (h : t < length p) (e : length q ≡ length p) where
  -- by its elements
  out_by : ((k : ℕ) → k < length p - 1 → Dec (k < t) → get_or q k 0 ≡ get_or (without t p) k 0) → TakenOut p t q
  out_by at = (e, ext_get_or 0 _ _ (cut ∙ sym short) (λ k x. get_or-take (length p - 1) q k 0 (omega (arith, x, cut)) ∙ at k (omega (arith, x, cut)) (dec_lt k t)))
    where
      short : length (without t p) ≡ length p - 1
      short = without_length t p h

      cut : length (take (length p - 1) q) ≡ length p - 1
      cut = length-take-le (length p - 1) q (omega (arith, e))

  -- all those behind have come one nearer
  pub shifted_out : (i : ℕ) → length p - 1 ≤ i → Shifting p t i q → TakenOut p t q
  shifted_out i d s = out_by at
    where
      at : (k : ℕ) → k < length p - 1 → Dec (k < t) → get_or q k 0 ≡ get_or (without t p) k 0
      at k x (yes y) = s.under k y ∙ sym (without_under t p k h y)
      at k x (no y) = s.over k (omega arith) (omega arith) ∙ sym (without_over t p k h (omega arith))

  -- of one robot or two at most one is left, and stands first
  pub pair_left : length p ≤ 2 → (length p ≡ 2 → get_or q 0 0 ≡ get_or p (1 - t) 0) → TakenOut p t q
  pair_left b first = out_by at
    where
      at : (k : ℕ) → k < length p - 1 → Dec (k < t) → get_or q k 0 ≡ get_or (without t p) k 0
      at k x (yes y) =
          let z : 1 - t ≡ k = omega arith in
          let f : k ≡ 0 = omega arith in
          ap (λ (i : ℕ). get_or q i 0) f ∙ first (omega arith) ∙ ap (λ (i : ℕ). get_or p i 0) z ∙ sym (without_under t p k h y)
      at k x (no y) =
          let z : 1 - t ≡ k + 1 = omega arith in
          let f : k ≡ 0 = omega arith in
          ap (λ (i : ℕ). get_or q i 0) f ∙ first (omega arith) ∙ ap (λ (i : ℕ). get_or p i 0) z ∙ sym (without_over t p k h (omega arith))

-- ---- an element put in

-- a list with an element more, element by element
put_under : (t r : ℕ) (l : List ℕ) (k : ℕ) → t ≤ length l → k < t → get_or (put_in t r l) k 0 ≡ get_or l k 0
unfolding put_in
put_under t r l k h b = append_left (take t l) (r ∷ drop t l) t k (length-take-le t l h) b ∙ get_or-take t l k 0 b

put_here : (t r : ℕ) (l : List ℕ) → t ≤ length l → get_or (put_in t r l) t 0 ≡ r
unfolding put_in
put_here t r l h =
    let e : t - t ≡ 0 = omega arith in
    append_right (take t l) (r ∷ drop t l) t t (length-take-le t l h) (omega arith) ∙ ap (λ (i : ℕ). get_or (r ∷ drop t l) i 0) e

put_over : (t r : ℕ) (l : List ℕ) (k : ℕ) → t ≤ length l → t ≤ k → get_or (put_in t r l) (k + 1) 0 ≡ get_or l k 0
unfolding put_in
put_over t r l k h b =
    let e : k + 1 - t ≡ suc (k - t) = omega arith in
    let f : t + (k - t) ≡ k = omega arith in
    append_right (take t l) (r ∷ drop t l) t (k + 1) (length-take-le t l h) (omega arith) ∙ ap (λ (i : ℕ). get_or (r ∷ drop t l) i 0) e ∙ get_or-drop t l (k - t) 0 ∙ ap (λ (i : ℕ). get_or l i 0) f

-- from element i on the first n have gone one further
pub record Parting (p : List ℕ) (n i : ℕ) (q : List ℕ) : Type 0 where
  pub long : length q ≡ length p
  pub under : (k : ℕ) → k ≤ i → get_or q k 0 ≡ get_or p k 0
  pub over : (k : ℕ) → i ≤ k → k < n → get_or q (k + 1) 0 ≡ get_or p k 0

-- none yet
pub part_none : (p : List ℕ) (n : ℕ) → Parting p n n p
part_none p n = record { long = refl; under = λ k h. refl; over = λ k h l. absurd (omega arith) }

-- one more
pub part_more : (p : List ℕ) (n i : ℕ) (q : List ℕ) → 0 < i → i ≤ n → n < length p → Parting p n i q → Parting p n (i - 1) (set q i (get_or q (i - 1) 0))
part_more p n i q z h l s = record {
  long = length-set q i _ ∙ s.long;
  under = λ k b. get_or-set_other q i k _ 0 (λ e. omega arith) ∙ s.under k (omega arith);
  over = λ k b d. at k b d (ℕ_discrete (k + 1) i);
}
  where
    at : (k : ℕ) → i - 1 ≤ k → k < n → Dec (k + 1 ≡ i) → get_or (set q i (get_or q (i - 1) 0)) (k + 1) 0 ≡ get_or p k 0
    at k b d (yes e) =
        let f : i - 1 ≡ k = omega arith in
        rw e (get_or-set_same q i _ 0 (omega (arith, s.long)) ∙ s.under (i - 1) (omega arith)) ∙ ap (λ (x : ℕ). get_or p x 0) f
    at k b d (no m) = get_or-set_other q i (k + 1) _ 0 m ∙ s.over k (omega arith) d

-- in the part from element t on, with it
pub part_mid : (p s : List ℕ) (t : ℕ) → t < length p → Parting (take (length p - t) (drop t p)) (length (take (length p - t) (drop t p)) - 1) 0 s → Parting p (length p - 1) t (put_mid t (length p - t) p s)
part_mid p s t h x =
    let m : length (take (length p - t) (drop t p)) ≡ length p - t = length-take-le (length p - t) (drop t p) (omega (arith, length-drop t p)) in
    let c : length s ≡ length p - t = x.long ∙ m in
    record {
      long = same_len_mid t (length p - t) p s x.long;
      under = λ k b. first k b (dec_lt k t) m c;
      over = λ k b d.
          let f : k + 1 - t ≡ k - t + 1 = omega arith in
          mid_in p s t (length p - t) (omega arith) c (k + 1) (omega arith) (omega arith) ∙ ap (λ (i : ℕ). get_or s i 0) f ∙ x.over (k - t) (omega arith) (omega (arith, m)) ∙ lent_at p t (length p - t) (k - t) k (omega arith) (omega arith);
    }
  where
    first : (k : ℕ) → k ≤ t → Dec (k < t) → length (take (length p - t) (drop t p)) ≡ length p - t → length s ≡ length p - t → get_or (put_mid t (length p - t) p s) k 0 ≡ get_or p k 0
    first k b (yes d) m c = mid_before p s t (length p - t) (omega arith) c k d
    first k b (no d) m c = mid_in p s t (length p - t) (omega arith) c k (omega arith) (omega arith) ∙ x.under (k - t) (omega arith) ∙ lent_at p t (length p - t) (k - t) k (omega arith) (omega arith)

-- those from element t on have gone one further, and the new one is in its place
pub put_there : (p q : List ℕ) (n t r : ℕ) → length p ≡ n + 1 → t ≤ n → Parting p n t q → set q t r ≡ put_in t r (take n p)
put_there p q n t r l h s = ext_get_or 0 _ _ (length-set q t r ∙ s.long ∙ l ∙ sym more) (λ k x. at k (omega (arith, x, length-set q t r, s.long, l)) (dec_lt k t) (ℕ_discrete k t))
  where
    long : length (take n p) ≡ n
    long = length-take-le n p (omega (arith, l))

    more : length (put_in t r (take n p)) ≡ n + 1
    more = omega (arith, put_length t r (take n p), long)

    at : (k : ℕ) → k < n + 1 → Dec (k < t) → Dec (k ≡ t) → get_or (set q t r) k 0 ≡ get_or (put_in t r (take n p)) k 0
    at k x (yes y) z = get_or-set_other q t k r 0 (λ w. omega arith) ∙ s.under k (omega arith) ∙ sym (get_or-take n p k 0 (omega arith)) ∙ sym (put_under t r (take n p) k (omega (arith, long)) y)
    at k x (no y) (yes z) = rw z (get_or-set_same q t r 0 (omega (arith, s.long, l)) ∙ sym (put_here t r (take n p) (omega (arith, long))))
    at k x (no y) (no z) =
        let w : k - 1 + 1 ≡ k = omega arith in
        get_or-set_other q t k r 0 z ∙ ap (λ (u : ℕ). get_or q u 0) (sym w) ∙ s.over (k - 1) (omega arith) (omega arith)
        ∙ sym (get_or-take n p (k - 1) 0 (omega arith)) ∙ sym (put_over t r (take n p) (k - 1) (omega (arith, long)) (omega arith)) ∙ ap (λ (u : ℕ). get_or (put_in t r (take n p)) u 0) w

-- ---- a list turned

-- two parts turned round, and then the whole
pub turned_round : (q : ℕ) (l : List ℕ) → reverse (reverse (take q l) ++ reverse (drop q l)) ≡ turned_by q l
unfolding turned_by
turned_round q l = reverse-append (reverse (take q l)) (reverse (drop q l)) ∙ rw (reverse-reverse (drop q l), reverse-reverse (take q l))
