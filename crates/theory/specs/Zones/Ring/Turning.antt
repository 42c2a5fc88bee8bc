-- Turning a list: reading it from another element on and round to it.
use Rattle.std.specs.Prelude.{◌≡◌, refl, ◌≢◌, List, [], ◌∷◌, ◌++◌, ℕ, zero, suc, ◌+◌, ◌-◌, ◌≤◌, ◌<◌, length, take, drop, T}
use Rattle.std.proofs.Common.{sym, ap, ◌∙◌, ap₂, append-nil, append_assoc, zero-add, suc-add, arith, length-append, take-append-drop, length-take-le}
use Rattle.std.proofs.Math.ListN.{get_or-append}
use Rattle.std.proofs.Math.Seq.{take-append_seam, drop-append_seam}
use Rattle.spec.specs.Outcome.{index_of, same_list}
use Rattle.spec.specs.Arrangement.{Arrangement, cell}
use Rattle.spec.specs.Ring.{turned}
use Rattle.theory.specs.Basics.Lists.{Each, none, ◌&&&◌, ◌&◌, each_append, Once, nil, cons, index_at}
use Rattle.theory.specs.Basics.Tests.{same→eq, eq→same}

-- a list read one element further round
unfoldable pub turn1 : List ℕ → List ℕ
turn1 [] = []
turn1 (x ∷ xs) = xs ++ x ∷ []

-- a list read k elements further round
unfoldable pub turn : ℕ → List ℕ → List ℕ
turn zero xs = xs
turn (suc k) xs = turn k (turn1 xs)

-- ys is xs, read from another element on and round to it
pub record Turned (xs ys : List ℕ) : Type 0 where
  pub by : ℕ
  pub is : ys ≡ turn by xs

-- turning twice is turning by the sum
pub turn_add : (j k : ℕ) (xs : List ℕ) → turn (j + k) xs ≡ turn k (turn j xs)
unfolding turn
turn_add zero k xs = rw zero-add
turn_add (suc j) k xs = rw suc-add (turn_add j k (turn1 xs))

-- turning by the length of the first part swaps the parts
pub turn_append : (xs ys : List ℕ) → turn (length xs) (xs ++ ys) ≡ ys ++ xs
unfolding turn turn1
turn_append [] ys = sym (append-nil ys)
turn_append (x ∷ xs) ys = ap (turn (length xs)) (append_assoc xs ys (x ∷ [])) ∙ turn_append xs (ys ++ x ∷ []) ∙ append_assoc ys (x ∷ []) xs

-- turned twice is turned
pub turned_trans : {xs ys zs : List ℕ} → Turned xs ys → Turned ys zs → Turned xs zs
turned_trans {xs} t u = record { by = t.by + u.by; is = u.is ∙ rw (t.is, turn_add t.by u.by xs) }

-- two parts swapped are turned
pub turned_swap : (xs ys : List ℕ) → Turned (xs ++ ys) (ys ++ xs)
turned_swap xs ys = record { by = length xs; is = sym (turn_append xs ys) }

-- the empty list turns to itself
pub turn_nil : (k : ℕ) → turn k [] ≡ []
unfolding turn turn1
turn_nil zero = refl
turn_nil (suc k) = turn_nil k

-- turning by one keeps the length
pub length_turn1 : (a : Arrangement) → length (turn1 a) ≡ length a
unfolding turn1
length_turn1 [] = refl
length_turn1 (x ∷ a) = length-append a (x ∷ []) ∙ omega arith

-- a whole turn changes nothing
pub turn_round : (a : Arrangement) → turn (length a) a ≡ a
turn_round a = ap (turn (length a)) (sym (append-nil a)) ∙ turn_append a []

-- so does any turn
pub length_turn : (k : ℕ) (a : Arrangement) → length (turn k a) ≡ length a
unfolding turn
length_turn zero a = refl
length_turn (suc k) a = length_turn k (turn1 a) ∙ length_turn1 a

-- turning on to the whole undoes a turn
pub turn_back : (m p : ℕ) (a : Arrangement) → p ≤ m → length a ≡ m → turn (m - p) (turn p a) ≡ a
turn_back m p a h l =
    let e : p + (m - p) ≡ length a = omega arith in
    sym (turn_add p (m - p) a) ∙ rw e (turn_round a)

-- the first place of the frame at p
pub turn_head : (p : ℕ) (a : Arrangement) → p < length a → cell (turn p a) 0 ≡ cell a p
unfolding turn turn1
turn_head zero a h = refl
turn_head (suc p) [] h = absurd (omega arith)
turn_head (suc p) (x ∷ a) h = turn_head p (a ++ x ∷ []) (omega (arith, length-append a (x ∷ []))) ∙ get_or-append a (x ∷ []) 0 p (omega arith)

-- a turn cuts the list and swaps the parts
pub turn_split : (p : ℕ) (a : Arrangement) → p ≤ length a → turn p a ≡ drop p a ++ take p a
turn_split p a h =
    let e : turn (length (take p a)) (take p a ++ drop p a) ≡ drop p a ++ take p a = turn_append (take p a) (drop p a) in
    rw (length-take-le p a h, take-append-drop p a) at e

-- ---- none stands twice

-- a number put behind others that differ from it
once_snoc : {x : ℕ} {xs : List ℕ} → Once xs → Each (λ y. x ≢ y) xs → Once (xs ++ x ∷ [])
once_snoc nil h = cons none nil
once_snoc (cons h o) (◌&&&◌ k ks) = cons (each_append h ((λ e. k (sym e)) & none)) (once_snoc o ks)

-- a turn by k keeps that none stands twice
once_turn : (k : ℕ) {xs : List ℕ} → Once xs → Once (turn k xs)
unfolding turn turn1
once_turn zero o = o
once_turn (suc k) nil = once_turn k nil
once_turn (suc k) (cons h o) = once_turn k (once_snoc o h)

-- a turn keeps that none stands twice
pub once_turned : {xs ys : List ℕ} → Turned xs ys → Once xs → Once ys
once_turned t o = rw t.is (once_turn t.by o)

-- ---- a turned list, read from one that stands once in it

-- l holds c once, and goes on round from it with r
pub record Anchor (c : ℕ) (r l : List ℕ) : Type 0 where
  pub before : List ℕ
  pub after : List ℕ
  pub cut : l ≡ before ++ c ∷ after
  pub round : r ≡ after ++ before
  pub not_before : Each (λ x. c ≢ x) before
  pub not_after : Each (λ x. c ≢ x) after

-- turning by one keeps how a list goes on round from a number
anchor_turn1 : {c : ℕ} {r l : List ℕ} → Anchor c r l → Anchor c r (turn1 l)
unfolding turn1
anchor_turn1 {c} {r} {l} s = go s.before s.after s.cut s.round s.not_before s.not_after
  where
    go : (us vs : List ℕ) → l ≡ us ++ c ∷ vs → r ≡ vs ++ us → Each (λ x. c ≢ x) us → Each (λ x. c ≢ x) vs → Anchor c r (turn1 l)
    go [] vs e f h k = record { before = vs; after = []; cut = rw e; round = f ∙ append-nil vs; not_before = k; not_after = none }
    go (u ∷ us) vs e f (◌&&&◌ h hs) k =
        record {
          before = us;
          after = vs ++ u ∷ [];
          cut = rw e (append_assoc us (c ∷ vs) (u ∷ []));
          round = f ∙ sym (append_assoc vs (u ∷ []) us);
          not_before = hs;
          not_after = each_append k (h & none);
        }

-- so does any turn
pub anchor_turn : (k : ℕ) {c : ℕ} {r l : List ℕ} → Anchor c r l → Anchor c r (turn k l)
unfolding turn
anchor_turn zero s = s
anchor_turn (suc k) s = anchor_turn k (anchor_turn1 s)

-- a robot that stands once has the same order round before and after a turn
pub anchor_turned : {c : ℕ} {r xs ys : List ℕ} → Turned xs ys → Anchor c r xs → Anchor c r ys
anchor_turned t s = rw t.is (anchor_turn t.by s)

-- ---- the test

-- the test says that one is the other, turned
pub turned→ : (xs ys : List ℕ) → T (turned xs ys) → Turned xs ys
unfolding turned turn
turned→ [] ys h = record { by = 0; is = sym (same→eq [] ys h) }
turned→ (r ∷ rs) ys h =
    let i = index_of r ys in
    let e = same→eq (r ∷ rs) (drop i ys ++ take i ys) h in
    record { by = length (drop i ys); is = sym (ap (turn (length (drop i ys))) e ∙ turn_append (drop i ys) (take i ys) ∙ take-append-drop i ys) }

-- and where it is, and none stands twice, it holds
pub →turned : (xs ys : List ℕ) → Once xs → Turned xs ys → T (turned xs ys)
unfolding turned
→turned [] ys o t = eq→same [] ys (sym (t.is ∙ turn_nil t.by))
→turned (r ∷ rs) ys (cons h o) t = go (anchor_turned t record { before = []; after = rs; cut = refl; round = sym (append-nil rs); not_before = none; not_after = h })
  where
    go : Anchor r rs ys → T (same_list (r ∷ rs) (drop (index_of r ys) ys ++ take (index_of r ys) ys))
    go s =
        let i : index_of r ys ≡ length s.before = ap (index_of r) s.cut ∙ index_at s.before s.after s.not_before in
        let e : drop (index_of r ys) ys ≡ r ∷ s.after = ap₂ {C = List ℕ} drop i s.cut ∙ drop-append_seam s.before (r ∷ s.after) in
        let f : take (index_of r ys) ys ≡ s.before = ap₂ {C = List ℕ} take i s.cut ∙ take-append_seam s.before (r ∷ s.after) in
        eq→same (r ∷ rs) (drop (index_of r ys) ys ++ take (index_of r ys) ys) (rw (e, f) (ap (λ l. r ∷ l) s.round))
