-- Rings: a run of the ring read from another place on is a run of the ring, and so is a run of a hall.
use Rattle.std.specs.Prelude.{◌≡◌, refl, [], ◌∷◌, List, map, ◌++◌, ℕ, zero, suc, ◌-◌, ◌<◌, ◌≤◌, ◌+◌, length, set}
use Rattle.std.proofs.Common.{◌∙◌, sym, ap, ap₂, inl, inr, arith, length-set, length-append}
use Rattle.std.proofs.lemmas.Simd.{map-map}
use Rattle.std.proofs.Math.Decide.{dec_lt}
use Rattle.std.proofs.Math.ListN.{get_or-append}
use lib.Seq.{get_or-append_seam, set-append_seam, set-append_left}
use lib.Dec.{ltb}
use Rattle.spec.specs.Arrangement.{Move, Arrangement, cell, mv}
use Rattle.spec.specs.Terms.{Runs, done, ◌then◌}
use Rattle.spec.specs.Ring.{wrap, in_ring}
use Rattle.theory.specs.Basics.Lists.{Each, none, ◌&◌, ◌&&&◌}
use Rattle.theory.specs.Basics.Tests.{if_true, if_false}
use Rattle.theory.specs.Zones.Arrangements.{cell_inside}
use Rattle.theory.specs.Zones.Moves.{length_apply, next, Next, in_line}
use Rattle.theory.specs.Zones.Hall.Order.{IsHall, out_line}
use Rattle.theory.specs.Zones.Ring.Turning.{turn1, length_turn1, turn, turn_add, turn_round}
use Rattle.theory.specs.Zones.Ring.Order.{Round, line, over, under, round_near, go_round}

-- ---- one place back: the ring read from the next place on

-- a place, counted from the next place on
back : ℕ → ℕ → ℕ
back m zero = m - 1
back m (suc i) = i

-- a move, so counted
backed : ℕ → Move → Move
backed m v = record { robot = v.robot; from = back m v.from; to = back m v.to }

-- what stands there
cell_back : (a : Arrangement) (i : ℕ) → i < length a → cell (turn1 a) (back (length a) i) ≡ cell a i
unfolding turn1 back
cell_back [] i h = absurd (omega arith)
cell_back (x ∷ a) zero h = let e : suc (length a) - 1 ≡ length a = omega arith in rw e (get_or-append_seam a x [] 0)
cell_back (x ∷ a) (suc i) h = get_or-append a (x ∷ []) 0 i (omega arith)

-- what is put there
set_back : (a : Arrangement) (i v : ℕ) → i < length a → set (turn1 a) (back (length a) i) v ≡ turn1 (set a i v)
unfolding turn1 back
set_back [] i v h = absurd (omega arith)
set_back (x ∷ a) zero v h = let e : suc (length a) - 1 ≡ length a = omega arith in rw e (set-append_seam a x [] v)
set_back (x ∷ a) (suc i) v h = set-append_left a (x ∷ []) i v (omega arith)

-- the constructors as functions, for a tactic as their argument
on : {m p q : ℕ} → q ≡ suc p → Round m p q
on j = line (inl j)

-- a step back
off : {m p q : ℕ} → p ≡ suc q → Round m p q
off j = line (inr j)

-- over the end of the list
over! : {m p q : ℕ} → suc p ≡ m → q ≡ 0 → Round m p q
over! i j = over i j

-- under the start of the list
under! : {m p q : ℕ} → p ≡ 0 → suc q ≡ m → Round m p q
under! i j = under i j

-- places side by side stay so
round_back : (m p q : ℕ) → p < m → Round m p q → Round m (back m p) (back m q)
unfolding back
round_back m zero zero h (line (inl j)) = absurd (omega arith)
round_back m zero zero h (line (inr j)) = absurd (omega arith)
round_back m zero zero h (over i j) = over! (omega arith) (omega arith)
round_back m zero zero h (under i j) = over! (omega arith) (omega arith)
round_back m zero (suc q) h (line (inl j)) = over! (omega arith) (omega arith)
round_back m zero (suc q) h (line (inr j)) = absurd (omega arith)
round_back m zero (suc q) h (over i j) = absurd (omega arith)
round_back m zero (suc q) h (under i j) = off (omega arith)
round_back m (suc p) zero h (line (inl j)) = absurd (omega arith)
round_back m (suc p) zero h (line (inr j)) = under! (omega arith) (omega arith)
round_back m (suc p) zero h (over i j) = on (omega arith)
round_back m (suc p) zero h (under i j) = absurd (omega arith)
round_back m (suc p) (suc q) h (line (inl j)) = on (omega arith)
round_back m (suc p) (suc q) h (line (inr j)) = off (omega arith)
round_back m (suc p) (suc q) h (over i j) = absurd (omega arith)
round_back m (suc p) (suc q) h (under i j) = absurd (omega arith)

-- a place so counted is a place
back_lt : (m i : ℕ) → i < m → back m i < m
unfolding back
back_lt m zero h = omega arith
back_lt m (suc i) h = omega arith

-- a run of the ring, read from the next place on
runs_turn1 : {m : ℕ} {ms : List Move} {a b : Arrangement} → length a ≡ m → Runs 4 ms a b → Runs 4 (map (backed m) ms) (turn1 a) (turn1 b)
unfolding backed
runs_turn1 h done = done
runs_turn1 {m} h (◌then◌ {x = v} {a = a} l r) =
    let i : v.from < length a = cell_inside a v.from v.robot l.there in
    let k : v.to < length (set a v.from 0) = rw (length-set a v.from 0) l.within in
    next (go_round (length_turn1 a ∙ h)
    (round_back m v.from v.to (rw h at i) (rw h at (round_near (length a) v.from v.to l.near)))
    (rw (← h) (cell_back a v.from i ∙ l.there))
    (rw (← h) (cell_back a v.to l.within ∙ l.free))
    (rw (length_turn1 a, h) (back_lt m v.to (rw h at l.within))))
    (rw (← h) (rw (set_back a v.from 0 i) (rw (length-set a v.from 0) at (set_back (set a v.from 0) v.to (suc v.robot) k))))
    (runs_turn1 (length_apply v a ∙ h) r)

-- ---- a run of a frame is a run of the ring

-- a place below m is itself
pub wrap_lt : {m i : ℕ} → i < m → wrap m i ≡ i
unfolding wrap
wrap_lt {m} {i} h = if_true (ltb i m) i (i - m) (lib.Dec.lt→ltb i m h)

-- one from m on is counted round
pub wrap_ge : {m i : ℕ} → m ≤ i → wrap m i ≡ i - m
unfolding wrap
wrap_ge {m} {i} h = if_false (ltb i m) i (i - m) (lib.Dec.not_T (ltb i m) (λ t. omega (arith, lib.Dec.ltb→lt i m t)))

-- a number below 2 * m is counted to a place
pub wrap_under : (m i : ℕ) → i < m + m → wrap m i < m
wrap_under m i h = go (dec_lt i m)
  where
    go : Dec (i < m) → wrap m i < m
    go (yes k) = rw (wrap_lt k) k
    go (no k) = let f : m ≤ i = omega arith in rw (wrap_ge f) (omega arith)

-- turning by a number that is counted round is turning by it
pub turn_wrap : (m k : ℕ) (a : Arrangement) → length a ≡ m → turn (wrap m k) a ≡ turn k a
turn_wrap m k a l = go (dec_lt k m)
  where
    go : Dec (k < m) → turn (wrap m k) a ≡ turn k a
    go (yes h) = rw (wrap_lt h)
    go (no h) =
        let f : m ≤ k = omega arith in
        let e : length a + (k - m) ≡ k = omega arith in
        ap (λ i. turn i a) (wrap_ge f) ∙ ap (turn (k - m)) (sym (turn_round a)) ∙ sym (turn_add (length a) (k - m) a) ∙ ap (λ i. turn i a) e

-- a place of the frame at the next place is a place of the frame at this one
wrap_back : (m p i : ℕ) → p < m → wrap m (suc p + back m i) ≡ wrap m (p + i)
unfolding back
wrap_back m p zero h =
    let e : m ≤ suc p + (m - 1) = omega arith in
    let f : p + 0 < m = omega arith in
    wrap_ge e ∙ omega arith ∙ sym (wrap_lt f)
wrap_back m p (suc i) h = ap (wrap m) (omega arith)

-- a move between places below m
abbrev pub Within : ℕ → Move → Type 0
Within m v = (v.from < m) × (v.to < m)

-- a run's moves are so
pub within : {m kind : ℕ} {ms : List Move} {a b : Arrangement} → length a ≡ m → Runs kind ms a b → Each (Within m) ms
within h done = none
within h (◌then◌ {x = v} {a = a} l r) =
    omega (arith, cell_inside a v.from v.robot l.there, l.within) & within (length_apply v a ∙ h) r

-- functions that agree on a list's elements map it alike
map_same : {A B : Type 0} {P : A → Type 0} {f g : A → B} {xs : List A} → ((x : A) → P x → f x ≡ g x) → Each P xs → map f xs ≡ map g xs
map_same e none = refl
map_same {B} {g} e (◌&&&◌ {x} {xs} h hs) = ap₂ {C = List B} (λ y ys. y ∷ ys) (e x h) (map_same e hs)

-- a move of the frame at the next place is one of the frame at this place
from_back : (m p : ℕ) → p < m → (v : Move) → in_ring m (suc p) (backed m v) ≡ in_ring m p v
unfolding in_ring backed
from_back m p h v = λ i. record { robot = v.robot; from = wrap_back m p v.from h i; to = wrap_back m p v.to h i }

-- a move of the frame at a whole turn is itself
from_all : (m : ℕ) (v : Move) → Within m v → in_ring m m v ≡ v
unfolding in_ring
from_all m v w = λ i. record { robot = v.robot; from = full v.from w.0 i; to = full v.to w.1 i }
  where
    full : (j : ℕ) → j < m → wrap m (m + j) ≡ j
    full j h = let e : m ≤ m + j = omega arith in wrap_ge e ∙ omega arith

-- a function that keeps a list's elements maps it to itself
map_is : {A : Type 0} {P : A → Type 0} {f : A → A} {xs : List A} → ((x : A) → P x → f x ≡ x) → Each P xs → map f xs ≡ xs
map_is e none = refl
map_is {A} e (◌&&&◌ {x} {xs} h hs) = ap₂ {C = List A} (λ y ys. y ∷ ys) (e x h) (map_is e hs)

-- a run of the ring read from place p on is a run of the ring
pub runs_from : (k p : ℕ) {m : ℕ} {ms : List Move} {a b : Arrangement} → p + k ≡ m → length a ≡ m → Runs 4 ms a b → Runs 4 (map (in_ring m p) ms) (turn k a) (turn k b)
unfolding turn
runs_from zero p {m} {ms} e h r =
    let q : p ≡ m = omega arith in
    rw (q, map_is (from_all m) (within h r)) r
runs_from (suc k) p {m} {ms} {a} e h r =
    let q : map (in_ring m (suc p)) (map (backed m) ms) ≡ map (in_ring m p) ms = map-map (in_ring m (suc p)) (backed m) ms ∙ map_same (λ v w. from_back m p (omega arith) v) (within h r) in
    rw q at (runs_from k (suc p) (omega arith) (length_turn1 a ∙ h) (runs_turn1 h r))

-- ---- a run of a hall, with something before it or behind it, is a run of a ring

-- halls are of kind 2
pub is_hall : IsHall 2
is_hall = record { three = λ e. omega arith; four = λ e. omega arith }

-- a move one place on
unfoldable pub along : Move → Move
along v = mv v.robot (suc v.from) (suc v.to)

-- places one on are side by side if these are
up : {p q : ℕ} → Next p q → Next (suc p) (suc q)
up (inl j) = inl (ap suc j)
up (inr j) = inr (ap suc j)

-- a run of a hall with one place put before it
pub runs_along : {ms : List Move} {a b : Arrangement} (x : ℕ) → Runs 2 ms a b → Runs 2 (map along ms) (x ∷ a) (x ∷ b)
unfolding along
runs_along x done = done
runs_along x (◌then◌ {x = v} {a = a} l r) =
    next record { near = in_line 2 (suc (length a)) (up (out_line is_hall (length a) v.from v.to l.near)); there = l.there; free = l.free; within = omega (arith, l.within) } refl (runs_along x r)

-- a run of a hall with places put behind it
pub runs_before : {ms : List Move} {a b : Arrangement} (z : Arrangement) → Runs 2 ms a b → Runs 2 ms (a ++ z) (b ++ z)
runs_before z done = done
runs_before z (◌then◌ {x = v} {a = a} l r) =
    let i = cell_inside a v.from v.robot l.there in
    next record {
      near = in_line 2 (length (a ++ z)) (out_line is_hall (length a) v.from v.to l.near);
      there = get_or-append a z 0 v.from i ∙ l.there;
      free = get_or-append a z 0 v.to l.within ∙ l.free;
      within = omega (arith, l.within, length-append a z);
    } (ap (λ b. set b v.to (suc v.robot)) (set-append_left a z v.from 0 i)
    ∙ set-append_left (set a v.from 0) z v.to (suc v.robot) (lib.Seq.lt-length-set a v.from 0 l.within)) (runs_before z r)

-- a run of a hall is a run of a ring
pub in_ring_lem : {ms : List Move} {a b : Arrangement} → Runs 2 ms a b → Runs 4 ms a b
in_ring_lem done = done
in_ring_lem (◌then◌ {x = v} {a = a} l r) =
    next record { near = in_line 4 (length a) (out_line is_hall (length a) v.from v.to l.near); there = l.there; free = l.free; within = l.within } refl (in_ring_lem r)
