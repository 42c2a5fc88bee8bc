-- Halls: the written moves lead from any places to any others in the same order.
use Rattle.std.specs.Prelude.{◌≡◌, refl, ℕ, ◌≤◌, zero, suc, ◌+◌, ◌<◌, ◌-◌, min, length, set}
use Rattle.std.proofs.Common.{ap, inr, inl, zero-add, suc-add, arith}
use mathlib.Core.List.{List, [], ◌∷◌, map}
use Rattle.std.proofs.Math.Decide.{dec_le}
use Rattle.spec.specs.Arrangement.{Arrangement, cell, Move, order, places}
use Rattle.spec.specs.Hall.{down, up, Trip, lowering, raising, hall_moves, trips, to_places, hall_end}
use Rattle.spec.specs.Terms.{Runs, done}
use Rattle.theory.specs.Basics.Lists.{Each, none, ◌&◌, each_map, each_append}
use Rattle.theory.specs.Zones.Moves.{step, Apart, runs_append, frame}
use Rattle.theory.specs.Zones.Hall.Places.{Rising, rest, rise, end, ◌◃◌, cells, length_cells, rising_from, rising_top, rising_empty, length_places, cells_order, rising_places}

-- ---- one robot

-- an arrangement that is empty from lo to hi
Empty : ℕ → ℕ → Arrangement → Type 0
Empty lo hi a = (i : ℕ) → lo ≤ i → i ≤ hi → cell a i ≡ 0

-- a robot goes down over empty places, n of them
run_down : {kind : ℕ} (c n q : ℕ) (a : Arrangement) → Empty q (n + q) a → n + q < length a → Runs kind (down c n q) (set a (n + q) (suc c)) (set a q (suc c))
unfolding down Empty
run_down c zero q a e h = rw zero-add done
run_down c (suc n) q a e h = rw suc-add (step c (suc (n + q)) (n + q) a (down c n q) (set a q (suc c)) (inr refl) (omega arith)
    (e (suc (n + q)) (omega arith) (omega arith)) (e (n + q) (omega arith) (omega arith)) (omega arith) (omega arith)
    (run_down c n q a (λ i h k. e i h (omega arith)) (omega arith)))

-- a robot goes up over empty places, n of them
run_up : {kind : ℕ} (c n p : ℕ) (a : Arrangement) → Empty p (n + p) a → n + p < length a → Runs kind (up c n p) (set a p (suc c)) (set a (n + p) (suc c))
unfolding up Empty
run_up c zero p a e h = rw zero-add done
run_up c (suc n) p a e h = step c p (suc p) a (up c n (suc p)) (set a (suc n + p) (suc c)) (inl refl) (omega arith)
    (e p (omega arith) (omega arith)) (e (suc p) (omega arith) (omega arith)) (omega arith) (omega arith)
    (rw move (run_up c n (suc p) a (λ i h k. e i (omega arith) (omega arith)) (omega arith)))
  where
    move : suc n + p ≡ n + suc p
    move = omega arith

-- from one place to another, all the way
walk_down : {kind : ℕ} (c p q : ℕ) (a : Arrangement) → Empty (min p q) p a → p < length a → Runs kind (down c (p - q) q) (set a p (suc c)) (set a (min p q) (suc c))
unfolding Empty down
walk_down {kind} c p q a e k = go (dec_le q p)
  where
    go : Dec (q ≤ p) → Runs kind (down c (p - q) q) (set a p (suc c)) (set a (min p q) (suc c))
    go (yes h) =
        let s : p - q + q ≡ p = omega arith in
        let m : min p q ≡ q = omega arith in
        rw m (rw s at (run_down {kind = kind} c (p - q) q a (λ i l u. e i (omega arith) (omega arith)) (omega arith)))
    go (no h) =
        let s : p - q ≡ 0 = omega arith in
        let m : min p q ≡ p = omega arith in
        rw (s, m) done

-- the same upward
walk_up : {kind : ℕ} (c p q : ℕ) (a : Arrangement) → Empty (min p q) q a → q < length a → Runs kind (up c (q - p) p) (set a (min p q) (suc c)) (set a q (suc c))
unfolding Empty up
walk_up {kind} c p q a e k = go (dec_le p q)
  where
    go : Dec (p ≤ q) → Runs kind (up c (q - p) p) (set a (min p q) (suc c)) (set a q (suc c))
    go (yes h) =
        let s : q - p + p ≡ q = omega arith in
        let m : min p q ≡ p = omega arith in
        rw m (rw s at (run_up {kind = kind} c (q - p) p a (λ i l u. e i (omega arith) (omega arith)) (omega arith)))
    go (no h) =
        let s : q - p ≡ 0 = omega arith in
        let m : min p q ≡ q = omega arith in
        rw (s, m) done

-- ---- every robot, in two passes

-- every place that a move names is at least lo
abbrev AtLeast : ℕ → Move → Type 0
AtLeast lo m = (lo ≤ m.from) × (lo ≤ m.to)

-- the moves down to q name no place below q
down_least : (c n q : ℕ) → Each (AtLeast q) (down c n q)
unfolding down
down_least c zero q = none
down_least c (suc n) q = omega arith & down_least c n q

-- the moves up from p name no place below p
up_least : (c n p lo : ℕ) → lo ≤ p → Each (AtLeast lo) (up c n p)
unfolding up
up_least c zero p lo h = none
up_least c (suc n) p lo h = omega arith & up_least c n (suc p) lo (omega arith)

-- the lower place of a trip: where the robot is once all have gone lower
abbrev low : Trip → ℕ
low t = min t.from t.to

-- the lower places of the trips rise
rising_low : {lo u v hi : ℕ} (ts : List Trip) → lo ≤ u → lo ≤ v → Rising u hi (map (λ t. t.from) ts) → Rising v hi (map (λ t. t.to) ts) → Rising lo hi (map low ts)
rising_low [] h k (rest r) (rest s) = end (omega arith)
rising_low {lo} {u} {v} {hi} (t ∷ ts) h k (rise r rs) (rise s ss) = omega arith ◃ rising_low {lo = suc (low t)} {u = suc t.from} {v = suc t.to} {hi = hi} ts (omega arith) (omega arith) rs ss

-- moves above a place do not touch it
apart : {p : ℕ} {ms : List Move} → Each (AtLeast (suc p)) ms → Each (Apart p) ms
apart h = each_map (λ m k. omega arith) h

-- the arrangement of m places in which the robot of each trip stands where f says: λ t. t.from before it, λ t. t.to after it
abbrev pub standing : ℕ → (Trip → ℕ) → List Trip → Arrangement
standing m f ts = cells m (map (λ t. t.robot) ts) (map f ts)

module _ {m : ℕ} where
  -- the moves of the lowering pass name no place below the lowest
  lowering_least : {lo : ℕ} (ts : List Trip) → Rising lo m (map low ts) → Each (AtLeast lo) (lowering ts)
  unfolding lowering
  lowering_least [] r = none
  lowering_least (t ∷ ts) (rise r rs) = each_append (each_map (λ m h. omega arith) (down_least t.robot (t.from - t.to) t.to)) (lowering_least ts (rising_from (omega arith) rs))

  -- nor do those of the raising pass
  raising_least : {lo : ℕ} (ts : List Trip) → Rising lo m (map low ts) → Each (AtLeast lo) (raising ts)
  unfolding raising
  raising_least [] r = none
  raising_least (t ∷ ts) (rise r rs) = each_append (raising_least ts (rising_from (omega arith) rs)) (up_least t.robot (t.to - t.from) t.from _ (omega arith))

  -- the lowering pass takes every robot to the lower of its place and its target
  run_lowering : {kind : ℕ} {u v : ℕ} (ts : List Trip) → Rising u m (map (λ t. t.from) ts) → Rising v m (map (λ t. t.to) ts) → Runs kind (lowering ts) (standing m (λ t. t.from) ts) (standing m low ts)
  unfolding lowering cells Empty
  run_lowering [] r s = done
  run_lowering {kind} {u} {v} (t ∷ ts) (rise r rs) (rise s ss) =
      let cs = map (λ t. t.robot) ts in
      runs_append
      (walk_down t.robot t.from t.to (standing m (λ t. t.from) ts) (λ i l u. rising_empty m cs rs i (omega arith)) (omega (arith, length_cells m cs (map (λ t. t.from) ts), rising_top rs)))
      (frame (suc t.robot) (apart (lowering_least ts (rising_low ts (omega arith) (omega arith) rs ss))) (run_lowering {kind = kind} {u = suc t.from} {v = suc t.to} ts rs ss))

  -- the raising pass takes every robot from there to its target
  run_raising : {kind : ℕ} {u v : ℕ} (ts : List Trip) → Rising u m (map low ts) → Rising v m (map (λ t. t.to) ts) → Runs kind (raising ts) (standing m low ts) (standing m (λ t. t.to) ts)
  unfolding raising cells Empty
  run_raising [] r s = done
  run_raising {kind} {u} {v} (t ∷ ts) (rise r rs) (rise s ss) =
      let cs = map (λ t. t.robot) ts in
      runs_append
      (frame (suc t.robot) (apart (raising_least ts rs)) (run_raising {kind = kind} {u = suc (low t)} {v = suc t.to} ts rs ss))
      (walk_up t.robot t.from t.to (standing m (λ t. t.to) ts) (λ i l u. rising_empty m cs ss i (omega arith)) (omega (arith, length_cells m cs (map (λ t. t.to) ts), rising_top ss)))

  -- the written moves take every robot from its place to its goal
  pub run_hall_moves : {kind u v : ℕ} (ts : List Trip) → Rising u m (map (λ t. t.from) ts) → Rising v m (map (λ t. t.to) ts)
      → Runs kind (hall_moves ts) (standing m (λ t. t.from) ts) (standing m (λ t. t.to) ts)
  unfolding hall_moves
  run_hall_moves {u} {v} ts r s = runs_append (run_lowering ts r s) (run_raising ts (rising_low {lo = 0} ts (omega arith) (omega arith) r s) s)

-- ---- trips made of lists

-- the robots, the places and the targets of the trips are the lists that they were made of
trips_lists : (cs ps qs : List ℕ) → length ps ≡ length cs → length qs ≡ length cs
    → (map (λ t. t.robot) (trips cs ps qs) ≡ cs) × (map (λ t. t.from) (trips cs ps qs) ≡ ps) × (map (λ t. t.to) (trips cs ps qs) ≡ qs)
unfolding trips
trips_lists [] [] [] h k = (refl, refl, refl)
trips_lists [] [] (q ∷ qs) h k = absurd (omega arith)
trips_lists [] (p ∷ ps) qs h k = absurd (omega arith)
trips_lists (c ∷ cs) [] qs h k = absurd (omega arith)
trips_lists (c ∷ cs) (p ∷ ps) [] h k = absurd (omega arith)
trips_lists (c ∷ cs) (p ∷ ps) (q ∷ qs) h k = let s = trips_lists cs ps qs (omega arith) (omega arith) in (ap (λ r. c ∷ r) s.0, ap (λ r. p ∷ r) s.1, ap (λ r. q ∷ r) s.2)

-- on lists: robots at rising places go to other rising places
pub run_trips : {kind m u v : ℕ} (cs ps qs : List ℕ) → length ps ≡ length cs → length qs ≡ length cs → Rising u m ps → Rising v m qs
    → Runs kind (hall_moves (trips cs ps qs)) (cells m cs ps) (cells m cs qs)
run_trips {kind} {m} cs ps qs h k r s =
    let e = trips_lists cs ps qs h k in
    simp (e.0, e.1, e.2) at (run_hall_moves {kind = kind} (trips cs ps qs) (rw (← e.1) at r) (rw (← e.2) at s))

-- the written moves lead to any arrangement with the same order
pub run_hall_end : {kind : ℕ} (a b : Arrangement) → length a ≡ length b → order a ≡ order b → Runs kind (hall_end a b) a b
unfolding hall_end to_places
run_hall_end {kind} a b h e =
    let to : cells (length a) (order a) (places 0 b) ≡ b = rw (h, e) (cells_order b) in
    rw (cells_order a, to) at (run_trips {kind = kind} (order a) (places 0 a) (places 0 b) (length_places 0 a) (cc (length_places 0 b)) (rising_places a) (rw (← h) at (rising_places b)))
