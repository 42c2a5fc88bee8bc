-- How many moves are written: bounds by the number of places, for the moves of every kind.
use Rattle.std.specs.Prelude.{◌≡◌, refl, Bool, true, false, List, [], ◌∷◌, ◌++◌, map, ℕ, zero, suc, ◌+◌, ◌-◌, ◌*◌, ◌≤◌, ◌<◌, set, take, drop, eqb, ltb}
use Rattle.std.proofs.Common.{ap, ◌∙◌, suc-mul, mul-le-mul_right, mul-le-mul, length-append, length-take, length-drop, length-set, take-append-drop}
use Rattle.std.proofs.Math.Nat.{mul-add}
use Rattle.std.proofs.Math.Decide.{dec_lt}
use native.Mathlib.Omega.{arith}
use Rattle.std.proofs.Math.ListN.{length}
use Rattle.std.proofs.lemmas.List.{length-map}
use Rattle.spec.specs.Arrangement.{Arrangement, Move, mv, cell, apply, apply_all, order, places, seek, last_free}
use Rattle.spec.specs.Hall.{Trip, down, up, lowering, raising, hall_moves, trips, to_places, below, above, lower_than, hall_leave, hall_enter, hall_end}
use Rattle.spec.specs.Clique.{open_target, lowest_off, to_place, clique_to, make_room, named, clique_leave, clique_enter, clique_end}
use Rattle.spec.specs.Ring.{wrap, frame, in_ring, run, shove, push, pushes, ahead, push_to, opened, entry_open, turn_place, turn_for, lowest, ring_leave, ring_enter, ring_end_at, ring_end}
use Rattle.spec.specs.ZoneKind.{leave, enter, end}
use Rattle.spec.specs.Outcome.{index_of}
use Rattle.theory.specs.Basics.Lists.{Each, none, ◌&&&◌, ◌&◌, each_append, each_map, each_split}
use Rattle.theory.specs.Basics.Searches.{seek_le}
use Rattle.theory.specs.Zones.Arrangements.{order_short}
use Rattle.theory.specs.Zones.Hall.Places.{length_places, rising_places, rising_under}
use Rattle.theory.specs.Zones.Ring.Frames.{wrap_lt, wrap_ge}
use Rattle.theory.specs.Zones.Kinds.{KindOf, clique, ring, hall, kind?, as_hall}

-- moves keep the number of places
pub applied_length : (a : Arrangement) (ms : List Move) → length (apply_all a ms) ≡ length a
unfolding apply_all
applied_length a [] = refl
applied_length a (m ∷ ms) = applied_length (apply a m) ms ∙ length-set (set a m.from 0) m.to (suc m.robot) ∙ length-set a m.from 0

-- ---- halls

-- as many moves as places, downward
down_length : (r n j : ℕ) → length (down r n j) ≡ n
unfolding down
down_length r zero j = refl
down_length r (suc n) j = ap suc (down_length r n j)

-- the same upward
up_length : (r n i : ℕ) → length (up r n i) ≡ n
unfolding up
up_length r zero i = refl
up_length r (suc n) i = ap suc (up_length r n (suc i))

-- a trip between places up to k
abbrev Short : ℕ → Trip → Type 0
Short k t = (t.from ≤ k) × (t.to ≤ k)

-- each of them takes at most k moves
moves_length : (k : ℕ) {ts : List Trip} → Each (Short k) ts → length (lowering ts) + length (raising ts) ≤ length ts * k
unfolding lowering raising
moves_length k none = omega arith
moves_length k (◌&&&◌ {x = t} {xs = ts} h hs) =
    let p = length-append (down t.robot (t.from - t.to) t.to) (lowering ts) in
    let q = length-append (raising ts) (up t.robot (t.to - t.from) t.from) in
    omega (arith, moves_length k hs, down_length t.robot (t.from - t.to) t.to, up_length t.robot (t.to - t.from) t.from, suc-mul (length ts) k)

-- there are no more trips than robots
trips_length : (rs ps qs : List ℕ) → length (trips rs ps qs) ≤ length rs
unfolding trips
trips_length [] ps qs = omega arith
trips_length (r ∷ rs) [] qs = omega arith
trips_length (r ∷ rs) (p ∷ ps) [] = omega arith
trips_length (r ∷ rs) (p ∷ ps) (q ∷ qs) = omega (arith, trips_length rs ps qs)

-- trips between such places are so
trips_short : {k : ℕ} (rs : List ℕ) {ps qs : List ℕ} → Each (λ p. p ≤ k) ps → Each (λ q. q ≤ k) qs → Each (Short k) (trips rs ps qs)
unfolding trips
trips_short [] h g = none
trips_short (r ∷ rs) none g = none
trips_short (r ∷ rs) (◌&&&◌ h hs) none = none
trips_short (r ∷ rs) (◌&&&◌ h hs) (◌&&&◌ g gs) = (h, g) & trips_short rs hs gs

-- the places of the robots, up to any k that the places are
places_up : (a : Arrangement) (k : ℕ) → length a ≤ k → Each (λ p. p ≤ k) (places 0 a)
places_up a k h = each_map (λ p l. omega arith) (rising_under (rising_places a))

-- robots of a hall go to places up to k
pub places_length : (a : Arrangement) (qs : List ℕ) (k : ℕ) → length a ≤ k → Each (λ q. q ≤ k) qs → length (to_places a qs) ≤ length a * k
unfolding to_places hall_moves
places_length a qs k h g =
    let ts = trips (order a) (places 0 a) qs in
    let l = mul-le-mul_right {m = length ts} {n = length a} k (omega (arith, trips_length (order a) (places 0 a) qs, order_short a)) in
    omega (arith, length-append (lowering ts) (raising ts), moves_length k (trips_short (order a) (places_up a k h) g))

-- the targets below j are up to any k that the places are
below_up : {k : ℕ} (j : ℕ) {ps : List ℕ} → Each (λ p. p ≤ k) ps → Each (λ p. p ≤ k) (below j ps)
unfolding below
below_up j none = none
below_up j (◌&&&◌ h hs) = omega arith & below_up j hs

-- and so are those above j, if there is room up to k
above_up : {k : ℕ} (j : ℕ) {ps : List ℕ} → j + length ps ≤ k → Each (λ p. p ≤ k) ps → Each (λ p. p ≤ k) (above j ps)
unfolding above
above_up j l none = none
above_up j l (◌&&&◌ h hs) = omega arith & above_up (suc j) (omega arith) hs

module _ (a : Arrangement) (j : ℕ) (h : j ≤ length a) where
  -- where the robots below go
  under : (t : ℕ) → Each (λ p. p ≤ length a + length a) (below j (take t (places 0 a)))
  under t = below_up j (each_split (take t (places 0 a)) {ys = drop t (places 0 a)} (rw take-append-drop (places_up a (length a + length a) (omega arith)))).0

  -- where the robots above go
  over : (t : ℕ) → Each (λ p. p ≤ length a + length a) (above j (drop t (places 0 a)))
  over t = above_up j (omega (arith, length-drop t (places 0 a), length_places 0 a, order_short a))
      (each_split (take t (places 0 a)) {ys = drop t (places 0 a)} (rw take-append-drop (places_up a (length a + length a) (omega arith)))).1

  -- leaving a hall
  pub hall_leave_length : (r : ℕ) → length (hall_leave a r j) ≤ length a * length a + length a * length a
  unfolding hall_leave
  hall_leave_length r =
      let t = index_of r (order a) in
      rw mul-add at (places_length a (below j (take t (places 0 a)) ++ j ∷ above j (drop (suc t) (places 0 a))) (length a + length a) (omega arith) (each_append (under t) (omega arith & over (suc t))))

  -- entering a hall
  pub hall_enter_length : (behind : ℕ) → length (hall_enter a j behind) ≤ length a * length a + length a * length a
  unfolding hall_enter
  hall_enter_length behind =
      let t = lower_than behind a in
      rw mul-add at (places_length a (below j (take t (places 0 a)) ++ above j (drop t (places 0 a))) (length a + length a) (omega arith) (each_append (under t) (over t)))

-- ending between arrangements of at most k places
pub hall_end_length : (a g : Arrangement) (k : ℕ) → length a ≤ k → length g ≤ k → length (hall_end a g) ≤ k * k
unfolding hall_end
hall_end_length a g k h l =
    omega (arith, places_length a (places 0 g) k h (places_up g k l), mul-le-mul_right {m = length a} {n = k} k h)

-- ---- cliques

-- no more moves than allowed
pub clique_to_length : (n : ℕ) (a g : Arrangement) → length (clique_to n a g) ≤ n
unfolding clique_to
clique_to_length zero a g = omega arith
clique_to_length (suc n) a g = go (ltb (open_target a g) (length a)) (eqb (lowest_off a g) 0) (λ b. clique_to_length n b g)
  where
    go : (t u : Bool) → ((b : Arrangement) → length (clique_to n b g) ≤ n)
        → length {A = Move} (elim t [
          | true ↦ to_place a (cell g (open_target a g)) (open_target a g) ∷ clique_to n (apply a (to_place a (cell g (open_target a g)) (open_target a g))) g
          | false ↦ elim u [ true ↦ [] | false ↦ to_place a (lowest_off a g) (seek 0 a) ∷ clique_to n (apply a (to_place a (lowest_off a g) (seek 0 a))) g ]
        ]) ≤ suc n
    go true u ih = omega (arith, ih (apply a (to_place a (cell g (open_target a g)) (open_target a g))))
    go false true ih = omega arith
    go false false ih = omega (arith, ih (apply a (to_place a (lowest_off a g) (seek 0 a))))

-- one move makes room
room_length : (a : Arrangement) (j : ℕ) → length (make_room a j) ≤ 1
unfolding make_room
room_length a j = go (eqb (cell a j) 0)
  where
    go : (b : Bool) → length {A = Move} (elim b [ true ↦ [] | false ↦ mv (cell a j - 1) j (seek 0 a) ∷ [] ]) ≤ 1
    go true = omega arith
    go false = omega arith

-- leaving a clique
pub clique_leave_length : (a : Arrangement) (r j : ℕ) → length (clique_leave a r j) ≤ 2
unfolding clique_leave
clique_leave_length a r j = go (eqb (cell a j) (suc r))
  where
    go : (b : Bool) → length {A = Move} (elim b [ true ↦ [] | false ↦ make_room a j ++ (mv r (seek (suc r) a) j ∷ []) ]) ≤ 2
    go true = omega arith
    go false = omega (arith, length-append (make_room a j) (mv r (seek (suc r) a) j ∷ []), room_length a j)

-- entering a clique
pub clique_enter_length : (a : Arrangement) (j : ℕ) (list : List ℕ) → length (clique_enter a j list) ≤ length a * 2 + 1
unfolding clique_enter
clique_enter_length a j list = go (last_free a)
  where
    go : (b : Bool) → length {A = Move} (elim b [ true ↦ clique_to (length a * 2) a (set (named list) j 0) | false ↦ make_room a j ]) ≤ length a * 2 + 1
    go true = omega (arith, clique_to_length (length a * 2) a (set (named list) j 0))
    go false = omega (arith, room_length a j)

-- ending in a clique
pub clique_end_length : (a g : Arrangement) → length (clique_end a g) ≤ length a * 2
unfolding clique_end
clique_end_length a g = clique_to_length (length a * 2) a g

-- ---- rings

-- each of the robots side by side moves once
shove_length : (k : ℕ) (rs : List ℕ) → length (shove k rs) ≡ length rs
unfolding shove
shove_length k [] = refl
shove_length k (r ∷ rs) = length-append (shove (suc k) rs) (mv r k (suc k) ∷ []) ∙ omega (arith, shove_length (suc k) rs)

-- the robots side by side are no more than the places
run_length : (a : Arrangement) → length (run a) ≤ length a
unfolding run
run_length [] = omega arith
run_length (zero ∷ a) = omega arith
run_length (suc r ∷ a) = omega (arith, run_length a)

-- a push takes at most as many moves as there are places
pub push_length : (a : Arrangement) (p : ℕ) → length (push a p) ≤ length a
unfolding push frame
push_length a p =
    omega (
      arith,
      length-map (shove 0 (run (drop p a ++ take p a))) (λ v. in_ring (length a) p v),
      shove_length 0 (run (drop p a ++ take p a)),
      run_length (drop p a ++ take p a),
      length-append (drop p a) (take p a),
      length-drop p a,
      length-take p a,
    )

-- and n pushes n times as many
pub pushes_length : (n : ℕ) (a : Arrangement) (p : ℕ) → length (pushes n a p) ≤ n * length a
unfolding pushes
pushes_length zero a p = omega arith
pushes_length (suc n) a p =
    let b = apply_all a (push a p) in
    let q = wrap (length a) (suc p) in
    omega (arith, length-append (push a p) (pushes n b q), push_length a p, rw (applied_length a (push a p)) at (pushes_length n b q), suc-mul n (length a))

-- n turns for an entry take at most n pushes
pub turn_length : (n : ℕ) (a : Arrangement) (j behind : ℕ) → length (turn_for n a j behind) ≤ n * length a
unfolding turn_for
turn_length zero a j behind = omega arith
turn_length (suc n) a j behind = go (entry_open a j behind) (turn_length n (apply_all a ms) j behind)
  where
    ms : List Move
    ms = push a (turn_place a j)

    go : (b : Bool) → length (turn_for n (apply_all a ms) j behind) ≤ n * length (apply_all a ms)
        → length {A = Move} (elim b [ true ↦ [] | false ↦ ms ++ turn_for n (apply_all a ms) j behind ]) ≤ suc n * length a
    go true h = omega arith
    go false h = omega (arith, length-append ms (turn_for n (apply_all a ms) j behind), push_length a (turn_place a j), rw (applied_length a ms) at h, suc-mul n (length a))

-- no place is further on than a whole turn
ahead_le : (m p j : ℕ) → j ≤ m → ahead m p j ≤ m
unfolding ahead
ahead_le m p j k = go (dec_lt (m + j - p) m)
  where
    go : Dec (m + j - p < m) → wrap m (m + j - p) ≤ m
    go (yes l) = rw (wrap_lt l) (omega arith)
    go (no l) = let f : m ≤ m + j - p = omega arith in rw (wrap_ge f) (omega arith)

-- pushing a robot to a place takes at most a whole turn
pub push_to_length : (a : Arrangement) (r j : ℕ) → j ≤ length a → length (push_to a r j) ≤ length a * length a
unfolding push_to
push_to_length a r j h =
    let n = ahead (length a) (seek (suc r) a) j in
    omega (arith, pushes_length n a (seek (suc r) a), mul-le-mul_right {m = n} {n = length a} (length a) (ahead_le (length a) (seek (suc r) a) j h))

-- the places but one are no more than all
opened_le : (j : ℕ) (a : Arrangement) → length (opened j a) ≤ length a
unfolding opened
opened_le j a = omega (arith, length-append (drop (suc j) a) (take j a), length-drop (suc j) a, length-take j a)

-- the way of one robot to its goal, and the way of the others in a hall
end_at_length : (a g : Arrangement) (r : ℕ) → length g ≤ length a → length (ring_end_at a g r) ≤ length a * length a + length a * length a
unfolding ring_end_at
end_at_length a g r h =
    let j = seek (suc r) g in
    let ms = push_to a r j in
    let hs = hall_end (opened j (apply_all a ms)) (opened j g) in
    omega (
      arith,
      length-append ms (map (λ v. in_ring (length a) (suc j) v) hs),
      length-map hs (λ v. in_ring (length a) (suc j) v),
      push_to_length a r j (omega (arith, seek_le (suc r) g)),
      hall_end_length (opened j (apply_all a ms)) (opened j g) (length a) (omega (arith, opened_le j (apply_all a ms), applied_length a ms)) (omega (arith, opened_le j g)),
    )

-- ending in a ring
pub ring_end_length : (a g : Arrangement) → length g ≤ length a → length (ring_end a g) ≤ length a * length a + length a * length a
unfolding ring_end
ring_end_length a g h = go (eqb (lowest (order a)) 0)
  where
    go : (b : Bool) → length {A = Move} (elim b [ true ↦ [] | false ↦ ring_end_at a g (lowest (order a) - 1) ]) ≤ length a * length a + length a * length a
    go true = omega arith
    go false = end_at_length a g (lowest (order a) - 1) h

-- ---- any kind

-- the most moves that leaving, entering or ending writes in a zone of m places
unfoldable pub most_moves : ℕ → ℕ
most_moves m = m * m * m + 2 * (m * m) + 2 * m + 2

-- larger zones have more
pub most_mono : (m n : ℕ) → m ≤ n → most_moves m ≤ most_moves n
unfolding most_moves
most_mono m n h = let s = mul-le-mul h h in omega (arith, s, mul-le-mul s h)

-- leaving, by kind
leave_most : {kind : ℕ} → KindOf kind → (a : Arrangement) (r j : ℕ) → j ≤ length a → length (leave kind a r j) ≤ most_moves (length a)
unfolding leave most_moves ring_leave
leave_most clique a r j h = omega (arith, clique_leave_length a r j)
leave_most ring a r j h = omega (arith, push_to_length a r j h)
leave_most (hall i) a r j h = rw (as_hall i (clique_leave a r j) (ring_leave a r j) (hall_leave a r j)) (omega (arith, hall_leave_length a j h r))

-- entering, by kind
enter_most : {kind : ℕ} → KindOf kind → (a : Arrangement) (j behind : ℕ) (list : List ℕ) → j ≤ length a → length (enter kind a j behind list) ≤ most_moves (length a)
unfolding enter most_moves ring_enter
enter_most clique a j behind list h = omega (arith, clique_enter_length a j list)
enter_most ring a j behind list h = omega (arith, turn_length (length a * length a) a j behind)
enter_most (hall i) a j behind list h = rw (as_hall i (clique_enter a j list) (ring_enter a j behind) (hall_enter a j behind)) (omega (arith, hall_enter_length a j h behind))

-- ending, by kind
end_most : {kind : ℕ} → KindOf kind → (a g : Arrangement) → length g ≤ length a → length (end kind a g) ≤ most_moves (length a)
unfolding end most_moves
end_most clique a g h = omega (arith, clique_end_length a g)
end_most ring a g h = omega (arith, ring_end_length a g h)
end_most (hall i) a g h = rw (as_hall i (clique_end a g) (ring_end a g) (hall_end a g)) (omega (arith, hall_end_length a g (length a) (omega arith) h))

-- leaving writes no more than that
pub leave_length : (kind : ℕ) (a : Arrangement) (r j : ℕ) → j ≤ length a → length (leave kind a r j) ≤ most_moves (length a)
leave_length kind a r j h = leave_most (kind? kind) a r j h

-- nor does entering
pub enter_length : (kind : ℕ) (a : Arrangement) (j behind : ℕ) (list : List ℕ) → j ≤ length a → length (enter kind a j behind list) ≤ most_moves (length a)
enter_length kind a j behind list h = enter_most (kind? kind) a j behind list h

-- nor ending
pub end_length : (kind : ℕ) (a g : Arrangement) → length g ≤ length a → length (end kind a g) ≤ most_moves (length a)
end_length kind a g h = end_most (kind? kind) a g h
