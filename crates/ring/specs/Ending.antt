-- Ending a ring: the lowest-numbered robot is pushed to its goal, then the other places are a hall.
use Rattle.std.specs.Prelude.{◌≡◌, refl, ◌≢◌, Bool, true, false, List, [], ◌∷◌, ◌++◌, map, length, get_or, drop, MatchOption, Option, Some, None}
use Rattle.std.specs.List.{filter, fold, reduce}
use Rattle.std.specs.Option.{option_map}
use mathlib.Core.Path.{subst}
use Rattle.numbering.specs.declared.Robot.{Robot}
use Rattle.std.proofs.Math.Path.{ap, sym}
use Rattle.std.proofs.Common.{ap₂, ◌∙◌, ⊎_elim, add-one, zero-add, take-append-drop, take_all, length-drop, eq-eqb, ne_eqb}
use Prim.Native.Nat.{ℕ, zero, suc, ◌+◌, ◌-◌, ◌<◌, min}
use Rattle.std.proofs.lemmas.List.{map-append}
use native.Mathlib.Omega.{arith}
use Rattle.std.proofs.Math.Decide.{ℕ_discrete}
use Rattle.std.proofs.Math.ListN.{take}
use Rattle.spec.specs.Outcome.{member, index_of}
use Rattle.spec.specs.Arrangement.{Arrangement, Move, mv, order, places, seek, lesser, full, apply_all}
use Rattle.spec.specs.Hall.{Trip, down, up, lowering, raising, hall_moves, trips, to_places, hall_end}
use Rattle.spec.specs.State.{State, cell_of, robot_on, arrangement_of, across_move, across}
use Rattle.spec.specs.Ring.{wrap, in_ring, ahead, push_to, opened, lowest, turned, ring_can_end, ring_end_at, ring_end}
use Rattle.theory.specs.Basics.Tests.{of_true, same→eq}
use Rattle.theory.specs.Basics.Lists.{Each, none, ◌&&&◌, ◌&◌, each_append, In, in_head, in_tail, in_left, in_right, in_append}
use Rattle.theory.specs.Zones.Arrangements.{member→cell, cell_inside}
use Rattle.theory.specs.Basics.Searches.{seek_ok}
use Rattle.theory.specs.Zones.Ring.Frames.{Within}
use Rattle.theory.specs.Zones.Ring.Opened.{length_opened}
use Rattle.motion.specs.World.{World, made_all, made_none}
use Rattle.motion.specs.Across.{made_both, across_nil, arrangement_length}
use Rattle.motion.specs.Coupling.{Listed, arranged}
use Rattle.circle.specs.Pushes.{inside_pushes}
use Rattle.turns.specs.Entry.{opened_at}
use Rattle.turned.specs.Comparing.{end_full, end_open, robot?, number, robots_listed}

-- ---- the lowest-numbered robot

-- the lesser of a cell and an empty one
lesser_none : (x y : ℕ) → y ≡ 0 → lesser x y ≡ x
unfolding lesser
lesser_none x y e = ap (λ (b : Bool). elim b as (λ b. ℕ) [ true ↦ x | false ↦ min x y ]) (eq-eqb y 0 e)

-- the lesser of two robots' cells
lesser_both : (x y : ℕ) → y ≢ 0 → lesser x y ≡ min x y
unfolding lesser
lesser_both x y n = ap (λ (b : Bool). elim b as (λ b. ℕ) [ true ↦ x | false ↦ min x y ]) (ne_eqb y 0 n)

-- it is the least of the robots
lowest_fold : (x : ℕ) (l : List ℕ) → lowest (x ∷ l) ≡ suc (fold min x l)
unfolding lowest
lowest_fold x [] = lesser_none (suc x) 0 refl
lowest_fold x (y ∷ l) = pair (lowest l) ∙ lowest_fold (min x y) l
  where
    pair : (z : ℕ) → lesser (suc x) (lesser (suc y) z) ≡ lesser (suc (min x y)) z
    pair zero =
        ap (lesser (suc x)) (lesser_none (suc y) 0 refl) ∙ lesser_both (suc x) (suc y) (λ q. omega arith) ∙ omega arith
        ∙ sym (lesser_none (suc (min x y)) 0 refl)
    pair (suc z) =
        ap (lesser (suc x)) (lesser_both (suc y) (suc z) (λ q. omega arith)) ∙ lesser_both (suc x) (min (suc y) (suc z)) (λ q. omega arith) ∙ omega arith
        ∙ sym (lesser_both (suc (min x y)) (suc z) (λ q. omega arith))

-- none of no robots
lowest_least : (l : List ℕ) → MatchOption (reduce min l) (lowest l ≡ 0) (λ r. lowest l ≡ suc r)
unfolding lowest
lowest_least [] = refl
lowest_least (x ∷ l) = lowest_fold x l

-- the same of the code's robots
pub lowest_found : (s : State) (vs : List ℕ) (r : Option Robot) → option_map number r ≡ reduce min (filter robot? (map (robot_on s) vs))
    → MatchOption r (lowest (order (arrangement_of s vs)) ≡ 0) (λ x. lowest (order (arrangement_of s vs)) ≡ suc x.0)
lowest_found s vs r e = go r (e ∙ ap (reduce min) (robots_listed s vs))
  where
    go : (o : Option Robot) → option_map number o ≡ reduce min (order (arrangement_of s vs)) → MatchOption o (lowest (order (arrangement_of s vs)) ≡ 0) (λ x. lowest (order (arrangement_of s vs)) ≡ suc x.0)
    go None d = subst (λ p. MatchOption p (lowest (order (arrangement_of s vs)) ≡ 0) (λ x. lowest (order (arrangement_of s vs)) ≡ suc x)) (sym d) (lowest_least (order (arrangement_of s vs)))
    go (Some x) d = subst (λ p. MatchOption p (lowest (order (arrangement_of s vs)) ≡ 0) (λ x. lowest (order (arrangement_of s vs)) ≡ suc x)) (sym d) (lowest_least (order (arrangement_of s vs)))

-- the lowest-numbered robot is one of the robots
lowest_in : (l : List ℕ) (r : ℕ) → lowest l ≡ suc r → In r l
unfolding lowest
lowest_in [] r e = absurd (omega arith)
lowest_in (x ∷ l) r e = go (lowest l) refl (lowest_in l)
  where
    go : (y : ℕ) → lowest l ≡ y → ((q : ℕ) → lowest l ≡ suc q → In q l) → In r (x ∷ l)
    go zero d f = let z : suc x ≡ suc r = sym (lesser_none (suc x) (lowest l) d) ∙ e in let q : x ≡ r = omega arith in rw q (in_head r l)
    go (suc y) d f = pick (ℕ_discrete x r)
      where
        m : min (suc x) (suc y) ≡ suc r
        m = sym (lesser_both (suc x) (lowest l) (λ z. omega arith) ∙ ap (min (suc x)) d) ∙ e

        pick : Dec (x ≡ r) → In r (x ∷ l)
        pick (yes q) = rw q (in_head r l)
        pick (no q) = in_tail r x l (f r (d ∙ omega (arith, m, q)))

-- robot r's goal is in the ring, where the goals can be reached
pub goal_inside : (a g : Arrangement) (r : ℕ) → lowest (order a) ≡ suc r → ring_can_end a g ≡ true → seek (suc r) g < length g
unfolding turned
goal_inside a g r e c = go (full a) refl
  where
    found : (h : Arrangement) → In r (order h) → seek (suc r) h < length h
    found h i = let w = member→cell h r i in (seek_ok (suc r) h w.0 (cell_inside h w.0 r w.1) w.1).1

    part : (k : ℕ) (ys : List ℕ) → In r (drop k ys ++ take k ys) → In r ys
    part k ys i =
        let j : In r (take k ys ++ drop k ys) = ⊎_elim (λ u. in_right r (take k ys) (drop k ys) u) (λ u. in_left r (take k ys) (drop k ys) u) (in_append r (drop k ys) (take k ys) i) in
        rw (take-append-drop k ys) at j

    round : (xs : List ℕ) → In r xs → turned xs (order g) ≡ true → In r (order g)
    round [] i t = absurd (unfold member in i)
    round (x ∷ xs) i t = part (index_of x (order g)) (order g) (rw (same→eq (x ∷ xs) (drop (index_of x (order g)) (order g) ++ take (index_of x (order g)) (order g)) (of_true t)) at i)

    go : (b : Bool) → full a ≡ b → seek (suc r) g < length g
    go true d = rw (same→eq a g (of_true (end_full a g d ∙ c))) at (found a (lowest_in (order a) r e))
    go false d = found g (round (order a) (lowest_in (order a) r e) (end_open a g d ∙ c))

-- the lowest-numbered robot has a place in the ring
pub robot_inside : (a : Arrangement) (r : ℕ) → lowest (order a) ≡ suc r → seek (suc r) a < length a
robot_inside a r e =
    let w = member→cell a r (lowest_in (order a) r e) in
    (seek_ok (suc r) a w.0 (cell_inside a w.0 r w.1) w.1).1

-- ---- the moves of a hall keep to its places

-- the places of the robots are places of the hall
places_under : (k : ℕ) (a : Arrangement) → Each (λ p. p < k + length a) (places k a)
unfolding places
places_under k [] = none
places_under k (zero ∷ a) = let e : suc k + length a ≡ k + suc (length a) = omega arith in rw e at (places_under (suc k) a)
places_under k (suc r ∷ a) =
    let e : suc k + length a ≡ k + suc (length a) = omega arith in
    ◌&◌ {P = λ p. p < k + suc (length a)} (omega arith) (rw e at (places_under (suc k) a))

-- a trip between the first m places
pub record Trips (m : ℕ) (t : Trip) : Type 0 where
  pub leaves : t.from < m
  pub arrives : t.to < m

-- trips between places of the hall
trips_under : (m : ℕ) (rs ps qs : List ℕ) → Each (λ p. p < m) ps → Each (λ q. q < m) qs → Each (Trips m) (trips rs ps qs)
unfolding trips
trips_under m [] ps qs h k = none
trips_under m (r ∷ rs) [] qs h k = none
trips_under m (r ∷ rs) (p ∷ ps) [] h k = none
trips_under m (r ∷ rs) (p ∷ ps) (q ∷ qs) (◌&&&◌ h hs) (◌&&&◌ k ks) = ◌&&&◌ (record { leaves = h; arrives = k }) (trips_under m rs ps qs hs ks)

-- moves down stay inside
down_under : (m r n j : ℕ) → n + j < m → Each (Within m) (down r n j)
unfolding down
down_under m r zero j h = none
down_under m r (suc n) j h = ◌&◌ {P = Within m} {x = mv r (suc (n + j)) (n + j)} (omega arith, omega arith) (down_under m r n j (omega arith))

-- moves up stay inside
up_under : (m r n i : ℕ) → n + i < m → Each (Within m) (up r n i)
unfolding up
up_under m r zero i h = none
up_under m r (suc n) i h = ◌&◌ {P = Within m} {x = mv r i (suc i)} (omega arith, omega arith) (up_under m r n (suc i) (omega arith))

-- robots going lower stay inside
lowering_under : (m : ℕ) (ts : List Trip) → Each (Trips m) ts → Each (Within m) (lowering ts)
unfolding lowering
lowering_under m [] none = none
lowering_under m (t ∷ ts) (◌&&&◌ h hs) =
    each_append (down_under m t.robot (t.from - t.to) t.to (omega (arith, h.leaves, h.arrives))) (lowering_under m ts hs)

-- robots going higher stay inside
raising_under : (m : ℕ) (ts : List Trip) → Each (Trips m) ts → Each (Within m) (raising ts)
unfolding raising
raising_under m [] none = none
raising_under m (t ∷ ts) (◌&&&◌ h hs) =
    each_append (raising_under m ts hs) (up_under m t.robot (t.to - t.from) t.from (omega (arith, h.leaves, h.arrives)))

-- bringing a hall to its goals
hall_under : (m : ℕ) (a g : Arrangement) → length a ≡ m → length g ≡ m → Each (Within m) (hall_end a g)
unfolding hall_end to_places hall_moves
hall_under m a g e d =
    let ts = trips_under m (order a) (places 0 a) (places 0 g) (rw (zero-add (length a) ∙ e) at (places_under 0 a)) (rw (zero-add (length g) ∙ d) at (places_under 0 g)) in
    each_append (lowering_under m _ ts) (raising_under m _ ts)

-- ---- the opened ring as a hall

-- the arrangement of the opened ring's vertices is the opened arrangement
pub opened_arrangement : (s : State) (vs : List ℕ) (j : ℕ) → arrangement_of s (opened j vs) ≡ opened j (arrangement_of s vs)
unfolding arrangement_of opened
opened_arrangement s vs j =
    map-append (λ v. cell_of (robot_on s v)) (drop (suc j) vs) (take j vs)
    ∙ ap₂ (λ (x y : List ℕ). x ++ y) (map_drop (suc j) vs) (map_take j vs)
  where
    map_drop : (k : ℕ) (us : List ℕ) → map (λ v. cell_of (robot_on s v)) (drop k us) ≡ drop k (map (λ v. cell_of (robot_on s v)) us)
    map_drop zero us = refl
    map_drop (suc k) [] = refl
    map_drop (suc k) (u ∷ us) = map_drop k us

    map_take : (k : ℕ) (us : List ℕ) → map (λ v. cell_of (robot_on s v)) (take k us) ≡ take k (map (λ v. cell_of (robot_on s v)) us)
    map_take zero us = refl
    map_take (suc k) [] = refl
    map_take (suc k) (u ∷ us) = ap (λ (l : List ℕ). cell_of (robot_on s u) ∷ l) (map_take k us)

-- place i of the opened ring is place j + 1 + i of the ring, so a hall's moves are the ring's
opened_across : (vs : List ℕ) (j : ℕ) (ms : List Move) → j < length vs → Each (Within (length vs - 1)) ms
    → across (opened j vs) ms ≡ across vs (map (λ v. in_ring (length vs) (suc j) v) ms)
unfolding across across_move in_ring
opened_across vs j [] h none = refl
opened_across vs j (v ∷ ms) h (◌&&&◌ w ws) =
    ap₂ (λ (m : Move) (l : List Move). m ∷ l)
    (ap₂ (λ (x y : ℕ). mv v.robot x y) (at v.from w.0) (at v.to w.1))
    (opened_across vs j ms h ws)
  where
    at : (i : ℕ) → i < length vs - 1 → get_or (opened j vs) i 0 ≡ get_or vs (wrap (length vs) (suc j + i)) 0
    at i l = let e : j + (i + 1) ≡ suc j + i = omega arith in opened_at j vs i h (omega arith) ∙ ap (λ (k : ℕ). get_or vs (wrap (length vs) k) 0) e

-- ---- the whole ending

-- nobody to end
pub end_none : (a g : Arrangement) → lowest (order a) ≡ 0 → ring_end a g ≡ []
unfolding ring_end
end_none a g e = ap (λ (b : Bool). elim b as (λ b. List Move) [ true ↦ [] | false ↦ ring_end_at a g (lowest (order a) - 1) ]) (eq-eqb (lowest (order a)) 0 e)

-- the ending goes by the lowest-numbered robot
end_robot : (a g : Arrangement) (r : ℕ) → lowest (order a) ≡ suc r → ring_end a g ≡ ring_end_at a g r
unfolding ring_end
end_robot a g r e =
    let d : lowest (order a) - 1 ≡ r = omega arith in
    ap (λ (b : Bool). elim b as (λ b. List Move) [ true ↦ [] | false ↦ ring_end_at a g (lowest (order a) - 1) ]) (ne_eqb (lowest (order a)) 0 (λ q. omega arith))
    ∙ ap (ring_end_at a g) d

-- the push, then the hall
pub end_both : (w u : World) (t : State) (vs os : List ℕ) (r j : ℕ) → Listed (length w.state.robots) vs
    → lowest (order (arrangement_of w.state vs)) ≡ suc r → j < length vs → j ≡ seek (suc r) (arrangement_of t vs)
    → seek (suc r) (arrangement_of w.state vs) < length vs → os ≡ opened j vs
    → u ≡ made_all w (across vs (push_to (arrangement_of w.state vs) r j))
    → made_all u (across os (hall_end (arrangement_of u.state os) (arrangement_of t os)))
    ≡ made_all w (across vs (ring_end (arrangement_of w.state vs) (arrangement_of t vs)))
unfolding ring_end_at push_to arrangement_of
end_both w u t vs os r j M e h d i o k =
    let a : Arrangement = arrangement_of w.state vs in
    let g : Arrangement = arrangement_of t vs in
    let b : arrangement_of u.state vs ≡ apply_all a (push_to a r j) = arranged w u vs (push_to a r j) M (inside_pushes (ahead (length a) (seek (suc r) a) j) w.state vs (seek (suc r) a) M i) k in
    let x : arrangement_of u.state os ≡ opened j (apply_all a (push_to a r j)) = ap (arrangement_of u.state) o ∙ opened_arrangement u.state vs j ∙ ap (opened j) b in
    let y : arrangement_of t os ≡ opened j g = ap (arrangement_of t) o ∙ opened_arrangement t vs j in
    let H : List Move = hall_end (opened j (apply_all a (push_to a r j))) (opened j g) in
    let W : Each (Within (length vs - 1)) H = hall_under (length vs - 1) (opened j (apply_all a (push_to a r j))) (opened j g) (sym (ap length x) ∙ size u.state) (sym (ap length y) ∙ size t) in
    ap₂ (λ (p q : Arrangement). made_all u (across os (hall_end p q))) x y
    ∙ ap (λ (l : List ℕ). made_all u (across l H)) o
    ∙ ap (made_all u) (opened_across vs j H h W)
    ∙ made_both w u vs (push_to a r j) (map (λ v. in_ring (length vs) (suc j) v) H) k
    ∙ ap (λ (ms : List Move). made_all w (across vs ms))
    (ap (λ (m : ℕ). push_to a r j ++ map (λ v. in_ring m (suc j) v) H) (sym (arrangement_length w.state vs))
    ∙ ap (λ (q : ℕ). push_to a r q ++ map (λ v. in_ring (length a) (suc q) v) (hall_end (opened q (apply_all a (push_to a r q))) (opened q g))) d
    ∙ sym (end_robot a g r e))
  where
    size : (s : State) → length (arrangement_of s os) ≡ length vs - 1
    size s = arrangement_length s os ∙ ap length o ∙ omega (arith, length_opened j vs h)

-- ---- the opened ring's vertices, copied

-- those after the place, then those before it
pub opened_joined : (vs : List ℕ) (j : ℕ) → j < length vs → take (length vs - (j + 1)) (drop (j + 1) vs) ++ take j vs ≡ opened j vs
unfolding opened
opened_joined vs j h = ap (λ (l : List ℕ). l ++ take j vs) (take_all (length vs - (j + 1)) (drop (j + 1) vs) (omega (arith, length-drop (j + 1) vs)) ∙ ap (λ (i : ℕ). drop i vs) (add-one j))

-- `lowest` is the name of a function too
abbrev pub lowest_cell : List ℕ → ℕ
lowest_cell = lowest

-- ---- the ending by the lowest-numbered robot

module _ (s t : State) (vs : List ℕ) where
  -- without one nobody moves
  pub ends_nobody : lowest (order (arrangement_of s vs)) ≡ 0 → (w : World) → w ≡ made_all w (across vs (ring_end (arrangement_of s vs) (arrangement_of t vs)))
  ends_nobody e w =
      made_none w (across vs (ring_end (arrangement_of s vs) (arrangement_of t vs)))
      (ap (across vs) (end_none (arrangement_of s vs) (arrangement_of t vs) e) ∙ across_nil vs)

  module _ (r : ℕ) (e : lowest (order (arrangement_of s vs)) ≡ suc r) where
    -- its place is in the ring
    pub ends_stands : seek (suc r) (arrangement_of s vs) < length vs
    ends_stands = omega (arith, robot_inside (arrangement_of s vs) r e, arrangement_length s vs)

    -- and that of its goal
    pub ends_goal : ring_can_end (arrangement_of s vs) (arrangement_of t vs) ≡ true → seek (suc r) (arrangement_of t vs) < length vs
    ends_goal d = omega (arith, goal_inside (arrangement_of s vs) (arrangement_of t vs) r e d, arrangement_length t vs)
