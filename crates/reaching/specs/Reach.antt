-- What a hall can reach, as the code counts it.
use Rattle.std.specs.Prelude.{◌≡◌, true, false, get_or, take, ltb}
use Rattle.std.proofs.Math.Path.{refl, ap, sym}
use Rattle.std.proofs.Common.{◌∙◌, add-one, drop_of_length-le, take-suc, take_all, length-take-le}
use Prim.Native.Nat.{ℕ, suc, ◌+◌, ◌-◌, ◌<◌, ◌≤◌, min}
use mathlib.Core.List.{List, [], ◌∷◌, ◌++◌, append-nil}
use native.Mathlib.Omega.{arith}
use Rattle.std.proofs.Math.Decide.{dec_lt, ℕ_discrete}
use Rattle.std.proofs.Math.ListN.{length, drop, length-take}
use Rattle.std.proofs.Math.Dec.{leb}
use Rattle.std.proofs.lemmas.List.{drop-append-le}
use borrow.Author.Tests.{lt-ltb, le-ltb, le-leb, lt-leb, eq-eqb, ne_eqb}
use Rattle.spec.specs.Outcome.{◌and◌, member, index_of}
use Rattle.spec.specs.Arrangement.{Arrangement, order, last_named}
use Rattle.spec.specs.Hall.{room, lower_than, hall_can_leave, hall_can_enter}
use Rattle.spec.specs.State as meaning
use Rattle.theory.specs.Basics.Lists.{last_of, last_snoc}
use Rattle.theory.specs.Zones.Arrangements.{order_append, last_order}
use Rattle.theory.specs.Maps.Cells.{cell_of_lem, cell_none}
use Rattle.reaching.specs.Row.{Counted}
use Rattle.motion.specs.Across.{arrangement_length, arrangement_at}

-- ---- room

-- two tests that hold together
same_ltb : (a b m n : ℕ) → (a < b → m < n) → (b ≤ a → n ≤ m) → ltb a b ≡ ltb m n
same_ltb a b m n f g = at (dec_lt a b)
  where
    at : Dec (a < b) → ltb a b ≡ ltb m n
    at (yes q) = lt-ltb a b q ∙ sym (lt-ltb m n (f q))
    at (no q) = let h : b ≤ a = omega arith in le-ltb a b h ∙ sym (le-ltb m n (g h))

-- too many robots below
pub room_below : (size j t u : ℕ) → j < t → leb t j ≡ room size j t u
unfolding room ◌and◌
room_below size j t u h = rw (lt-leb _ _ h, room, ◌and◌)

-- room below: it goes by the robots above
pub room_above : (size j t u d : ℕ) → t ≤ j → d ≡ size - j → ltb u d ≡ room size j t u
unfolding room ◌and◌
room_above size j t u d h e = rw (le-leb _ _ h, room, ◌and◌) (same_ltb u d (j + u) size (λ q. omega arith) (λ q. omega arith))

-- ---- who is inside

-- a robot stands in the list exactly if the search finds it before the end
pub member_index : (x : ℕ) (l : List ℕ) → member x l ≡ ltb (index_of x l) (length l)
unfolding member index_of
member_index x [] = refl
member_index x (y ∷ l) = at (ℕ_discrete x y) (member_index x l)
  where
    at : Dec (x ≡ y) → member x l ≡ ltb (index_of x l) (length l) → member x (y ∷ l) ≡ ltb (index_of x (y ∷ l)) (length (y ∷ l))
    at (yes e) h = rw (eq-eqb _ _ e, member, index_of) (sym (lt-ltb 0 (suc (length l)) (omega arith)))
    at (no n) h =
        rw (ne_eqb _ _ n, member, index_of)
        (h ∙ same_ltb (index_of x l) (length l) (index_of x l + 1) (suc (length l)) (λ q. omega arith) (λ q. omega arith))

module _ (a : Arrangement) (named t n : ℕ) (c : Counted (order a) named t n) where
  -- the named robot is inside where some robot is not before it
  inside : t < n → member named (order a) ≡ true
  inside h = member_index named (order a) ∙ lt-ltb (index_of named (order a)) (length (order a)) (omega (arith, c.before, c.count))

  -- and is not where all are
  outside : n ≤ t → member named (order a) ≡ false
  outside h = member_index named (order a) ∙ le-ltb (index_of named (order a)) (length (order a)) (omega (arith, c.before, c.count))

  -- a robot that is inside leaves where there is room for the others
  pub can_leave_room : (j size : ℕ) → size ≡ length a → t < n → room size j t (n - t - 1) ≡ hall_can_leave a named j
  unfolding hall_can_leave ◌and◌
  can_leave_room j size e h =
      let u : n - t - 1 ≡ length (order a) - suc (index_of named (order a)) = omega (arith, c.before, c.count) in
      rw (inside h, hall_can_leave, ◌and◌, e, u, c.before)

  -- one that is not inside can't leave
  pub can_leave_none : (j : ℕ) → n ≤ t → ltb t n ≡ hall_can_leave a named j
  unfolding hall_can_leave ◌and◌
  can_leave_none j h = rw (outside h, le-ltb t n h, hall_can_leave, ◌and◌)

  -- with none behind it, a robot enters where there is room above for all
  pub can_enter_first : (j size : ℕ) → size ≡ length a → named ≡ 255 → room size j 0 n ≡ hall_can_enter a j named
  unfolding hall_can_enter lower_than ◌and◌
  can_enter_first j size e h = rw (eq-eqb _ _ h, hall_can_enter, lower_than, ◌and◌, e, c.count) (ap (room (length a) j 0) (omega arith))

  -- with one behind it that is inside, where there is room for that one and those lower, and above for the rest
  pub can_enter_room : (j size : ℕ) → size ≡ length a → (named ≡ 255 → ⊥) → t < n → room size j (t + 1) (n - t - 1) ≡ hall_can_enter a j named
  unfolding hall_can_enter lower_than ◌and◌
  can_enter_room j size e h k =
      let u : n - t - 1 ≡ length (order a) - suc (index_of named (order a)) = omega (arith, c.before, c.count) in
      let v : t + 1 ≡ suc (index_of named (order a)) = omega (arith, c.before) in
      rw (ne_eqb _ _ h, inside k, hall_can_enter, lower_than, ◌and◌, e, u, v)

  -- not with one behind it that is not inside
  pub can_enter_none : (j : ℕ) → (named ≡ 255 → ⊥) → n ≤ t → ltb t n ≡ hall_can_enter a j named
  unfolding hall_can_enter lower_than ◌and◌
  can_enter_none j h k = rw (ne_eqb _ _ h, outside k, le-ltb t n k, hall_can_enter, lower_than, ◌and◌)

-- ---- the robot behind

-- an empty place in front changes nothing
last_empty : (l : List ℕ) → last_named (l ++ 0 ∷ []) ≡ last_named l
unfolding order
last_empty l = last_order (l ++ 0 ∷ []) ∙ ap last_of (order_append l (0 ∷ []) ∙ append-nil (order l)) ∙ sym (last_order l)

-- a robot in front is the last
last_robot : (r : ℕ) (l : List ℕ) → (r ≡ 255 → ⊥) → last_named (l ++ suc r ∷ []) ≡ r
unfolding order
last_robot r l n = last_order (l ++ suc r ∷ []) ∙ ap last_of (order_append l (suc r ∷ [])) ∙ last_snoc (order l) r n

module _ (s : meaning.State) (vs : List ℕ) (from : ℕ) where
  -- the cells from place `from` to before place k
  abbrev span : ℕ → List ℕ
  span k = drop from (take k (meaning.arrangement_of s vs))

  -- one place more
  one_further : (k : ℕ) → from ≤ k → k < length vs → span (k + 1) ≡ span k ++ meaning.cell_of (meaning.robot_on s (get_or vs k 0)) ∷ []
  one_further k f h =
      let l : length (meaning.arrangement_of s vs) ≡ length vs = arrangement_length s vs in
      ap (λ (n : ℕ). span n) (add-one k)
      ∙ ap (drop from) (take-suc (meaning.arrangement_of s vs) k 0 (omega arith) ∙ ap (λ (x : ℕ). take k (meaning.arrangement_of s vs) ++ x ∷ []) (arrangement_at s vs k h))
      ∙ drop-append-le from (take k (meaning.arrangement_of s vs)) _ (omega (arith, length-take-le k (meaning.arrangement_of s vs) (omega arith)))

  -- a robot stands on the place before
  pub behind_robot : (k r : ℕ) → from ≤ k → k < length vs → r ≡ meaning.robot_on s (get_or vs k 0) → (r ≡ 255 → ⊥) → r ≡ last_named (span (k + 1))
  behind_robot k r f h e n =
      sym (last_robot r (span k) n)
      ∙ ap (λ (x : ℕ). last_named (span k ++ x ∷ [])) (sym (cell_of_lem n) ∙ ap meaning.cell_of e)
      ∙ ap last_named (sym (one_further k f h))

  -- none stands there
  pub behind_empty : (k r : ℕ) → from ≤ k → k < length vs → r ≡ meaning.robot_on s (get_or vs k 0) → r ≡ 255 → last_named (span k) ≡ last_named (span (k + 1))
  behind_empty k r f h e n =
      sym (last_empty (span k))
      ∙ ap (λ (x : ℕ). last_named (span k ++ x ∷ [])) (sym (cell_none n) ∙ ap meaning.cell_of e)
      ∙ ap last_named (sym (one_further k f h))

  -- no place is left
  pub behind_none : (k : ℕ) → k ≤ from → 255 ≡ last_named (span k)
  unfolding last_named
  behind_none k h =
      let l = length-take k (meaning.arrangement_of s vs) in
      ap last_named (sym (drop_of_length-le (take k (meaning.arrangement_of s vs)) {i = from} (omega arith)))

  -- places past the end are none
  pub behind_least : (j k : ℕ) → k ≡ min j (length vs) → last_named (span k) ≡ last_named (span j)
  behind_least j k e = at (dec_lt j (length vs))
    where
      at : Dec (j < length vs) → last_named (span k) ≡ last_named (span j)
      at (yes h) = let d : k ≡ j = omega arith in rw d
      at (no h) =
          let x : length (meaning.arrangement_of s vs) ≤ j = omega (arith, arrangement_length s vs) in
          let y : length (meaning.arrangement_of s vs) ≤ k = omega (arith, arrangement_length s vs) in
          ap (λ (l : List ℕ). last_named (drop from l)) (take_all k _ y ∙ sym (take_all j _ x))
