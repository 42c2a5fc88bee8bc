-- Entering a clique, and the follow list as an arrangement.
use Rattle.std.specs.Prelude.{◌≡◌, refl, ◌≢◌, Bool, true, false, ℕ, zero, suc, ◌+◌, ◌*◌, ◌<◌, ◌≤◌, List, [], ◌∷◌, map, length, get_or, set, take, drop, replicate, T, eqb}
use Rattle.std.proofs.Common.{ap, ap₂, ◌∙◌, add-one, arith, length-set, length-take-le, drop-cons, get_or-set_other, eq-eqb, ne_eqb, eqb-true}
use Rattle.std.proofs.Math.Path.{sym}
use Rattle.std.proofs.Math.Decide.{dec_lt}
use Rattle.std.proofs.lemmas.List.{length-map}
use Rattle.std.proofs.Math.ListN.{get_or-eq_default}
use Rattle.spec.specs.Outcome.{◌and◌, same_list}
use Rattle.spec.specs.Arrangement.{Arrangement, cell, order, last_free}
use Rattle.spec.specs.Clique.{named, same_robots, open_target, lowest_off, make_room, clique_to, clique_can_enter, clique_enter}
use Rattle.spec.specs.State.{State, robot_on, cell_of, arrangement_of, across}
use Rattle.theory.specs.Basics.Lists.{get_d_map}
use Rattle.theory.specs.Basics.Tests.{of_true, and_right, same→eq}
use Rattle.theory.specs.Maps.Cells.{cell_of_lem}
use Rattle.theory.specs.Zones.Arrangements.{cell_inside}
use Rattle.theory.specs.Zones.Robots.{same_robots_lem}
use Rattle.theory.specs.Zones.Crossing.{extra_of}
use Rattle.motion.specs.World.{World, made_all}
use Rattle.motion.specs.Across.{arrangement_length, arrangement_at, made_nothing}
use Rattle.cells.specs.Cells.{overlaid, overlaid_all}
use Rattle.cells.specs.Reading.{eqb_suc, cell_under}
use Rattle.arranging.specs.Toward.{to_rest}

-- a list mapped, from place k on
pub map_next : (f : ℕ → ℕ) (l : List ℕ) (k x : ℕ) → k < length l → x ≡ f (get_or l k 0) → drop k (map f l) ≡ x ∷ drop (k + 1) (map f l)
map_next f l k x h e =
    drop-cons (map f l) k 0 (omega (arith, length-map l f))
    ∙ ap₂ (λ (y n : ℕ). y ∷ drop n (map f l)) (get_d_map f l k h ∙ sym e) (sym (add-one k))

-- ---- cells

-- a zone's arrangement in as many cells of an array
pub cells_are : (s : State) (vs cells : List ℕ) → length vs ≤ 128 → cells ≡ overlaid (arrangement_of s vs) (take (length vs) (replicate 128 0)) → cells ≡ arrangement_of s vs
cells_are s vs cells h e =
    e ∙ overlaid_all (arrangement_of s vs) (take (length vs) (replicate 128 0)) (arrangement_length s vs ∙ sym (length-take-le (length vs) (replicate 128 0) (omega (arith, h))))

-- ---- follow lists

-- every name of a follow list but the one at place j is a robot's
abbrev pub Numbered : List ℕ → ℕ → Type 0
Numbered list j = (i : ℕ) → i ≢ j → get_or list i 0 ≢ 255

-- an empty list names nobody
pub numbered_none : (j : ℕ) → Numbered [] j
numbered_none j i n e = absurd (omega arith)

-- the names as cells, as the code reads them
-- where no name is 255
plain : (list : List ℕ) → ((i : ℕ) → get_or list i 0 ≢ 255) → map cell_of list ≡ named list
unfolding named
plain [] h = refl
plain (x ∷ l) h = ap₂ (λ (c : ℕ) (a : Arrangement). c ∷ a) (cell_of_lem (h 0)) (plain l (λ i. h (suc i)))

-- with place j emptied, the name there does not matter
pub named_cells : (list : List ℕ) (j : ℕ) → Numbered list j → set (map cell_of list) j 0 ≡ set (named list) j 0
unfolding named
named_cells [] j h = refl
named_cells (x ∷ l) zero h = ap (λ (a : Arrangement). 0 ∷ a) (plain l (λ i. h (suc i) (λ q. omega arith)))
named_cells (x ∷ l) (suc j) h =
    ap₂ (λ (c : ℕ) (a : Arrangement). c ∷ a) (cell_of_lem (h 0 (λ q. omega arith))) (named_cells l j (λ i n. h (suc i) (λ q. n (omega arith))))

-- a follow list has as many cells as names
pub cells_named : (list : List ℕ) (j : ℕ) → length (set (map cell_of list) j 0) ≡ length list
cells_named list j = length-set (map cell_of list) j 0 ∙ length-map list cell_of

-- what a follow list names at a place
pub named_at : (list : List ℕ) (j : ℕ) → j < length list → cell (named list) j ≡ suc (get_or list j 0)
unfolding named
named_at list j h = get_d_map suc list j h

pub named_is : (list : List ℕ) (j r : ℕ) → j < length list → eqb (get_or list j 0) r ≡ eqb (cell (named list) j) (suc r)
named_is list j r h = eqb_suc (get_or list j 0) r ∙ ap (λ (x : ℕ). eqb x (suc r)) (sym (named_at list j h))

pub named_past : (list : List ℕ) (j r : ℕ) → length list ≤ j → false ≡ eqb (cell (named list) j) (suc r)
unfolding named
named_past list j r h =
    let e : cell (named list) j ≡ 0 = get_or-eq_default (map suc list) 0 (omega (arith, length-map list suc)) in
    let n : (cell (named list) j ≡ suc r → ⊥) = λ q. omega arith in
    sym (ne_eqb _ _ n)

-- nobody in a zone is robot 255: a list that names it there is not met
pub named_nobody : (s : State) (vs list : List ℕ) (j i : ℕ) → i ≢ j → get_or list i 0 ≡ 255
    → T (same_robots (arrangement_of s vs) (set (named list) j 0)) → ⊥
named_nobody s vs list j i n e t = gone ((same_robots_lem a g t).back i 255 there)
  where
    a : Arrangement
    a = arrangement_of s vs

    g : Arrangement
    g = set (named list) j 0

    short : Dec (i < length list) → i < length list
    short (yes h) = h
    short (no h) = absurd (omega (arith, sym e ∙ get_or-eq_default list 0 {n = i} (omega arith)))

    there : cell g i ≡ suc 255
    there = get_or-set_other (named list) j i 0 0 n ∙ named_at list i (short (dec_lt i (length list))) ∙ ap suc e

    gone : (q : ℕ) × (cell a q ≡ suc 255) → ⊥
    gone (q, d) =
        let h : q < length vs = omega (arith, cell_inside a q 255 d, arrangement_length s vs) in
        cell_under (robot_on s (get_or vs q 0)) (sym d ∙ arrangement_at s vs q h)

-- ---- entering

module _ (a : Arrangement) (r j behind : ℕ) (list : List ℕ) where
  -- somebody is named behind
  pub enter_behind : behind ≢ 255 → false ≡ clique_can_enter a r j behind list
  unfolding clique_can_enter ◌and◌
  enter_behind n = sym (rw (ne_eqb _ _ n, ◌and◌))

  -- the clique is not filled
  pub enter_free : behind ≡ 255 → false ≡ last_free a → true ≡ clique_can_enter a r j behind list
  unfolding clique_can_enter ◌and◌
  enter_free e d = sym (rw (eq-eqb _ _ e, ◌and◌, ← d))

  -- the follow list does not name the entering robot at its place
  pub enter_unnamed : behind ≡ 255 → true ≡ last_free a → false ≡ eqb (cell (named list) j) (suc r) → false ≡ clique_can_enter a r j behind list
  unfolding clique_can_enter ◌and◌
  enter_unnamed e d n = sym (rw (eq-eqb _ _ e, ◌and◌, ← d, ← n))

  -- it does: the others are to be those inside
  pub enter_named : behind ≡ 255 → true ≡ last_free a → true ≡ eqb (cell (named list) j) (suc r)
      → same_robots a (set (named list) j 0) ≡ clique_can_enter a r j behind list
  unfolding clique_can_enter ◌and◌
  enter_named e d n = sym (rw (eq-eqb _ _ e, ◌and◌, ← d, ← n))

  -- so a list that was met names robots
  pub entered : T (clique_can_enter a r j behind list) → true ≡ last_free a → T (same_robots a (set (named list) j 0))
  unfolding clique_can_enter ◌and◌
  entered t d =
      let u = and_right (eqb behind 255) _ t in
      and_right (eqb (cell (named list) j) (suc r)) (same_robots a (set (named list) j 0)) (rw (← d) at u)

  -- ---- the moves

  -- room is made
  pub enter_room : false ≡ last_free a → make_room a j ≡ clique_enter a j list
  unfolding clique_enter
  enter_room d = rw (← d, clique_enter)

  -- the robots inside go to the list's arrangement
  pub enter_fill : (n : ℕ) → true ≡ last_free a → n ≡ length a → clique_to (n * 2) a (set (named list) j 0) ≡ clique_enter a j list
  unfolding clique_enter
  enter_fill n d e = rw (← d, clique_enter, e)

-- there is a follow list exactly where the clique is filled, and it has a name for each place
pub extra_fill : (a : Arrangement) (n : ℕ) → n ≡ extra_of 3 a → 0 < n → (true ≡ last_free a) × (n ≡ length a)
unfolding ◌and◌
extra_fill a n e h = pick (last_free a) e
  where
    pick : (b : Bool) → n ≡ elim b [ true ↦ length a | false ↦ 0 ] → (true ≡ b) × (n ≡ length a)
    pick true d = (refl, d)
    pick false d = absurd (omega arith)

pub extra_room : (a : Arrangement) (n : ℕ) → n ≡ extra_of 3 a → n ≤ 0 → false ≡ last_free a
unfolding ◌and◌ last_free
extra_room a n e h = pick (last_free a) refl e
  where
    pick : (b : Bool) → last_free a ≡ b → n ≡ elim b [ true ↦ length a | false ↦ 0 ] → false ≡ b
    pick true d q = absurd (omega (arith, eqb-true (suc (length (order a))) (length a) d))
    pick false d q = refl

-- a list that was met names robots, so that `enter` may be called with it
pub entered_numbered : (s : State) (vs : List ℕ) (r j behind : ℕ) (list : List ℕ)
    → clique_can_enter (arrangement_of s vs) r j behind list ≡ true → last_free (arrangement_of s vs) ≡ true → Numbered list j
entered_numbered s vs r j behind list e d i n q =
    named_nobody s vs list j i n q (entered (arrangement_of s vs) r j behind list (of_true e) (sym d))

-- what a caller of `enter` has: the step was let in, and the list is empty where the clique is not filled
pub enter_allowed : (s : State) (vs : List ℕ) (r j behind : ℕ) (list : List ℕ)
    → clique_can_enter (arrangement_of s vs) r j behind list ≡ true → (last_free (arrangement_of s vs) ≡ false → list ≡ []) → Numbered list j
enter_allowed s vs r j behind list e none = pick (last_free (arrangement_of s vs)) refl
  where
    pick : (b : Bool) → last_free (arrangement_of s vs) ≡ b → Numbered list j
    pick true d = entered_numbered s vs r j behind list e d
    pick false d = rw (none d) (numbered_none j)

-- ---- robots that stand where they are to stand

-- no target is open
open_none : (a : Arrangement) → open_target a a ≡ length a
unfolding open_target
open_none [] = refl
open_none (zero ∷ a) = ap suc (open_none a)
open_none (suc r ∷ a) = ap suc (open_none a)

-- no robot is off its target
off_none : (a : Arrangement) → lowest_off a a ≡ 0
unfolding lowest_off
off_none [] = refl
off_none (zero ∷ a) = off_none a
off_none (suc r ∷ a) = rw (eq-eqb (suc r) (suc r) refl, lowest_off) (off_none a)

-- so none moves
still : (n : ℕ) (a g : Arrangement) → a ≡ g → clique_to n a g ≡ []
unfolding clique_to
still zero a g e = refl
still (suc n) a g e = rw e (to_rest (suc n) g g _ _ (omega arith) refl (omega (arith, open_none g)) refl (off_none g))

-- which is what the code sees where its two arrangements are the same
pub filled_still : (n : ℕ) (a g cells goal : Arrangement) (vs : List ℕ) (w : World) (b : Bool) → cells ≡ a → goal ≡ g → b ≡ true → b ≡ same_list cells goal
    → w ≡ made_all w (across vs (clique_to n a g))
filled_still n a g cells goal vs w b e f t s =
    made_nothing w vs _ (still n a g (sym e ∙ same→eq cells goal (of_true (sym s ∙ t)) ∙ f))
