-- Entering a ring: the robot behind a place, and the pushes until the named one is there.
use Rattle.std.specs.Prelude.{◌≡◌, refl, ◌≢◌, Bool, true, false, ℕ, zero, suc, ◌+◌, ◌-◌, ◌<◌, List, [], ◌∷◌, ◌++◌, length, take, T, eqb}
use Rattle.std.proofs.Math.Path.{ap, sym}
use Rattle.std.proofs.Common.{◌∙◌, add-one, arith, drop-cons, take-suc, take_all, eq-eqb, ne_eqb}
use Rattle.std.proofs.Math.Decide.{ℕ_discrete}
use Rattle.spec.specs.Outcome.{member}
use Rattle.spec.specs.Arrangement.{Arrangement, cell, order, last_named}
use Rattle.spec.specs.Ring.{wrap, frame, opened, ring_behind}
use Rattle.spec.specs.State.{State, cell_of, arrangement_of}
use Rattle.theory.specs.Basics.Lists.{in_head, in_tail}
use Rattle.theory.specs.Maps.Cells.{cell_of_lem, cell_none}
use Rattle.theory.specs.Zones.Ring.Opened.{length_opened}
use Rattle.motion.specs.Across.{arrangement_length}
use Rattle.circle.specs.Runs.{frame_at}

-- the ring read from place j on: what stands there, then the other places
pub frame_opened : (j : ℕ) (a : Arrangement) → j < length a → frame j a ≡ cell a j ∷ opened j a
unfolding frame opened
frame_opened j a h = ap (λ (l : Arrangement). l ++ take j a) (drop-cons a j 0 h)

-- place k of the opened ring is place j + k + 1 of the ring
pub opened_at : (j : ℕ) (a : Arrangement) (k : ℕ) → j < length a → k + 1 < length a → cell (opened j a) k ≡ cell a (wrap (length a) (j + (k + 1)))
opened_at j a k h l =
    sym (ap (λ (n : ℕ). cell (frame j a) n) (add-one k) ∙ ap (λ (f : Arrangement). cell f (suc k)) (frame_opened j a h))
    ∙ frame_at a j (k + 1) h l

-- ---- the robot behind

-- a last place that is empty does not matter
last_free_lem : (f : Arrangement) → last_named (f ++ zero ∷ []) ≡ last_named f
unfolding last_named
last_free_lem [] = refl
last_free_lem (zero ∷ f) = last_free_lem f
last_free_lem (suc r ∷ f) = ap (λ (q : ℕ). elim (eqb q 255) as (λ b. ℕ) [ true ↦ r | false ↦ q ]) (last_free_lem f)

-- the robot on the last place is the last
last_taken : (f : Arrangement) (r : ℕ) → r ≢ 255 → last_named (f ++ suc r ∷ []) ≡ r
unfolding last_named
last_taken [] r n = refl
last_taken (zero ∷ f) r n = last_taken f r n
last_taken (suc x ∷ f) r n =
    ap (λ (q : ℕ). elim (eqb q 255) as (λ b. ℕ) [ true ↦ x | false ↦ q ]) (last_taken f r n)
    ∙ ap (λ (b : Bool). elim b as (λ b. ℕ) [ true ↦ x | false ↦ r ]) (ne_eqb r 255 n)

-- the last robot is one of the robots
pub last_stands : (f : Arrangement) → last_named f ≢ 255 → T (member (last_named f) (order f))
unfolding last_named order
last_stands [] n = absurd (n refl)
last_stands (zero ∷ f) n = last_stands f n
last_stands (suc r ∷ f) n = go (ℕ_discrete (last_named f) 255) (last_stands f)
  where
    go : Dec (last_named f ≡ 255) → (last_named f ≢ 255 → T (member (last_named f) (order f))) → T (member (last_named (suc r ∷ f)) (r ∷ order f))
    go (yes e) ih =
        let d : last_named (suc r ∷ f) ≡ r = ap (λ (b : Bool). elim b as (λ b. ℕ) [ true ↦ r | false ↦ last_named f ]) (eq-eqb _ _ e) in
        rw d (in_head r (order f))
    go (no e) ih =
        let d : last_named (suc r ∷ f) ≡ last_named f = ap (λ (b : Bool). elim b as (λ b. ℕ) [ true ↦ r | false ↦ last_named f ]) (ne_eqb _ _ e) in
        rw d (in_tail (last_named f) r (order f) (ih e))

-- where there is no last robot, there is none
pub last_none : (f : Arrangement) → ((i : ℕ) → cell f i ≢ 256) → last_named f ≡ 255 → order f ≡ []
unfolding last_named order
last_none [] n e = refl
last_none (zero ∷ f) n e = last_none f (λ i. n (suc i)) e
last_none (suc r ∷ f) n e = absurd (go (ℕ_discrete (last_named f) 255))
  where
    go : Dec (last_named f ≡ 255) → ⊥
    go (yes d) = n 0 (ap suc (sym (ap (λ (b : Bool). elim b as (λ b. ℕ) [ true ↦ r | false ↦ last_named f ]) (eq-eqb _ _ d)) ∙ e))
    go (no d) = d (sym (ap (λ (b : Bool). elim b as (λ b. ℕ) [ true ↦ r | false ↦ last_named f ]) (ne_eqb _ _ d)) ∙ e)

module _ (s : State) (vs : List ℕ) (j : ℕ) (h : j < length vs) where
  -- place j is one of the arrangement's
  inside : j < length (arrangement_of s vs)
  inside = omega (arith, arrangement_length s vs)

  -- what stands on place k of the opened ring
  opened_cell : (k : ℕ) → k + 1 < length vs → cell (opened j (arrangement_of s vs)) k ≡ cell (arrangement_of s vs) (wrap (length vs) (j + (k + 1)))
  opened_cell k l =
      opened_at j (arrangement_of s vs) k inside (omega (arith, arrangement_length s vs))
      ∙ ap (λ (m : ℕ). cell (arrangement_of s vs) (wrap m (j + (k + 1)))) (arrangement_length s vs)

  -- the opened ring has one place fewer
  opened_size : suc (length (opened j (arrangement_of s vs))) ≡ length vs
  opened_size = length_opened j (arrangement_of s vs) inside ∙ arrangement_length s vs

  -- all other places are yet to be looked at
  pub walk_all : last_named (take (length vs - 1) (opened j (arrangement_of s vs))) ≡ ring_behind (arrangement_of s vs) j
  unfolding ring_behind
  walk_all = ap last_named (take_all (length vs - 1) (opened j (arrangement_of s vs)) (omega (arith, opened_size)))

  -- an empty place is passed
  pub walk_free : (k x : ℕ) → k + 1 < length vs → cell_of x ≡ cell (arrangement_of s vs) (wrap (length vs) (j + (k + 1))) → x ≡ 255
      → last_named (take k (opened j (arrangement_of s vs))) ≡ last_named (take (k + 1) (opened j (arrangement_of s vs)))
  walk_free k x l e n =
      let f : Arrangement = opened j (arrangement_of s vs) in
      let d : cell f k ≡ 0 = opened_cell k l ∙ sym e ∙ cell_none n in
      sym (ap (λ (i : ℕ). last_named (take i f)) (add-one k) ∙ ap last_named (take-suc f k 0 (omega (arith, opened_size)) ∙ ap (λ (y : ℕ). take k f ++ (y ∷ [])) d)
      ∙ last_free_lem (take k f))

  -- at a robot the walk ends
  pub walk_taken : (k x : ℕ) → k + 1 < length vs → cell_of x ≡ cell (arrangement_of s vs) (wrap (length vs) (j + (k + 1))) → x ≢ 255
      → x ≡ last_named (take (k + 1) (opened j (arrangement_of s vs)))
  walk_taken k x l e n =
      let f : Arrangement = opened j (arrangement_of s vs) in
      let d : cell f k ≡ suc x = opened_cell k l ∙ sym e ∙ cell_of_lem n in
      sym (ap (λ (i : ℕ). last_named (take i f)) (add-one k) ∙ ap last_named (take-suc f k 0 (omega (arith, opened_size)) ∙ ap (λ (y : ℕ). take k f ++ (y ∷ [])) d)
      ∙ last_taken (take k f) x n)

  -- nobody was met
  pub walk_over : (k : ℕ) → k ≡ 0 → 255 ≡ last_named (take k (opened j (arrangement_of s vs)))
  unfolding last_named
  walk_over k e = sym (ap (λ (i : ℕ). last_named (take i (opened j (arrangement_of s vs)))) e)
