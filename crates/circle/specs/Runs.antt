-- A ring read from one of its places on, and the run of taken places there.
use Rattle.std.specs.Prelude.{◌≡◌, refl, ◌≢◌, not, ℕ, zero, suc, ◌+◌, ◌-◌, ◌<◌, ◌≤◌, List, [], ◌∷◌, ◌++◌, length, get_or, take, drop, eqb}
use Rattle.std.specs.List.{prefix_len}
use Rattle.std.proofs.Common.{ap, ap₂, sym, ◌∙◌, ⊎_elim, add-one, arith, not-suc-le-zero, length-append, length-drop, drop-cons, eq-eqb, ne_eqb, get_or-append-add, get_or-take, get_or-drop, length-take-le}
use Rattle.std.proofs.Math.ListN.{get_or-append}
use Rattle.std.proofs.Math.Decide.{ℕ_discrete}
use Rattle.std.proofs.lemmas.List.{take-map, drop-map}
use mathlib.Core.List.{map-append}
use Rattle.spec.specs.Arrangement.{Arrangement}
use Rattle.spec.specs.Ring.{wrap, frame, run}
use Rattle.spec.specs.State.{State, cell_of, robot_on, arrangement_of}
use Rattle.theory.specs.Maps.Cells.{cell_of_lem, cell_none, cell_robot, cell_injective}
use Rattle.motion.specs.Across.{arrangement_length, arrangement_at}
use Rattle.circle.specs.Places.{wrap_is, wrap_under}

-- what stands k places on from p
pub frame_at : (a : Arrangement) (p k : ℕ) → p < length a → k < length a → get_or (frame p a) k 0 ≡ get_or a (wrap (length a) (p + k)) 0
unfolding frame
frame_at a p k h l =
    ⊎_elim
    (λ w. get_or-append (drop p a) (take p a) 0 k (omega (arith, length-drop p a)) ∙ get_or-drop p a k 0 ∙ ap (λ (i : ℕ). get_or a i 0) (sym w.1))
    (λ w.
    let q : ℕ = p + k - length a in
    let e : k ≡ length (drop p a) + q = omega (arith, length-drop p a) in
    ap (λ (i : ℕ). get_or (drop p a ++ take p a) i 0) e ∙ get_or-append-add (drop p a) (take p a) q 0
    ∙ get_or-take p a q 0 (omega arith) ∙ ap (λ (i : ℕ). get_or a i 0) (sym w.1))
    (wrap_is (length a) (p + k))

-- reading from another place on keeps the size
pub frame_length : (a : Arrangement) (p : ℕ) → p < length a → length (frame p a) ≡ length a
unfolding frame
frame_length a p h = length-append (drop p a) (take p a) ∙ omega (arith, length-drop p a, length-take-le p a (omega arith))

-- a taken place is one robot more of the run
pub run_taken : (f : Arrangement) (k r : ℕ) → k < length f → get_or f k 0 ≡ suc r → run (drop k f) ≡ r ∷ run (drop (k + 1) f)
unfolding run
run_taken f k r h e = rw (drop-cons f k 0 h, e, add-one k)

-- at an empty place the run ends
pub run_free : (f : Arrangement) (k : ℕ) → k < length f → get_or f k 0 ≡ 0 → run (drop k f) ≡ []
unfolding run
run_free f k h e = rw (drop-cons f k 0 h, e)

-- the k-th robot of the run stands k places on
pub run_cell : (f : Arrangement) (k : ℕ) → k < length (run f) → get_or f k 0 ≡ suc (get_or (run f) k 0)
unfolding run
run_cell [] k h = absurd (not-suc-le-zero h)
run_cell (zero ∷ f) k h = absurd (not-suc-le-zero h)
run_cell (suc r ∷ f) zero h = refl
run_cell (suc r ∷ f) (suc k) h = run_cell f k (omega arith)

-- a run is no longer than the ring
pub run_short : (f : Arrangement) → length (run f) ≤ length f
unfolding run
run_short [] = omega arith
run_short (zero ∷ f) = omega arith
run_short (suc r ∷ f) = let i = run_short f in omega arith

-- the robots of the run at place p of the zone whose vertices are vs
abbrev pub run_at : State → List ℕ → ℕ → List ℕ
run_at s vs p = run (frame p (arrangement_of s vs))

-- the run of a ring read from its first place on: as many robots as places are taken before the first empty one
run_prefix : (s : State) (vs : List ℕ) → prefix_len (λ v. not (eqb (robot_on s v) 255)) vs ≡ length (run (arrangement_of s vs))
unfolding run arrangement_of
run_prefix s [] = refl
run_prefix s (v ∷ vs) = at (ℕ_discrete (robot_on s v) 255) (run_prefix s vs)
  where
    at : Dec (robot_on s v ≡ 255) → prefix_len (λ w. not (eqb (robot_on s w) 255)) vs ≡ length (run (arrangement_of s vs))
        → prefix_len (λ w. not (eqb (robot_on s w) 255)) (v ∷ vs) ≡ length (run (cell_of (robot_on s v) ∷ arrangement_of s vs))
    at (yes e) i = rw (eq-eqb _ _ e, cell_none e) refl
    at (no n) i = rw (ne_eqb _ _ n, cell_of_lem n) (omega (arith, i))

-- the zone's vertices read from place p on have the ring's arrangement read from there on
pub frame_arrangement : (s : State) (vs : List ℕ) (p : ℕ) → arrangement_of s (drop p vs ++ take p vs) ≡ frame p (arrangement_of s vs)
unfolding frame arrangement_of
frame_arrangement s vs p =
    map-append (λ v. cell_of (robot_on s v)) (drop p vs) (take p vs)
    ∙ ap₂ (λ (x y : Arrangement). x ++ y) (sym (drop-map (λ v. cell_of (robot_on s v)) p vs)) (sym (take-map (λ v. cell_of (robot_on s v)) p vs))

-- the run at place p, counted over the zone's vertices from that place on
pub run_counted : (s : State) (vs : List ℕ) (p : ℕ) → prefix_len (λ v. not (eqb (robot_on s v) 255)) (drop p vs ++ take p vs) ≡ length (run_at s vs p)
run_counted s vs p = run_prefix s (drop p vs ++ take p vs) ∙ ap (λ (f : Arrangement). length (run f)) (frame_arrangement s vs p)

module _ (s : State) (vs : List ℕ) (p : ℕ) (h : p < length vs) where
  -- the ring read from p on is as long as the zone
  pub frame_size : length (frame p (arrangement_of s vs)) ≡ length vs
  frame_size = frame_length (arrangement_of s vs) p (omega (arith, arrangement_length s vs)) ∙ arrangement_length s vs

  -- who stands k places on from p
  pub frame_robot : (k : ℕ) → k < length vs → get_or (frame p (arrangement_of s vs)) k 0 ≡ cell_of (robot_on s (get_or vs (wrap (length vs) (p + k)) 0))
  frame_robot k l =
      frame_at (arrangement_of s vs) p k (omega (arith, arrangement_length s vs)) (omega (arith, arrangement_length s vs))
      ∙ ap (λ (m : ℕ). get_or (arrangement_of s vs) (wrap m (p + k)) 0) (arrangement_length s vs)
      ∙ arrangement_at s vs (wrap (length vs) (p + k)) (wrap_under (length vs) p k h (omega arith))

  -- whoever stands k places on is the k-th robot of the run
  pub run_robot : (k r : ℕ) → k < length (run_at s vs p) → k < length vs → r ≡ robot_on s (get_or vs (wrap (length vs) (p + k)) 0) → r ≡ get_or (run_at s vs p) k 0
  run_robot k r a b e = (cell_robot r (get_or (run_at s vs p) k 0) (ap cell_of e ∙ sym (frame_robot k b) ∙ run_cell (frame p (arrangement_of s vs)) k a)).0

  -- the code's robot k places on from p
  pub robot_around : (k i r : ℕ) → k ≤ length vs → i ≡ wrap (length vs) (p + k) → cell_of r ≡ get_or (arrangement_of s vs) i 0
      → r ≡ robot_on s (get_or vs (wrap (length vs) (p + k)) 0)
  robot_around k i r l e d =
      cell_injective r (robot_on s (get_or vs (wrap (length vs) (p + k)) 0))
      (d ∙ ap (λ (q : ℕ). get_or (arrangement_of s vs) q 0) e ∙ arrangement_at s vs (wrap (length vs) (p + k)) (wrap_under (length vs) p k h l))

  -- no robot of the run is 255
  pub run_named : (k : ℕ) → k < length (run_at s vs p) → get_or (run_at s vs p) k 0 ≢ 255
  run_named k a e =
      let l : k < length vs = omega (arith, run_short (frame p (arrangement_of s vs)), frame_size) in
      let d = cell_robot (robot_on s (get_or vs (wrap (length vs) (p + k)) 0)) (get_or (run_at s vs p) k 0) (sym (frame_robot k l) ∙ run_cell (frame p (arrangement_of s vs)) k a) in
      d.1 (d.0 ∙ e)
