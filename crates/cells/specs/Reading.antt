-- What is read of a zone's arrangement from the state, place by place.
use Rattle.std.specs.Prelude.{◌≡◌, refl, ◌≢◌, Bool, true, false, not, Option, ℕ, zero, suc, ◌+◌, ◌<◌, ◌≤◌, List, [], ◌∷◌, length, get_or, drop, eqb, ltb}
use Rattle.std.specs.List.{AllWithin, HoldsAt, list_all}
use Rattle.std.specs.Option.{MatchOption}
use Rattle.std.proofs.lemmas.Iterator.{index_from_first}
use Rattle.std.proofs.Math.Path.{ap, sym}
use Rattle.std.proofs.Common.{◌∙◌, add-one, arith, drop_of_length-le, eq-eqb, ne_eqb, lt-ltb, le-ltb}
use Rattle.std.proofs.Math.Decide.{ℕ_discrete}
use Rattle.std.proofs.Math.ListN.{get_or-eq_default}
use Rattle.spec.specs.Outcome.{member}
use Rattle.spec.specs.Arrangement.{Arrangement, seek, cell, order, full}
use Rattle.spec.specs.State.{State, robot_on, cell_of, arrangement_of}
use Rattle.theory.specs.Basics.Tests.{Eqb, same, other, eqb?, Ltb, less, more, ltb?}
use Rattle.theory.specs.Maps.Cells.{cell_of_lem, cell_none, cell_robot, cell_injective}
use Rattle.theory.specs.Zones.Arrangements.{order_short}
use Rattle.cells.specs.Cells.{PlaceFound, found_is, seek_same, seek_other}
use Rattle.motion.specs.Across.{arrangement_length, arrangement_at, arrangement_next}

-- the numbers that pass a test together pass it one higher
pub eqb_suc : (x y : ℕ) → eqb x y ≡ eqb (suc x) (suc y)
eqb_suc x y = pick (eqb x y) (eqb? x y)
  where
    pick : (b : Bool) → Eqb x y b → b ≡ eqb (suc x) (suc y)
    pick true (same e) = sym (eq-eqb _ _ (ap suc e))
    pick false (other n) = sym (ne_eqb (suc x) (suc y) (λ (q : suc x ≡ suc y). n (omega arith)))

-- ---- cells

-- nobody is robot 255
pub cell_under : (x : ℕ) → suc 255 ≢ cell_of x
cell_under x e = let p = cell_robot x 255 (sym e) in p.1 p.0

-- does the robot on a place equal r
pub stands_not : (x r c : ℕ) → cell_of x ≡ c → x ≡ 255 → false ≡ eqb c (suc r)
stands_not x r c e n =
    let z : 0 ≡ c = sym (cell_none n) ∙ e in
    let d : (c ≡ suc r → ⊥) = λ q. omega arith in
    sym (ne_eqb _ _ d)

pub stands_is : (x r c : ℕ) → cell_of x ≡ c → x ≢ 255 → eqb x r ≡ eqb c (suc r)
stands_is x r c e n = eqb_suc x r ∙ ap (λ (y : ℕ). eqb y (suc r)) (sym (cell_of_lem n) ∙ e)

-- ---- membership

-- the test one higher
ltb_suc : (x y : ℕ) → ltb (suc x) (suc y) ≡ ltb x y
ltb_suc x y = pick (ltb x y) (ltb? x y)
  where
    pick : (b : Bool) → Ltb x y b → ltb (suc x) (suc y) ≡ b
    pick true (less h) = lt-ltb (suc x) (suc y) (omega arith)
    pick false (more h) = le-ltb (suc x) (suc y) (omega arith)

-- a robot is in a zone exactly where a search finds it
pub member_seek : (r : ℕ) (a : Arrangement) → ltb (seek (suc r) a) (length a) ≡ member r (order a)
unfolding seek order member
member_seek r [] = le-ltb 0 0 (omega arith)
member_seek r (zero ∷ a) = ap (λ (n : ℕ). ltb n (suc (length a))) (seek_other (suc r) 0 a (λ q. omega arith)) ∙ ltb_suc (seek (suc r) a) (length a) ∙ member_seek r a
member_seek r (suc x ∷ a) = pick (eqb r x) (eqb? r x) refl (member_seek r a)
  where
    pick : (b : Bool) → Eqb r x b → eqb r x ≡ b → ltb (seek (suc r) a) (length a) ≡ member r (order a)
        → ltb (seek (suc r) (suc x ∷ a)) (suc (length a)) ≡ member r (x ∷ order a)
    pick true (same e) q ih = rw (q, member) (lt-ltb (seek (suc r) (suc x ∷ a)) (suc (length a)) (omega (arith, seek_same (suc r) (suc x) a (ap suc e))))
    pick false (other n) q ih =
        let d : (suc r ≡ suc x → ⊥) = λ z. n (omega arith) in
        rw (q, member) (ap (λ (n : ℕ). ltb n (suc (length a))) (seek_other (suc r) (suc x) a d) ∙ ltb_suc (seek (suc r) a) (length a) ∙ ih)

-- ---- full zones

-- an arrangement with an empty first place is not full; a robot on the first place does not matter
full_free : (a : Arrangement) → full (zero ∷ a) ≡ false
unfolding full order
full_free a = ne_eqb (length (order a)) (suc (length a)) (λ q. omega (arith, order_short a))

-- a robot on the first place does not matter
full_taken : (r : ℕ) (a : Arrangement) → full (suc r ∷ a) ≡ full a
unfolding full order
full_taken r a = sym (eqb_suc (length (order a)) (length a))

-- ---- from the state

-- robot 255 is nowhere
pub seek_nobody : (s : State) (vs : List ℕ) (r : ℕ) → r ≡ 255 → length vs ≡ seek (suc r) (arrangement_of s vs)
unfolding arrangement_of seek
seek_nobody s [] r e = refl
seek_nobody s (v ∷ vs) r e =
    let n : (suc r ≡ cell_of (robot_on s v) → ⊥) = λ q. cell_under (robot_on s v) (ap suc (sym e) ∙ q) in
    ap suc (seek_nobody s vs r e) ∙ sym (seek_other (suc r) (cell_of (robot_on s v)) (arrangement_of s vs) n)

-- the search for a robot is the library's
pub robot_first : (s : State) (r : ℕ) (vs : List ℕ) (o : Option ℕ)
    → MatchOption o (AllWithin (λ v. r ≢ robot_on s v) vs 0 (length vs)) (λ i. (i < length vs) × HoldsAt (λ v. r ≡ robot_on s v) vs i × AllWithin (λ v. r ≢ robot_on s v) vs 0 i)
    → PlaceFound (length vs) (seek (cell_of r) (arrangement_of s vs)) o
unfolding seek arrangement_of
robot_first s r vs o h =
    found_is (λ v. r ≡ robot_on s v) (λ v. r ≢ robot_on s v) vs (seek (cell_of r) (arrangement_of s vs)) o h
    (index_from_first (λ l. seek (cell_of r) (arrangement_of s l)) (λ v. r ≡ robot_on s v) (λ v. r ≢ robot_on s v) refl
    (λ v l e. seek_same (cell_of r) (cell_of (robot_on s v)) (arrangement_of s l) (ap cell_of e))
    (λ v l n. seek_other (cell_of r) (cell_of (robot_on s v)) (arrangement_of s l) (λ q. n (cell_injective r (robot_on s v) q)) ∙ sym (add-one _))
    vs o h)

-- a zone is full where on each of its vertices somebody stands
pub full_all : (s : State) (vs : List ℕ) → list_all (λ v. not (eqb (robot_on s v) 255)) vs ≡ full (arrangement_of s vs)
unfolding full order arrangement_of
full_all s [] = refl
full_all s (v ∷ vs) = at (ℕ_discrete (robot_on s v) 255) (full_all s vs)
  where
    at : Dec (robot_on s v ≡ 255) → list_all (λ w. not (eqb (robot_on s w) 255)) vs ≡ full (arrangement_of s vs)
        → list_all (λ w. not (eqb (robot_on s w) 255)) (v ∷ vs) ≡ full (cell_of (robot_on s v) ∷ arrangement_of s vs)
    at (yes e) h = rw (eq-eqb (robot_on s v) 255 e, cell_none e) (sym (full_free (arrangement_of s vs)))
    at (no n) h = rw (ne_eqb (robot_on s v) 255 n, cell_of_lem n) (h ∙ sym (full_taken (robot_on s v) (arrangement_of s vs)))

module _ (s : State) (vs : List ℕ) where
  -- the robot on a place, and past the last
  pub robot_here : (j r : ℕ) → j < length vs → r ≡ robot_on s (get_or vs j 0) → cell_of r ≡ cell (arrangement_of s vs) j
  robot_here j r h e = ap cell_of e ∙ sym (arrangement_at s vs j h)

  pub robot_past : (j : ℕ) → length vs ≤ j → cell_of 255 ≡ cell (arrangement_of s vs) j
  robot_past j h = cell_none refl ∙ sym (get_or-eq_default (arrangement_of s vs) 0 (omega (arith, arrangement_length s vs)))

  -- a place on which nobody stands is empty, any other is not
  pub empty_here : (j r : ℕ) → j < length vs → r ≡ robot_on s (get_or vs j 0) → r ≡ 255 → cell (arrangement_of s vs) j ≡ 0
  empty_here j r h e n = sym (robot_here j r h e) ∙ cell_none n

  pub taken_here : (j r : ℕ) → j < length vs → r ≡ robot_on s (get_or vs j 0) → r ≢ 255 → cell (arrangement_of s vs) j ≢ 0
  taken_here j r h e n z = let d : suc r ≡ 0 = sym (cell_of_lem n) ∙ robot_here j r h e ∙ z in omega arith

  -- the places from place i on, where somebody or nobody stands on it
  pub places_taken : (i x : ℕ) → i < length vs → x ≡ robot_on s (get_or vs i 0) → x ≢ 255
      → drop i (arrangement_of s vs) ≡ suc x ∷ drop (i + 1) (arrangement_of s vs)
  places_taken i x h e n = arrangement_next s vs i x h e ∙ ap (λ (y : ℕ). y ∷ drop (i + 1) (arrangement_of s vs)) (cell_of_lem n)

  -- the places from place i on, where nobody stands on it
  pub places_free : (i x : ℕ) → i < length vs → x ≡ robot_on s (get_or vs i 0) → x ≡ 255
      → drop i (arrangement_of s vs) ≡ zero ∷ drop (i + 1) (arrangement_of s vs)
  places_free i x h e n = arrangement_next s vs i x h e ∙ ap (λ (y : ℕ). y ∷ drop (i + 1) (arrangement_of s vs)) (cell_none n)

  -- past the end there are none
  pub places_over : (i : ℕ) → length vs ≤ i → drop i (arrangement_of s vs) ≡ []
  places_over i h = drop_of_length-le (arrangement_of s vs) {i = i} (omega (arith, arrangement_length s vs))
