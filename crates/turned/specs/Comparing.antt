-- Whether a goal arrangement is in a ring's configuration: the same order up to turning, or if full the same arrangement.
use Rattle.std.specs.Prelude.{◌≡◌, ◌<◌, refl, ◌≢◌, Bool, true, false, not, List, [], ◌∷◌, ◌++◌, map, take, MatchOption, Option, Some, None}
use Rattle.std.specs.List.{list_all, filter, find}
use Rattle.std.proofs.Math.Path.{ap, ap₂, sym}
use Rattle.std.proofs.Common.{◌∙◌, arith}
use Prim.Native.Nat.{ℕ, zero, suc}
use Rattle.std.proofs.Math.Decide.{ℕ_discrete}
use Rattle.std.proofs.Math.ListN.{length, drop}
use Rattle.std.proofs.Math.Dec.{eqb}
use borrow.Author.Tests.{eq-eqb, ne_eqb, eqb-false}
use mathlib.Core.Path.{subst}
use Rattle.std.specs.Option.{option_map}
use Rattle.numbering.specs.declared.Robot.{Robot}
use Rattle.spec.specs.Outcome.{index_of, same_list}
use Rattle.spec.specs.Arrangement.{Arrangement, order, seek, full}
use Rattle.spec.specs.State.{State, cell_of, robot_on, arrangement_of}
use Rattle.spec.specs.Ring.{frame, turned, ring_can_end}
use Rattle.theory.specs.Basics.Lists.{index_here, index_further}
use Rattle.theory.specs.Maps.Cells.{cell_of_lem, cell_none, cell_injective}
use Rattle.theory.specs.Zones.Arrangements.{order_append}
use Rattle.cells.specs.Cells.{seek_same, seek_other}
use Rattle.circle.specs.Runs.{frame_arrangement}
use Rattle.circle.specs.Reading.{vacant}

-- ---- lists of robots, compared

-- lists that begin alike are the same as their rests are
pub same_head : (x y : ℕ) (xs ys : List ℕ) → x ≡ y → same_list xs ys ≡ same_list (x ∷ xs) (y ∷ ys)
unfolding same_list
same_head x y xs ys e = sym (ap (λ (b : Bool). elim b as (λ b. Bool) [ true ↦ same_list xs ys | false ↦ false ]) (eq-eqb x y e))

-- lists that begin otherwise are not
pub other_head : (x y : ℕ) (xs ys : List ℕ) → x ≢ y → false ≡ same_list (x ∷ xs) (y ∷ ys)
unfolding same_list
other_head x y xs ys n = sym (ap (λ (b : Bool). elim b as (λ b. Bool) [ true ↦ same_list xs ys | false ↦ false ]) (ne_eqb x y n))

-- two empty lists are the same
both_over : true ≡ same_list [] []
unfolding same_list
both_over = refl

-- no list is the empty one but itself
pub same_none : (a : Arrangement) → vacant a ≡ same_list [] (order a)
unfolding vacant same_list
same_none a = go (order a)
  where
    go : (l : List ℕ) → eqb (length l) 0 ≡ same_list [] l
    go [] = refl
    go (x ∷ l) = ne_eqb (suc (length l)) 0 (λ q. omega arith)

-- ---- arrangements, compared place by place

-- the same robots on the same places: the cells are the same
pub cells_alike : (s t : State) (vs : List ℕ) → list_all (λ v. eqb (robot_on s v) (robot_on t v)) vs ≡ same_list (arrangement_of s vs) (arrangement_of t vs)
unfolding arrangement_of
cells_alike s t [] = both_over
cells_alike s t (v ∷ vs) = at (ℕ_discrete (robot_on s v) (robot_on t v)) (cells_alike s t vs)
  where
    at : Dec (robot_on s v ≡ robot_on t v) → list_all (λ w. eqb (robot_on s w) (robot_on t w)) vs ≡ same_list (arrangement_of s vs) (arrangement_of t vs)
        → list_all (λ w. eqb (robot_on s w) (robot_on t w)) (v ∷ vs) ≡ same_list (cell_of (robot_on s v) ∷ arrangement_of s vs) (cell_of (robot_on t v) ∷ arrangement_of t vs)
    at (yes e) i = rw (eq-eqb _ _ e) (i ∙ same_head (cell_of (robot_on s v)) (cell_of (robot_on t v)) (arrangement_of s vs) (arrangement_of t vs) (ap cell_of e))
    at (no n) i =
        rw (ne_eqb _ _ n)
        (other_head (cell_of (robot_on s v)) (cell_of (robot_on t v)) (arrangement_of s vs) (arrangement_of t vs) (λ q. n (cell_injective (robot_on s v) (robot_on t v) q)))

-- ---- the robots of a zone, in listed order

-- is x a robot
abbrev pub robot? : ℕ → Bool
robot? x = not (eqb x 255)

-- a robot's number
abbrev pub number : Robot → ℕ
number r = r.0

-- those that stand on the zone's vertices
pub robots_listed : (s : State) (vs : List ℕ) → filter robot? (map (robot_on s) vs) ≡ order (arrangement_of s vs)
unfolding order arrangement_of
robots_listed s [] = refl
robots_listed s (v ∷ vs) = at (ℕ_discrete (robot_on s v) 255) (robots_listed s vs)
  where
    at : Dec (robot_on s v ≡ 255) → filter robot? (map (robot_on s) vs) ≡ order (arrangement_of s vs)
        → filter robot? (robot_on s v ∷ map (robot_on s) vs) ≡ order (cell_of (robot_on s v) ∷ arrangement_of s vs)
    at (yes e) i = rw (eq-eqb _ _ e, cell_none e) i
    at (no n) i = rw (ne_eqb _ _ n, cell_of_lem n) (ap (λ (l : List ℕ). robot_on s v ∷ l) i)

-- those of the ring read from place q on
pub robots_round : (s : State) (vs : List ℕ) (q : ℕ) → filter robot? (map (robot_on s) (drop q vs ++ take q vs)) ≡ order (frame q (arrangement_of s vs))
robots_round s vs q = robots_listed s (drop q vs ++ take q vs) ∙ ap order (frame_arrangement s vs q)

-- what a search for the first of them finds
first_robot : (s : State) (vs : List ℕ)
    → MatchOption (find robot? (map (robot_on s) vs)) (order (arrangement_of s vs) ≡ []) (λ r. (rs : List ℕ) × (order (arrangement_of s vs) ≡ r ∷ rs))
unfolding order arrangement_of
first_robot s [] = refl
first_robot s (v ∷ vs) = at (ℕ_discrete (robot_on s v) 255) (first_robot s vs)
  where
    at : Dec (robot_on s v ≡ 255) → MatchOption (find robot? (map (robot_on s) vs)) (order (arrangement_of s vs) ≡ []) (λ r. (rs : List ℕ) × (order (arrangement_of s vs) ≡ r ∷ rs))
        → MatchOption (find robot? (robot_on s v ∷ map (robot_on s) vs)) (order (cell_of (robot_on s v) ∷ arrangement_of s vs) ≡ []) (λ r. (rs : List ℕ) × (order (cell_of (robot_on s v) ∷ arrangement_of s vs) ≡ r ∷ rs))
    at (yes e) i = rw (eq-eqb _ _ e, cell_none e) i
    at (no n) i = rw (ne_eqb _ _ n, cell_of_lem n) (order (arrangement_of s vs), refl)

-- the same of the code's robots
pub first_found : (s : State) (vs : List ℕ) (r : Option Robot) → option_map number r ≡ find robot? (map (robot_on s) vs)
    → MatchOption r (order (arrangement_of s vs) ≡ []) (λ x. (rs : List ℕ) × (order (arrangement_of s vs) ≡ x.0 ∷ rs))
first_found s vs None e = subst (λ o. MatchOption o (order (arrangement_of s vs) ≡ []) (λ x. (rs : List ℕ) × (order (arrangement_of s vs) ≡ x ∷ rs))) (sym e) (first_robot s vs)
first_found s vs (Some x) e = subst (λ o. MatchOption o (order (arrangement_of s vs) ≡ []) (λ x. (rs : List ℕ) × (order (arrangement_of s vs) ≡ x ∷ rs))) (sym e) (first_robot s vs)

-- ---- turned

-- the order from robot r on is the order read from its place on
index_order : (r : ℕ) (g : Arrangement)
    → (drop (index_of r (order g)) (order g) ≡ order (drop (seek (suc r) g) g)) × (take (index_of r (order g)) (order g) ≡ order (take (seek (suc r) g) g))
unfolding order index_of seek
index_order r [] = (refl, refl)
index_order r (zero ∷ g) =
    let e : seek (suc r) (zero ∷ g) ≡ suc (seek (suc r) g) = seek_other (suc r) 0 g (λ q. omega arith) in
    let i = index_order r g in
    (i.0 ∙ sym (ap (λ (k : ℕ). order (drop k (zero ∷ g))) e), i.1 ∙ sym (ap (λ (k : ℕ). order (take k (zero ∷ g))) e))
index_order r (suc x ∷ g) = go (ℕ_discrete r x) (index_order r g)
  where
    go : Dec (r ≡ x) → (drop (index_of r (order g)) (order g) ≡ order (drop (seek (suc r) g) g)) × (take (index_of r (order g)) (order g) ≡ order (take (seek (suc r) g) g))
        → (drop (index_of r (x ∷ order g)) (x ∷ order g) ≡ order (drop (seek (suc r) (suc x ∷ g)) (suc x ∷ g))) × (take (index_of r (x ∷ order g)) (x ∷ order g) ≡ order (take (seek (suc r) (suc x ∷ g)) (suc x ∷ g)))
    go (yes e) i = rw (index_here r x (order g) e, seek_same (suc r) (suc x) g (ap suc e)) (refl, refl)
    go (no n) i =
        rw (index_further r x (order g) n, seek_other (suc r) (suc x) g (λ q. n (omega arith)))
        (i.0, ap (λ (l : List ℕ). x ∷ l) i.1)

-- a ring without robots
pub turned_none : (a g : Arrangement) → order a ≡ [] → vacant g ≡ turned (order a) (order g)
unfolding turned
turned_none a g e = same_none g ∙ sym (ap (λ (l : List ℕ). turned l (order g)) e)

-- the goal read from the first robot's place on
turned_round : (r : ℕ) (rs : List ℕ) (g : Arrangement) → turned (r ∷ rs) (order g) ≡ same_list (r ∷ rs) (order (frame (seek (suc r) g) g))
unfolding turned frame
turned_round r rs g =
    let i = index_order r g in
    ap (same_list (r ∷ rs)) (ap₂ (λ (x y : List ℕ). x ++ y) i.0 i.1 ∙ sym (order_append (drop (seek (suc r) g) g) (take (seek (suc r) g) g)))

-- the order, compared with the goal read from the first robot's place on
pub turned_from : (a g : Arrangement) (r q : ℕ) (rs : List ℕ) → order a ≡ r ∷ rs → q ≡ seek (suc r) g
    → same_list (order a) (order (frame q g)) ≡ turned (order a) (order g)
turned_from a g r q rs e d = rw (e, d) (sym (turned_round r rs g))

-- ---- the whole question

-- in a full ring the arrangements are compared
pub end_full : (a g : Arrangement) → full a ≡ true → same_list a g ≡ ring_can_end a g
unfolding ring_can_end
end_full a g e = rw (e, ring_can_end)

-- in another one the orders, up to turning
pub end_open : (a g : Arrangement) → full a ≡ false → turned (order a) (order g) ≡ ring_can_end a g
unfolding ring_can_end
end_open a g e = rw (e, ring_can_end)

-- a ring that is not full has a place
pub full_some : (a : Arrangement) → full a ≡ false → 0 < length a
unfolding full order
full_some [] e = absurd (let z : eqb 0 0 ≡ false = e in eqb-false 0 0 z refl)
full_some (x ∷ a) e = omega arith
