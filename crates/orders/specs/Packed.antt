-- The robots of a list on the first places of a zone, and that an arrangement's own order stands for it.
use Rattle.std.specs.Prelude.{◌≡◌, refl, Bool, List, [], ◌∷◌, ◌++◌, map, ℕ, suc, ◌+◌, ◌-◌, ◌≤◌, ◌<◌, length, get_or, replicate, eqb}
use Rattle.std.proofs.Common.{sym, ap, ap₂, ◌∙◌, append-nil, arith, length-append, get_or-append-add}
use Rattle.std.proofs.lemmas.List.{length-map, length-replicate}
use Rattle.std.proofs.Math.ListN.{get_or-append}
use Rattle.spec.specs.Arrangement.{Arrangement, cell, order, full, last_free}
use Rattle.theory.specs.Basics.Lists.{get_d_map, get_d_uniform}
use Rattle.spec.specs.Terms.{Reachable}
use Rattle.theory.specs.Zones.Arrangements.{order_append, order_short}
use Rattle.theory.specs.Zones.Moves.{reach_sym, reach_trans}
use Rattle.theory.specs.Zones.Hall.Places.{order_none}
use Rattle.theory.specs.Zones.Hall.Ending.{hall_reach}
use Rattle.theory.specs.Zones.Crossing.{Proper, kept}
use Rattle.orders.specs.Orders.{packed, Holds}

-- ---- a packed arrangement

-- it has n places
pub packed_length : (n : ℕ) (l : List ℕ) → length l ≤ n → length (packed n l) ≡ n
unfolding packed
packed_length n l h = length-append (map suc l) (replicate (n - length l) 0) ∙ omega (arith, length-map l suc, length-replicate {A = ℕ} (n - length l) 0)

-- robots side by side are in order
pub order_map : (l : List ℕ) → order (map suc l) ≡ l
unfolding order
order_map [] = refl
order_map (r ∷ l) = ap (λ m. r ∷ m) (order_map l)

-- its order is the list
pub packed_order : (n : ℕ) (l : List ℕ) → order (packed n l) ≡ l
unfolding packed
packed_order n l = order_append (map suc l) (replicate (n - length l) 0) ∙ ap₂ {C = List ℕ} (λ x y. x ++ y) (order_map l) (order_none (n - length l)) ∙ append-nil l

-- it is full where the list is as long as it
pub packed_full : (n : ℕ) (l : List ℕ) → length l ≤ n → full (packed n l) ≡ eqb (length l) n
unfolding full
packed_full n l h = ap₂ {C = Bool} eqb (ap length (packed_order n l)) (packed_length n l h)

-- and has one free place where the list is one shorter
pub packed_last : (n : ℕ) (l : List ℕ) → length l ≤ n → last_free (packed n l) ≡ eqb (suc (length l)) n
unfolding last_free
packed_last n l h = ap₂ {C = Bool} (λ x y. eqb (suc x) y) (ap length (packed_order n l)) (packed_length n l h)

-- where it is full the robots are all there is
pub packed_whole : (n : ℕ) (l : List ℕ) → length l ≡ n → packed n l ≡ map suc l
unfolding packed
packed_whole n l e = let z : n - length l ≡ 0 = omega arith in rw z (append-nil (map suc l))

-- what stands at the place of a robot
pub packed_cell : (n : ℕ) (l : List ℕ) (i : ℕ) → i < length l → cell (packed n l) i ≡ suc (get_or l i 0)
unfolding packed
packed_cell n l i h = get_or-append (map suc l) (replicate (n - length l) 0) 0 i (omega (arith, length-map l suc)) ∙ get_d_map suc l i h

-- the place behind the last robot is empty
pub packed_free : (n : ℕ) (l : List ℕ) → cell (packed n l) (length l) ≡ 0
unfolding packed
packed_free n l =
    let e : length l ≡ length (map suc l) + 0 = omega (arith, length-map l suc) in
    ap (cell (map suc l ++ replicate (n - length l) 0)) e ∙ get_or-append-add (map suc l) (replicate (n - length l) 0) 0 0 ∙ get_d_uniform (n - length l) 0 0

-- ---- the list of an arrangement

-- an arrangement's order stands for it, in a zone of any kind
pub holds_order : (kind : ℕ) (l : List ℕ) (a : Arrangement) → order a ≡ l → Holds kind l a
holds_order kind l a e =
    let f : length l ≤ length a = omega (arith, order_short a, ap length e) in
    record { fits = f; reach = hall_reach a (packed (length a) l) (sym (packed_length (length a) l f)) (e ∙ sym (packed_order (length a) l)) }

-- and so does the order of one that it reaches
pub holds_from : (kind : ℕ) (l : List ℕ) (a b : Arrangement) → Reachable kind a b → order b ≡ l → Holds kind l a
holds_from kind l a b s e =
    let h = holds_order kind l b e in
    let m = (kept s).long in
    record { fits = rw m h.fits; reach = reach_trans s (rw m h.reach) }

-- the list of an arrangement is that of those which it reaches
pub holds_moved : {kind : ℕ} {l : List ℕ} {a b : Arrangement} → Reachable kind a b → Holds kind l a → Holds kind l b
holds_moved s h = record { fits = rw (← (kept s).long) h.fits; reach = reach_trans (reach_sym s) (rw (← (kept s).long) h.reach) }

-- at the start it is that of the starts
pub holds_start : (kind : ℕ) (a : Arrangement) → Proper a → Holds kind (order a) a
holds_start kind a p = holds_order kind (order a) a refl

-- there are as many robots as the list is long
pub holds_count : (kind : ℕ) (l : List ℕ) (a : Arrangement) → Holds kind l a → length (order a) ≡ length l
holds_count kind l a h = (kept h.reach).count ∙ ap length (packed_order (length a) l)
