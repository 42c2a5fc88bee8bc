-- Halls: the test and moves of leaving are right.
use Rattle.std.specs.Prelude.{◌≡◌, ◌≢◌, List, ◌∷◌, ◌++◌, ℕ, suc, ◌+◌, ◌-◌, take, drop, length, T}
use Rattle.std.proofs.Common.{ap, ◌∙◌, arith, length-append, length-take, length-drop}
use Rattle.spec.specs.Outcome.{member, index_of}
use Rattle.spec.specs.Arrangement.{Arrangement, cell, order}
use Rattle.spec.specs.Hall.{room, hall_can_leave}
use Rattle.spec.specs.Terms.{Distinct, Reachable}
use Rattle.theory.specs.Basics.Lists.{Each, index_at}
use Rattle.theory.specs.Basics.Tests.{and_both}
use Rattle.theory.specs.Zones.Arrangements.{order_at, not_under, member→cell, cell_inside, cell→member, order_short}
use Rattle.theory.specs.Zones.Moves.{runs_length, runs_distinct}
use Rattle.theory.specs.Zones.Hall.Order.{IsHall, runs_order}
use Rattle.theory.specs.Zones.Hall.Room.{has_room}

-- a robot among the others
pub record Among (a : Arrangement) (r : ℕ) : Type 0 where
  pub place : ℕ
  pub lower : List ℕ
  pub higher : List ℕ
  pub there : cell a place ≡ suc r
  pub cut : order a ≡ lower ++ r ∷ higher
  pub not_lower : Each (λ x. r ≢ x) lower

-- a robot's place cuts the order
abbrev pub among_at : (a : Arrangement) (r i : ℕ) → Distinct a → cell a i ≡ suc r → Among a r
among_at a r i d e = record {
  place = i;
  lower = order (take i a);
  higher = order (drop (suc i) a);
  there = e;
  cut = order_at a i r e;
  not_lower = not_under a d i r e;
}

-- a robot of the order, and where it stands
pub among : (a : Arrangement) (r : ℕ) → Distinct a → T (member r (order a)) → Among a r
among a r d h = let s = member→cell a r h in among_at a r s.0 d s.1

-- its index is the number of those below it
pub among_index : {a : Arrangement} {r : ℕ} (w : Among a r) → index_of r (order a) ≡ length w.lower
among_index {a} {r} w = ap (index_of r) w.cut ∙ index_at w.lower w.higher w.not_lower

-- those below, itself and those above are all the robots
pub among_count : {a : Arrangement} {r : ℕ} (w : Among a r) → length (order a) ≡ suc (length w.lower + length w.higher)
among_count {a} {r} w = ap length w.cut ∙ length-append w.lower (r ∷ w.higher) ∙ omega arith

-- ---- the moves

-- a robot that can come to j may leave
pub hall_left : {kind : ℕ} → IsHall kind → (a b : Arrangement) (r j : ℕ) → Distinct a → Reachable kind a b → cell b j ≡ suc r → T (hall_can_leave a r j)
unfolding hall_can_leave
hall_left i a b r j d s e =
    let o : order a ≡ order b = runs_order i s.1 in
    let w = among_at b r j (runs_distinct s.1 d) e in
    let t = ap (index_of r) o ∙ among_index w in
    let n = ap length o ∙ among_count w in
    let l = simp length-take at (order_short (take j b)) in
    let u = simp length-drop at (order_short (drop (suc j) b)) in
    and_both (member r (order a)) (room (length a) j (index_of r (order a)) (length (order a) - suc (index_of r (order a))))
    (rw o (cell→member b j r e))
    (has_room (length a) j (index_of r (order a)) (length (order a) - suc (index_of r (order a))) (omega arith) (omega (arith, cell_inside b j r e, runs_length s.1)))
