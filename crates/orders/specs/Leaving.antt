-- A robot leaves: the list without it stands for what is left.
use Rattle.std.specs.Prelude.{◌≡◌, not, List, ◌∷◌, ◌++◌, ℕ, suc, ◌<◌, length, set, take, drop, T}
use Rattle.std.proofs.Common.{sym, ap₂, ◌∙◌, arith, length-set, get_or-set_same, get_or-set_other, T_not}
use Rattle.std.proofs.Math.Seq.{take-append_seam}
use Rattle.spec.specs.Outcome.{index_of}
use Rattle.spec.specs.Arrangement.{Arrangement, cell, order, full}
use Rattle.spec.specs.Terms.{Reachable, Distinct}
use Rattle.spec.specs.Ring.{opened}
use Rattle.theory.specs.Basics.Lists.{index_at, drop_past, split_once}
use Rattle.theory.specs.Zones.Arrangements.{cell_inside, count_clear, order_short, not_under, not_over, order_at, order_clear}
use Rattle.theory.specs.Zones.Moves.{reach_sym, reach_trans, runs_length}
use Rattle.theory.specs.Zones.Robots.{SameRobots, cell_clear, distinct_clear, runs_robots, distinct_goal}
use Rattle.theory.specs.Zones.Hall.Order.{IsHall, runs_order}
use Rattle.theory.specs.Zones.Hall.Ending.{hall_reach}
use Rattle.theory.proofs.Zones.Clique.Rule.{clique_reach}
use Rattle.theory.specs.Zones.Ring.Turning.{Turned, turned_swap, turned_trans}
use Rattle.theory.specs.Zones.Ring.Order.{runs_turned}
use Rattle.theory.specs.Zones.Ring.Opened.{order_opened, round_same}
use Rattle.theory.specs.Zones.Kinds.{KindOf, clique, ring, hall, kind?}
use Rattle.theory.proofs.Zones.Configurations.{ring_configuration}
use Rattle.theory.specs.Zones.Crossing.{Proper, kept, reach_proper, not_full}
use Rattle.orders.specs.Orders.{packed, Holds, without}
use Rattle.orders.specs.Packed.{packed_order, holds_from}

-- the order with a robot taken out is the order without it
pub order_left : (a : Arrangement) (j r : ℕ) → Distinct a → cell a j ≡ suc r → order (set a j 0) ≡ without (index_of r (order a)) (order a)
unfolding without
order_left a j r d e =
    let xs = order (take j a) in
    let ys = order (drop (suc j) a) in
    let f : without (index_of r (xs ++ r ∷ ys)) (xs ++ r ∷ ys) ≡ xs ++ ys =
    rw (index_at {c = r} xs ys (not_under a d j r e)) (ap₂ {C = List ℕ} (λ x y. x ++ y) (take-append_seam xs (r ∷ ys)) (drop_past xs r ys)) in
    order_clear a j (cell_inside a j r e) ∙ sym (rw (← (order_at a j r e)) at f)

-- ---- the same robot leaves two arrangements of a configuration, wherever it stands in them

-- whoever is left in one is left in the other
into_clear : (a b : Arrangement) (j k r : ℕ) → Distinct a → cell a j ≡ suc r → cell b k ≡ suc r → ((i c : ℕ) → cell a i ≡ suc c → (q : ℕ) × (cell b q ≡ suc c))
    → (i c : ℕ) → cell (set a j 0) i ≡ suc c → (q : ℕ) × (cell (set b k 0) q ≡ suc c)
into_clear a b j k r d e f h i c g =
    let s = cell_clear a j i c g in
    let t = h i c s.1 in
    (t.0, get_or-set_other b k t.0 0 0 (λ z. s.0 (d i j r (s.1 ∙ sym t.1 ∙ (rw (← z) at f)) e)) ∙ t.1)

module _ (a b : Arrangement) (j k r : ℕ) (d : Distinct a) (e : cell a j ≡ suc r) (f : cell b k ≡ suc r) where
  -- they have one length
  same_length : length a ≡ length b → length (set a j 0) ≡ length (set b k 0)
  same_length m = length-set a j 0 ∙ m ∙ sym (length-set b k 0)

  -- the same robots are left
  same_left : SameRobots a b → SameRobots (set a j 0) (set b k 0)
  same_left s = record {
    count = omega (arith, s.count, count_clear a j r e, count_clear b k r f);
    into = into_clear a b j k r d e f s.into;
    back = into_clear b a k j r (distinct_goal a b d s) f e s.back;
  }

  -- in a hall they stay in one configuration
  hall_leaves_lem : {kind : ℕ} → IsHall kind → Reachable kind a b → Reachable kind (set a j 0) (set b k 0)
  hall_leaves_lem i s =
      let o = sym (order_at a j r e) ∙ runs_order i s.1 ∙ order_at b k r f in
      let t = split_once (order (take j a)) (order (drop (suc j) a)) (order (take k b)) (order (drop (suc k) b)) (not_under a d j r e) (not_over a d j r e) o in
      hall_reach (set a j 0) (set b k 0) (same_length (runs_length s.1))
      (order_clear a j (cell_inside a j r e) ∙ ap₂ {C = List ℕ} (λ x y. x ++ y) t.0 t.1 ∙ sym (order_clear b k (cell_inside b k r f)))

  -- in a clique too
  clique_leaves : Reachable 3 a b → Reachable 3 (set a j 0) (set b k 0)
  clique_leaves s =
      clique_reach (set a j 0) (set b k 0) (distinct_clear a j d) (same_length (runs_length s.1))
      (omega (arith, count_clear a j r e, order_short a, length-set a j 0)) (same_left (runs_robots s.1))

  -- and in a ring
  ring_leaves : Reachable 4 a b → Reachable 4 (set a j 0) (set b k 0)
  ring_leaves s = (ring_configuration (set a j 0) (set b k 0) (distinct_clear a j d)).1 (same_length (runs_length s.1), turned_trans out (rw (round_same a b j k r d e f (runs_turned s.1)) back), λ t. absurd (T_not (full (set a j 0)) free t))
    where
      h : j < length a
      h = cell_inside a j r e

      out : Turned (order (set a j 0)) (order (opened j a))
      out = rw (order_clear a j h, order_opened j a) (turned_swap (order (take j a)) (order (drop (suc j) a)))

      back : Turned (order (opened k b)) (order (set b k 0))
      back = rw (order_clear b k (cell_inside b k r f), order_opened k b) (turned_swap (order (drop (suc k) b)) (order (take k b)))

      free : T (not (full (set a j 0)))
      free = not_full (set a j 0) j (omega (arith, h, length-set a j 0)) (get_or-set_same a j 0 0 h)

-- in a zone of any kind they stay in one configuration
pub leaves : {kind : ℕ} → KindOf kind → (a b : Arrangement) (j k r : ℕ) → Distinct a → cell a j ≡ suc r → cell b k ≡ suc r → Reachable kind a b → Reachable kind (set a j 0) (set b k 0)
leaves clique a b j k r d e f s = clique_leaves a b j k r d e f s
leaves ring a b j k r d e f s = ring_leaves a b j k r d e f s
leaves (hall i) a b j k r d e f s = hall_leaves_lem a b j k r d e f i s

-- ---- the list

-- after robot r left at place j, the list without it stands for the zone
pub left : (kind : ℕ) (l : List ℕ) (a b : Arrangement) (r j : ℕ) → Proper a → Holds kind l a → Reachable kind a b → cell b j ≡ suc r
    → Holds kind (without (index_of r l) l) (set b j 0)
left kind l a b r j p h s e =
    let c = packed (length a) l in
    let t : Reachable kind b c = reach_trans (reach_sym s) h.reach in
    let q = (kept t).robots.into j r e in
    holds_from kind (without (index_of r l) l) (set b j 0) (set c q.0 0) (leaves (kind? kind) b c j q.0 r (reach_proper s p).once e q.1 t)
    (rw (packed_order (length a) l) at (order_left c q.0 r (reach_proper h.reach p).once q.1))
