-- Halls: the test and moves of ending are right, and crossings keep configurations.
use Rattle.std.specs.Prelude.{◌≡◌, List, ◌∷◌, ◌++◌, ℕ, suc, ◌<◌, length, set, take, drop, T}
use Rattle.std.proofs.Common.{sym, ap₂, ◌∙◌, arith, length-set}
use Rattle.spec.specs.Arrangement.{Arrangement, order, cell, last_named}
use Rattle.spec.specs.Hall.{hall_can_end, hall_end}
use Rattle.spec.specs.Terms.{Runs, Reachable, Distinct, Named}
use Rattle.theory.specs.Basics.Lists.{split_once, cut_same}
use Rattle.theory.specs.Basics.Tests.{same→eq, eq→same}
use Rattle.theory.specs.Zones.Arrangements.{cell_inside, order_at, not_under, not_over, once_order, last_order, order_clear, order_put, order_gap, none_255}
use Rattle.theory.specs.Zones.Moves.{runs_length}
use Rattle.theory.specs.Zones.Hall.Order.{IsHall, runs_order}
use Rattle.theory.specs.Zones.Hall.Walks.{run_hall_end}

-- a goal that may be taken is reached by the written moves
pub hall_end_lem : {kind : ℕ} (a g : Arrangement) → length a ≡ length g → T (hall_can_end a g) → Runs kind (hall_end a g) a g
unfolding hall_can_end
hall_end_lem a g l h = run_hall_end a g l (same→eq (order a) (order g) h)

-- a goal that can be reached may be taken
pub hall_ended : {kind : ℕ} → IsHall kind → (a g : Arrangement) → Reachable kind a g → T (hall_can_end a g)
unfolding hall_can_end
hall_ended i a g s = eq→same (order a) (order g) (runs_order i s.1)

-- in a hall the same order is reachable
pub hall_reach : {kind : ℕ} (a b : Arrangement) → length a ≡ length b → order a ≡ order b → Reachable kind a b
hall_reach a b l o = (hall_end a b, run_hall_end a b l o)

-- ---- crossings keep configurations

module _ {kind : ℕ} (i : IsHall kind) (a b : Arrangement) (j r : ℕ) (d : Distinct a) (s : Reachable kind a b) where
  -- two of a configuration from which the same robot leaves at j stay in one configuration
  pub hall_keeps_leave : cell a j ≡ suc r → cell b j ≡ suc r → Reachable kind (set a j 0) (set b j 0)
  hall_keeps_leave e f =
      let o = sym (order_at a j r e) ∙ runs_order i s.1 ∙ order_at b j r f in
      let t = split_once (order (take j a)) (order (drop (suc j) a)) (order (take j b)) (order (drop (suc j) b)) (not_under a d j r e) (not_over a d j r e) o in
      hall_reach (set a j 0) (set b j 0) (length-set a j 0 ∙ runs_length s.1 ∙ sym (length-set b j 0))
      (order_clear a j (cell_inside a j r e) ∙ ap₂ {C = List ℕ} (λ x y. x ++ y) t.0 t.1 ∙ sym (order_clear b j (cell_inside b j r f)))

  -- so do two which the same robot enters at j behind the same one
  pub hall_keeps_enter : Named a → j < length a → cell a j ≡ 0 → cell b j ≡ 0 → last_named (take j a) ≡ last_named (take j b) → Reachable kind (set a j (suc r)) (set b j (suc r))
  hall_keeps_enter n h e f l =
      let m = runs_length s.1 in
      let k : j < length b = omega arith in
      let g = order_gap a j e in
      let o = sym g ∙ runs_order i s.1 ∙ order_gap b j f in
      let t = cut_same (order (take j a)) (order (drop (suc j) a)) (order (take j b)) (order (drop (suc j) b)) (rw g at (once_order a d)) (rw g at (none_255 a n)) o
      (sym (last_order (take j a)) ∙ l ∙ last_order (take j b)) in
      hall_reach (set a j (suc r)) (set b j (suc r)) (length-set a j (suc r) ∙ m ∙ sym (length-set b j (suc r)))
      (order_put a j h r ∙ ap₂ {C = List ℕ} (λ x y. x ++ r ∷ y) t.0 t.1 ∙ sym (order_put b j k r))
