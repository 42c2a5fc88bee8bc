-- Cliques: the test and moves of ending are right, and crossings keep configurations.
-- What it rests on stands in specs/Zones/Clique/Ending.antt.
use Rattle.std.specs.Prelude.{◌≡◌, ◌≢◌, Bool, true, false, ◌*◌, ℕ, suc, ◌<◌, length, T}
use Rattle.std.proofs.Math.Path.{sym}
use Rattle.std.proofs.Common.{◌∙◌, arith}
use Rattle.std.proofs.Math.ListN.{set, length-set}
use Rattle.spec.specs.Outcome.{same_list}
use Rattle.spec.specs.Arrangement.{Arrangement, order, full, cell, last_free}
use Rattle.spec.specs.Terms.{Runs, Distinct, Reachable}
use Rattle.spec.specs.Clique.{same_robots, clique_to, clique_can_end, clique_end}
use Rattle.theory.specs.Basics.Tests.{Eqb, same, other, eqb?, same→eq}
use Rattle.theory.specs.Zones.Arrangements.{room_left, order_short, count_put, count_clear, free_count}
use Rattle.theory.specs.Zones.Moves.{runs_length, reach_refl}
use Rattle.theory.specs.Zones.Robots.{same_robots_lem, runs_robots, robots_clear, robots_put, distinct_clear, distinct_put}
use Rattle.theory.specs.Zones.Clique.Rule.{ready, solved, at_rest}
use Rattle.theory.proofs.Zones.Clique.Rule.{clique_reach}

-- a goal that may be taken is reached by the written moves
pub clique_end_lem : (a g : Arrangement) → Distinct a → length a ≡ length g → T (clique_can_end a g) → Runs 3 (clique_end a g) a g
unfolding clique_can_end clique_end full
clique_end_lem a g d l t = go (eqb? (length (order a)) (length a)) t
  where
    go : {q : Bool} → Eqb (length (order a)) (length a) q → T (elim q [ true ↦ same_list a g | false ↦ same_robots a g ]) → Runs 3 (clique_to (length a * 2) a g) a g
    go (same f) t = rw (← (same→eq a g t)) (at_rest (length a * 2) a)
    go (other n) t = solved a g (ready a g d l (room_left a n) (same_robots_lem a g t))

-- ---- crossings keep configurations

module _ (a b : Arrangement) (j r : ℕ) (d : Distinct a) (s : Reachable 3 a b) where
  -- two of a configuration from which the same robot leaves at j stay in one configuration
  pub clique_keeps_leave : cell a j ≡ suc r → cell b j ≡ suc r → Reachable 3 (set a j 0) (set b j 0)
  clique_keeps_leave e f =
      let u = runs_robots s.1 in
      clique_reach (set a j 0) (set b j 0) (distinct_clear a j d) (length-set a j 0 ∙ runs_length s.1 ∙ sym (length-set b j 0))
      (omega (arith, count_clear a j r e, order_short a, length-set a j 0)) (robots_clear j r d e f u)

  -- so do two which the same robot enters at j, the same ones where the clique is filled
  pub clique_keeps_enter : j < length a → cell a j ≡ 0 → cell b j ≡ 0 → ((i : ℕ) → cell a i ≢ suc r) → (T (last_free a) → set a j (suc r) ≡ set b j (suc r)) → Reachable 3 (set a j (suc r)) (set b j (suc r))
  unfolding last_free
  clique_keeps_enter h e f n q = go (eqb? (suc (length (order a))) (length a)) q
    where
      go : {p : Bool} → Eqb (suc (length (order a))) (length a) p → (T p → set a j (suc r) ≡ set b j (suc r)) → Reachable 3 (set a j (suc r)) (set b j (suc r))
      go (same k) q = rw (← (q tt)) (reach_refl (set a j (suc r)))
      go (other k) q =
          let m = runs_length s.1 in
          clique_reach (set a j (suc r)) (set b j (suc r)) (distinct_put a j r d n) (length-set a j (suc r) ∙ m ∙ sym (length-set b j (suc r)))
          (omega (arith, count_put a j r e h, free_count a j h e, length-set a j (suc r))) (robots_put j r h (omega arith) e f (runs_robots s.1))
