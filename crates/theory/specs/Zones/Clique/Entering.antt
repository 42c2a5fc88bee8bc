-- Cliques: the test and moves of entering are right.
use Rattle.std.specs.Prelude.{◌≡◌, refl, List, [], ◌∷◌, ℕ, zero, suc, ◌<◌, T}
use Rattle.std.proofs.Common.{ap, sym, ◌∙◌, arith, length-set, get_or-set_same, set-set, eqb→eq}
use Rattle.std.proofs.Math.Bool.{true, false}
use Rattle.std.proofs.Math.ListN.{length, set}
use Rattle.std.proofs.lemmas.List.{set-get_or}
use Rattle.std.proofs.Math.Dec.{eqb}
use Rattle.spec.specs.Outcome.{◌and◌}
use Rattle.spec.specs.Arrangement.{Arrangement, order, cell, last_free}
use Rattle.spec.specs.Terms.{Reachable}
use Rattle.spec.specs.Clique.{named, same_robots, clique_can_enter}
use Rattle.spec.specs.State.{robots_of}
use Rattle.theory.specs.Basics.Tests.{and_both, if_T, eq→eqb}
use Rattle.theory.specs.Zones.Arrangements.{order_short, count_put}
use Rattle.theory.specs.Zones.Moves.{runs_length, runs_count}
use Rattle.theory.specs.Zones.Robots.{robots_same, runs_robots}

-- ---- follow lists

-- a full arrangement is read back from its list
pub named_robots : (c : Arrangement) → length (order c) ≡ length c → named (robots_of c) ≡ c
unfolding robots_of named order
named_robots [] h = refl
named_robots (zero ∷ c) h = absurd (omega (arith, order_short c))
named_robots (suc r ∷ c) h = ap (λ l. suc r ∷ l) (named_robots c (omega arith))

-- all of its robots stand there
pub named_count : (list : List ℕ) → length (order (named list)) ≡ length list
unfolding named order
named_count [] = refl
named_count (r ∷ list) = ap suc (named_count list)

-- ---- the moves and the test

module _ (a : Arrangement) (r j behind : ℕ) (list : List ℕ) (h : j < length a) where
  -- where a reachable arrangement has j empty, and is the listed one where the clique is filled, a robot may enter
  pub clique_entered_lem : (b : Arrangement) → Reachable 3 a b → cell b j ≡ 0 → 255 ≡ behind → (T (last_free a) → list ≡ robots_of (set b j (suc r))) → T (clique_can_enter a r j behind list)
  unfolding clique_can_enter last_free
  clique_entered_lem b s e k n =
      and_both (eqb behind 255) (elim (last_free a) [ true ↦ eqb (cell (named list) j) (suc r) and same_robots a (set (named list) j 0) | false ↦ true ])
      (eq→eqb behind 255 (sym k)) (if_T (last_free a) (eqb (cell (named list) j) (suc r) and same_robots a (set (named list) j 0)) true filled (λ t. tt))
    where
      h' : j < length b
      h' = omega (arith, runs_length s.1)

      c : Arrangement
      c = set b j (suc r)

      all_full : T (last_free a) → length (order c) ≡ length c
      all_full t = omega (arith, eqb→eq (suc (length (order a))) (length a) t, runs_length s.1, runs_count s.1, count_put b j r e h', length-set b j (suc r))

      is_named : T (last_free a) → named list ≡ c
      is_named t = ap named (n t) ∙ named_robots c (all_full t)

      without : T (last_free a) → set (named list) j 0 ≡ b
      without t = ap (λ x. set x j 0) (is_named t) ∙ set-set b j (suc r) 0 ∙ (rw (← e) (set-get_or b j 0))

      filled : T (last_free a) → T (eqb (cell (named list) j) (suc r) and same_robots a (set (named list) j 0))
      filled t = and_both (eqb (cell (named list) j) (suc r)) (same_robots a (set (named list) j 0))
          (eq→eqb (cell (named list) j) (suc r) (ap (λ x. cell x j) (is_named t) ∙ get_or-set_same b j (suc r) 0 h'))
          (rw (without t) (robots_same a b (runs_robots s.1)))
