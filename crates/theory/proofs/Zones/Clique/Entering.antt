-- Cliques: the test and moves of entering are right.
-- What it rests on stands in specs/Zones/Clique/Entering.antt.
use Rattle.std.specs.Prelude.{◌≡◌, refl, Bool, List, [], ◌∷◌, ℕ, suc, ◌*◌, ◌<◌, T}
use Rattle.std.proofs.Common.{ap, sym, ◌∙◌, arith, length-set, get_or-set_same, set-set, eqb→eq}
use Rattle.std.proofs.Math.Bool.{true, false}
use Rattle.std.proofs.Math.ListN.{length, set}
use Rattle.std.proofs.lemmas.List.{length-map, set-get_or}
use Rattle.std.proofs.Math.Dec.{eqb}
use Rattle.spec.specs.Outcome.{◌and◌}
use Rattle.spec.specs.Arrangement.{Arrangement, order, cell, last_free}
use Rattle.spec.specs.Terms.{Runs, Distinct}
use Rattle.spec.specs.Clique.{named, same_robots, clique_to, make_room, clique_can_enter, clique_enter}
use Rattle.spec.specs.State.{robots_of}
use Rattle.theory.specs.Basics.Tests.{Eqb, same, other, eqb?, and_left, and_right}
use Rattle.theory.specs.Zones.Arrangements.{count_clear}
use Rattle.theory.specs.Zones.Robots.{SameRobots, same_robots_lem}
use Rattle.theory.specs.Zones.Clique.Rule.{ready, solved}
use Rattle.theory.specs.Zones.Clique.Leaving.{clear_room}
use Rattle.theory.specs.Zones.Clique.Entering.{named_count}

-- ---- follow lists

-- a list is read back from the arrangement that it names
robots_named : (list : List ℕ) → robots_of (named list) ≡ list
unfolding robots_of named
robots_named [] = refl
robots_named (r ∷ list) = ap (λ l. r ∷ l) (robots_named list)

-- a list names as many robots, at as many places, as it is long
length_named : (list : List ℕ) → length (named list) ≡ length list
unfolding named
length_named list = length-map list suc

-- a list that has the entering robot at j and the others elsewhere is as long as a clique that is filled
listed_length : (a : Arrangement) (r j : ℕ) (list : List ℕ) → suc (length (order a)) ≡ length a → cell (named list) j ≡ suc r → SameRobots a (set (named list) j 0) → length list ≡ length a
listed_length a r j list f e s = omega (arith, s.count, count_clear (named list) j r e, named_count list)

-- ---- the moves and the test

module _ (a : Arrangement) (r j behind : ℕ) (list : List ℕ) (h : j < length a) where
  -- where a robot may enter the written moves empty j, and the rest stand as listed where the clique is filled
  pub clique_enter_lem : Distinct a → length (order a) < length a → T (clique_can_enter a r j behind list)
      → (b : Arrangement) × Runs 3 (clique_enter a j list) a b × (cell b j ≡ 0) × (255 ≡ behind) × (T (last_free a) → list ≡ robots_of (set b j (suc r)))
  unfolding clique_can_enter clique_enter last_free
  clique_enter_lem d f t = go (eqb? (suc (length (order a))) (length a)) (and_right (eqb behind 255) (elim (last_free a) [ true ↦ named_right | false ↦ true ]) t)
    where
      g : Arrangement
      g = set (named list) j 0

      named_right : Bool
      named_right = eqb (cell (named list) j) (suc r) and same_robots a g

      e : 255 ≡ behind
      e = sym (eqb→eq behind 255 (and_left (eqb behind 255) (elim (last_free a) [ true ↦ named_right | false ↦ true ]) t))

      go : {q : Bool} → Eqb (suc (length (order a))) (length a) q → T (elim q [ true ↦ named_right | false ↦ true ])
          → (b : Arrangement) × Runs 3 (elim q [ true ↦ clique_to (length a * 2) a g | false ↦ make_room a j ]) a b × (cell b j ≡ 0) × (255 ≡ behind) × (T q → list ≡ robots_of (set b j (suc r)))
      go (same z) t =
          let s = same_robots_lem a g (and_right (eqb (cell (named list) j) (suc r)) (same_robots a g) t) in
          let u = eqb→eq (cell (named list) j) (suc r) (and_left (eqb (cell (named list) j) (suc r)) (same_robots a g) t) in
          let l : length (named list) ≡ length a = length_named list ∙ listed_length a r j list z u s in (
            g,
            solved a g (ready a g d (sym (length-set (named list) j 0 ∙ l)) f s),
            get_or-set_same (named list) j 0 0 (omega arith),
            e,
            λ q. sym (ap robots_of (set-set (named list) j 0 (suc r) ∙ (rw (← u) (set-get_or (named list) j 0))) ∙ robots_named list),
          )
      go (other z) t = let w = clear_room a j f in (w.0, w.1, w.2, e, λ q. absurd q)
