-- Cliques: the test and moves of leaving are right.
use Rattle.std.specs.Prelude.{◌≡◌, ◌≢◌, Bool, true, false, [], ◌∷◌, ◌++◌, ℕ, suc, ◌-◌, ◌<◌, length, T}
use Rattle.std.proofs.Common.{◌∙◌, arith}
use Rattle.spec.specs.Outcome.{member}
use Rattle.spec.specs.Arrangement.{Arrangement, mv, cell, apply, order, seek, full}
use Rattle.spec.specs.Terms.{Inside, Runs, done, Reachable}
use Rattle.spec.specs.Clique.{make_room, clique_can_leave, clique_leave}
use Rattle.theory.specs.Basics.Searches.{seek_ok}
use Rattle.theory.specs.Basics.Tests.{Eqb, same, other, eqb?}
use Rattle.theory.specs.Zones.Arrangements.{free_place, seek_robot, room_left, member→cell}
use Rattle.theory.specs.Zones.Moves.{at_from, at_other, ◌▸◌, at_to, runs_append, runs_length}
use Rattle.theory.specs.Zones.Robots.{comes_to}
use Rattle.theory.specs.Zones.Clique.Searches.{hop}

-- the robot on place j goes to the earliest empty place; others stay
pub clear_room : (a : Arrangement) (j : ℕ) → length (order a) < length a
    → (b : Arrangement) × Runs 3 (make_room a j) a b × (cell b j ≡ 0) × ((i r : ℕ) → cell a i ≡ suc r → i ≢ j → cell b i ≡ suc r)
unfolding make_room
clear_room a j h = go (eqb? (cell a j) 0)
  where
    go : {b : Bool} → Eqb (cell a j) 0 b
        → (c : Arrangement) × Runs 3 (elim b [ true ↦ [] | false ↦ mv (cell a j - 1) j (seek 0 a) ∷ [] ]) a c × (cell c j ≡ 0) × ((i r : ℕ) → cell a i ≡ suc r → i ≢ j → cell c i ≡ suc r)
    go (same e) = (a, done, e, λ i r e n. e)
    go (other n) =
        let v = free_place a h in
        let w = seek_ok 0 a v.0 v.1 v.2 in
        let e : cell a j ≡ suc (cell a j - 1) = omega arith in
        let l : Inside 3 (mv (cell a j - 1) j (seek 0 a)) a = hop e w.0 w.1 in
        (apply a (mv (cell a j - 1) j (seek 0 a)), l ▸ done, at_from l, λ i r f k. at_other (mv (cell a j - 1) j (seek 0 a)) a i k (λ z. omega (arith, w.0, rw z at f)) ∙ f)

-- a robot that may leave comes to j by the written moves
pub clique_leave_lem : (a : Arrangement) (r j : ℕ) → j < length a → T (clique_can_leave a r j) → (b : Arrangement) × Runs 3 (clique_leave a r j) a b × (cell b j ≡ suc r)
unfolding clique_can_leave clique_leave full
clique_leave_lem a r j h t = go (eqb? (cell a j) (suc r)) (eqb? (length (order a)) (length a)) t
  where
    go : {p q : Bool} → Eqb (cell a j) (suc r) p → Eqb (length (order a)) (length a) q → T (elim q [ true ↦ p | false ↦ member r (order a) ])
        → (b : Arrangement) × Runs 3 (elim p [ true ↦ [] | false ↦ make_room a j ++ (mv r (seek (suc r) a) j ∷ []) ]) a b × (cell b j ≡ suc r)
    go (same e) q t = (a, done, e)
    go (other n) (same f) t = absurd t
    go (other n) (other f) t =
        let s = member→cell a r t in
        let p = seek_robot r a s.0 s.1 in
        let w = clear_room a j (room_left a f) in
        let l : Inside 3 (mv r (seek (suc r) a) j) w.0 = hop (w.3 (seek (suc r) a) r p (λ e. n (rw e at p))) w.2 (omega (arith, runs_length w.1)) in
        (apply w.0 (mv r (seek (suc r) a) j), runs_append w.1 (l ▸ done), at_to l)

-- a robot that can come to j may leave
pub clique_left : (a b : Arrangement) (r j : ℕ) → Reachable 3 a b → cell b j ≡ suc r → T (clique_can_leave a r j)
unfolding clique_can_leave
clique_left a b r j s e = comes_to a b r j s e
