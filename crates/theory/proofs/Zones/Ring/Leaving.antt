-- Rings: the test and moves of leaving are right.
-- What it rests on stands in specs/Zones/Ring/Leaving.antt.
use Rattle.std.specs.Prelude.{◌≡◌, Bool, true, false, ℕ, suc, ◌<◌, length, T, eqb}
use Rattle.std.proofs.Common.{eqb→eq}
use Rattle.spec.specs.Outcome.{member}
use Rattle.spec.specs.Arrangement.{Arrangement, cell, order, full}
use Rattle.spec.specs.Terms.{Runs, Distinct}
use Rattle.spec.specs.Ring.{push_to, ring_can_leave, ring_leave}
use Rattle.theory.specs.Basics.Tests.{Eqb, same, other, eqb?}
use Rattle.theory.specs.Zones.Arrangements.{room_left, member→cell}
use Rattle.theory.specs.Zones.Ring.Push.{push_none}
use Rattle.theory.proofs.Zones.Ring.Push.{push_to_lem}

-- a robot that may leave comes to j by the written moves
pub ring_leave_lem : (a : Arrangement) (r j : ℕ) → Distinct a → j < length a → T (ring_can_leave a r j) → (b : Arrangement) × Runs 4 (ring_leave a r j) a b × (cell b j ≡ suc r)
unfolding ring_can_leave ring_leave full
ring_leave_lem a r j d h t = go (eqb? (length (order a)) (length a)) t
  where
    go : {q : Bool} → Eqb (length (order a)) (length a) q → T (elim q [ true ↦ eqb (cell a j) (suc r) | false ↦ member r (order a) ])
        → (b : Arrangement) × Runs 4 (push_to a r j) a b × (cell b j ≡ suc r)
    go (same f) t = push_none a r j d (eqb→eq (cell a j) (suc r) t)
    go (other n) t = let s = member→cell a r t in push_to_lem a r j s.0 (room_left a n) h s.1
