-- Rings: the test and moves of leaving are right.
use Rattle.std.specs.Prelude.{◌≡◌, ℕ, suc, T}
use Rattle.spec.specs.Arrangement.{Arrangement, cell}
use Rattle.spec.specs.Terms.{Reachable}
use Rattle.spec.specs.Ring.{ring_can_leave}
use Rattle.theory.specs.Zones.Robots.{comes_to}

-- a robot that can come to j may leave
pub ring_left : (a b : Arrangement) (r j : ℕ) → Reachable 4 a b → cell b j ≡ suc r → T (ring_can_leave a r j)
unfolding ring_can_leave
ring_left a b r j s e = comes_to a b r j s e
