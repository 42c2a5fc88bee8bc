-- Configurations: what is reachable in a zone of each kind, and that the tests of leaving, entering and ending hold exactly if it is reachable.
use Rattle.std.specs.Prelude.{◌≡◌, ◌↔◌, ℕ, length}
use Rattle.spec.specs.Arrangement.{Arrangement, order}
use Rattle.spec.specs.Terms.{Reachable}
use Rattle.theory.specs.Zones.Moves.{runs_length}
use Rattle.theory.specs.Zones.Hall.Order.{IsHall, runs_order}
use Rattle.theory.specs.Zones.Hall.Ending.{hall_reach}

-- ---- what is reachable

-- in a hall or a stack: the arrangements of the same order
pub hall_configuration : {kind : ℕ} → IsHall kind → (a b : Arrangement) → Reachable kind a b ↔ ((length a ≡ length b) × (order a ≡ order b))
hall_configuration i a b = (λ s. (runs_length s.1, runs_order i s.1), λ h. hall_reach a b h.0 h.1)
