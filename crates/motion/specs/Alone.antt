-- What an arrangement reads of a state.
use Rattle.std.specs.Prelude.{◌≡◌, ℕ, List, map, get_or}
use Rattle.std.proofs.Common.{ap}
use Rattle.spec.specs.State.{State, cell_of, arrangement_of}

-- the robots alone: states with the same robots have the same arrangement of each zone
pub arrangement_alone : (s t : State) (vs : List ℕ) → s.robots ≡ t.robots → arrangement_of s vs ≡ arrangement_of t vs
unfolding arrangement_of
arrangement_alone s t vs e = ap (λ (robots : List ℕ). map (λ v. cell_of (get_or robots v 255)) vs) e
