-- Instances: what an accepted map and placing say.
use Rattle.std.specs.Prelude.{◌≡◌, List, ℕ}
use Rattle.spec.specs.Outcome.{ok}
use Rattle.spec.specs.Services.{Instance, instance_of}
use Rattle.theory.specs.Basics.Outcomes.{ok_injective, bound}
use Rattle.theory.specs.Maps.Layout.{Accepted, map_accepted}
use Rattle.theory.specs.Maps.Placing.{Placed, placing_accepted}

-- the map and the placing are accepted
pub record Accepted-instance (it : Instance) : Type 0 where
  pub accepted : Accepted it.graph
  pub placed : Placed it.graph.size it.placing

-- an instance that is read is so
pub instance_accepted : (a b : List ℕ) (it : Instance) → instance_of a b ≡ ok it → Accepted-instance it
unfolding instance_of
instance_accepted a b it e =
    let mp = bound _ _ _ e in
    let m = bound _ _ _ mp.2 in
    let pp = bound _ _ _ m.2 in
    let pl = bound _ _ _ pp.2 in
    rw (← ok_injective pl.2) (record { accepted = map_accepted mp.0 m.0 m.1; placed = placing_accepted m.0 pp.0 pl.0 pl.1 })
