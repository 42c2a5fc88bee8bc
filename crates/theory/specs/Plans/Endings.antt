-- Endings: the goals are in the configurations reached exactly where the test says so, and then each zone is brought to them.
use Rattle.std.specs.Prelude.{◌≡◌}
use mathlib.Core.List.{List, []}
use Prim.Native.Nat.{ℕ, ◌≤◌, ◌<◌}
use Rattle.spec.specs.Layout.{Map}
use Rattle.spec.specs.Arrangement.{Move}
use Rattle.spec.specs.State.{State, moved_all, drawn_steps}
use Rattle.spec.specs.Terms.{arrangement_in, zone_count}
use Rattle.theory.specs.Maps.Moves.{Legals}

-- the moves are legal, bring the zones from i on to the goals, leave the others alone and draw nothing
pub record Ended (m : Map) (goal t : State) (i : ℕ) (xs : List Move) : Type 0 where
  pub legals : Legals m t xs
  pub reached : (y : ℕ) → i ≤ y → y < zone_count m → arrangement_in m (moved_all t xs) y ≡ arrangement_in m goal y
  pub kept : (y : ℕ) → y < zone_count m → y < i → arrangement_in m (moved_all t xs) y ≡ arrangement_in m t y
  pub silent : drawn_steps m t xs ≡ []
