-- A crossing from another state of the same tuple: its step passes there and leads to the same tuple. So every abstract plan can be walked.
use Rattle.std.specs.Prelude.{◌≡◌, ◌≢◌, ℕ, suc, ◌<◌}
use Rattle.std.proofs.Common.{◌∙◌}
use Rattle.spec.specs.Layout.{Map, zone_of, zone_at}
use Rattle.spec.specs.Arrangement.{cell}
use Rattle.spec.specs.State.{State, robot_on}
use Rattle.spec.specs.Terms.{arrangement_in, place_of}
use Rattle.theory.specs.Maps.Layout.{Accepted}
use Rattle.theory.specs.Maps.Cells.{cell_of_lem, cell_none, arrangement_cell}

module _ (m : Map) (g : Accepted m) where
  -- who stands on a vertex stands at its place
  pub on_cell : (s : State) (v r : ℕ) → v < m.size → r ≢ 255 → robot_on s v ≡ r → cell (arrangement_in m s (zone_of m v)) (place_of m v) ≡ suc r
  on_cell s v r h n e =
      let p = g.placed v h in
      arrangement_cell s (zone_at m (zone_of m v)) (place_of m v) p.place ∙ rw (p.vertex, e) (cell_of_lem n)

  -- and the place of an empty vertex is empty
  pub off_cell : (s : State) (v : ℕ) → v < m.size → robot_on s v ≡ 255 → cell (arrangement_in m s (zone_of m v)) (place_of m v) ≡ 0
  off_cell s v h e =
      let p = g.placed v h in
      arrangement_cell s (zone_at m (zone_of m v)) (place_of m v) p.place ∙ rw p.vertex (cell_none e)
