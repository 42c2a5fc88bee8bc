use Rattle.std.proofs.Common.{ℕ, length, sym, subst, rules}
use Rattle.spec.specs.Arrangement.{seek}
use Rattle.spec.specs.State.{arrangement_of}
use Rattle.cells.specs.Cells.{PlaceFound}
use Rattle.cells.specs.Reading.{seek_nobody}
use Rattle.theory.specs.Maps.Cells.{cell_of_lem}
use Rattle.cells.proofs.reading.place_of.Goals as goal

pub returns-then-eq : goal.returns-then-eq
returns-then-eq g c = sym (seek_nobody c.args.state.now c.args.zone.now c.args.r.0 (search rules))

pub returns : goal.returns
returns g c =
    let z = c.args.zone.now in
    subst (λ (x : ℕ). PlaceFound (length z) (seek x (arrangement_of c.args.state.now z)) c.seek_robot.result) (cell_of_lem (search rules)) c.seek_robot.ensures
