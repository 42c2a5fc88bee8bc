use Prim.Native.Nat.{suc}
use mathlib.Core.Path.{sym, ◌∙◌}
use lib.ListN.{length}
use Rattle.spec.specs.Arrangement.{seek}
use Rattle.spec.specs.State.{arrangement_of}
use Rattle.cells.specs.Cells.{found_inside}
use Rattle.motion.specs.Across.{arrangement_length}
use Rattle.vacating.specs.Leaving.{can_leave_full, can_leave_other}
use Rattle.vacating.proofs.leaving.can_leave.Goals as goal

pub returns-then-packed : goal.returns-then-packed
returns-then-packed g c = c.stands.ensures ∙ can_leave_full (arrangement_of c.args.state.now c.args.zone.now) c.args.r.0 c.args.j (sym c.if-packed.true ∙ c.is_full-packed.ensures)

pub returns : goal.returns
returns g c =
    let a = arrangement_of c.args.state.now c.args.zone.now in
    c.is_some.ensures ∙ found_inside (length c.args.zone.now) (seek (suc c.args.r.0) a) c.place_of.result c.place_of.ensures
    ∙ can_leave_other a c.args.r.0 c.args.j (length c.args.zone.now) (sym c.if-packed.false ∙ c.is_full-packed.ensures) (sym (arrangement_length c.args.state.now c.args.zone.now))
