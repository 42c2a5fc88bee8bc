use Rattle.std.proofs.Common.{◌∙◌}
use Rattle.configurations.specs.Entering.{found_if, hall_named, hall_unnamed}
use Rattle.configurations.proofs.entering.hall_entry.Goals as goal

pub returns-in_err-t : goal.returns-in_err-t
returns-in_err-t c =
    let a = c.args in
    rw c.from_residual.ensures (hall_unnamed a.list.now a.behind a.size a.j c.in_err-t.ensures)

pub returns : goal.returns
returns c =
    let a = c.args in
    let f = c.in_ok-t.ensures in
    found_if _ _ _ (c.has_room.ensures ∙ hall_named a.list.now a.behind a.size a.j _ f.1 f.0) f.1 f.0 c.then_some.ensures
