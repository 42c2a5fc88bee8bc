use borrow.Author.Rules.{rules}
use Rattle.std.proofs.Common.{ℕ, length, subst, sym, tests}
use Rattle.cells.specs.Cells.{PlaceFound}
use Rattle.turns.specs.Turns.{begins_taken, begins_nowhere, begins_behind, begins_never}
use Rattle.turns.proofs.turning.turn_place.Goals as goal

pub returns-then-ne : goal.returns-then-ne
returns-then-ne g c =
    let a = c.args in
    (search rules, begins_taken a.state.now a.zone.now a.j a.named.0 c.robot_at.result.0 c.robot_at.ensures (search (rules, tests)))

pub returns-in_default : goal.returns-in_default
returns-in_default g c =
    let a = c.args in
    begins_never a.state.now a.zone.now a.j a.named.0 c.robot_at.result.0 c.robot_at.ensures (search (rules, tests)) c.in_default.ensures

pub returns-then-eq : goal.returns-then-eq
returns-then-eq g c =
    let a = c.args in
    sym (begins_nowhere a.state.now a.zone.now a.j a.named.0 c.robot_at.result.0 c.in-Some.b.0 c.robot_at.ensures (search (rules, tests)) c.in-Some.ensures.0 (search (rules, tests)))

pub returns : goal.returns
returns g c =
    let a = c.args in
    let z = a.zone.now in
    let f = c.in-Some.ensures in
    subst (λ (i : ℕ). PlaceFound (length z) i c.place_of.result)
    (begins_behind a.state.now z a.j a.named.0 c.robot_at.result.0 c.in-Some.b.0 c.robot_at.ensures (search (rules, tests)) f.0 (search (rules, tests)))
    c.place_of.ensures
