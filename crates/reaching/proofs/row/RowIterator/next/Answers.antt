use Rattle.std.proofs.Common.{◌≡◌, ◌∷◌, length, sym, ◌∙◌, rules, tests}
use Rattle.reaching.specs.Row.{row_robot, row_empty, row_none}
use Rattle.reaching.proofs.row.RowIterator.next.Goals as goal

pub returns-then-ne-clause-steps : goal.returns-then-ne-clause-steps
returns-then-ne-clause-steps g c =
    let o = c.loop-v in
    let i = c.in-Some in
    let e : o.self.zone.now ≡ i.v.now ∷ i.rest.now = search rules in
    sym o.invariant ∙ row_robot o.self.state.now o.self.zone.now i.rest.now i.v.now c.robot_on-r.result.0 e c.robot_on-r.ensures (search (rules, tests))

pub returns-then-ne-clause-goes : goal.returns-then-ne-clause-goes
returns-then-ne-clause-goes g c =
    let o = c.loop-v in
    let i = c.in-Some in
    let e : o.self.zone.now ≡ i.v.now ∷ i.rest.now = search rules in
    let n = sym o.invariant ∙ row_robot o.self.state.now o.self.zone.now i.rest.now i.v.now c.robot_on-r.result.0 e c.robot_on-r.ensures (search (rules, tests)) in
    search rules

pub loop-v-preserved : goal.loop-v-preserved
loop-v-preserved g c =
    let o = c.loop-v in
    let i = c.in-Some in
    let e : o.self.zone.now ≡ i.v.now ∷ i.rest.now = search rules in
    sym (row_empty o.self.state.now o.self.zone.now i.rest.now i.v.now c.robot_on-r.result.0 e c.robot_on-r.ensures (search (rules, tests))) ∙ o.invariant

pub returns-clause-steps : goal.returns-clause-steps
returns-clause-steps g c =
    let o = c.loop-v in
    let e : length o.self.zone.now ≡ 0 = search rules in
    let n = row_none o.self.state.now o.self.zone.now e in
    (sym o.invariant ∙ n, n)
