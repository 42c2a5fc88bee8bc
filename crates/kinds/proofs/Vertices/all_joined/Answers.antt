use Rattle.std.proofs.Common.{◌∙◌, ne_eqb}
use Rattle.kinds.specs.Marks.{meet_first, meet_second}
use Rattle.kinds.proofs.Vertices.all_joined.Goals as goal

pub returns-then-row-self : goal.returns-then-row-self
returns-then-row-self c =
    let a = c.args in
    rw c.words.ensures (meet_second a.rows.now a.self.now.low a.self.now.high a.v (rw c.words.ensures at c.if-row-self.true))

pub returns-else-row-self : goal.returns-else-row-self
returns-else-row-self c =
    let a = c.args in
    ne_eqb _ _ c.if-row-self.false ∙ meet_first a.rows.now a.self.now.low a.self.now.high a.v (rw c.words.ensures at c.if-row-self.false)
