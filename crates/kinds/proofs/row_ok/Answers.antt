use Rattle.kinds.specs.Links.{line_number, line_not_clique}
use Rattle.std.proofs.Common.{sym, ◌∙◌, get_or}
use Rattle.kinds.specs.Tests.{differ, agree}
use Rattle.kinds.specs.Places.{line_before, line_first, line_between}
use Rattle.kinds.proofs.row_ok.Goals as goal

pub returns-then-not-joined : goal.returns-then-not-joined
returns-then-not-joined c =
    let a = c.args in
    let q = c.requires.place in
    line_before a.rows.now a.vertices.now (line_number a.ring) (line_not_clique a.ring) a.j q.0 (rw c.words.ensures at (sym c.joined.ensures ∙ c.if-not-joined.true))

pub returns-then-first-first_linked : goal.returns-then-first-first_linked
returns-then-first-first_linked c =
    let a = c.args in
    let q = c.requires.place in
    line_first a.rows.now a.vertices.now (line_number a.ring) (line_not_clique a.ring) a.j q.0 (rw c.words.ensures at (sym c.joined.ensures ∙ c.if-not-joined.false)) (differ (rw c.words-2.ensures at c.joined-first.ensures) c.first_linked.ensures c.if-first-first_linked.true)

pub returns : goal.returns
returns c =
    let a = c.args in
    let q = c.requires.place in
    c.none_joined.ensures ∙ c.requires.between (get_or a.vertices.now a.j 0)
    ∙ line_between a.rows.now a.vertices.now (line_number a.ring) (line_not_clique a.ring) a.j q.0 (rw c.words.ensures at (sym c.joined.ensures ∙ c.if-not-joined.false)) (agree (rw c.words-2.ensures at c.joined-first.ensures) c.first_linked.ensures c.if-first-first_linked.false)
