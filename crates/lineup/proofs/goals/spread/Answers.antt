use Rattle.std.proofs.Common.{◌+◌, ◌≡◌, ℕ, List, ◌∷◌, ◌++◌, append-nil, length, take, drop, ap, sym, ◌∙◌, arith}
use Rattle.lineup.specs.Line.{stored}
use Rattle.lineup.specs.Goals.{goals_from, goals_more, goals_done}
use Rattle.lineup.proofs.goals.spread.Goals as goal

pub loop-i-preserved : goal.loop-i-preserved
loop-i-preserved c =
    let a = c.args in
    let o = c.loop-i in
    let ps = a.places.now in
    let rest = goals_from a.t a.u a.j.index (drop (o.i + 1) ps) (o.i + 1) in
    stored o.goals o.i c.goal.result (goals_from a.t a.u a.j.index (drop o.i ps) o.i) rest _ (omega (arith, c.requires))
    (goals_more a.t a.u a.j.index ps o.i c.loop-i-test.true ∙ ap (λ (x : ℕ). x ∷ rest) (sym c.goal.ensures))
    o.invariant

pub returns : goal.returns
returns c =
    let a = c.args in
    let o = c.loop-i in
    let e : length a.places.now ≡ o.i = omega arith in
    ap (λ (k : ℕ). take k o.goals) e
    ∙ sym (append-nil (take o.i o.goals))
    ∙ ap (λ (l : List ℕ). take o.i o.goals ++ l) (sym (goals_done a.t a.u a.j.index a.places.now o.i c.loop-i-test.false)) ∙ o.invariant
