use Rattle.std.proofs.Common.{◌≡◌, refl, ap, rules, tests}
use Rattle.std.proofs.lemmas.Iterator.Consumers.{YieldsList-from_first}
use Rattle.spec.specs.Hall.{hall_can_end}
use Rattle.motion.specs.States.{robot_no}
use Rattle.reaching.specs.declared.row.Row.{Row}
use Rattle.motion.specs.Compared.{same_from_eq}
use Rattle.reaching.specs.Row.{row_of, robots_left}
use Rattle.reaching.proofs.reach.can_end.Goals as goal

pub returns : goal.returns
unfolding hall_can_end
returns g c =
    let s = c.args.state.now in
    let t = c.args.goals.now in
    let z = c.args.zone.now in
    same_from_eq (λ (a : Row g.row.P g.row.Q) (b : Row g.row.P g.row.Q). b ≡ a) _ c.eq.result c.eq.ensures.ran
    (YieldsList-from_first robot_no robots_left (row_of s z) refl)
    (λ it b. YieldsList-from_first robot_no robots_left (row_of t z) (ap robots_left b))
    (λ x y. search (rules, tests))
