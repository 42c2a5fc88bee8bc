use Rattle.std.proofs.Common.{eqb, ◌∙◌, rules, tests}
use Rattle.std.proofs.lemmas.Iterator.{YieldsList-from_slice}
use Rattle.std.proofs.lemmas.Iterator.Search.{all_from_yields_List}
use Rattle.spec.specs.State.{robot_on}
use Rattle.turned.specs.Comparing.{cells_alike}
use Rattle.turned.proofs.comparing.same_cells.Goals as goal

pub returns : goal.returns
returns g c =
    let s = c.args.state.now in
    let t = c.args.goals.now in
    let z = c.args.zone.now in
    all_from_yields_List (λ v. eqb (robot_on s v) (robot_on t v)) _ _ _ c.all.ensures.ran (YieldsList-from_slice z cc) (λ x b q k. search (rules, tests)) ∙ cells_alike s t z
