use Rattle.std.specs.Prelude.{not, eqb}
use Rattle.std.proofs.Common.{◌∙◌, rules, tests}
use Rattle.std.proofs.lemmas.Iterator.{YieldsList-from_slice}
use Rattle.std.proofs.lemmas.Iterator.Search.{all_from_yields_List}
use Rattle.spec.specs.State.{robot_on}
use Rattle.cells.specs.Reading.{full_all}
use Rattle.cells.proofs.reading.is_full.Goals as goal

pub returns : goal.returns
returns g c =
    let s = c.args.state.now in
    let vs = c.args.zone.now in
    all_from_yields_List (λ v. not (eqb (robot_on s v) 255)) _ _ _ c.all.ensures.ran (YieldsList-from_slice vs cc) (λ y b q k. search (rules, tests))
    ∙ full_all s vs
