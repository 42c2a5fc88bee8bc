use Rattle.std.proofs.Common.{refl, sym, ◌∙◌, not, eqb, take, rules, tests, arith}
use Rattle.std.proofs.lemmas.Iterator.{YieldsList-from_slice}
use Rattle.std.proofs.lemmas.Iterator.Search.{all_from_yields_List}
use Rattle.zoning.specs.Found.{below_held}
use Rattle.zoning.proofs.reading.covered.Goals as goal

pub returns : goal.returns
returns c =
    let a = c.args in
    all_from_yields_List (λ z. not (eqb z 255)) _ _ c.all.result c.all.ensures.ran (YieldsList-from_slice (take c.min.result a.zone.now) cc) (λ x b q k. search (rules, tests))
    ∙ sym (below_held (λ z. not (eqb z 255)) a.zone.now a.n c.min.result refl (omega arith))
