use Rattle.std.proofs.Common.{false, sym, ◌∙◌, arith, rules, tests}
use Rattle.std.proofs.lemmas.Iterator.{YieldsList-from_slice, YieldsList-from_zip}
use Rattle.std.proofs.lemmas.Iterator.Consumers.{fold_from_yields_List}
use Rattle.arranging.specs.Toward.{seen_open, none_open}
use Rattle.arranging.proofs.opening.has_open.Goals as goal

pub returns : goal.returns
returns c = λ e.
    let a = c.args.cells.now in
    let g = c.args.goal.now in
    let f = fold_from_yields_List _ seen_open false c.fold.result c.fold.ensures.ran (YieldsList-from_zip (YieldsList-from_slice a cc) (YieldsList-from_slice g cc)) (λ s x b q k. search (rules, tests)) in
    λ j h. (none_open a g false (sym f ∙ e)).1 j (omega (arith, c.requires.0)) (omega (arith, c.requires.1))
