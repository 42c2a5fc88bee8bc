use Rattle.std.proofs.Common.{◌≡◌, ◌≢◌, sym, ◌∙◌, rules, tests}
use Rattle.std.proofs.lemmas.Iterator.{IsFirst-from_position, YieldsList-from_slice}
use Rattle.lineup.specs.Goals.{index_first}
use Rattle.lineup.proofs.goals.index_of.Goals as goal

pub returns : goal.returns
returns c =
    let r = c.args.r in
    let l = c.args.robots.now in
    c.unwrap_or.ensures
    ∙ sym (index_first r l c.position.result
    (IsFirst-from_position _ _ _ (λ y. r ≡ y) (λ y. r ≢ y) c.position.ensures.ran (YieldsList-from_slice l cc) (λ y q k. search (rules, tests)) (λ y q k. search (rules, tests))))
