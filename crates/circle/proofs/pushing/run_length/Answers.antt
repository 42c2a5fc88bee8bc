use Rattle.std.proofs.Common.{eqb, not, take, drop, ◌-◌, ◌++◌, length, ◌∙◌, take_all, length-drop, arith, rules, tests}
use Rattle.std.proofs.lemmas.List.Folds.{length-prefix_len}
use Rattle.std.proofs.lemmas.Iterator.{YieldsList-from_slice}
use Rattle.std.proofs.lemmas.Iterator.Search.{YieldsList-from_take_while}
use Rattle.std.proofs.lemmas.Iterator.Consumers.{YieldsList-at, YieldsList-from_chain, count_from_yields_List}
use Rattle.spec.specs.State.{robot_on}
use Rattle.circle.specs.Runs.{run_counted}
use Rattle.circle.proofs.pushing.run_length.Goals as goal

pub returns : goal.returns
returns g c =
    let a = c.args in
    let s = a.state.now in
    let z = a.zone.now in
    let rest = c.iter.ensures.rest ∙ take_all (length z - a.p) (drop a.p z) (omega (arith, length-drop a.p z)) in
    count_from_yields_List c.take_while.result _ c.count.ensures.ran
    (YieldsList-from_take_while _ (λ v. not (eqb (robot_on s v) 255))
    (YieldsList-at c.take_while.ensures.source
    (YieldsList-from_chain (YieldsList-at c.chain.ensures.first (YieldsList-from_slice (drop a.p z) rest)) (YieldsList-from_slice (take a.p z) c.chain.ensures.second.0) c.chain.ensures.first_done c.chain.ensures.second_done))
    c.take_while.ensures.closure c.take_while.ensures.done (λ x b q k. search (rules, tests)))
    ∙ length-prefix_len _ (drop a.p z ++ take a.p z) ∙ run_counted s z a.p
