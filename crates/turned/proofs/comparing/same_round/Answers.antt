use Rattle.std.proofs.Common.{◌≡◌, refl, take, drop, ◌-◌, length, ◌∙◌, ap₂, take_all, length-drop, arith, rules, tests}
use Rattle.std.proofs.lemmas.Iterator.{YieldsList-from_slice, YieldsList-from_map_by}
use Rattle.std.proofs.lemmas.Iterator.Consumers.{YieldsList-at, YieldsList-from_chain, YieldsList-from_filter}
use Rattle.spec.specs.Outcome.{same_list}
use Rattle.spec.specs.State.{robot_on}
use Rattle.motion.specs.Compared.{same_from_eq}
use Rattle.turned.specs.Comparing.{robot?, number, robots_listed, robots_round}
use Rattle.turned.proofs.comparing.same_round.Goals as goal

pub returns : goal.returns
returns g c =
    let s = c.args.state.now in
    let t = c.args.goals.now in
    let z = c.args.zone.now in
    let n = c.args.q in
    let rest = c.iter.ensures.rest ∙ take_all (length z - n) (drop n z) (omega (arith, length-drop n z)) in
    let round = YieldsList-from_chain (YieldsList-at c.chain-round.ensures.first (YieldsList-from_slice (drop n z) rest)) (YieldsList-from_slice (take n z) c.chain-round.ensures.second.0) c.chain-round.ensures.first_done c.chain-round.ensures.second_done in
    same_from_eq (λ x y. y ≡ x) c.filter.result c.eq.result c.eq.ensures.ran
    (YieldsList-from_filter _ robot?
    (YieldsList-at c.filter-robots.ensures.source (YieldsList-from_map_by _ number (robot_on s) (YieldsList-at c.map.ensures.source (YieldsList-from_slice z c.iter-2.ensures.rest)) c.map.ensures.closure (λ x r q k. search (rules, tests))))
    c.filter-robots.ensures.closure (λ x b q k. search (rules, tests)))
    (λ it e. YieldsList-at e (YieldsList-from_filter _ robot?
    (YieldsList-at c.filter.ensures.source (YieldsList-from_map_by _ number (robot_on t) (YieldsList-at c.map-2.ensures.source round) c.map-2.ensures.closure (λ x r q k. search (rules, tests))))
    c.filter.ensures.closure (λ x b q k. search (rules, tests))))
    (λ x y. refl)
    ∙ ap₂ same_list (robots_listed s z) (robots_round t z n)
