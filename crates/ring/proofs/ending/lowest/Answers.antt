use Rattle.std.proofs.Common.{rules, tests}
use Rattle.std.proofs.lemmas.Iterator.{YieldsList-from_slice, YieldsList-from_map_by}
use Rattle.std.proofs.lemmas.Iterator.Consumers.{YieldsList-at, YieldsList-from_filter, min_from_yields_List}
use Rattle.spec.specs.State.{robot_on}
use Rattle.turned.specs.Comparing.{robot?, number}
use Rattle.ring.specs.Ending.{lowest_found}
use Rattle.ring.proofs.ending.lowest.Goals as goal

pub returns : goal.returns
returns g c =
    let s = c.args.state.now in
    let z = c.args.zone.now in
    lowest_found s z c.min.result
    (min_from_yields_List c.filter.result c.min.result c.min.ensures.ran
    (YieldsList-from_filter _ robot?
    (YieldsList-at c.filter.ensures.source (YieldsList-from_map_by _ number (robot_on s) (YieldsList-at c.map.ensures.source (YieldsList-from_slice z c.iter.ensures.rest)) c.map.ensures.closure (λ x r q k. search (rules, tests))))
    c.filter.ensures.closure (λ x b q k. search (rules, tests))))
