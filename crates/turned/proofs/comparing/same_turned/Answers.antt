use Rattle.std.proofs.Common.{suc, length, ◌∙◌, arith, rules, tests}
use Rattle.std.proofs.lemmas.Iterator.{YieldsList-from_slice, YieldsList-from_map_by}
use Rattle.std.proofs.lemmas.Iterator.Search.{find_from_yields_List}
use Rattle.std.proofs.lemmas.Iterator.Consumers.{YieldsList-at}
use Rattle.spec.specs.Arrangement.{seek}
use Rattle.spec.specs.State.{robot_on, arrangement_of}
use Rattle.motion.specs.Across.{arrangement_length}
use Rattle.cells.specs.Cells.{found_or_size}
use Rattle.circle.specs.Reading.{seek_within}
use Rattle.turned.specs.Comparing.{robot?, number, first_found, turned_none, turned_from}
use Rattle.turned.proofs.comparing.same_turned.Goals as goal

pub returns-in_default : goal.returns-in_default
returns-in_default g c =
    let s = c.args.state.now in
    let z = c.args.zone.now in
    let first = first_found s z c.find.result
    (find_from_yields_List robot? _ _ c.find.result c.find.ensures.ran
    (YieldsList-from_map_by _ number (robot_on s) (YieldsList-at c.map.ensures.source (YieldsList-from_slice z c.iter.ensures.rest)) c.map.ensures.closure (λ x r q k. search (rules, tests)))
    (λ x b q k. search (rules, tests))) in
    c.is_vacant.ensures ∙ turned_none (arrangement_of s z) (arrangement_of c.args.goals.now z) (rw c.in_default.is at first)

pub same_round-requires : goal.same_round-requires
same_round-requires g c =
    let t = c.args.goals.now in
    let z = c.args.zone.now in
    let e = c.unwrap_or-q.ensures ∙ found_or_size (length z) (seek (suc c.in-Some.r.0) (arrangement_of t z)) c.place_of.result c.place_of.ensures in
    omega (arith, e, seek_within (suc c.in-Some.r.0) (arrangement_of t z), arrangement_length t z)

pub returns : goal.returns
returns g c =
    let s = c.args.state.now in
    let z = c.args.zone.now in
    let first = first_found s z c.find.result
    (find_from_yields_List robot? _ _ c.find.result c.find.ensures.ran
    (YieldsList-from_map_by _ number (robot_on s) (YieldsList-at c.map.ensures.source (YieldsList-from_slice z c.iter.ensures.rest)) c.map.ensures.closure (λ x r q k. search (rules, tests)))
    (λ x b q k. search (rules, tests))) in
    let f = rw c.in-Some.is at first in
    let b = arrangement_of c.args.goals.now z in
    let e = c.unwrap_or-q.ensures ∙ found_or_size (length z) (seek (suc c.in-Some.r.0) b) c.place_of.result c.place_of.ensures in
    c.same_round.ensures ∙ turned_from (arrangement_of s z) b c.in-Some.r.0 c.unwrap_or-q.result f.0 f.1 e
