use Rattle.std.proofs.Common.{◌<◌, ap, ◌∙◌, arith, rules, tests, true, false}
use Rattle.std.proofs.lemmas.Iterator.{IsFirst-from_position, YieldsList-from_slice}
use Rattle.std.specs.Int.Count.{count_trailing_zeros}
use Rattle.tabling.specs.Places.{free_word, free_seek, free_inside, first_tested}
use Rattle.tabling.proofs.placing.earliest.Goals as goal

pub returns-then-w-gt0 : goal.returns-then-w-gt0
returns-then-w-gt0 g c = λ a t.
    let e = c.free_word-w.ensures a t in
    let p : 0 < free_word 64 a = omega (arith, e) in
    let i = ap (count_trailing_zeros 64) e ∙ free_seek 64 a p in
    (omega (arith, i, t.0, free_inside 64 a p), i)

pub returns : goal.returns
returns g c = λ a t.
    let answers = goal.F-post g c.args.is_empty in
    let places = c.args.places.now in
    first_tested answers places a c.position.result t
    (IsFirst-from_position _ _ _ (λ x. answers x true) (λ x. answers x false) c.position.ensures.ran (YieldsList-from_slice places cc) (λ x q k. search (rules, tests)) (λ x q k. search (rules, tests)))
