use borrow.Author.Rules.{rules}
use native.Mathlib.Omega.{arith}
use mathlib.Core.Path.{◌≡◌}
use Rattle.testing.specs.Fault.{refusal_of}
use Rattle.std.proofs.lemmas.Result.{err_from_is_err_and}
use Rattle.judge.specs.Judging.{judging_start, judging_offset, judging_ready, judging_step, judging_room, judging_next, judging_stop, judging_end, mapped_ok, mapped_err}
use Rattle.judge.proofs.walk.walk.Goals as goal

pub loop-i-init : goal.loop-i-init
loop-i-init g c =
    let a = c.args in
    record { room = c.requires.ready.room; many = c.requires.ready.many; judging = λ m d s hc x. judging_start d a.p.file.now a.p.len a.p.inside a.count c.requires.two_bytes hc x }

pub test_step-requires : goal.test_step-requires
test_step-requires g c =
    let a = c.args in
    let q = c.requires.ready in
    let l = c.loop-i in
    let j = l.invariant.judging q.map q.given q.state q.consistent q.held in
    (search rules, (search rules, (judging_offset q.given a.p.file.now a.p.len a.p.inside a.count l.invariant.room l.invariant.many j, judging_ready q.given a.p.file.now a.p.len a.p.inside a.count l.invariant.room l.invariant.many j)))

pub returns-in_err-x : goal.returns-in_err-x
returns-in_err-x g c =
    let a = c.args in
    let l = c.loop-i in
    let p = err_from_is_err_and c.from_residual.result c.from_residual.ensures.1 in
    let w = mapped_err _ _ _ c.test_step.result c.map_err.result (λ t g. g ≡ refusal_of l.i-counter t) (λ t g h. search rules) c.in_err-x.field-0.0 c.map_err.ensures.cases c.test_step.ensures c.in_err-x.was in
    rw (p.1, p.2) (
      l.invariant.room,
      l.invariant.many,
      λ m d s hc x.
          let j = l.invariant.judging m d s hc x in
          judging_stop d a.p.file.now a.p.len a.p.inside a.count l.invariant.room l.invariant.many j w.0 w.2 (w.1 m d j.world.state j.walking.consistent j.held l.i-counter) c.loop-i-test.true,
    )

pub overflow_add-o : goal.overflow_add-o
overflow_add-o g c =
    let a = c.args in
    let q = c.requires.ready in
    let l = c.loop-i in
    let j = l.invariant.judging q.map q.given q.state q.consistent q.held in
    let t = mapped_ok _ _ _ c.test_step.result c.map_err.result c.in_ok-x.x c.map_err.ensures.cases c.test_step.ensures c.in_ok-x.was in
    let y = judging_room q.given a.p.file.now a.p.len a.p.inside a.count l.invariant.room l.invariant.many j _ (t.tests q.map q.given j.world.state j.walking.consistent j.held l.i-counter) in
    let z = c.well_formed.0.0 in
    let w = a.p.inside in
    search rules

pub overflow_add-o-in-loop-i : goal.overflow_add-o-in-loop-i
overflow_add-o-in-loop-i g c =
    let a = c.args in
    let q = c.requires.ready in
    let l = c.loop-i in
    let j = l.invariant.judging q.map q.given q.state q.consistent q.held in
    let t = mapped_ok _ _ _ c.test_step.result c.map_err.result c.in_ok-x.x c.map_err.ensures.cases c.test_step.ensures c.in_ok-x.was in
    let y = judging_room q.given a.p.file.now a.p.len a.p.inside a.count l.invariant.room l.invariant.many j _ (t.tests q.map q.given j.world.state j.walking.consistent j.held l.i-counter) in
    let z = c.well_formed.0.0 in
    let w = a.p.inside in
    search rules

pub make_step-requires : goal.make_step-requires
make_step-requires g c =
    let a = c.args in
    let q = c.requires.ready in
    let l = c.loop-i in
    let j = l.invariant.judging q.map q.given q.state q.consistent q.held in
    let t = mapped_ok _ _ _ c.test_step.result c.map_err.result c.in_ok-x.x c.map_err.ensures.cases c.test_step.ensures c.in_ok-x.was in
    (search rules, (search rules, (judging_step q.given a.p.file.now a.p.len a.p.inside a.count l.invariant.room l.invariant.many j _ (t.tests q.map q.given j.world.state j.walking.consistent j.held l.i-counter), t.chosen)))

pub loop-i-preserved : goal.loop-i-preserved
loop-i-preserved g c =
    let a = c.args in
    let q = c.requires.ready in
    let l = c.loop-i in
    let t = mapped_ok _ _ _ c.test_step.result c.map_err.result c.in_ok-x.x c.map_err.ensures.cases c.test_step.ensures c.in_ok-x.was in
    let j₀ = l.invariant.judging q.map q.given q.state q.consistent q.held in
    let y = c.make_step.ensures (judging_step q.given a.p.file.now a.p.len a.p.inside a.count l.invariant.room l.invariant.many j₀ _ (t.tests q.map q.given j₀.world.state j₀.walking.consistent j₀.held l.i-counter)) in
    record {
      room = y.room;
      many = y.many;
      judging = λ m d s hc x.
          let j = l.invariant.judging m d s hc x in
          let e = t.tests m d j.world.state j.walking.consistent j.held l.i-counter in
          judging_next d a.p.file.now a.p.len a.p.inside a.count l.invariant.room l.invariant.many j _ e c.loop-i-test.true (c.make_step.ensures (judging_step d a.p.file.now a.p.len a.p.inside a.count l.invariant.room l.invariant.many j _ e));
    }

pub returns : goal.returns
returns g c =
    let a = c.args in
    let l = c.loop-i in
    (l.invariant.room, l.invariant.many, λ m d s hc x. judging_end d a.p.file.now a.p.len a.p.inside a.count l.invariant.room l.invariant.many (l.invariant.judging m d s hc x) (omega arith))
