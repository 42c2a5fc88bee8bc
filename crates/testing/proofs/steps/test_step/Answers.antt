use borrow.Author.Rules.{rules}
use native.Mathlib.Omega.{arith}
use mathlib.Core.Path.{◌≡◌, sym, ◌∙◌}
use Rattle.testing.specs.declared.StepFault.TheVariants as step
use Rattle.std.proofs.lemmas.Option.{MatchOption-at_some, MatchOption-at_none}
use Rattle.std.proofs.lemmas.Result.{err_from_is_err_and}
use Rattle.testing.specs.Steps.{step_cut, number_off, numbers_in, edge_off, ready_fits, leave_off, entry_left}
use Rattle.testing.proofs.steps.test_step.Goals as goal

pub returns-then-p-o-lt4 : goal.returns-then-p-o-lt4
returns-then-p-o-lt4 g c =
    let a = c.args in
    step_cut a.p.file.now a.p.len a.o a.map.now.vertices a.k a.map.now.kind a.map.now.first a.map.now.size a.map.now.listed a.map.now.zone a.map.now.place a.rows.now a.lists.now.counts a.lists.now.cells a.p.inside (omega (arith, c.if-p-o-lt4.true, c.requires.o_in_bounds))

pub returns-then-not-are_numbered : goal.returns-then-not-are_numbered
returns-then-not-are_numbered g c =
    let a = c.args in
    number_off a.p.file.now a.p.len a.o a.map.now.vertices a.k a.map.now.kind a.map.now.first a.map.now.size a.map.now.listed a.map.now.zone a.map.now.place a.rows.now a.lists.now.counts a.lists.now.cells a.p.inside (omega (arith, c.if-p-o-lt4.false, c.requires.o_in_bounds)) _ c.payload_four-bytes.ensures (sym c.are_numbered.ensures ∙ c.if-not-are_numbered.true)

pub returns-then-not-is_crossing : goal.returns-then-not-is_crossing
returns-then-not-is_crossing g c =
    let a = c.args in
    let below = numbers_in _ _ _ _ _ (sym c.are_numbered.ensures ∙ c.if-not-are_numbered.false) in
    edge_off a.p.file.now a.p.len a.o a.map.now.vertices a.k a.map.now.kind a.map.now.first a.map.now.size a.map.now.listed a.map.now.zone a.map.now.place a.rows.now a.lists.now.counts a.lists.now.cells a.p.inside (omega (arith, c.if-p-o-lt4.false, c.requires.o_in_bounds)) _ c.payload_four-bytes.ensures (sym c.are_numbered.ensures ∙ c.if-not-are_numbered.false)
    (λ m d. sym (c.is_crossing.ensures m a.k d below.0 below.1) ∙ c.if-not-is_crossing.true)

pub is_crossing-requires : goal.is_crossing-requires
is_crossing-requires g c =
    let below = numbers_in _ _ _ _ _ (sym c.are_numbered.ensures ∙ c.if-not-are_numbered.false) in
    (search rules, ((ready_fits c.requires.ready _ below.0).below, (ready_fits c.requires.ready _ below.1).below))

pub leave_at-stood-requires : goal.leave_at-stood-requires
leave_at-stood-requires g c =
    (search rules, (search rules, ready_fits c.requires.ready _ (numbers_in _ _ _ _ _ (sym c.are_numbered.ensures ∙ c.if-not-are_numbered.false)).0))

pub returns-in_err-out : goal.returns-in_err-out
returns-in_err-out g c =
    let a = c.args in
    let below = numbers_in _ _ _ _ _ (sym c.are_numbered.ensures ∙ c.if-not-are_numbered.false) in
    let p = err_from_is_err_and c.from_residual.result c.from_residual.ensures.1 in
    let e : c.in_err-out.field-0.0 ≡ step.Leave = grind arith in
    rw (p.1, p.2, e) (leave_off a.p.file.now a.p.len a.o a.map.now.vertices a.k a.map.now.kind a.map.now.first a.map.now.size a.map.now.listed a.map.now.zone a.map.now.place a.rows.now a.lists.now.counts a.lists.now.cells a.p.inside (omega (arith, c.if-p-o-lt4.false, c.requires.o_in_bounds)) _ c.payload_four-bytes.ensures (sym c.are_numbered.ensures ∙ c.if-not-are_numbered.false) c.requires.ready (λ m d. sym (c.is_crossing.ensures m a.k d below.0 below.1) ∙ c.if-not-is_crossing.false) (MatchOption-at_none _ _ c.in_err-out.ensures.ok_part c.leave_at-stood.ensures))

pub test_entry_at-requires : goal.test_entry_at-requires
test_entry_at-requires g c =
    (search rules, (search rules, (omega (arith, c.if-p-o-lt4.false, c.requires.o_in_bounds), ready_fits c.requires.ready _ (numbers_in _ _ _ _ _ (sym c.are_numbered.ensures ∙ c.if-not-are_numbered.false)).1)))

pub returns-in_err-into : goal.returns-in_err-into
returns-in_err-into g c =
    let a = c.args in
    let below = numbers_in _ _ _ _ _ (sym c.are_numbered.ensures ∙ c.if-not-are_numbered.false) in
    let p = err_from_is_err_and c.from_residual-in_err-into.result c.from_residual-in_err-into.ensures.1 in
    let t = MatchOption-at_some _ _ c.in_ok-out.out c.in_ok-out.ensures.ok_part c.leave_at-stood.ensures in
    rw (p.1, p.2) (entry_left a.p.file.now a.p.len a.o a.map.now.vertices a.k a.map.now.kind a.map.now.first a.map.now.size a.map.now.listed a.map.now.zone a.map.now.place a.rows.now a.lists.now.counts a.lists.now.cells a.p.inside (omega (arith, c.if-p-o-lt4.false, c.requires.o_in_bounds)) _ c.payload_four-bytes.ensures (sym c.are_numbered.ensures ∙ c.if-not-are_numbered.false) c.requires.ready (λ m d. sym (c.is_crossing.ensures m a.k d below.0 below.1) ∙ c.if-not-is_crossing.false) t.0 _ c.in_err-into.ensures)

pub returns : goal.returns
returns g c =
    let a = c.args in
    let below = numbers_in _ _ _ _ _ (sym c.are_numbered.ensures ∙ c.if-not-are_numbered.false) in
    let t = MatchOption-at_some _ _ c.in_ok-out.out c.in_ok-out.ensures.ok_part c.leave_at-stood.ensures in
    record {
      tests = entry_left a.p.file.now a.p.len a.o a.map.now.vertices a.k a.map.now.kind a.map.now.first a.map.now.size a.map.now.listed a.map.now.zone a.map.now.place a.rows.now a.lists.now.counts a.lists.now.cells a.p.inside (omega (arith, c.if-p-o-lt4.false, c.requires.o_in_bounds)) _ c.payload_four-bytes.ensures (sym c.are_numbered.ensures ∙ c.if-not-are_numbered.false) c.requires.ready (λ m d. sym (c.is_crossing.ensures m a.k d below.0 below.1) ∙ c.if-not-is_crossing.false) t.0 _ c.in_ok-into.ensures.tests;
      chosen = record { read = c.payload_four-bytes.ensures; stood = t.2; comes = c.in_ok-into.ensures.index };
    }
