use borrow.Author.Rules.{rules}
use Rattle.std.proofs.lemmas.Result.{err_from_is_err_and}
use Rattle.std.specs.Prelude.{Ok, Err}
use Rattle.testing.specs.declared.PlanFault.TheVariants as plan
use Rattle.walking.specs.Left.{start_consistent}
use Rattle.walking.specs.Given.{has_zone}
use Rattle.spec.specs.State as meaning
use lib.ListN.{length}
use Prim.Native.Nat.{◌≤◌}
use native.Mathlib.Omega.{arith}
use mathlib.Core.Path.{◌≡◌, sym, ap, ◌∙◌}
use Rattle.testing.specs.Steps.{has_list}
use Rattle.judge.specs.Judging.{judged_none, judged_refused, judged_surplus, judged_goals}
use Rattle.judge.proofs.plan.judge_plan.Goals as goal

pub returns-then-p-lt2 : goal.returns-then-p-lt2
returns-then-p-lt2 c = λ m pl d e pd es eg. judged_none c.args.p.file.now c.args.p.len c.args.p.inside c.if-p-lt2.true

pub lists_of-lists-requires : goal.lists_of-lists-requires
lists_of-lists-requires c =
    let a = c.args in
    let t = a.map.now in
    let b = c.requires.placement in
    (search rules, (search rules, λ z h. has_zone b.map t.vertices a.k t.kind t.first t.size t.listed t.zone t.place a.rows.now b.given z (rw b.count h)))

pub walk-requires : goal.walk-requires
walk-requires c =
    let a = c.args in
    let t = a.map.now in
    let b = c.requires.placement in
    let long : length a.starts ≡ 64 = search rules in
    let hc = start_consistent b.map b.given.accepted b.placing b.placed a.k a.starts _ (omega (arith, long, b.given.few)) b.on_starts c.standing-s.ensures in
    (search rules, (search rules, (omega (arith, c.if-p-lt2.false), record { map = b.map; given = b.given; state = _; consistent = hc; held = c.lists_of-lists.ensures.2 b.map a.map.now.vertices a.k a.map.now.kind a.map.now.zone a.map.now.place a.rows.now b.given b.count hc; room = c.lists_of-lists.ensures.0; many = c.lists_of-lists.ensures.1 })))

pub returns-in_err-next : goal.returns-in_err-next
returns-in_err-next c =
    let a = c.args in
    let long : length a.starts ≡ 64 = search rules in
    let p = err_from_is_err_and c.from_residual.result c.from_residual.ensures.1 in
    rw (p.1, p.2) (λ m pl d e pd es eg.
    let l : a.k ≤ length a.starts = omega (arith, long, d.few) in
    let hc = start_consistent m d.accepted pl pd a.k a.starts _ l es c.standing-s.ensures in
    let held = c.lists_of-lists.ensures.2 m a.map.now.vertices a.k a.map.now.kind a.map.now.zone a.map.now.place a.rows.now d e hc in
    judged_refused a.p.file.now a.p.len a.p.inside a.starts c.if-p-lt2.false c.payload_word-count.ensures.0 l es c.standing-s.ensures (c.in_err-next.ensures.2 m d _ hc held))

pub returns-then-next-p : goal.returns-then-next-p
returns-then-next-p c =
    λ m pl d e pd es eg.
    let a = c.args in
    let long : length a.starts ≡ 64 = search rules in
    let l : a.k ≤ length a.starts = omega (arith, long, d.few) in
    let hc = start_consistent m d.accepted pl pd a.k a.starts _ l es c.standing-s.ensures in
    let held = c.lists_of-lists.ensures.2 m a.map.now.vertices a.k a.map.now.kind a.map.now.zone a.map.now.place a.rows.now d e hc in
    judged_surplus a.p.file.now a.p.len a.p.inside a.starts c.if-p-lt2.false c.payload_word-count.ensures.0 l es c.standing-s.ensures (c.in_ok-next.ensures.2 m d _ hc held) c.if-next-p.true

pub off_zone-requires : goal.off_zone-requires
off_zone-requires c =
    let a = c.args in
    let t = a.map.now in
    let b = c.requires.placement in
    let long : length a.starts ≡ 64 = search rules in
    let hc = start_consistent b.map b.given.accepted b.placing b.placed a.k a.starts _ (omega (arith, long, b.given.few)) b.on_starts c.standing-s.ensures in
    let held = c.lists_of-lists.ensures.2 b.map a.map.now.vertices a.k a.map.now.kind a.map.now.zone a.map.now.place a.rows.now b.given b.count hc in
    let x = c.walk.ensures.2 b.map b.given _ hc held in
    (search rules, (search rules, λ z h. (has_zone b.map t.vertices a.k t.kind t.first t.size t.listed t.zone t.place a.rows.now b.given z (rw b.count h), has_list b.map t.vertices a.k t.kind t.first t.size t.listed t.zone t.place a.rows.now b.given x.state x.consistent _ _ x.held c.walk.ensures.0 c.walk.ensures.1 z (rw b.count h))))

pub returns-in-Some : goal.returns-in-Some
returns-in-Some c =
    λ m pl d e pd es eg.
    let a = c.args in
    let long : length a.starts ≡ 64 = search rules in
    let l : a.k ≤ length a.starts = omega (arith, long, d.few) in
    let hc = start_consistent m d.accepted pl pd a.k a.starts _ l es c.standing-s.ensures in
    let held = c.lists_of-lists.ensures.2 m a.map.now.vertices a.k a.map.now.kind a.map.now.zone a.map.now.place a.rows.now d e hc in
    let x = c.in_ok-next.ensures.2 m d _ hc held in
    judged_goals a.p.file.now a.p.len a.p.inside a.starts c.if-p-lt2.false c.payload_word-count.ensures.0 l es c.standing-s.ensures x (c.standing-g.ensures ∙ ap meaning.standing (sym eg)) c.if-next-p.false (Err (plan.Goal c.in-Some.z)) (c.in-Some.ensures m a.map.now.vertices a.k a.map.now.zone a.map.now.place a.rows.now d e x.state x.consistent x.held)

pub returns-in-None : goal.returns-in-None
returns-in-None c =
    λ m pl d e pd es eg.
    let a = c.args in
    let long : length a.starts ≡ 64 = search rules in
    let l : a.k ≤ length a.starts = omega (arith, long, d.few) in
    let hc = start_consistent m d.accepted pl pd a.k a.starts _ l es c.standing-s.ensures in
    let held = c.lists_of-lists.ensures.2 m a.map.now.vertices a.k a.map.now.kind a.map.now.zone a.map.now.place a.rows.now d e hc in
    let x = c.in_ok-next.ensures.2 m d _ hc held in
    judged_goals a.p.file.now a.p.len a.p.inside a.starts c.if-p-lt2.false c.payload_word-count.ensures.0 l es c.standing-s.ensures x (c.standing-g.ensures ∙ ap meaning.standing (sym eg)) c.if-next-p.false (Ok tt) (c.in-None.ensures m a.map.now.vertices a.k a.map.now.zone a.map.now.place a.rows.now d e x.state x.consistent x.held)
