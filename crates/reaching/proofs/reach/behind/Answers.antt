use Rattle.std.proofs.Common.{ℕ, ◌≡◌, ◌+◌, ◌-◌, take, drop, ap, sym, ◌∙◌, arith, rules, tests}
use Rattle.spec.specs.State.{arrangement_of}
use Rattle.spec.specs.Arrangement.{last_named}
use Rattle.reaching.specs.Reach.{behind_robot, behind_empty, behind_none, behind_least}
use Rattle.reaching.proofs.reach.behind.Goals as goal

pub loop-k-init : goal.loop-k-init
loop-k-init g c = behind_least c.args.state.now c.args.zone.now c.args.from c.args.j c.min-k.result c.min-k.ensures

pub returns-then-ne : goal.returns-then-ne
returns-then-ne g c =
    let a = c.args in
    let o = c.loop-k in
    let e : o.k - 1 + 1 ≡ o.k = omega arith in (
      sym (behind_robot a.state.now a.zone.now a.from (o.k - 1) c.robot_on-r.result.0 (omega arith) (omega (arith, c.min-k.ensures)) c.robot_on-r.ensures (search (rules, tests))
          ∙ ap (λ (k : ℕ). last_named (drop a.from (take k (arrangement_of a.state.now a.zone.now)))) e ∙ o.invariant),
      search (rules, tests),
    )

pub loop-k-preserved : goal.loop-k-preserved
loop-k-preserved g c =
    let a = c.args in
    let o = c.loop-k in
    let e : o.k - 1 + 1 ≡ o.k = omega arith in
    behind_empty a.state.now a.zone.now a.from (o.k - 1) c.robot_on-r.result.0 (omega arith) (omega (arith, c.min-k.ensures)) c.robot_on-r.ensures (search (rules, tests))
    ∙ ap (λ (k : ℕ). last_named (drop a.from (take k (arrangement_of a.state.now a.zone.now)))) e ∙ o.invariant

pub returns : goal.returns
returns g c = sym (behind_none c.args.state.now c.args.zone.now c.args.from c.loop-k.k (omega arith) ∙ c.loop-k.invariant)
