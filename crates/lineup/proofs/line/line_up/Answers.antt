use Rattle.std.proofs.Common.{arith, rules, tests}
use Rattle.lineup.specs.Line.{collect_robot, collect_empty, collect_all}
use Rattle.lineup.proofs.line.line_up.Goals as goal
use Rattle.lineup.proofs.line.line_up.Goals.{then-ne, else-ne}

pub loop-k-preserved : goal.loop-k-preserved
loop-k-preserved g c =
    let a = c.args in
    let o = c.loop-k in
    elim c.if-ne.branch [
      | then-ne w ↦
          rw (w.n-is, w.line-is, w.places-is)
          (collect_robot a.state.now a.zone.vertices.now o.k o.n c.robot_on-r.result.0 o.line o.places c.loop-k-test.true
          c.robot_on-r.ensures (search (rules, tests)) (omega (arith, o.invariant.short, c.requires)) (omega (arith, o.invariant.short, c.requires)) o.invariant)
      | else-ne w ↦
          rw (w.n-is, w.line-is, w.places-is)
          (collect_empty a.state.now a.zone.vertices.now o.k o.n c.robot_on-r.result.0 o.line o.places c.loop-k-test.true
          c.robot_on-r.ensures (search (rules, tests)) o.invariant)
    ]

pub returns : goal.returns
returns g c =
    let o = c.loop-k in
    collect_all c.args.state.now c.args.zone.vertices.now o.k o.n o.line o.places (omega arith) o.invariant
