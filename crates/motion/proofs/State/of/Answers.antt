use Rattle.std.specs.Prelude.{refl}
use Rattle.std.proofs.Common.{ap₂, arith}
use Rattle.numbering.specs.declared.Robot.{Robot}
use Rattle.numbering.specs.declared.Vertex.{Vertex}
use Rattle.motion.specs.States.{robot_no, vertex_no, robot_at, vertex_at, numbers}
use Rattle.motion.specs.Tables.{fitted_none, fitted_more, fitted_all}
use Rattle.motion.proofs.State.of.Goals as goal

pub loop-i-init : goal.loop-i-init
loop-i-init g c = (omega arith, fitted_none Robot robot_no (robot_at 255) refl g.row.N c.args.robots.now)

pub loop-i-preserved : goal.loop-i-preserved
loop-i-preserved g c =
    let o = c.loop-i in
    (omega (arith, c.loop-i-test.true), fitted_more Robot robot_no _ o.on _ g.row.N o.i c.args.robots.now o.invariant.1 c.loop-i-test.true refl c.put_cell.ensures)

pub loop-i-2-init : goal.loop-i-2-init
loop-i-2-init g c = (omega arith, fitted_none Vertex vertex_no (vertex_at 255) refl g.row.M c.args.vertices.now)

pub loop-i-2-preserved : goal.loop-i-2-preserved
loop-i-2-preserved g c =
    let o = c.loop-i-2 in
    (omega (arith, c.loop-i-2-test.true), fitted_more Vertex vertex_no _ o.at _ g.row.M o.i c.args.vertices.now o.invariant.1 c.loop-i-2-test.true refl c.put_cell-in-loop-i-2.ensures)

pub returns : goal.returns
returns g c =
    let a = c.loop-i in
    let b = c.loop-i-2 in
    ap₂ numbers (fitted_all g.row.N a.i c.args.robots.now _ a.invariant.1 c.loop-i-test.false)
    (fitted_all g.row.M b.i c.args.vertices.now _ b.invariant.1 c.loop-i-2-test.false)
