use borrow.Author.Rules.{rules}
use native.Mathlib.Omega.{arith}
use mathlib.Core.Path.{ap, ◌∙◌}
use Prim.Native.Nat.{suc, ◌<◌}
use lib.ListN.{length}
use Rattle.spec.specs.Arrangement.{seek}
use Rattle.spec.specs.State.{arrangement_of, across}
use Rattle.motion.specs.World.{world, made_all}
use Rattle.motion.specs.Across.{arrangement_length}
use Rattle.circle.specs.Pushes.{leaves_to}
use Rattle.circle.specs.Reading.{leave_inside}
use Rattle.ring.proofs.leave.Goals as goal

pub push_to-requires : goal.push_to-requires
push_to-requires g c =
    let a = c.args in
    let s = a.state.now in
    let z = a.zone.vertices.now in
    let h : seek (suc a.r.0) (arrangement_of s z) < length z = omega (arith, leave_inside (arrangement_of s z) a.r.0 a.j c.requires.j_value, arrangement_length s z) in
    search (rules, h)

pub returns : goal.returns
returns g c =
    let a = c.args in
    c.push_to.ensures
    ∙ ap (λ ms. made_all (world a.state.now a.count a.out.now) (across a.zone.vertices.now ms)) (leaves_to (arrangement_of a.state.now a.zone.vertices.now) a.r.0 a.j)
