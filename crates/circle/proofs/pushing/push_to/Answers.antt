use native.Mathlib.Omega.{arith}
use mathlib.Core.Path.{ap, sym, ◌∙◌}
use lib.ListN.{length}
use Rattle.spec.specs.State.{arrangement_of, across}
use Rattle.motion.specs.World.{world, made_all}
use Rattle.motion.specs.Across.{arrangement_length}
use Rattle.circle.specs.Pushes.{pushes_to}
use Rattle.circle.proofs.pushing.push_to.Goals as goal

pub returns-in_default : goal.returns-in_default
returns-in_default g c = absurd (omega (arith, c.in_default.ensures, c.requires.zone_in_bounds))

pub returns : goal.returns
returns g c =
    let a = c.args in
    let z = a.zone.vertices.now in
    let s = a.state.now in
    c.push_times.ensures
    ∙ ap (λ ms. made_all (world a.state.now a.count a.out.now) (across z ms))
    (pushes_to (arrangement_of s z) a.r.0 a.j c.in-Some.p c.distance-n.result (length z) (sym (arrangement_length s z)) c.in-Some.ensures.1 c.distance-n.ensures)
