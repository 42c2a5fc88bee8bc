use mathlib.Core.Path.{ap, ◌∙◌}
use Prim.Native.Nat.{ℕ}
use lib.ListN.{get_or}
use Rattle.motion.specs.World.{world}
use Rattle.turns.specs.Steps.{step_made}
use Rattle.turns.proofs.turning.step.Goals as goal

pub returns : goal.returns
returns g c =
    let a = c.args in
    step_made (world a.state.now a.count a.out.now) _ a.state.now a.zone.now a.p c.robot_on-r.result.0 c.vertex_at-v.result.0 c.vertex_at-w.result.0 c.requires.p_in_bounds c.requires.alone c.vertex_at-v.ensures
    (c.vertex_at-w.ensures ∙ ap (λ (i : ℕ). get_or a.zone.now i 0) c.next.ensures) c.robot_on-r.ensures c.make.ensures
