use native.Mathlib.Omega.{arith}
use mathlib.Core.Path.{ap, ◌∙◌}
use mathlib.Core.List.{List}
use Rattle.spec.specs.Arrangement.{Move}
use Rattle.spec.specs.State.{arrangement_of, across}
use Rattle.motion.specs.World.{world, made_all}
use Rattle.motion.specs.Across.{arrangement_length}
use Rattle.hall.specs.Ends.{end_is}
use Rattle.hall.proofs.end.Goals as goal

pub returns : goal.returns
returns g c =
    let a = c.args in
    let z = a.zone.vertices.now in
    let l = c.line_up-n in
    let m = c.line_up-m in
    c.settle.ensures
    ∙ ap (λ (ms : List Move). made_all (world a.state.now a.count a.out.now) (across z ms))
    (end_is (arrangement_of a.state.now z) (arrangement_of a.goals.now z) l.result m.result _ _ _ _ _
    (omega (arith, l.ensures.short, arrangement_length a.state.now z, a.zone.short))
    (omega (arith, m.ensures.short, arrangement_length a.goals.now z, a.zone.short))
    c.min-k.ensures l.ensures m.ensures)
