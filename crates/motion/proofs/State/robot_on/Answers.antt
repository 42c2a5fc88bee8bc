use mathlib.Core.Path.{ap, sym, ◌∙◌}
use lib.ListN.{get_or-map}
use Rattle.numbering.specs.declared.Robot.{Robot}
use Rattle.spec.specs.State as meaning
use Rattle.motion.specs.States.{robot_no}
use Rattle.motion.proofs.State.robot_on.Goals as goal

pub returns : goal.returns
returns g c =
    let v = c.args.v.0 in
    ap (λ (r : Robot). r.0) c.cell_or.ensures ∙ sym (get_or-map robot_no c.self.inside.robots v (record { 0 = 255 }))
    ∙ ap (λ (x : meaning.State). meaning.robot_on x v) c.self.view_is
