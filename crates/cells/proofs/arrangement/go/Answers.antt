use Rattle.std.proofs.Common.{◌-◌, ap, ◌∙◌}
use Rattle.motion.specs.World.{world, made}
use Rattle.motion.specs.Across.{across_move_lem}
use Rattle.cells.proofs.arrangement.go.Goals as goal

pub returns-clause-out_after : goal.returns-clause-out_after
returns-clause-out_after g c =
    let a = c.args in
    c.make.ensures
    ∙ ap (made (world a.state.now a.count a.out.now))
    (across_move_lem a.zone.now _ (a.x - 1) a.i a.j _ _ c.saturating_sub.ensures c.vertex_at-v.ensures c.vertex_at-w.ensures)
