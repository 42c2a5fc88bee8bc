use Rattle.std.proofs.Common.{ℕ, ◌+◌, ◌∷◌, drop, refl, ap, sym, ◌∙◌, arith}
use Rattle.spec.specs.State.{arrangement_of}
use Rattle.motion.specs.Across.{arrangement_length, arrangement_next}
use Rattle.cells.specs.Cells.{overlaid_step, overlaid_end}
use Rattle.cells.proofs.arrangement.cells_of.Goals as goal

pub loop-k-preserved : goal.loop-k-preserved
loop-k-preserved g c =
    let s = c.args.state.now in
    let z = c.args.zone.now in
    let o = c.loop-k in
    let g = drop (o.k + 1) (arrangement_of s z) in
    overlaid_step (arrangement_of s z) o.cells _ o.k c.cell_of.result g (omega (arith, c.min-k-end.ensures))
    (arrangement_next s z o.k c.robot_on.result.0 (omega (arith, c.min-k-end.ensures)) c.robot_on.ensures ∙ ap (λ (x : ℕ). x ∷ g) (sym c.cell_of.ensures))
    refl ∙ o.invariant

pub returns : goal.returns
returns g c =
    let s = c.args.state.now in
    let z = c.args.zone.now in
    let o = c.loop-k in
    overlaid_end (arrangement_of s z) o.cells o.k (omega (arith, arrangement_length s z, c.min-k-end.ensures)) ∙ o.invariant
