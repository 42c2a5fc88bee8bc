use Rattle.std.proofs.Common.{◌≡◌, ℕ, ◌+◌, ◌-◌, min, drop, sym, refl, ap, ◌∙◌, arith, rules}
use Rattle.spec.specs.Clique.{lowest_off}
use Rattle.theory.specs.Maps.Cells.{cell_none}
use Rattle.arranging.specs.Toward.{off_earlier, off_end}
use Rattle.arranging.proofs.toward.lowest_off.Goals as goal

pub loop-k-init : goal.loop-k-init
loop-k-init c = record { fits = omega arith; lowest = cell_none refl ∙ off_end c.args.cells.now c.args.goal.now c.min-k.result (omega (arith, c.min-k.ensures)) }

pub loop-k-preserved : goal.loop-k-preserved
loop-k-preserved c =
    let a = c.args.cells.now in
    let g = c.args.goal.now in
    let o = c.loop-k in
    let d : o.k - 1 + 1 ≡ o.k = omega arith in
    record {
      fits = omega (arith, o.invariant.fits);
      lowest = off_earlier a g (o.k - 1) o.lowest _ (omega (arith, c.min-k.ensures)) (search rules) o.invariant.fits
          (o.invariant.lowest ∙ ap (λ (i : ℕ). lowest_off (drop i a) (drop i g)) (sym d)) (search rules ∙ ap (λ (r : ℕ). min r o.lowest) c.robot_off.ensures);
    }

pub returns : goal.returns
returns c =
    let e : c.loop-k.k ≡ 0 = omega arith in
    c.cell_of.ensures ∙ c.loop-k.invariant.lowest ∙ ap (λ (i : ℕ). lowest_off (drop i c.args.cells.now) (drop i c.args.goal.now)) e
