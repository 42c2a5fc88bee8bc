-- `put_move`: a slice is shorter than 2 ^ 63, so a move from the 2 ^ 62-th on begins past the buffer's end.
use native.Mathlib.Omega.{arith}
use mathlib.Core.Path.{◌∙◌}
use Rattle.spec.specs.Arrangement.{mv}
use Rattle.motion.specs.World.{laid_move_lem, laid_move_past}
use Rattle.motion.proofs.put_move.Goals as goal

pub returns-then-n-lt4611686018427387904 : goal.returns-then-n-lt4611686018427387904
returns-then-n-lt4611686018427387904 c =
    let a = c.args in
    c.put_three.ensures ∙ laid_move_lem a.out.now a.n (mv a.r.0 a.from.0 a.to.0)

pub returns-else-n-lt4611686018427387904 : goal.returns-else-n-lt4611686018427387904
returns-else-n-lt4611686018427387904 c =
    let a = c.args in
    laid_move_past a.out.now a.n (mv a.r.0 a.from.0 a.to.0) (omega arith)
