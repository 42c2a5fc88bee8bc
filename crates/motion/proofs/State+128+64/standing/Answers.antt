use borrow.Author.Rules.{rules}
use mathlib.Core.Path.{refl, ap}
use native.Mathlib.Omega.{arith}
use lib.ListN.{get_or, set}
use Rattle.motion.specs.States.{standing_none, standing_next, standing_all, length_mapped, code_state}
use Rattle.motion.proofs.State+128+64.standing.Goals as goal

pub loop-i-init : goal.loop-i-init
loop-i-init c = standing_none c.args.starts c.min-i-end.result (omega (arith, c.min-i-end.ensures)) (search (rules, length_mapped))

pub loop-i-preserved : goal.loop-i-preserved
loop-i-preserved c =
    let o = c.loop-i in
    let vs = c.args.starts in
    standing_next vs _ o.i (record { robots = o.robots; vertices = o.vertices }) _ (record { 0 = o.i }) (record { 0 = get_or vs o.i 0 }) o.invariant (search rules) refl refl
    (ap (λ l. code_state l (set o.vertices o.i (record { 0 = get_or vs o.i 0 }))) c.put_cell.ensures)

pub returns : goal.returns
returns c =
    let o = c.loop-i in
    standing_all c.args.starts c.args.k _ o.i (record { robots = o.robots; vertices = o.vertices }) o.invariant (search rules) c.min-i-end.ensures
