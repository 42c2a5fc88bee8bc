use Rattle.numbering.specs.Kind.{number_of, not_ring}
use Rattle.zones.specs.Near.{near_later, near_round, near_first}
use mathlib.Core.Path.{ap}
use native.Mathlib.Omega.{arith}
use Rattle.crossing.proofs.sides.near_place.Goals as goal

pub returns-then-j-gt0 : goal.returns-then-j-gt0
returns-then-j-gt0 c = near_later (number_of c.args.kind) c.args.m c.args.j c.if-j-gt0.true

pub returns-in-Ring : goal.returns-in-Ring
returns-in-Ring c =
    let a = c.args in
    near_round (number_of a.kind) a.m a.j (omega (arith, c.if-j-gt0.false)) (ap number_of c.in-Ring.is)

pub returns-in_default : goal.returns-in_default
returns-in_default c =
    let a = c.args in
    near_first (number_of a.kind) a.m a.j (omega (arith, c.if-j-gt0.false)) (not_ring _ c.in_default.not-Ring)
