use native.Mathlib.Omega.{arith}
use Rattle.std.proofs.Common.{length, ◌≤◌, rules, tests}
use Rattle.motion.specs.Coupling.{Listed, listed_short}
use Rattle.ring.proofs.is_short.Goals as goal

pub returns : goal.returns
returns g c =
    let z = c.args.ring.now in
    let L : Listed 256 z = record { under = λ i _. omega (arith, c.type_inv.ring i); once = c.requires.once } in
    let h : length z ≤ 256 = listed_short 256 z L in
    (search (rules, tests, h), h)
