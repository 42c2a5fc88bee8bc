use Rattle.std.proofs.Common.{◌≡◌, take, drop}
use Rattle.spec.specs.State.{arrangement_of}
use Rattle.spec.specs.Arrangement.{last_named}
use Rattle.reaching.proofs.reach.behind.Given as goal

abbrev pub invariant-loop-k : goal.invariant-loop-k
invariant-loop-k g l =
    last_named (drop l.from (take l.k (arrangement_of l.state l.zone))) ≡ last_named (drop l.from (take l.j (arrangement_of l.state l.zone)))
