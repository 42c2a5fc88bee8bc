use Prim.Native.Nat.{◌-◌}
use mathlib.Core.Path.{◌≡◌}
use lib.ListN.{take}
use Rattle.spec.specs.Arrangement.{last_named}
use Rattle.spec.specs.Ring.{opened, ring_behind}
use Rattle.spec.specs.State.{arrangement_of}
use Rattle.turns.proofs.turning.behind.Given as goal

abbrev pub invariant-loop-k : goal.invariant-loop-k
invariant-loop-k g l = last_named (take (l.k - 1) (opened l.j (arrangement_of l.state l.zone))) ≡ ring_behind (arrangement_of l.state l.zone) l.j
