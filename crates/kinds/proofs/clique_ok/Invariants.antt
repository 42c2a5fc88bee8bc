use Rattle.std.proofs.Common.{◌≡◌, true}
use Rattle.spec.specs.Outcome.{below}
use Rattle.kinds.specs.Tests.{row_test}
use Rattle.kinds.specs.Places.{Below}
use Rattle.kinds.proofs.clique_ok.Given as goal

abbrev pub invariant-loop-v : goal.invariant-loop-v
invariant-loop-v l = Below l.rows l.vertices l.before.low l.before.high l.v-index × (below (row_test l.rows l.vertices 3) l.v-index ≡ true)
