use Rattle.kinds.specs.Links.{line_number}
use Rattle.std.proofs.Common.{◌≡◌, true}
use Rattle.spec.specs.Outcome.{below}
use Rattle.kinds.specs.Tests.{row_test}
use Rattle.kinds.specs.Places.{Between}
use Rattle.kinds.proofs.line_ok.Given as goal

abbrev pub invariant-loop-j : goal.invariant-loop-j
invariant-loop-j l = Between l.rows l.vertices l.between.low l.between.high l.j × (below (row_test l.rows l.vertices (line_number l.ring)) l.j ≡ true)
