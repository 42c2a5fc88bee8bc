use Rattle.std.proofs.Common.{◌≡◌, ◌+◌, ◌*◌, drop}
use Rattle.spec.specs.Outcome.{index_of}
use Rattle.rosters.proofs.finding.seek_from.Given as goal

abbrev pub invariant-loop-k : goal.invariant-loop-k
invariant-loop-k l = 8 * l.k + index_of l.r (drop (8 * l.k) l.list) ≡ index_of l.r l.list
