use Rattle.std.proofs.Common.{◌≡◌, length}
use Rattle.reaching.specs.Row.{row_of}
use Rattle.reaching.proofs.row.RowIterator.next.Given as goal

abbrev pub invariant-loop-v : goal.invariant-loop-v
invariant-loop-v g l = row_of l.self.state.now l.self.zone.now ≡ row_of l.initial.self.state.now l.initial.self.zone.now

abbrev pub decreases-loop-v : goal.decreases-loop-v
decreases-loop-v g l = length l.self.zone.now
