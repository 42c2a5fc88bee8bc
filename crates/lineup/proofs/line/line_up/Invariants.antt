use Rattle.spec.specs.State.{arrangement_of}
use Rattle.lineup.specs.Line.{Collected}
use Rattle.lineup.proofs.line.line_up.Given as goal

abbrev pub invariant-loop-k : goal.invariant-loop-k
invariant-loop-k g l = Collected (arrangement_of l.state l.zone.vertices.now) l.k l.n l.line l.places
