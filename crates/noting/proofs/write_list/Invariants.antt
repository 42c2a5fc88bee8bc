use Rattle.noting.specs.Follow.{Following}
use Rattle.noting.proofs.write_list.Given as goal

abbrev pub invariant-loop-i : goal.invariant-loop-i
invariant-loop-i g l = Following l.state l.zone l.j l.r.0 l.off l.initial.out l.i l.out
