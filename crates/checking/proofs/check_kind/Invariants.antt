-- `check_kind`: at each turn, what is left to check gives what the whole file gives (`Going`); one law for each way out.
use Rattle.checking.specs.Checked.{Going}
use Rattle.checking.proofs.check_kind.Given as goal

abbrev pub invariant-loop-i : goal.invariant-loop-i
invariant-loop-i l = Going l.kind l.limit l.file l.count l.i l.len
