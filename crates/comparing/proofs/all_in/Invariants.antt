use Rattle.std.proofs.Common.{◌≡◌, length, drop}
use Rattle.comparing.specs.Marks.{marked}
use Rattle.comparing.specs.Comparing.{no_marks}
use Rattle.comparing.proofs.all_in.Given as goal

abbrev pub invariant-loop-x : goal.invariant-loop-x
invariant-loop-x l = (length l.there ≡ 256) × (marked (drop l.x-index l.goal) l.there ≡ marked l.goal no_marks)
