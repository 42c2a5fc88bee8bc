use Rattle.planning.specs.Planned.{judged_moves}
use Rattle.planning.proofs.judge_filed.Goals as goal

pub returns : goal.returns
returns c = let y = c.in_ok-read_filed.ensures in (y.moves, judged_moves _ _ _ _ _ y)
