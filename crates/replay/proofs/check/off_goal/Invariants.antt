use mathlib.Core.Path.{◌≡◌}
use lib.ListN.{take, drop}
use Rattle.spec.specs.Run.{on_goals}
use Rattle.replay.proofs.check.off_goal.Given as goal

abbrev pub invariant-loop-i : goal.invariant-loop-i
invariant-loop-i l = on_goals 0 l.state.vertices (take l.k l.goals) ≡ on_goals l.i l.state.vertices (drop l.i (take l.k l.goals))
