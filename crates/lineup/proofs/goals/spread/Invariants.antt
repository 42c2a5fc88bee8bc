use Rattle.std.proofs.Common.{◌≡◌, ◌++◌, take, drop}
use Rattle.lineup.specs.Goals.{goals_from}
use Rattle.lineup.proofs.goals.spread.Given as goal

abbrev pub invariant-loop-i : goal.invariant-loop-i
invariant-loop-i l = take l.i l.goals ++ goals_from l.t l.u l.j.index (drop l.i l.places) l.i ≡ goals_from l.t l.u l.j.index l.places 0
