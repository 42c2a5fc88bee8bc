-- What is claimed of the four services.
-- What it rests on stands in specs/Terms/Services.antt.
use Rattle.spec.specs.Terms.{controller, Terms}
use Rattle.theory.specs.Terms.Services.{zeroed, listed, refuses}
use Rattle.theory.proofs.Terms.Services.{resolves, cleared, draws, drawn, times, timed, one_plan, sound, complete, round_trip}

-- ---- demand 3

-- document 01's services meet the terms
pub terms : Terms controller
terms = record {
  zeroed = zeroed;
  listed = listed;
  refuses = refuses;
  resolves = resolves;
  cleared = cleared;
  draws = draws;
  drawn = drawn;
  one_plan = one_plan;
  round_trip = round_trip;
  times = times;
  timed = timed;
  sound = sound;
  complete = complete;
}
