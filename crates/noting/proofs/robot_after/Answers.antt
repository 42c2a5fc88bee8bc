use Rattle.noting.specs.Follow.{seated_here, seated_there}
use Rattle.noting.proofs.robot_after.Goals as goal

pub returns-then-i-j : goal.returns-then-i-j
returns-then-i-j g c = seated_here _ _ _ _ _ c.if-i-j.true

pub returns-else-i-j : goal.returns-else-i-j
returns-else-i-j g c = seated_there _ _ _ _ _ _ c.if-i-j.false c.robot_on.ensures
