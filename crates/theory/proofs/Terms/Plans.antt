-- What is claimed of one zone's configurations and of plans: Ryan's Theorem 1.
-- What it rests on stands in specs/Terms/Plans.antt.
use Rattle.spec.specs.State.{drawn_steps}
use Rattle.spec.specs.Terms.{Leaving, Entering, Ending, start, Ryan, AnyLength}
use Rattle.theory.specs.Maps.Moves.{are_legal, legal_all_lem}
use Rattle.theory.specs.Maps.Instance.{instance_accepted}
use Rattle.theory.proofs.Zones.Configurations as zone
use Rattle.theory.specs.Plans.Resolve.{concrete_abstract, whole}
use Rattle.theory.proofs.Plans.Resolve.{arrives, abstract_arrives}

-- a robot may leave exactly where a reachable arrangement has it at from
pub leaving : Leaving
unfolding Leaving
leaving = zone.leaving

-- a robot may enter exactly where a reachable arrangement has to empty, the named robot behind it, and stands as listed
pub entering : Entering
unfolding Entering
entering = zone.entering

-- the goals may be taken exactly where they are reachable
pub ending : Ending
unfolding Ending
ending = zone.ending

-- an abstract plan exists exactly where a legal list to the goals draws its steps
pub ryan : Ryan
unfolding Ryan
ryan a b it ss i =
    let s = instance_accepted a b it i in (
      λ x.
          let w = abstract_arrives it.graph s.accepted it.placing s.placed x in
          let c = arrives it.graph s.accepted it.placing s.placed w.1 w.2 in
          (whole it.graph it.placing w.0, (legal_all_lem c.legals, c.reached), c.drawn),
      λ w. rw w.2 at (concrete_abstract it.graph s.accepted it.placing s.placed (are_legal it.graph (start it) w.0 w.1.0) w.1.1),
    )

-- a legal list to the goals exists exactly where an abstract plan does, of any length
pub any_length : AnyLength
unfolding AnyLength Ryan
any_length a b it i = (
  λ w. (drawn_steps it.graph (start it) w.0, (ryan a b it (drawn_steps it.graph (start it) w.0) i).1 (w.0, w.1, λ _. drawn_steps it.graph (start it) w.0)),
  λ p. let w = (ryan a b it p.0 i).0 p.1 in (w.0, w.1),
)
