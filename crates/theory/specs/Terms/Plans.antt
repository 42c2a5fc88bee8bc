-- What is claimed of one zone's configurations and of plans: Ryan's Theorem 1.
use Rattle.std.specs.Prelude.{length}
use Rattle.spec.specs.State.{moved_all}
use Rattle.spec.specs.Terms.{Undoing, start, Transitions}
use Rattle.theory.specs.Maps.Moves.{are_legal}
use Rattle.theory.specs.Maps.Instance.{instance_accepted}
use Rattle.theory.specs.Maps.Tracks.{tracks_all}
use Rattle.theory.specs.Zones.Moves.{reach_sym}
use Rattle.theory.specs.Plans.Transition.{ready_applicable, applicable_ready}
use Rattle.theory.specs.Plans.Resolve.{start_tracks}

-- moves inside a zone can be undone
pub undoing : Undoing
unfolding Undoing
undoing kind a b s = reach_sym s

-- a transition is applicable, zone by zone, exactly where a state of the tuple has it legal
pub transitions : Transitions
unfolding Transitions
transitions a b it xs x i l =
    let s = instance_accepted a b it i in
    let k = length it.placing.starts in
    let t = tracks_all it.graph s.accepted k s.placed.few (start_tracks it.graph s.accepted it.placing s.placed) (are_legal it.graph (start it) xs l) in
    (applicable_ready it.graph s.accepted (moved_all (start it) xs) x k s.placed.few t, ready_applicable it.graph s.accepted (moved_all (start it) xs) x)
