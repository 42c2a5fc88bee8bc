use mathlib.Core.Path.{◌≡◌}
use Rattle.spec.specs.State.{across}
use Rattle.motion.specs.World.{world, made_all}
use Rattle.circle.specs.Pushes.{push_from, Unmoved}
use Rattle.circle.proofs.pushing.push.Given as goal

abbrev pub invariant-loop-k : goal.invariant-loop-k
invariant-loop-k g l =
    record {
      after : world l.state l.count l.out ≡ made_all (world l.initial.state l.count-2 l.initial.out) (across l.zone.vertices.now (push_from l.initial.state l.zone.vertices.now l.p l.k));
      before : Unmoved l.initial.state l.state l.zone.vertices.now l.p l.k;
    }
