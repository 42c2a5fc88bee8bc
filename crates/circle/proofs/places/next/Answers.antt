use Rattle.std.proofs.Common.{add-one, ap, ◌∙◌}
use Rattle.spec.specs.Ring.{wrap}
use Rattle.circle.proofs.places.next.Goals as goal

pub returns : goal.returns
returns c = c.around.ensures ∙ ap (wrap c.args.m) (add-one c.args.i)
