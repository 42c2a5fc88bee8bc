use borrow.Author.Rules.{rules}
use Rattle.spec.specs.State.{arrangement_of}
use Rattle.motion.specs.World.{world}
use mathlib.Core.Path.{◌∙◌}
use Rattle.bringing.specs.Zones.{end_looked}
use Rattle.bringing.proofs.ending.end_zone.Goals as goal

pub kind_of-kind-requires : goal.kind_of-kind-requires
kind_of-kind-requires g c = (search rules, c.requires.has_zone.below)

pub listed_of-requires : goal.listed_of-requires
listed_of-requires g c = (search rules, record { below = c.requires.has_zone.below; inside = c.requires.has_zone.fits })

pub invariant_of-zone : goal.invariant_of-zone
invariant_of-zone g c = record { listed = rw c.listed_of.ensures c.requires.has_zone.once }

pub bring_to_goals-requires : goal.bring_to_goals-requires
unfolding arrangement_of
bring_to_goals-requires g c =
    let e = c.listed_of.ensures in
    (search rules, (search rules, (search rules, (rw e c.requires.has_zone.long, (rw (c.kind_of-kind.ensures, e) c.requires.z_value, rw e c.requires.proper)))))

pub returns : goal.returns
unfolding arrangement_of
returns g c =
    let a = c.args in
    c.bring_to_goals.ensures ∙ end_looked (world a.state.now a.count a.out.now) a.state.now a.goals.now _ _ _ _ c.kind_of-kind.ensures c.listed_of.ensures
