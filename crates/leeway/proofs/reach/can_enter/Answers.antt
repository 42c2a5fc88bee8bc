use Rattle.numbering.specs.Kind.{number_of, not_clique, not_ring}
use mathlib.Core.Path.{◌∙◌, ap}
use Rattle.walking.specs.Kinds.{clique_can_enter_lem, ring_can_enter_lem, hall_can_enter_lem}
use Rattle.leeway.proofs.reach.can_enter.Goals as goal

pub returns-in-Clique : goal.returns-in-Clique
returns-in-Clique g c = c.can_enter.ensures ∙ clique_can_enter_lem _ (ap number_of c.in-Clique.is) _ _ _ _ _

pub returns-in-Ring : goal.returns-in-Ring
returns-in-Ring g c = c.can_enter-in-Ring.ensures ∙ ring_can_enter_lem _ (ap number_of c.in-Ring.is) _ _ _ _ _

pub returns-in_default : goal.returns-in_default
returns-in_default g c = c.can_enter-in_default.ensures ∙ hall_can_enter_lem _ (not_clique _ c.in_default.not-Clique) (not_ring _ c.in_default.not-Ring) _ _ _ _ _
