use Rattle.std.proofs.Common.{◌≡◌, ◌≢◌, ℕ, ap, sym, ◌∙◌}
use Rattle.std.specs.Prelude.{Option, Some, None, MatchOption}
use Rattle.numbering.specs.Kind.{number_of, not_clique, not_ring}
use Rattle.numbering.specs.declared.Robot.{Robot}
use Rattle.walking.specs.Kinds.{clique_behind, ring_behind_lem, hall_behind}
use Rattle.leeway.proofs.reach.behind_of.Goals as goal

-- a neighbour's number as a step names it
named_is : (o : Option Robot) (b x : ℕ) → MatchOption o (b ≡ 255) (λ r. b ≡ r.0) → MatchOption o (x ≡ 255) (λ r. (x ≡ r.0) × (r.0 ≢ 255)) → b ≡ x
named_is None b x e d = e ∙ sym d
named_is (Some r) b x e d = e ∙ sym d.0

pub returns-in-Clique : goal.returns-in-Clique
returns-in-Clique g c = clique_behind _ (ap number_of c.in-Clique.is) _ _

pub returns-in-Ring : goal.returns-in-Ring
returns-in-Ring g c = named_is c.behind_round.result _ _ c.named.ensures c.behind_round.ensures ∙ ring_behind_lem _ (ap number_of c.in-Ring.is) _ _

pub returns-in_default : goal.returns-in_default
returns-in_default g c =
    named_is c.behind.result _ _ c.named-in_default.ensures c.behind.ensures ∙ hall_behind _ (not_clique _ c.in_default.not-Clique) (not_ring _ c.in_default.not-Ring) _ _
