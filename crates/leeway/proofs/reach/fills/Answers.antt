use borrow.Author.Rules.{rules}
use mathlib.Core.Path.{◌∙◌}
use Rattle.walking.specs.Kinds.{clique_fills, other_fills}
use Rattle.leeway.proofs.reach.fills.Goals as goal

pub returns-then-is_clique : goal.returns-then-is_clique
returns-then-is_clique g c = c.last_free.ensures ∙ clique_fills _ (search rules) _

pub returns : goal.returns
returns g c = other_fills _ (search rules) _
