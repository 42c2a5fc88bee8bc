use Rattle.numbering.specs.Kind.{number_of}
use mathlib.Core.Path.{sym, ◌∙◌}
use Rattle.walking.specs.Held.{extra_filled, extra_none}
use Rattle.stepping.proofs.follow.list_length.Goals as goal

pub returns-then-fills : goal.returns-then-fills
returns-then-fills g c = let a = c.args in extra_filled (number_of a.kind) a.state.now a.zone.now (sym c.fills.ensures ∙ c.if-fills.true)

pub returns : goal.returns
returns g c = let a = c.args in extra_none (number_of a.kind) a.state.now a.zone.now (sym c.fills.ensures ∙ c.if-fills.false)
