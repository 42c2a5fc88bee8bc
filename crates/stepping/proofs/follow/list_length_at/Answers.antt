use borrow.Author.Rules.{rules}
use Rattle.layout.specs.Lists.{part_of}
use lib.ListN.{get_or}
use Prim.Native.Nat.{ℕ}
use mathlib.Core.Path.{ap, ◌∙◌}
use Rattle.stepping.specs.Steps.{extra_same}
use Rattle.stepping.proofs.follow.list_length_at.Goals as goal

pub kind_of-kind-requires : goal.kind_of-kind-requires
kind_of-kind-requires g c = (search rules, rw (c.zone_of-z.ensures.below c.requires.0) c.requires.1.below)

pub listed_of-requires : goal.listed_of-requires
listed_of-requires g c =
    let e = c.zone_of-z.ensures.below c.requires.0 in
    (search rules, record { below = rw e c.requires.1.below; inside = rw e c.requires.1.fits })

pub returns : goal.returns
returns g c =
    let a = c.args in
    let e = c.zone_of-z.ensures.below c.requires.0 in
    c.list_length.ensures
    ∙ extra_same a.state.now _ _ _ _ (c.kind_of-kind.ensures ∙ ap (λ (z : ℕ). get_or a.map.now.kind z 0) e) (c.listed_of.ensures ∙ ap (part_of a.map.now) e)
