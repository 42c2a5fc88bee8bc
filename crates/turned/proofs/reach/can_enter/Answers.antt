use Rattle.std.proofs.Common.{◌≡◌, ℕ, suc, ◌<◌, ◌≤◌, true, false, Option, Some, None, is_some, length, arith, rules, ne_eqb, sym, ◌∙◌}
use Rattle.spec.specs.Arrangement.{seek}
use Rattle.spec.specs.State.{arrangement_of}
use Rattle.motion.specs.Across.{arrangement_length}
use Rattle.cells.specs.Cells.{PlaceFound}
use Rattle.circle.specs.Reading.{enter_inside, enter_vacant, enter_outside}
use Rattle.turned.proofs.reach.can_enter.Goals as goal

-- whoever is found is inside, and whoever is not is outside
inside : (n i : ℕ) (found : Option ℕ) → PlaceFound n i found → is_some found ≡ true → i < n
inside n i None h e = absurd cc
inside n i (Some k) h e = omega (arith, h)

outside : (n i : ℕ) (found : Option ℕ) → PlaceFound n i found → is_some found ≡ false → n ≤ i
outside n i None h e = omega (arith, h)
outside n i (Some k) h e = absurd cc

pub returns-then-is_some : goal.returns-then-is_some
returns-then-is_some g c =
    let a = c.args in
    let g = arrangement_of a.state.now a.zone.now in
    let h = inside (length a.zone.now) (seek (suc a.behind) g) c.place_of.result c.place_of.ensures (sym c.is_some.ensures ∙ c.if-is_some.true) in
    c.if-is_some.true ∙ enter_inside g a.j a.behind (omega (arith, h, arrangement_length a.state.now a.zone.now))

pub returns-then-alone : goal.returns-then-alone
returns-then-alone g c =
    let a = c.args in
    let g = arrangement_of a.state.now a.zone.now in
    let h = outside (length a.zone.now) (seek (suc a.behind) g) c.place_of.result c.place_of.ensures (sym c.is_some.ensures ∙ c.if-is_some.false) in
    c.is_vacant.ensures ∙ enter_vacant g a.j a.behind (omega (arith, h, arrangement_length a.state.now a.zone.now)) (search rules)

pub returns-else-alone : goal.returns-else-alone
returns-else-alone g c =
    let a = c.args in
    let g = arrangement_of a.state.now a.zone.now in
    let h = outside (length a.zone.now) (seek (suc a.behind) g) c.place_of.result c.place_of.ensures (sym c.is_some.ensures ∙ c.if-is_some.false) in
    ne_eqb _ _ (search rules) ∙ enter_outside g a.j a.behind (omega (arith, h, arrangement_length a.state.now a.zone.now)) (search rules)
