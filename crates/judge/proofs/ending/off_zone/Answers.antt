use borrow.Author.Rules.{rules}
use mathlib.Core.Bool.{Bool, true, false}
use mathlib.Core.Path.{◌≡◌, sym, ◌∙◌}
use Prim.Native.Nat.{ℕ}
use lib.ListN.{get_or}
use Rattle.std.proofs.lemmas.Iterator.{first_from_Range}
use Rattle.spec.specs.Arrangement.{order}
use Rattle.spec.specs.State.{arrangement_of}
use Rattle.layout.specs.Lists.{part_of}
use Rattle.orders.specs.Orders.{end_test}
use Rattle.testing.specs.Held.{list_in}
use Rattle.judge.specs.Endings.{goals_found}
use Rattle.judge.specs.Judging.{ends_by}
use Rattle.judge.proofs.ending.off_zone.Goals as goal

pub returns : goal.returns
returns g c =
    λ m n k zone place rows d e s h x.
    let a = c.args in
    let t = a.map.now in
    let g = a.goals.now in
    let f : ℕ → Bool = λ z. end_test (get_or t.kind z 0) (get_or t.size z 0) (list_in t.first a.lists.now.counts a.lists.now.cells z) (order (arrangement_of g (part_of t z))) in
    goals_found m s g f (λ z l. ends_by m n k t.kind t.first t.size t.listed zone place rows d s g a.lists.now.counts a.lists.now.cells h x z l) _ (e ∙ sym c.zones.ensures) c.find.result
    (first_from_Range _ _ _ c.find.result (λ z. f z ≡ false) (λ z. f z ≡ true) c.find.ensures.ran (λ z q y. search rules) (λ z q y. search rules))
