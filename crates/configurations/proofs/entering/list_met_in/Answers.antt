use mathlib.Core.List.{List}
use Prim.Native.Nat.{ℕ}
use mathlib.Core.Path.{ap, ◌∙◌}
use Rattle.orders.specs.Orders.{list_met}
use Rattle.configurations.proofs.entering.list_met_in.Goals as goal

pub returns : goal.returns
returns c =
    λ len h g.
    let a = c.args in
    c.list_met.ensures ∙ ap (λ (l : List ℕ). list_met a.list.now a.r a.j l) (c.copy_list.ensures len h g)
