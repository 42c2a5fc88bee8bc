use native.Mathlib.Omega.{arith}
use Prim.Native.Nat.{ℕ}
use mathlib.Core.Path.{◌≡◌, sym, ap, ◌∙◌}
use lib.ListN.{length, take, replicate}
use Rattle.comparing.specs.Comparing.{cells_length}
use Rattle.orders.specs.Orders.{list_met}
use Rattle.walking.specs.Held.{held_part}
use Rattle.configurations.specs.Entering.{clique_named, clique_fills}
use Rattle.configurations.proofs.entering.can_fill.Goals as goal

pub returns-then-behind-ne255 : goal.returns-then-behind-ne255
returns-then-behind-ne255 c =
    λ len h g.
    let a = c.args in
    clique_named a.list.now a.r.0 a.at.place (held_part a.file.now len a.from a.at.size) a.at.size a.behind c.if-behind-ne255.true

pub slice_bounds-list_met_in-end : goal.slice_bounds-list_met_in-end
slice_bounds-list_met_in-end c = sym (cells_length c.args.at.size c.requires.1)

pub list_met_in-requires : goal.list_met_in-requires
list_met_in-requires c =
    let a = c.args in
    let z : length {A = ℕ} (take a.at.size (replicate 128 0)) ≡ a.at.size = cells_length a.at.size c.requires.1 in
    (omega (arith, c.requires), z ∙ sym c.requires.0, omega (arith, z, c.requires))

pub returns : goal.returns
returns c =
    λ len h g.
    let a = c.args in
    let l = a.list.now in
    let z : length {A = ℕ} (take a.at.size (replicate 128 0)) ≡ a.at.size = cells_length a.at.size c.requires.1 in
    c.list_met_in.ensures len h (omega (arith, z)) ∙ ap (λ (x : ℕ). list_met l a.r.0 a.at.place (held_part a.file.now len a.from x)) z
    ∙ clique_fills l a.r.0 a.at.place (held_part a.file.now len a.from a.at.size) a.at.size a.behind c.if-behind-ne255.false c.requires.0
