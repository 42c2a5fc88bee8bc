use Rattle.motion.specs.Coupling.{listed_short}
use Rattle.numbering.specs.Kind.{number_of}
use native.Mathlib.Nat.{le_refl}
use Rattle.walking.specs.Kinds.{enter_moves}
use Rattle.motion.specs.World.{world, made_all}
use Rattle.spec.specs.State.{across}
use Rattle.spec.specs.State.{arrangement_of}
use lib.ListN.{length}
use Prim.Native.Nat.{ℕ, ◌+◌}
use mathlib.Core.List.{List}
use mathlib.Core.Path.{ap, ◌∙◌}
use borrow.Author.Rules.{rules}
use Rattle.crossing.proofs.sides.enter_in.Goals as goal

pub enter-requires : goal.enter-requires
unfolding arrangement_of
enter-requires g c =
    let a = c.args in
    let e = c.copy_list.ensures (a.from + length a.list.now) c.requires.zone_len_bound.1 (le_refl _) in
    (search rules, (search rules, ((listed_short 128 a.zone.vertices.now a.zone.listed, c.requires.zone_len_bound.0), (rw e c.requires.numbered, (c.requires.proper, search (rules, c.requires.list_len))))))

pub returns : goal.returns
unfolding arrangement_of
returns g c =
    let a = c.args in
    let e = c.copy_list.ensures (a.from + length a.list.now) c.requires.zone_len_bound.1 (le_refl _) in
    c.enter.ensures
    ∙ ap (λ (l : List ℕ). made_all (world a.state.now a.count a.out.now) (across a.zone.vertices.now (enter_moves (number_of a.kind) (arrangement_of a.state.now a.zone.vertices.now) a.j a.behind l))) e
