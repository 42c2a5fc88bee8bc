use borrow.Author.Rules.{rules}
use Rattle.motion.specs.Coupling.{listed_short}
use Rattle.numbering.specs.Kind.{number_of}
use Rattle.crossing.specs.Sides.{entered_ready}
use Rattle.clique.specs.Entering.{numbered_none}
use Rattle.motion.specs.World.{world}
use Rattle.spec.specs.State.{arrangement_of}
use mathlib.Core.List.{[]}
use mathlib.Core.Path.{sym}
use Rattle.crossing.proofs.sides.enter_room.Goals as goal

pub returns-then-is_ready : goal.returns-then-is_ready
unfolding arrangement_of
returns-then-is_ready g c =
    let a = c.args in
    let q = c.is_ready.ensures c.if-is_ready.true in
    entered_ready (number_of a.kind) a.state.now a.zone.vertices.now c.requires.proper a.j c.requires.zone_len_bound.0 a.v.0 a.behind [] (world a.state.now a.count a.out.now) c.requires.zone_len_bound.1 c.requires.zone_value q.0 q.1

pub enter-requires : goal.enter-requires
unfolding arrangement_of
enter-requires g c =
    let a = c.args in
    (search rules, (search rules, ((listed_short 128 a.zone.vertices.now a.zone.listed, c.requires.zone_len_bound.0), (numbered_none _, (c.requires.proper, sym c.requires.zone_value)))))

pub returns : goal.returns
unfolding arrangement_of
returns g c =
    c.enter.ensures
