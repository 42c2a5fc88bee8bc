use Rattle.std.proofs.Common.{rules, tests}
use mathlib.Core.Path.{ap, sym, ◌∙◌}
use mathlib.Core.List.{List}
use lib.ListN.{length}
use Rattle.spec.specs.Arrangement.{Move}
use Rattle.spec.specs.State.{arrangement_of, across}
use Rattle.motion.specs.World.{world, made_all}
use Rattle.motion.specs.Across.{arrangement_length}
use Rattle.clique.specs.Entering.{enter_room, enter_fill, extra_fill, extra_room}
use Rattle.clique.proofs.entering.enter.Goals as goal

pub fill-requires : goal.fill-requires
fill-requires g c =
    let p = c.args in
    let s = p.state.now in
    let f = extra_fill (arrangement_of s p.zone.vertices.now) (length p.list.now) c.requires.list_len (search (rules, tests)) in
    (search rules, (f.1 ∙ arrangement_length s p.zone.vertices.now, (c.requires.numbered, c.requires.distinct)))

pub returns : goal.returns
returns g c =
    let p = c.args in
    let z = p.zone.vertices.now in
    let s = p.state.now in
    c.fill.ensures
    ∙ ap (λ (ms : List Move). made_all (world p.state.now p.count p.out.now) (across z ms))
    (enter_fill (arrangement_of s z) 0 p.j 0 p.list.now (length z) (extra_fill (arrangement_of s z) (length p.list.now) c.requires.list_len (search (rules, tests))).0 (sym (arrangement_length s z)))

pub returns-then-is_empty : goal.returns-then-is_empty
returns-then-is_empty g c =
    let p = c.args in
    let z = p.zone.vertices.now in
    let s = p.state.now in
    c.make_room.ensures
    ∙ ap (λ (ms : List Move). made_all (world p.state.now p.count p.out.now) (across z ms))
    (enter_room (arrangement_of s z) 0 p.j 0 p.list.now (extra_room (arrangement_of s z) (length p.list.now) c.requires.list_len (search (rules, tests))))
