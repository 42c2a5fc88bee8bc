use borrow.Author.Rules.{rules}
use mathlib.Core.Path.{ap, ◌∙◌}
use Rattle.walking.specs.Given.{kind_at}
use Rattle.configurations.specs.Entering.{entry_on}
use Rattle.judge.specs.Making.{marching_room, marching_out, marching_in, marching_still, marching_held, marching_many, marching_long}
use Rattle.judge.proofs.walk.make_step.Goals as goal

pub take_out-requires : goal.take_out-requires
take_out-requires g c =
    let a = c.args in
    let b = c.requires.chosen.read in
    (search rules, (search rules, marching_out a.file.now a.o a.x.list a.map.now.kind a.map.now.first a.map.now.size a.map.now.listed a.map.now.zone a.map.now.place a.lists.now.counts a.lists.now.cells c.requires.marching _ _ _ _ b.first b.second b.third b.fourth _ c.requires.chosen.stood))

pub put_in-requires : goal.put_in-requires
put_in-requires g c =
    let a = c.args in
    let b = c.requires.chosen.read in
    let l = rw c.requires.chosen.stood at c.take_out.ensures in
    (search rules, (search rules, (marching_room a.file.now a.o a.x.list a.map.now.kind a.map.now.first a.map.now.size a.map.now.listed a.map.now.zone a.map.now.place a.lists.now.counts a.lists.now.cells c.requires.marching, marching_in a.file.now a.o a.x.list a.map.now.kind a.map.now.first a.map.now.size a.map.now.listed a.map.now.zone a.map.now.place a.lists.now.counts a.lists.now.cells c.requires.marching _ _ _ _ b.first b.second b.third b.fourth _ _ l _ (λ z. (c.requires.chosen.comes z).0))))

pub returns : goal.returns
returns g c =
    λ x.
    let a = c.args in
    let b = c.requires.chosen.read in
    let l = rw c.requires.chosen.stood at c.take_out.ensures in
    let s = marching_still a.file.now a.o a.x.list a.map.now.kind a.map.now.first a.map.now.size a.map.now.listed a.map.now.zone a.map.now.place a.lists.now.counts a.lists.now.cells x _ _ _ _ b.first b.second b.third b.fourth _ _ l in
    let p = c.put_in.ensures a.x.bytes.fourth (λ z. (c.requires.chosen.comes z).1 ∙ ap (entry_on (kind_at a.map.now.kind a.map.now.zone a.x.bytes.third) a.x.bytes.fourth) s) in
    record {
      held = marching_held a.file.now a.o a.x.list a.map.now.kind a.map.now.first a.map.now.size a.map.now.listed a.map.now.zone a.map.now.place a.lists.now.counts a.lists.now.cells x _ _ _ _ b.first b.second b.third b.fourth _ _ l _ _ p;
      many = marching_many a.file.now a.o a.x.list a.map.now.kind a.map.now.first a.map.now.size a.map.now.listed a.map.now.zone a.map.now.place a.lists.now.counts a.lists.now.cells x _ _ _ _ b.first b.second b.third b.fourth _ _ l _ _ p;
      room = marching_long a.file.now a.o a.x.list a.map.now.kind a.map.now.first a.map.now.size a.map.now.listed a.map.now.zone a.map.now.place a.lists.now.counts a.lists.now.cells x _ _ _ _ b.first b.second b.third b.fourth _ _ l _ _ p;
    }
