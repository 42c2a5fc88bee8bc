use Rattle.stepping.specs.Steps.{stepping_room, stepping_from, stepping_to, stepping_leaves, stepping_proper, stepping_short, stepping_named, stepping_room_proper, stepping_extra, stepping_made}
use Rattle.walking.specs.Given.{Stepping}
use Rattle.motion.specs.World.{world}
use mathlib.Core.Path.{refl}
use borrow.Author.Rules.{rules}
use Rattle.stepping.proofs.step.make_step.Goals as goal

pub overflow_add-from : goal.overflow_add-from
overflow_add-from g c =
    let a = c.args in
    let x = stepping_room a.file.now a.o a.n a.map.now.kind a.map.now.first a.map.now.size a.map.now.listed a.map.now.zone a.map.now.place a.state.now c.requires.stepping in
    search rules

pub leave_at-left-requires : goal.leave_at-left-requires
leave_at-left-requires g c =
    let a = c.args in (
      search rules,
      (
        search rules,
        (
          stepping_from a.file.now a.o a.n a.map.now.kind a.map.now.first a.map.now.size a.map.now.listed a.map.now.zone a.map.now.place a.state.now c.requires.stepping a.four c.requires.four_at,
          (
            stepping_leaves a.file.now a.o a.n a.map.now.kind a.map.now.first a.map.now.size a.map.now.listed a.map.now.zone a.map.now.place a.state.now c.requires.stepping a.four c.requires.four_at,
            stepping_proper a.file.now a.o a.n a.map.now.kind a.map.now.first a.map.now.size a.map.now.listed a.map.now.zone a.map.now.place a.state.now c.requires.stepping a.four c.requires.four_at,
          ),
        ),
      ),
    )

pub enter_at-room-requires : goal.enter_at-room-requires
enter_at-room-requires g c =
    let a = c.args in
    let w = (world a.state.now a.count a.out.now) in (
      search rules,
      (
        search rules,
        (
          (stepping_short a.file.now a.o a.n a.map.now.kind a.map.now.first a.map.now.size a.map.now.listed a.map.now.zone a.map.now.place a.state.now c.requires.stepping a.four c.requires.four_at, stepping_room a.file.now a.o a.n a.map.now.kind a.map.now.first a.map.now.size a.map.now.listed a.map.now.zone a.map.now.place a.state.now c.requires.stepping),
          (
            stepping_to a.file.now a.o a.n a.map.now.kind a.map.now.first a.map.now.size a.map.now.listed a.map.now.zone a.map.now.place a.state.now c.requires.stepping a.four c.requires.four_at,
            (
              stepping_named a.file.now a.o a.n a.map.now.kind a.map.now.first a.map.now.size a.map.now.listed a.map.now.zone a.map.now.place a.state.now c.requires.stepping a.four c.requires.four_at,
              (
                stepping_room_proper a.file.now a.o a.n a.map.now.kind a.map.now.first a.map.now.size a.map.now.listed a.map.now.zone a.map.now.place a.state.now c.requires.stepping a.four c.requires.four_at w _ refl c.leave_at-left.ensures,
                stepping_extra a.file.now a.o a.n a.map.now.kind a.map.now.first a.map.now.size a.map.now.listed a.map.now.zone a.map.now.place a.state.now c.requires.stepping a.four c.requires.four_at w _ refl c.leave_at-left.ensures,
              ),
            ),
          ),
        ),
      ),
    )

pub returns : goal.returns
returns g c =
    λ m points k len rows d h most t.
    let a = c.args in
    let st : Stepping a.file.now a.o a.n a.map.now.kind a.map.now.first a.map.now.size a.map.now.listed a.map.now.zone a.map.now.place a.state.now =
    record { map = m; n = points; k = k; rows = rows; given = d; consistent = h; len = len; most = most; passes = t } in
    stepping_made a.file.now a.o a.n a.map.now.kind a.map.now.first a.map.now.size a.map.now.listed a.map.now.zone a.map.now.place a.state.now st a.four c.requires.four_at _ _ refl c.leave_at-left.ensures _ _ c.enter_at-room.ensures c.make.ensures
