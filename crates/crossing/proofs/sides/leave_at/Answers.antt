use Rattle.crossing.specs.Sides.{left_ready, looked, leave_looked}
use Rattle.walking.specs.OnMap.{kind_on, vertices_on, place_on}
use Rattle.motion.specs.World.{world}
use Rattle.spec.specs.State.{arrangement_of}
use borrow.Author.Rules.{rules}
use Rattle.std.proofs.Common.{tests}
use mathlib.Core.Path.{sym, ◌∙◌}
use Rattle.crossing.proofs.sides.leave_at.Goals as goal

pub returns-then-here : goal.returns-then-here
unfolding arrangement_of
returns-then-here g c =
    let a = c.args in
    let t = a.map.now in
    left_ready (kind_on t a.u.0) a.state.now (vertices_on t a.u.0) c.requires.proper (place_on t a.u.0) c.requires.has_vertex.inside a.r.0 a.u.0 (world a.state.now a.count a.out.now) c.requires.has_vertex.there c.requires.u_value (sym (search (rules, tests)) ∙ c.robot_on-there.ensures)

pub listed_of-requires : goal.listed_of-requires
listed_of-requires g c =
    let e = c.zone_of-z.ensures.below c.requires.has_vertex.below in
    (search rules, record { below = rw e c.requires.has_vertex.here.below; inside = rw e c.requires.has_vertex.here.fits })

pub kind_of-requires : goal.kind_of-requires
kind_of-requires g c = (search rules, rw (c.zone_of-z.ensures.below c.requires.has_vertex.below) c.requires.has_vertex.here.below)

pub invariant_of-zone : goal.invariant_of-zone
invariant_of-zone g c =
    let l = looked c.args.map.now c.args.u.0 _ _ _ _ (c.zone_of-z.ensures.below c.requires.has_vertex.below) c.kind_of.ensures c.place_of.ensures c.listed_of.ensures in
    record { listed = rw l.vertices c.requires.has_vertex.here.once }

pub leave_in-requires : goal.leave_in-requires
unfolding arrangement_of
leave_in-requires g c =
    let l = looked c.args.map.now c.args.u.0 _ _ _ _ (c.zone_of-z.ensures.below c.requires.has_vertex.below) c.kind_of.ensures c.place_of.ensures c.listed_of.ensures in (
      search rules,
      (
        (rw (l.vertices, l.places) c.requires.has_vertex.inside, rw (l.vertices, l.places) c.requires.has_vertex.there),
        (rw (l.kinds, l.vertices, l.places) c.requires.u_value, rw l.vertices c.requires.proper),
      ),
    )

pub returns : goal.returns
unfolding arrangement_of
returns g c =
    let a = c.args in
    let l = looked a.map.now a.u.0 _ _ _ _ (c.zone_of-z.ensures.below c.requires.has_vertex.below) c.kind_of.ensures c.place_of.ensures c.listed_of.ensures in
    c.leave_in.ensures ∙ leave_looked (world a.state.now a.count a.out.now) a.state.now a.map.now a.u.0 _ _ _ _ l a.r.0
