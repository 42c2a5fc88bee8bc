use borrow.Author.Rules.{rules}
use Rattle.crossing.specs.Sides.{looked, enter_looked}
use Rattle.walking.specs.Held.{held_part}
use Rattle.comparing.specs.Comparing.{cells_length}
use Rattle.motion.specs.World.{world}
use Rattle.spec.specs.State.{arrangement_of}
use lib.ListN.{length, take, replicate}
use native.Mathlib.Omega.{arith}
use Prim.Native.Nat.{ℕ, ◌+◌}
use mathlib.Core.List.{[]}
use mathlib.Core.Path.{◌≡◌, sym, ap, ◌∙◌}
use Rattle.crossing.proofs.sides.enter_at.Goals as goal

pub kind_of-kind-requires : goal.kind_of-kind-requires
kind_of-kind-requires g c = (search rules, rw (c.zone_of-z.ensures.below c.requires.has_vertex.below) c.requires.has_vertex.here.below)

pub listed_of-requires : goal.listed_of-requires
listed_of-requires g c =
    let e = c.zone_of-z.ensures.below c.requires.has_vertex.below in
    (search rules, record { below = rw e c.requires.has_vertex.here.below; inside = rw e c.requires.has_vertex.here.fits })

pub invariant_of-zone : goal.invariant_of-zone
invariant_of-zone g c = record { listed = rw (c.listed_of.ensures, c.zone_of-z.ensures.below c.requires.has_vertex.below) c.requires.has_vertex.here.once }

pub enter_room-requires : goal.enter_room-requires
unfolding arrangement_of
enter_room-requires g c =
    let l = looked c.args.map.now c.args.v.0 _ _ _ _ (c.zone_of-z.ensures.below c.requires.has_vertex.below) c.kind_of-kind.ensures c.place_of-j.ensures c.listed_of.ensures in (
      search rules,
      (
        (rw (l.vertices, l.places) c.requires.has_vertex.inside, rw (l.vertices, l.places) c.requires.has_vertex.there),
        (rw l.vertices c.requires.proper, rw (l.kinds, l.vertices) (sym c.requires.n_value ∙ c.if-n-eq0.true)),
      ),
    )

pub returns-then-n-eq0 : goal.returns-then-n-eq0
unfolding arrangement_of
returns-then-n-eq0 g c =
    let a = c.args in
    let l = looked a.map.now a.v.0 _ _ _ _ (c.zone_of-z.ensures.below c.requires.has_vertex.below) c.kind_of-kind.ensures c.place_of-j.ensures c.listed_of.ensures in
    c.enter_room.ensures ∙ enter_looked (world a.state.now a.count a.out.now) a.state.now a.map.now a.v.0 _ _ _ _ l a.behind [] _ (ap (λ (y : ℕ). held_part a.file.now (a.from + y) a.from y) (sym c.if-n-eq0.true))

pub slice_bounds-enter_in-end : goal.slice_bounds-enter_in-end
slice_bounds-enter_in-end g c =
    sym (cells_length c.args.n c.requires.n_bound.0)

pub enter_in-requires : goal.enter_in-requires
unfolding arrangement_of
enter_in-requires g c =
    let a = c.args in
    let l = looked a.map.now a.v.0 _ _ _ _ (c.zone_of-z.ensures.below c.requires.has_vertex.below) c.kind_of-kind.ensures c.place_of-j.ensures c.listed_of.ensures in
    let x : length {A = ℕ} (take a.n (replicate 128 0)) ≡ a.n = cells_length a.n c.requires.n_bound.0 in (
      search rules,
      (
        (rw (l.vertices, l.places) c.requires.has_vertex.inside, omega (arith, x, c.requires.n_bound)),
        (rw (x, l.places) c.requires.numbered, (rw l.vertices c.requires.proper, x ∙ rw (l.kinds, l.vertices) c.requires.n_value)),
      ),
    )

pub returns : goal.returns
unfolding arrangement_of
returns g c =
    let a = c.args in
    let l = looked a.map.now a.v.0 _ _ _ _ (c.zone_of-z.ensures.below c.requires.has_vertex.below) c.kind_of-kind.ensures c.place_of-j.ensures c.listed_of.ensures in
    let x : length {A = ℕ} (take a.n (replicate 128 0)) ≡ a.n = cells_length a.n c.requires.n_bound.0 in
    c.enter_in.ensures ∙ enter_looked (world a.state.now a.count a.out.now) a.state.now a.map.now a.v.0 _ _ _ _ l a.behind _ _ (ap (λ (y : ℕ). held_part a.file.now (a.from + y) a.from y) x)
