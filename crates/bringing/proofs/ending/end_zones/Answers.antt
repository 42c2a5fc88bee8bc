use borrow.Author.Rules.{rules}
use Rattle.walking.specs.Endings.{ending_start, ending_can, ending_next, ending_end}
use Rattle.walking.specs.Given.{has_zone, ends_is, end_moves_is}
use Rattle.theory.specs.Plans.Step.{proper}
use Rattle.spec.specs.Terms.{zone_count}
use Rattle.motion.specs.World.{world, made_all}
use Prim.Native.Nat.{◌<◌}
use mathlib.Core.Path.{refl, ap, ◌∙◌}
use Rattle.bringing.proofs.ending.end_zones.Goals as goal

pub loop-z-init : goal.loop-z-init
loop-z-init g c =
    let a = c.args in
    (λ m n k zone place rows d e h p. ending_start m d.accepted k d.few a.state.now a.goals.now h p (world a.state.now a.count a.out.now) refl)

pub end_zone-made-requires : goal.end_zone-made-requires
end_zone-made-requires g c =
    let a = c.args in
    let l = c.loop-z in
    let b = c.requires.on in
    let h = l.invariant b.map b.n b.k b.zone b.place b.rows b.given b.count b.consistent c.requires.pass in
    let t : l.z < zone_count b.map = rw (b.count, ← c.zones-z-end.ensures) c.loop-z-test.true in (
      search rules,
      (
        search rules,
        (
          search rules,
          (
            has_zone b.map b.n b.k a.map.now.kind a.map.now.first a.map.now.size a.map.now.listed b.zone b.place b.rows b.given l.z t,
            (
              ends_is b.map b.n b.k a.map.now.kind a.map.now.first a.map.now.size a.map.now.listed b.zone b.place b.rows b.given l.z t l.state a.goals.now
                  ∙ ending_can b.map b.given.accepted b.k b.given.few a.state.now a.goals.now b.consistent c.requires.pass (world a.state.now a.count a.out.now) l.z (world l.state l.made l.out) h t,
              rw (← b.given.tables.vertices l.z t) (proper b.map b.given.accepted b.k b.given.few l.state h.consistent l.z t),
            ),
          ),
        ),
      ),
    )

pub loop-z-preserved : goal.loop-z-preserved
loop-z-preserved g c =
    let a = c.args in
    let l = c.loop-z in
    λ m n k zone place rows d e h p.
    let t : l.z < zone_count m = rw (e, ← c.zones-z-end.ensures) c.loop-z-test.true in
    ending_next m d.accepted k d.few a.state.now a.goals.now h p (world a.state.now a.count a.out.now) l.z (world l.state l.made l.out) (l.invariant m n k zone place rows d e h p) _ t
    (c.end_zone-made.ensures ∙ ap (made_all (world l.state l.made l.out)) (end_moves_is m n k a.map.now.kind a.map.now.first a.map.now.size a.map.now.listed zone place rows d l.z t l.state a.goals.now))

pub returns : goal.returns
returns g c =
    λ m n k zone place rows d e h p.
    let a = c.args in
    let l = c.loop-z in
    ending_end m d.accepted k d.few a.state.now a.goals.now h p (world a.state.now a.count a.out.now) l.z (world l.state l.made l.out) (l.invariant m n k zone place rows d e h p) (rw (e, ← c.zones-z-end.ensures) c.loop-z-test.false)
