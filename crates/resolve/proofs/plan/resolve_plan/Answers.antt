use mathlib.Core.Path.{◌≡◌, sym, ap, ◌∙◌}
use Prim.Native.Nat.{◌≤◌}
use native.Mathlib.Omega.{arith}
use lib.ListN.{length}
use borrow.Author.Rules.{rules}
use Rattle.std.proofs.lemmas.Result.{err_from_is_err_and}
use Rattle.spec.specs.State as meaning
use Rattle.resolve.specs.Whole.{cleared_start, cleared_over, cleared_goals, cleared_end}
use Rattle.resolve.proofs.plan.resolve_plan.Goals as goal

pub walk-requires : goal.walk-requires
unfolding cleared_start
walk-requires g c =
    let x = c.requires in
    let a = c.args in
    let long : length a.starts ≡ 64 = search (rules, c.well_formed) in
    let l : a.k ≤ length a.starts = omega (arith, x.on.given.few) in
    (search rules, cleared_start a.file.now a.map.now.zones a.k a.map.now.kind a.map.now.first a.map.now.size a.map.now.listed a.map.now.zone a.map.now.place a.starts a.goals x c.payload_word-count.result _ a.out.now c.payload_word-count.ensures.0 l c.standing-state.ensures)

pub returns-in_err-made : goal.returns-in_err-made
unfolding cleared_start
returns-in_err-made g c =
    λ x.
    let a = c.args in
    let long : length a.starts ≡ 64 = search (rules, c.well_formed) in
    let l : a.k ≤ length a.starts = omega (arith, x.on.given.few) in
    let y = c.in_err-made.ensures (cleared_start a.file.now a.map.now.zones a.k a.map.now.kind a.map.now.first a.map.now.size a.map.now.listed a.map.now.zone a.map.now.place a.starts a.goals x c.payload_word-count.result _ a.out.now c.payload_word-count.ensures.0 l c.standing-state.ensures) in
    let p = err_from_is_err_and c.from_residual.result c.from_residual.ensures.1 in
    rw (p.1, p.2) (cleared_over a.file.now a.map.now.zones a.k a.map.now.kind a.map.now.first a.map.now.size a.map.now.listed a.map.now.zone a.map.now.place a.starts a.goals x c.payload_word-count.result _ a.out.now c.payload_word-count.ensures.0 l c.standing-state.ensures _ c.walk.new.state c.walk.new.out y)

pub end_zones-requires : goal.end_zones-requires
unfolding cleared_start
end_zones-requires g c =
    let x = c.requires in
    let a = c.args in
    let long : length a.starts ≡ 64 = search (rules, c.well_formed) in
    let l : a.k ≤ length a.starts = omega (arith, x.on.given.few) in
    let eg = c.standing-targets.ensures ∙ ap meaning.standing (sym x.on.on_goals_lem) in
    let y = c.in_ok-made.ensures (cleared_start a.file.now a.map.now.zones a.k a.map.now.kind a.map.now.first a.map.now.size a.map.now.listed a.map.now.zone a.map.now.place a.starts a.goals x c.payload_word-count.result _ a.out.now c.payload_word-count.ensures.0 l c.standing-state.ensures) in (
      search rules,
      (
        search rules,
        (
          search rules,
          record {
            on = record {
              map = x.on.map;
              n = x.n;
              k = a.k;
              zone = a.map.now.zone;
              place = a.map.now.place;
              rows = x.rows;
              given = x.on.given;
              count = x.on.count;
              consistent = y.1.consistent;
            };
            pass = cleared_goals a.file.now a.map.now.zones a.k a.map.now.kind a.map.now.first a.map.now.size a.map.now.listed a.map.now.zone a.map.now.place a.starts a.goals x c.payload_word-count.result _ a.out.now c.payload_word-count.ensures.0 l c.standing-state.ensures _ y.0 y.1 _ eg;
          },
        ),
      ),
    )

pub returns : goal.returns
unfolding cleared_start
returns g c =
    λ x.
    let a = c.args in
    let long : length a.starts ≡ 64 = search (rules, c.well_formed) in
    let l : a.k ≤ length a.starts = omega (arith, x.on.given.few) in
    let eg = c.standing-targets.ensures ∙ ap meaning.standing (sym x.on.on_goals_lem) in
    let y = c.in_ok-made.ensures (cleared_start a.file.now a.map.now.zones a.k a.map.now.kind a.map.now.first a.map.now.size a.map.now.listed a.map.now.zone a.map.now.place a.starts a.goals x c.payload_word-count.result _ a.out.now c.payload_word-count.ensures.0 l c.standing-state.ensures) in
    cleared_end a.file.now a.map.now.zones a.k a.map.now.kind a.map.now.first a.map.now.size a.map.now.listed a.map.now.zone a.map.now.place a.starts a.goals x c.payload_word-count.result _ a.out.now c.payload_word-count.ensures.0 l c.standing-state.ensures _ y.0 y.1 _ eg _ _ _
    (c.end_zones.ensures x.on.map x.n a.k a.map.now.zone a.map.now.place x.rows x.on.given x.on.count y.1.consistent (cleared_goals a.file.now a.map.now.zones a.k a.map.now.kind a.map.now.first a.map.now.size a.map.now.listed a.map.now.zone a.map.now.place a.starts a.goals x c.payload_word-count.result _ a.out.now c.payload_word-count.ensures.0 l c.standing-state.ensures _ y.0 y.1 _ eg))
