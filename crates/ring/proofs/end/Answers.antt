use borrow.Author.Rules.{rules}
use native.Mathlib.Omega.{arith}
use Rattle.std.proofs.Common.{ℕ, take, length-take-le, replicate}
use mathlib.Core.Path.{◌≡◌, ◌∙◌}
use Prim.Native.Nat.{suc, ◌-◌, ◌≤◌}
use lib.ListN.{length}
use Rattle.motion.specs.World.{world}
use Rattle.motion.specs.Coupling.{Listed}
use Rattle.ring.specs.Ending.{ends_nobody, ends_stands, ends_goal, end_both}
use Rattle.ring.proofs.end.Goals as goal

-- the buffer holds n - 1 vertices
buffer_cut : (n : ℕ) → 1 ≤ n → n ≤ 128 → suc (length {A = ℕ} (take (n - 1) (replicate 128 0))) ≡ n
buffer_cut n h l = let k : n - 1 ≤ 128 = omega arith in omega (arith, length-take-le {A = ℕ} (n - 1) (replicate 128 0) k)

pub returns-in_default : goal.returns-in_default
returns-in_default g c =
    let a = c.args in
    ends_nobody a.state.now a.goals.now a.zone.vertices.now c.in_default.ensures (world a.state.now a.count a.out.now)

pub returns-in_default-place_of : goal.returns-in_default-place_of
returns-in_default-place_of g c =
    let a = c.args in
    absurd (omega (arith, c.in_default-place_of.ensures, ends_goal a.state.now a.goals.now a.zone.vertices.now c.in-Some.r.0 c.in-Some.ensures c.requires.zone_value))

pub push_to-pushed-requires : goal.push_to-pushed-requires
push_to-pushed-requires g c =
    let a = c.args in
    let f = c.in-Some-place_of.ensures.0 in
    let h = ends_stands a.state.now a.goals.now a.zone.vertices.now c.in-Some.r.0 c.in-Some.ensures in
    search (rules, f, h)

pub slice_bounds-buffer-end : goal.slice_bounds-buffer-end
slice_bounds-buffer-end g c = omega (arith, c.requires.zone_len_bound)

pub slice_bounds-others-length : goal.slice_bounds-others-length
slice_bounds-others-length g c = let h : length c.args.zone.vertices.now ≤ 128 = c.requires.zone_len_bound in search rules

pub slice_bounds-buffer-count : goal.slice_bounds-buffer-count
slice_bounds-buffer-count g c = let a = c.args in omega (arith, ends_stands a.state.now a.goals.now a.zone.vertices.now c.in-Some.r.0 c.in-Some.ensures)

pub open_at-requires : goal.open_at-requires
open_at-requires g c =
    let a = c.args in
    let z = a.zone.vertices.now in
    (c.in-Some-place_of.ensures.0, buffer_cut (length z) (omega arith) c.requires.zone_len_bound)

pub returns : goal.returns
returns g c =
    let a = c.args in
    let s = a.state.now in
    let z = a.zone.vertices.now in
    let L : Listed (length s.robots) z = rw c.room.ensures.1 a.zone.listed in
    let r = c.in-Some.r.0 in
    c.end.ensures
    ∙ end_both (world s a.count a.out.now) _ a.goals.now z _ r c.in-Some-place_of.j L c.in-Some.ensures c.in-Some-place_of.ensures.0 c.in-Some-place_of.ensures.1
    (ends_stands s a.goals.now z r c.in-Some.ensures) c.open_at.ensures c.push_to-pushed.ensures
