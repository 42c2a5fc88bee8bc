use native.Mathlib.Omega.{arith}
use Prim.Native.Nat.{ℕ, ◌+◌, ◌-◌, ◌<◌}
use mathlib.Core.Path.{◌≡◌, refl, ap, sym, ◌∙◌}
use lib.ListN.{length, get_or}
use Rattle.spec.specs.Ring.{wrap, frame}
use Rattle.spec.specs.State.{robot_on, arrangement_of, across}
use Rattle.motion.specs.World.{world, made, made_all, made_none}
use Rattle.motion.specs.Coupling.{Listed}
use Rattle.motion.specs.Across.{across_nil, across_move_lem}
use Rattle.circle.specs.Places.{wrap_in}
use Rattle.circle.specs.Runs.{run_at, run_robot, robot_around, run_short, frame_size}
use Rattle.circle.specs.Pushes.{push_from, push_none, push_all, push_step, unmoved_all, unmoved_behind}
use Rattle.numbering.specs.declared.Robot.{Robot}
use Rattle.circle.proofs.pushing.push.Goals as goal
use Rattle.circle.proofs.pushing.push.Goals.{then-last, else-last}

pub loop-k-init : goal.loop-k-init
loop-k-init g c =
    let a = c.args in
    let z = a.zone.vertices.now in
    let s = a.state.now in
    let k = c.run_length-k.result in
    record {
      after = made_none _ _ (ap (across z) (push_none s z a.p k (omega arith)) ∙ across_nil z);
      before = unmoved_all s z a.p k;
    }

pub loop-k-preserved : goal.loop-k-preserved
loop-k-preserved g c =
    let a = c.args in
    let o = c.loop-k in
    let z = a.zone.vertices.now in
    let m = length z in
    let s = a.state.now in
    let k = o.k - 1 in
    let h : a.p < m = c.requires.p_in_bounds in
    let L : Listed (length s.robots) z = rw c.room.ensures.1 a.zone.listed in
    let j : k < length (run_at s z a.p) = omega arith in
    let l : k < m = omega (arith, run_short (frame a.p (arrangement_of s z)), frame_size s z a.p h) in
    let i : o.k ≡ k + 1 = omega arith in
    let v : c.vertex_at-v.result.0 ≡ get_or z (wrap m (a.p + k)) 0 = c.vertex_at-v.ensures ∙ ap (λ (i : ℕ). get_or z i 0) c.around.ensures in
    let t : c.vertex_at-w.result.0 ≡ get_or z (wrap m (a.p + (k + 1))) 0 = c.vertex_at-w.ensures ∙ ap (λ (i : ℕ). get_or z i 0) c.around-in-loop-k.ensures in
    let e : c.if-last.r.0 ≡ robot_on s (get_or z (wrap m (a.p + k)) 0) =
    elim c.if-last.branch [
      | then-last w ↦ ap (λ (x : Robot). x.0) w.r-is ∙ robot_around s z a.p h k a.p c.robot_at-first.result.0 (omega arith) (sym (wrap_in m a.p h) ∙ ap (λ (i : ℕ). wrap m (a.p + i)) (sym w.if-last.true)) c.robot_at-first.ensures
      | else-last w ↦ ap (λ (x : Robot). x.0) w.r-is ∙ w.robot_on-r.ensures ∙ ap (robot_on o.state) v ∙ o.invariant.before.stays k (omega (arith, w.if-last.false)) (omega arith)
    ] in
    record {
      after =
          push_step (world s a.count a.out.now) (world o.state o.count o.out) _ s z a.p k c.if-last.r.0 c.around.result c.around-in-loop-k.result j
          (run_robot s z a.p h k c.if-last.r.0 j l e) c.around.ensures c.around-in-loop-k.ensures
          (o.invariant.after ∙ ap (λ (i : ℕ). made_all (world s a.count a.out.now) (across z (push_from s z a.p i))) i)
          (c.make-count.ensures ∙ ap (made (world o.state o.count o.out)) (across_move_lem z _ c.if-last.r.0 c.around.result c.around-in-loop-k.result _ _ refl c.vertex_at-v.ensures c.vertex_at-w.ensures));
      before = unmoved_behind s (world o.state o.count o.out) _ z _ a.p k c.if-last.r.0 _ _ L h l v t c.make-count.ensures (rw (sym i) o.invariant.before);
    }

pub returns : goal.returns
returns g c =
    let a = c.args in
    let o = c.loop-k in
    let z = a.zone.vertices.now in
    let e : o.k ≡ 0 = omega arith in
    o.invariant.after ∙ ap (λ (k : ℕ). made_all (world a.state.now a.count a.out.now) (across z (push_from a.state.now z a.p k))) e
    ∙ ap (λ ms. made_all (world a.state.now a.count a.out.now) (across z ms)) (push_all a.state.now z a.p)
