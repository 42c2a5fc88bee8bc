use borrow.Author.Rules.{rules}
use native.Mathlib.Omega.{arith}
use mathlib.Core.Path.{◌≡◌, ap, sym, ◌∙◌}
use Prim.Native.Nat.{ℕ, ◌+◌, ◌-◌, ◌*◌, ◌<◌, ◌≤◌}
use lib.ListN.{length}
use Rattle.std.specs.Option.{MatchOption}
use Rattle.spec.specs.State.{arrangement_of, across}
use Rattle.motion.specs.World.{world, made_all}
use Rattle.motion.specs.Coupling.{Listed}
use Rattle.motion.specs.Across.{arrangement_length}
use Rattle.circle.specs.Places.{next_under}
use Rattle.circle.specs.Pushes.{pushed, push_robots}
use Rattle.turns.specs.Turns.{turn_at, turn_step, turn_over, turn_rest, turns_enter}
use Rattle.turns.specs.Steps.{goes_alone, turn_next}
use Rattle.ring.proofs.enter.Goals as goal
use Rattle.ring.proofs.enter.Goals.{then-goes_on, else-goes_on}

pub overflow_mul-end : goal.overflow_mul-end
overflow_mul-end g c = let h : length c.args.zone.vertices.now ≤ 256 = c.is_short.ensures.1 in search rules

pub loop-init : goal.loop-init
loop-init g c =
    let a = c.args in
    let s = a.state.now in
    let z = a.zone.vertices.now in
    record {
      size = c.room.ensures.1;
      left =
          ap (λ ms. made_all (world s a.count a.out.now) (across z ms))
          (turns_enter (arrangement_of s z) a.j a.behind (length z * length z - 0) (omega arith ∙ ap (λ (m : ℕ). m * m) (sym (arrangement_length s z))));
      next = c.turn_place-turn.ensures;
    }

pub returns-in_default : goal.returns-in_default
returns-in_default g c =
    let a = c.args in
    let o = c.loop in
    turn_rest (world o.state o.count o.out) o.state a.zone.vertices.now a.j a.behind _ c.requires.j_in_bounds (sym (rw c.in_default.is at o.invariant.next)) ∙ o.invariant.left

pub step-count-requires : goal.step-count-requires
step-count-requires g c =
    let a = c.args in
    let s = c.loop.state in
    let z = a.zone.vertices.now in
    let f = rw c.in-Some.is at c.loop.invariant.next in
    let h = goes_alone (arrangement_of s z) a.j a.behind c.in-Some.p (omega (arith, f.0, arrangement_length s z)) f.1 (sym c.goes_on.ensures ∙ c.if-goes_on.true) in
    search (rules, f, h)

pub loop-preserved : goal.loop-preserved
loop-preserved g c =
    let a = c.args in
    let o = c.loop in
    let i = c.if-goes_on in
    let s = o.state in
    let z = a.zone.vertices.now in
    let p = c.in-Some.p in
    let w = world s o.count o.out in
    let M : Listed (length s.robots) z = rw o.invariant.size a.zone.listed in
    let f : (p < length z) × (p ≡ turn_at (arrangement_of s z) a.j a.behind) = rw c.in-Some.is at o.invariant.next in
    let one : (world i.state i.count i.out ≡ made_all w (across z (pushed (arrangement_of s z) p)))
    × MatchOption i.turn (turn_at (arrangement_of i.state z) a.j a.behind ≡ length z) (λ q. (q < length z) × (q ≡ turn_at (arrangement_of i.state z) a.j a.behind)) =
    elim i.branch [
      | then-goes_on b ↦
          rw (b.state-is, b.count-is, b.out-is, b.turn-is) (
            b.step-count.ensures,
            (
              omega (arith, next_under (length z) p f.0, b.next.ensures),
              turn_next w _ z a.j a.behind p b.next.result M c.requires.j_in_bounds f.0 f.1 (sym c.goes_on.ensures ∙ b.if-goes_on.true) b.next.ensures b.step-count.ensures,
            ),
          )
      | else-goes_on b ↦ rw (b.state-is, b.count-is, b.out-is, b.turn-is) (b.push-count.ensures, b.turn_place-turn-else-goes_on.ensures)
    ] in
    record {
      size = push_robots w _ z p one.0 ∙ o.invariant.size;
      left = turn_step w _ z a.j a.behind p (length z * length z - o.counter) (length z * length z - (o.counter + 1)) M f.0 (omega arith) f.1 one.0 ∙ o.invariant.left;
      next = one.1;
    }

pub returns : goal.returns
returns g c =
    let a = c.args in
    let o = c.loop in
    turn_over (world o.state o.count o.out) a.zone.vertices.now _ a.j a.behind _ (omega arith) ∙ o.invariant.left
