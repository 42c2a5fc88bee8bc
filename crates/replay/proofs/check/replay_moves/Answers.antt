use borrow.Author.Rules.{rules}
use mathlib.Core.Path.{◌≡◌, refl, ◌∙◌}
use Prim.Native.Nat.{◌+◌, ◌*◌}
use Rattle.std.proofs.lemmas.Result.{err_from_is_err_and, MatchResult-weaker}
use Rattle.replay.specs.Moves.{replay_start, three_move_lem}
use Rattle.replay.specs.Check.{passed_tests, replay_short, replay_refused, replay_next, replay_all}
use native.Mathlib.Omega.{arith}
use Rattle.replay.proofs.check.replay_moves.Goals as goal

pub loop-i-init : goal.loop-i-init
loop-i-init c = (refl, λ m e h. replay_start m _ _ _ _)

pub returns-then-p-i : goal.returns-then-p-i
returns-then-p-i c = λ m e h. replay_short m _ _ _ _ c.args.p.inside _ _ _ (c.loop-i.invariant.1 m e h) (search rules) c.if-p-i.true

pub returns-in_err-map_err : goal.returns-in_err-map_err
returns-in_err-map_err c =
    let p = err_from_is_err_and c.from_residual.result c.from_residual.ensures.1 in
    rw (p.1, p.2) (λ m e h. replay_refused m _ _ _ _ c.args.p.inside _ _ _ (c.loop-i.invariant.1 m e h) _ c.fault_of.result c.in_err-map_err.field-0.0 (search rules) (search rules)
    (three_move_lem c.args.p.file.now c.loop-i.i-counter c.three_from-x.result (c.three_from-x.ensures (2 + c.loop-i.i-counter * 3) c.loop-i.invariant.0))
    (c.fault_of.ensures m e h _) c.in_err-map_err.ensures.variant
    (MatchResult-weaker c.fault_of.result c.in_err-map_err.ensures.cases (λ x w. w) (λ f w. search rules)))

pub place_after-at-requires : goal.place_after-at-requires
place_after-at-requires c = omega (arith, c.loop-i.invariant.0)

pub loop-i-preserved : goal.loop-i-preserved
loop-i-preserved c =
    let o = c.loop-i in (
      (let w : 2 + o.i-counter * 3 + 3 ≡ 2 + (o.i-counter + 1) * 3 = omega arith in rw w at (c.place_after-at.ensures (2 + o.i-counter * 3) o.invariant.0)),
      λ m e h.
          replay_next m _ _ _ _ c.args.p.inside _ _ _ (o.invariant.1 m e h) _ _ (search rules) (search rules)
          (three_move_lem c.args.p.file.now o.i-counter c.three_from-x.result (c.three_from-x.ensures (2 + o.i-counter * 3) o.invariant.0))
          (passed_tests o.i-counter c.fault_of.result c.in_ok-map_err.ensures.variant ∙ c.fault_of.ensures m e h _)
          c.shift.ensures,
    )

pub returns : goal.returns
returns c = λ m e h. replay_all m _ _ _ _ c.args.p.inside _ _ _ (c.loop-i.invariant.1 m e h) (search rules)
