use borrow.Author.Rules.{rules}
use mathlib.Core.Path.{◌≡◌, sym, ◌∙◌}
use native.Mathlib.Omega.{arith}
use Prim.Native.Nat.{◌≤◌}
use lib.ListN.{length}
use Rattle.spec.specs.Outcome.{◌>>◌}
use Rattle.std.proofs.lemmas.Result.{err_from_is_err_and}
use Rattle.replay.specs.Check.{checked_none, checked_from, checked_refused, checked_surplus, checked_goals, goals_from_lem}
use Rattle.replay.proofs.check.check_moves.Goals as goal

pub returns-then-p-lt2 : goal.returns-then-p-lt2
returns-then-p-lt2 c = λ m pl e h es eg. checked_none m pl _ _ c.args.p.inside c.if-p-lt2.true

pub returns-in_err-replay_moves : goal.returns-in_err-replay_moves
returns-in_err-replay_moves c =
    let p = err_from_is_err_and c.from_residual.result c.from_residual.ensures.1 in
    λ m pl e h es eg.
    let w : length c.args.starts ≡ 64 = search (rules, c.well_formed) in
    let k : c.args.k ≤ length c.args.starts = omega (arith, c.requires) in
    rw (p.1, p.2)
    (checked_refused m pl _ _ c.args.p.inside c.payload_word-count.result c.in_err-replay_moves.field-0.0
    ∙ sym (checked_from m pl _ _ c.args.p.inside _ _ _ _ _ (search rules) k es c.payload_word-count.ensures.0 c.standing-state.ensures
    (c.in_err-replay_moves.ensures m e h)))

pub returns-then-p-whole : goal.returns-then-p-whole
returns-then-p-whole c =
    λ m pl e h es eg.
    let w : length c.args.starts ≡ 64 = search (rules, c.well_formed) in
    let k : c.args.k ≤ length c.args.starts = omega (arith, c.requires) in
    checked_surplus m pl _ _ c.args.p.inside _ _ (search rules)
    ∙ sym (checked_from m pl _ _ c.args.p.inside _ _ _ _ _ (search rules) k es c.payload_word-count.ensures.0 c.standing-state.ensures
    (c.in_ok-replay_moves.ensures m e h).0)

pub returns-in-Some : goal.returns-in-Some
unfolding ◌>>◌
returns-in-Some c =
    λ m pl e h es eg.
    let w : length c.args.starts ≡ 64 = search (rules, c.well_formed) in
    let k : c.args.k ≤ length c.args.starts = omega (arith, c.requires) in
    let d = c.in_ok-replay_moves.ensures m e h in
    checked_goals m pl _ _ c.args.p.inside _ _ _ (search rules)
    (goals_from_lem m pl _ _ _ _ _ _ _ _ es eg c.standing-state.ensures d.1 c.in-Some.ensures)
    ∙ sym (checked_from m pl _ _ c.args.p.inside _ _ _ _ _ (search rules) k es c.payload_word-count.ensures.0 c.standing-state.ensures d.0)

pub returns : goal.returns
unfolding ◌>>◌
returns c =
    λ m pl e h es eg.
    let w : length c.args.starts ≡ 64 = search (rules, c.well_formed) in
    let k : c.args.k ≤ length c.args.starts = omega (arith, c.requires) in
    let d = c.in_ok-replay_moves.ensures m e h in
    checked_goals m pl _ _ c.args.p.inside _ _ _ (search rules)
    (goals_from_lem m pl _ _ _ _ _ _ _ _ es eg c.standing-state.ensures d.1 c.in_default.ensures)
    ∙ sym (checked_from m pl _ _ c.args.p.inside _ _ _ _ _ (search rules) k es c.payload_word-count.ensures.0 c.standing-state.ensures d.0)
