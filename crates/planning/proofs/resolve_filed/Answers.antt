use mathlib.Core.Path.{refl}
use borrow.Author.Rules.{rules}
use Rattle.std.specs.Prelude.{Err}
use Rattle.std.proofs.Common.{inl, ap, ◌∙◌}
use Rattle.std.proofs.lemmas.Result.{err_from_is_err_and, MatchResult-weaker}
use Rattle.planning.specs.Planned.{planned, yard_cleared, yard_placement}
use Rattle.planning.proofs.resolve_filed.Goals as goal

pub resolve_plan-requires : goal.resolve_plan-requires
resolve_plan-requires c = (search rules, yard_cleared _ _ _ _ _ c.in_ok-map.ensures)

pub returns-in_err-map : goal.returns-in_err-map
returns-in_err-map c =
    let p = err_from_is_err_and c.from_residual.result c.from_residual.ensures.1 in
    rw (p.1, p.2) (record { resolved = inl c.in_err-map.ensures; long = refl })

pub returns : goal.returns
unfolding yard_placement yard_cleared
returns c = planned _ _ _ _ _ c.in_ok-map.ensures _ _ _ _ (c.resolve_plan.ensures (yard_cleared _ _ _ _ _ c.in_ok-map.ensures))
    (MatchResult-weaker c.resolve_plan.result c.map_err.ensures.cases (λ n w. w) (λ f w. let p = err_from_is_err_and c.map_err.result w in p.1 ∙ ap Err (search rules)))
