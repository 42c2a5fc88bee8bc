use native.Mathlib.Omega.{arith}
use Rattle.std.proofs.Common.{sym}
use Rattle.std.proofs.lemmas.Result.{err_from_is_err_and}
use Rattle.checking.specs.Checked.{held_as}
use Rattle.refusals.specs.Refusals as told
use Rattle.refusals.specs.declared.Refusal.TheVariants.{PlanFile}
use Rattle.planning.specs.Planned.{yard_given, yard_placement, cleared_yard, cleared_file, cleared_plan, cleared_all}
use Rattle.planning.proofs.read_filed.Goals as goal

pub returns-in_err-yard : goal.returns-in_err-yard
returns-in_err-yard c =
    let p = err_from_is_err_and c.from_residual.result c.from_residual.ensures.1 in
    rw (p.1, p.2) (cleared_yard c.args.map.now.file.now c.args.placed.now c.args.plan.now _ c.in_err-yard.ensures)

pub returns-in_err-len : goal.returns-in_err-len
returns-in_err-len c =
    let p = err_from_is_err_and c.from_residual-in_err-len.result c.from_residual-in_err-len.ensures.1 in
    let k = c.check_file in
    rw (p.1, p.2) (cleared_file c.args.map.now.file.now c.args.placed.now c.args.plan.now _ _ _ c.in_ok-yard.ensures _ (told.file_refused c.args.plan.now 30 3 64 PlanFile k.result (k.ensures.by_index 30) _ (told.plan_file_refused c.args.plan.now) c.in_err-len.ensures.cases))

pub judge_plan-requires : goal.judge_plan-requires
judge_plan-requires c = record { placement = rw c.words.ensures (yard_placement _ _ _ _ _ c.in_ok-yard.ensures) }

pub returns-in_err-judge_plan : goal.returns-in_err-judge_plan
returns-in_err-judge_plan c =
    let p = err_from_is_err_and c.from_residual-in_err-judge_plan.result c.from_residual-in_err-judge_plan.ensures.1 in
    let k = c.check_file in
    let w = told.file_read c.args.plan.now 30 3 64 PlanFile k.result (k.ensures.by_index 30) c.in_ok-len.len c.in_ok-len.ensures.cases in
    let d = c.in_ok-yard.ensures in
    rw (p.1, p.2)
    (cleared_plan c.args.map.now.file.now c.args.placed.now c.args.plan.now _ _ _ d _ w.1 (λ i. omega (arith, c.type_inv.plan i)) _
    (c.in_err-judge_plan.ensures d.it.graph d.it.placing (rw c.words.ensures (yard_given _ _ _ _ _ d)) (sym d.held.count) d.placed (sym d.robots.starts) (sym d.robots.goals)))

pub returns : goal.returns
returns c =
    let k = c.check_file in
    let w = told.file_read c.args.plan.now 30 3 64 PlanFile k.result (k.ensures.by_index 30) c.in_ok-len.len c.in_ok-len.ensures.cases in
    let d = c.in_ok-yard.ensures in
    cleared_all c.args.map.now.file.now c.args.placed.now c.args.plan.now _ _ _ d _ w.1 (held_as _ _ _ _ k.ensures.held w.0)
    (c.in_ok-judge_plan.ensures d.it.graph d.it.placing (rw c.words.ensures (yard_given _ _ _ _ _ d)) (sym d.held.count) d.placed (sym d.robots.starts) (sym d.robots.goals))
