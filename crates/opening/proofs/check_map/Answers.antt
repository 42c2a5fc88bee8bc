use Rattle.std.proofs.Common.{ap, arith}
use Rattle.std.proofs.lemmas.Result.{err_from_is_err_and}
use Rattle.checking.specs.Checked.{held_as}
use Rattle.refusals.specs.Refusals as told
use Rattle.refusals.specs.declared.Refusal.TheVariants.{MapFile}
use Rattle.opening.specs.Filed.{value_of}
use Rattle.opening.proofs.check_map.Goals as goal

pub returns-in_err-len : goal.returns-in_err-len
returns-in_err-len c =
    let p = err_from_is_err_and c.from_residual.result c.from_residual.ensures.1 in
    let k = c.check_file in
    rw (p.1, p.2) (told.file_refused c.args.map.now 10 1 9 MapFile k.result (k.ensures.by_index 10) _ (told.map_file_refused c.args.map.now) c.in_err-len.ensures.cases)

pub invariant_of-result : goal.invariant_of-result
invariant_of-result c =
    let k = c.check_file in
    let w = told.file_read c.args.map.now 10 1 9 MapFile k.result (k.ensures.by_index 10) c.in_ok-len.len c.in_ok-len.ensures.cases in
    record { passed = ap value_of w.1; bytes = λ i. omega (arith, c.type_inv.map i); inside = (held_as _ _ _ _ k.ensures.held w.0).most }
