-- `finish_kind`: the file, or a fault.
use mathlib.Core.Path.{ap, sym, ◌∙◌}
use native.Mathlib.Omega.{arith}
use Rattle.std.proofs.Common.{Ok}
use Rattle.std.proofs.lemmas.Result.{err_from_is_err_and}
use Rattle.answers.specs.Delivered.{answered, delivered_size, delivered_fault}
use Rattle.answers.proofs.finish_kind.Goals as goal

pub returns-in_err-size-clause-answer : goal.returns-in_err-size-clause-answer
returns-in_err-size-clause-answer c =
    let p = err_from_is_err_and c.from_residual.result c.from_residual.ensures.1 in
    let a = c.args in
    rw (p.1, p.2) (sym (delivered_fault a.kind a.limit a.len a.out.now c.in_err-size.field-0.0 c.in_err-size.ensures))

pub returns : goal.returns
returns c =
    let a = c.args in
    let s = c.in_ok-size.ensures in
    record {
      answer = ap (answered (Ok c.in_ok-size.size)) c.seal.ensures ∙ sym (delivered_size a.kind a.limit a.len a.out.now c.in_ok-size.size s);
      upper_bound = omega (arith, s.0, s.1);
    }
