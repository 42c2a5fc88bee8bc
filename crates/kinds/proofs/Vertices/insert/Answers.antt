use Rattle.std.proofs.Common.{◌%◌, ap, sym, ◌∙◌, arith, shl_exact, lit<, one-mul}
use Rattle.std.specs.Int.Bits.{bit_or}
use Rattle.kinds.specs.Marks.{mark_in, mark_out}
use Rattle.kinds.proofs.Vertices.insert.Goals as goal

pub returns-in-0 : goal.returns-in-0
returns-in-0 c =
    let a = c.args in
    (ap (bit_or a.self.now.low) (shl_exact 1 (a.u % 64) 64 (lit< tt) (omega arith) ∙ one-mul _) ∙ sym (mark_in _ _ _ c.in-0.is), sym (mark_out _ _ _ (λ e. omega arith)))

pub returns-in-1 : goal.returns-in-1
returns-in-1 c =
    let a = c.args in
    (sym (mark_out _ _ _ (λ e. omega arith)), ap (bit_or a.self.now.high) (shl_exact 1 (a.u % 64) 64 (lit< tt) (omega arith) ∙ one-mul _) ∙ sym (mark_in _ _ _ c.in-1.is))

pub returns-in_default : goal.returns-in_default
returns-in_default c = (sym (mark_out _ _ _ (λ e. omega arith)), sym (mark_out _ _ _ (λ e. omega arith)))
