use Rattle.std.proofs.Common.{inl, inr}
use Rattle.adjacency.specs.Rows.{bit_out, bit_out_2, bit_in_lem}
use Rattle.adjacency.proofs.joined.Goals as goal

pub returns-then-a-ge128 : goal.returns-then-a-ge128
returns-then-a-ge128 c =
    let a = c.args in
    elim c.then-a-ge128.either [ inl h ↦ bit_out a.rows.now a.u.0 a.v.0 h | inr h ↦ bit_out_2 a.rows.now a.u.0 a.v.0 h.0 h.1 ]

pub returns : goal.returns
returns c =
    let a = c.args in
    bit_in_lem a.rows.now a.u.0 a.v.0 c.if-a-ge128.false c.if-b-ge128.false
