use Rattle.std.proofs.Common.{sym, ap, ◌∙◌}
use Rattle.spec.specs.Outcome.{ok}
use Rattle.zoning.specs.Bytes.{no_byte, a_byte}
use Rattle.zoning.proofs.PayloadBytes.byte.Goals as goal

pub returns-then-there : goal.returns-then-there
returns-then-there c = λ r.
    let a = c.args in
    a_byte a.self.now.file.now a.self.now.len r a.o c.if-there.true ∙ ap ok (sym c.payload_byte.ensures)

pub returns : goal.returns
returns c = λ r.
    let a = c.args in
    no_byte a.self.now.file.now a.self.now.len r a.o c.if-there.false
