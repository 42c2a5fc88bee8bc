use native.Mathlib.Omega.{arith}
use Rattle.replay.specs.Moves.{file_bytes}
use Rattle.lines.specs.Lines.{line_put}
use Rattle.lines.proofs.moves.put_line.Goals as goal

pub returns : goal.returns
returns c =
    let p =
    line_put (file_bytes c.args.moves.now) (file_bytes c.args.sheet.now) c.args.i _ _ _ _ c.payload_byte-robot.ensures c.payload_byte-from.ensures c.payload_byte-to.ensures c.payload_word-round.ensures.0
    (omega arith) (omega arith) (omega arith) c.payload_word-round.ensures.1
    c.put_field-a.ensures.put c.put_field-b.ensures.put c.put_field-c.ensures.put c.put_field.ensures.put in
    record { put = p.0; upper_bound = p.1 }
