use native.Mathlib.Omega.{arith}
use Rattle.lines.specs.Text.{power, put_then}
use Rattle.lines.specs.Listing.{newline}
use Rattle.lines.specs.Lines.{field_few}
use Rattle.lines.proofs.moves.put_moves.Goals as goal

pub returns : goal.returns
returns c =
    let n = c.put_field-at.ensures.put.next in
    let h = c.put_word-head.ensures.next in
    record { put = put_then (put_then c.put_word-head.ensures c.put_field-at.ensures.put) c.put_lines.ensures.put; upper_bound = omega (arith, field_few 4 c.args.count newline (unfold power in omega arith)) }
