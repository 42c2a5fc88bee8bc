use Rattle.replay.specs.Moves.{file_bytes}
use Rattle.lines.specs.Lines.{Lined}
use Rattle.lines.proofs.moves.put_lines.Given as goal

abbrev pub invariant-loop-i : goal.invariant-loop-i
invariant-loop-i l = Lined (file_bytes l.moves) (file_bytes l.sheet) l.count l.initial.text l.at l.i l.text l.next
