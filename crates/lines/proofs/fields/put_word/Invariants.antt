use lib.ListN.{take}
use Rattle.lines.specs.Text.{Put}
use Rattle.lines.proofs.fields.put_word.Given as goal

abbrev pub invariant-loop-i : goal.invariant-loop-i
invariant-loop-i l = Put l.initial.text 0 (take l.i l.word) l.text l.i
