use mathlib.Core.Path.{refl}
use Rattle.spec.specs.Outcome.{u16}
use Rattle.writer.proofs.writing.word_bytes.Goals as goal

pub returns : goal.returns
unfolding u16
returns c = refl
