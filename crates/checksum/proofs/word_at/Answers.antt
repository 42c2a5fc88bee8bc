-- `word_at`: two bytes make the word.
use Rattle.spec.specs.Wire.{word}
use borrow.Author.Rules.{rules}
use Rattle.checksum.proofs.word_at.Goals as goal

pub returns : goal.returns
unfolding word
returns c = search rules
