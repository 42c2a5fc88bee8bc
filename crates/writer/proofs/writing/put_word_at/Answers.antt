use lib.ListN.{length-set}
use Rattle.spec.specs.Outcome.{u16}
use Rattle.writer.specs.Laid.{word_within, word_cut, word_past}
use Rattle.writer.proofs.writing.put_word_at.Goals as goal

pub returns-then-at-out-2 : goal.returns-then-at-out-2
unfolding u16
returns-then-at-out-2 c = λ off e h. rw (c.word_bytes.ensures, c.from.ensures) (word_within c.args.out.now c.args.at c.args.n off e h)

pub returns-else-at-out-2 : goal.returns-else-at-out-2
unfolding u16
returns-else-at-out-2 c = λ off e h. rw (c.word_bytes.ensures, c.from.ensures) (word_cut c.args.out.now c.args.at c.args.n off e h (simp length-set at c.if-at-out-2.false))

pub returns-else-at-out : goal.returns-else-at-out
returns-else-at-out c = λ off e h. word_past c.args.out.now c.args.at c.args.n off e h c.if-at-out.false
