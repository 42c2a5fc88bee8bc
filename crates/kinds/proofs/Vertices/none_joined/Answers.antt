use Rattle.std.proofs.Common.{sym, ◌∙◌, ne_eqb}
use Rattle.kinds.specs.Marks.{apart_out, apart_first, apart_second}
use Rattle.kinds.proofs.Vertices.none_joined.Goals as goal

pub returns-then-v-ge128 : goal.returns-then-v-ge128
returns-then-v-ge128 c = sym (apart_out _ _ _ _ c.if-v-ge128.true)

pub returns-then-row-self-eq0 : goal.returns-then-row-self-eq0
returns-then-row-self-eq0 c = rw c.words.ensures (apart_second _ _ _ _ c.if-v-ge128.false (rw c.words.ensures at c.if-row-self-eq0.true))

pub returns-else-row-self-eq0 : goal.returns-else-row-self-eq0
returns-else-row-self-eq0 c = ne_eqb _ _ c.if-row-self-eq0.false ∙ apart_first _ _ _ _ c.if-v-ge128.false (rw c.words.ensures at c.if-row-self-eq0.false)
