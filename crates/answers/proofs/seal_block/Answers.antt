-- `seal_block`: head, padding and checksum make the block.
use mathlib.Core.Path.{refl, ap, ◌∙◌}
use lib.ListN.{length}
use Rattle.answers.specs.Made.{made, unstored, sealed}
use Rattle.answers.proofs.seal_block.Goals as goal

pub checksum_of-requires : goal.checksum_of-requires
checksum_of-requires c =
    let b = c.in-Some.b.now in
    let n = ap length c.in-Some.ensures.cases.same ∙ c.requires.0 in
    let k = c.args.kind in
    let w = made b k c.args.i c.args.fill n c.requires.1 _ _ _ _ _ refl c.word_bytes.ensures c.word_bytes-2.ensures c.copy_from_slice.ensures.after (c.fill.ensures.after (λ y e. e)) in
    unstored b k c.args.i c.args.fill n c.requires.1 _ w

pub returns : goal.returns
returns c =
    let b = c.in-Some.b.now in
    let s = c.in-Some.ensures.cases.same in
    let n = ap length s ∙ c.requires.0 in
    let k = c.args.kind in
    let w = made b k c.args.i c.args.fill n c.requires.1 _ _ _ _ _ refl c.word_bytes.ensures c.word_bytes-2.ensures c.copy_from_slice.ensures.after (c.fill.ensures.after (λ y e. e)) in
    rw (← s) (sealed b k c.args.i c.args.fill n c.requires.1 _ w _ _ c.checksum_of.ensures (c.copy_from_slice-2.ensures.after ∙ c.word_bytes-sum.ensures))
