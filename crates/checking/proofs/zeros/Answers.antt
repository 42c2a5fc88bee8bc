-- `zeros`: no bit is set in any byte.
use borrow.Author.Rules.{rules}
use Rattle.std.proofs.Common.{ap, ◌≡◌, ◌∙◌, eqb, fold, bit_or}
use Rattle.checking.specs.Block.{or_all}
use Rattle.checking.proofs.zeros.Goals as goal

pub returns : goal.returns
returns c =
    let q : c.fold.result ≡ fold bit_or 0 c.args.bytes.now = search rules in
    ap (λ n. eqb n 0) q ∙ or_all c.args.bytes.now
