use borrow.Author.Rules.{rules}
use native.Mathlib.Omega.{arith}
use Rattle.walking.specs.Held.{copied_all}
use Rattle.walking.proofs.copy_list.Goals as goal

pub returns : goal.returns
returns c = λ len h g. copied_all c.args.file.now len c.args.from _ _ _ h g (search rules) (omega arith) c.payload_part.ensures
