use Rattle.std.proofs.Common.{refl, arith, length-set}
use Rattle.std.proofs.lemmas.List.{get_or-set_same}
use Rattle.rosters.specs.Lists.{shift_mid, shifted_out, pair_left}
use Rattle.rosters.proofs.lists.remove.Goals as goal

pub returns-then-n-eq1 : goal.returns-then-n-eq1
returns-then-n-eq1 c =
    let p = c.args.part.now in
    pair_left p p c.args.t c.requires refl (omega (arith, c.if-n-eq1.true)) (λ e. absurd (omega (arith, c.if-n-eq1.true)))

pub returns-then-n-eq2 : goal.returns-then-n-eq2
returns-then-n-eq2 c =
    let p = c.args.part.now in
    pair_left p _ c.args.t c.requires (length-set p 0 _) (omega (arith, c.if-n-eq2.true)) (λ e. get_or-set_same p 0 _ 0 (omega (arith, e)))

pub returns : goal.returns
returns c =
    let p = c.args.part.now in
    let s = shift_mid p _ c.args.t c.requires c.shift_down.ensures in
    shifted_out p _ c.args.t c.requires s.long _ (omega arith) s
