use Rattle.std.proofs.Common.{◌∙◌, List, ℕ, ◌++◌, reverse, ap, ap₂}
use Rattle.rosters.specs.Lists.{turned_round}
use Rattle.rosters.proofs.lists.turn.Goals as goal

pub returns : goal.returns
returns c =
    let s = c.split_at_mut-front.ensures in
    c.reverse-3.ensures.after ∙ ap₂ (λ (x y : List ℕ). reverse (x ++ y)) (c.reverse.ensures.after ∙ ap reverse s.front) (c.reverse-2.ensures.after ∙ ap reverse s.back) ∙ turned_round c.args.q c.args.list.now
