-- Two yards, as files, for which the services compute.
-- What it rests on stands in specs/Terms/Yards.antt.
use Rattle.std.specs.Prelude.{◌≡◌, refl, List, ◌++◌, ℕ, ◌-◌, length, take, replicate}
use Rattle.std.proofs.Common.{sym, ap, ◌∙◌, take_at}
use Rattle.spec.specs.Arrangement.{Move}
use Rattle.spec.specs.Services.{Answer}
use Rattle.spec.specs.Terms.{Within, writes, move_file, OneList}
use Rattle.theory.proofs.Services.Replayed.{one_list}

-- two answers that are the same file are the same list
pub same_list_lem : (room : ℕ) (xs ys : List Move) → Within 128 (move_file xs) → Within 128 (move_file ys) → writes room (move_file xs) ≡ writes room (move_file ys) → xs ≡ ys
unfolding OneList
same_list_lem room xs ys h k e = one_list xs ys h k (file xs ∙ ap (λ (x : Answer). take x.value x.buffer) e ∙ sym (file ys))
  where
    file : (zs : List Move) → move_file zs ≡ take (length (move_file zs)) (move_file zs ++ replicate (room - length (move_file zs)) 0)
    file zs = sym (take_at (move_file zs) (replicate (room - length (move_file zs)) 0) (length (move_file zs)) refl)
