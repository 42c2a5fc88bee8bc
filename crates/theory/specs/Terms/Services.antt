-- What is claimed of the four services.
use Rattle.std.specs.Prelude.{◌≡◌, refl, ◌≢◌, List, [], ◌++◌, ℕ, T}
use Rattle.std.proofs.Common.{arith}
use Rattle.spec.specs.Outcome.{Outcome, ok, refuse, ◌>>=◌, member}
use Rattle.spec.specs.Arrangement.{Move}
use Rattle.spec.specs.State.{moves_payload}
use Rattle.spec.specs.Services.{fits, answer_of, plan_moves, judging, resolving}
use Rattle.spec.specs.Terms.{plan_numbers, list_numbers, answer_numbers, controller, Zeroed, Listed, Refuses}
use Rattle.theory.specs.Basics.Outcomes.{ok_injective, bound}
use Rattle.theory.specs.Services.Refusals.{Numbered, numbered_bind, numbered_plan}
use Rattle.theory.specs.Services.Answers.{number_listed, left, answer_listed, answer_left}
use Rattle.theory.specs.Services.Replayed.{replay, plan_of, sheet_of, drawing_is, rounds_is, numbered_replay}

-- ---- the services as checks and a file

-- 0 is no refusal's number
pub plan_zero : T (member 0 (plan_numbers ++ answer_numbers)) → ⊥
unfolding member
plan_zero t = t

-- nor of a move list
pub list_zero : T (member 0 (list_numbers ++ answer_numbers)) → ⊥
unfolding member
list_zero t = t

-- nor of judging
pub judge_zero : T (member 0 plan_numbers) → ⊥
unfolding member
judge_zero t = t

-- judging's checks are resolving's
pub judge_numbered : (a b c : List ℕ) → Numbered {A = List ℕ} plan_numbers (plan_moves a b c >>= λ ms. ok [])
judge_numbered a b c = numbered_bind plan_numbers (plan_moves a b c) (λ ms. ok []) (numbered_plan a b c) (λ ms. tt)

-- ---- demand 1

-- every refusal leaves zeros, success the file and zeros
pub zeroed : Zeroed controller
unfolding Zeroed judging resolving
zeroed a b c room = (
  left plan_numbers judge_zero 0 _ (judge_numbered a b c) (λ f e. let g = bound (plan_moves a b c) (λ ms. ok []) f e in rw (← ok_injective g.2) (omega arith)),
  answer_left plan_numbers (plan_moves a b c) (numbered_plan a b c) 4 128 moves_payload room plan_zero,
  rw (drawing_is a b c room) (answer_left list_numbers (replay a b c) (numbered_replay a b c) 3 64 plan_of room list_zero),
  rw (rounds_is a b c room) (answer_left list_numbers (replay a b c) (numbered_replay a b c) 5 128 sheet_of room list_zero),
)

-- every number is of the table
pub listed : Listed controller
unfolding Listed judging resolving
listed a b c room = (
  number_listed plan_numbers 0 (plan_moves a b c >>= λ ms. ok []) (judge_numbered a b c),
  answer_listed plan_numbers (plan_moves a b c) (numbered_plan a b c) 4 128 moves_payload room,
  rw (drawing_is a b c room) (answer_listed list_numbers (replay a b c) (numbered_replay a b c) 3 64 plan_of room),
  rw (rounds_is a b c room) (answer_listed list_numbers (replay a b c) (numbered_replay a b c) 5 128 sheet_of room),
)

-- resolving refuses what judging refuses
pub refuses : Refuses judging resolving
unfolding Refuses judging resolving answer_of ◌>>=◌
refuses a b c room n = case (plan_moves a b c) n
  where
    case : (o : Outcome (List Move)) → (answer_of 0 (o >>= λ ms. ok [])).number ≢ 0
        → ((answer_of room (o >>= λ ms. fits 4 128 room (moves_payload ms))).number ≡ (answer_of 0 (o >>= λ ms. ok [])).number)
        × ((answer_of room (o >>= λ ms. fits 4 128 room (moves_payload ms))).value ≡ (answer_of 0 (o >>= λ ms. ok [])).value)
    case (ok ms) n = absurd (n refl)
    case (refuse k p) n = (refl, refl)
