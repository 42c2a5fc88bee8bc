-- Move lists as files: what drawing and rounds accept is a legal list to the goals, and every such list that fits is accepted.
-- What it rests on stands in specs/Services/Replayed.antt.
use Rattle.std.specs.Prelude.{◌≡◌, List, ℕ, ◌*◌, ◌≤◌, length}
use Rattle.std.proofs.Common.{sym, ap, ◌∙◌, arith}
use Rattle.spec.specs.Outcome.{ok}
use Rattle.spec.specs.Wire.{payload_of}
use Rattle.spec.specs.Arrangement.{Move}
use Rattle.spec.specs.State.{moves_payload}
use Rattle.spec.specs.Services.{Instance, instance_of}
use Rattle.spec.specs.Terms.{Within, Reaches, start, move_file, OneList}
use Rattle.theory.specs.Basics.Outcomes.{ok_injective, bind}
use Rattle.theory.proofs.Codec.ReadBack.{read_file}
use Rattle.theory.specs.Maps.Moves.{are_legal}
use Rattle.theory.specs.Maps.Instance.{instance_accepted}
use Rattle.theory.specs.Plans.Resolve.{start_tracks}
use Rattle.theory.specs.Plans.MoveList.{checked_complete, moves_length, payload_moves}
use Rattle.theory.specs.Services.Answers.{payload_within}
use Rattle.theory.specs.Services.Replayed.{replay}

-- a list's file that fits is read back
pub read_moves : (xs : List Move) → Within 128 (move_file xs) → payload_of 40 4 128 (move_file xs) ≡ ok (moves_payload xs)
read_moves xs h =
    let one : 1 ≤ length (moves_payload xs) = omega (arith, moves_length xs) in
    read_file 40 4 128 (moves_payload xs) one (payload_within 4 128 (moves_payload xs) h) (omega arith)

-- and every legal list to the goals that fits is accepted
pub replay_complete : (a b : List ℕ) (it : Instance) (xs : List Move) → instance_of a b ≡ ok it → Reaches it xs → Within 128 (move_file xs)
    → replay a b (move_file xs) ≡ ok (record { it = it; moves = xs })
unfolding replay
replay_complete a b it xs i r h =
    let s = instance_accepted a b it i in
    let l : length (moves_payload xs) ≤ 504 * 128 = payload_within 4 128 (moves_payload xs) h in
    let k = checked_complete it.graph s.accepted it.placing xs (start_tracks it.graph s.accepted it.placing s.placed).consistent
    (are_legal it.graph (start it) xs r.0) r.1 (omega (arith, moves_length xs)) in
    bind _ _ _ i ∙ bind _ _ _ (read_moves xs h) ∙ bind _ _ _ k

-- one file is one list
pub one_list : OneList
unfolding OneList
one_list xs ys h k e = payload_moves xs ys (ok_injective (sym (read_moves xs h) ∙ ap (payload_of 40 4 128) e ∙ read_moves ys k))
