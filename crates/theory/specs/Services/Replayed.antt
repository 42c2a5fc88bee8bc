-- Move lists as files: what drawing and rounds accept is a legal list to the goals, and every such list that fits is accepted.
use Rattle.std.specs.Prelude.{[], ◌∷◌, ◌≡◌, List, ℕ}
use Rattle.std.proofs.Math.Path.{refl}
use Rattle.std.proofs.Common.{sym, ap, ◌∙◌}
use Rattle.spec.specs.Outcome.{Outcome, ok, refuse, ◌>>=◌}
use Rattle.spec.specs.Wire.{file_of, payload_of}
use Rattle.spec.specs.Arrangement.{Move}
use Rattle.spec.specs.State.{drawn_steps, plan_payload, rounds_payload}
use Rattle.spec.specs.Run.{checked_moves}
use Rattle.spec.specs.Services.{Instance, instance_of, fits, answer_of, drawing, rounds}
use Rattle.spec.specs.Terms.{Bytes, Within, Reaches, start, move_file, map_numbers, list_numbers}
use Rattle.theory.specs.Basics.Outcomes.{ok_injective, bound}
use Rattle.theory.specs.Codec.{written_file, written_bytes}
use Rattle.theory.specs.Maps.Moves.{legal_all_lem}
use Rattle.theory.specs.Maps.Instance.{instance_accepted}
use Rattle.theory.specs.Plans.MoveList.{checked_sound}
use Rattle.theory.specs.Services.Refusals.{Numbered, numbered_bind, numbered_left, numbered_instance, numbered_list, numbered_checked}

module _ {A B C : Type 0} where
  -- a chain in two parts
  bind_then : (o : Outcome A) (f : A → Outcome B) (g : B → Outcome C) → ((o >>= f) >>= g) ≡ (o >>= λ a. f a >>= g)
  unfolding ◌>>=◌
  bind_then (ok a) f g = refl
  bind_then (refuse n p) f g = refl

module _ {A B : Type 0} where
  -- the same rest
  bind_same : (o : Outcome A) (f g : A → Outcome B) → ((a : A) → f a ≡ g a) → (o >>= f) ≡ (o >>= g)
  unfolding ◌>>=◌
  bind_same (ok a) f g e = e a
  bind_same (refuse n p) f g e = refl

-- a checked list and the instance that it is for
pub record Replay : Type 0 where
  pub it : Instance
  pub moves : List Move

-- the list of a file, checked
unfoldable pub replay : List ℕ → List ℕ → List ℕ → Outcome Replay
replay a b c = instance_of a b >>= λ it. payload_of 40 4 128 c >>= λ p. checked_moves it.graph it.placing p >>= λ ms. ok (record { it = it; moves = ms })

-- a service that works on the checked list does so first
replay_then : {B : Type 0} (a b c : List ℕ) (f : Instance → List Move → Outcome B)
    → (instance_of a b >>= λ it. payload_of 40 4 128 c >>= λ p. checked_moves it.graph it.placing p >>= λ ms. f it ms) ≡ (replay a b c >>= λ w. f w.it w.moves)
unfolding replay ◌>>=◌
replay_then a b c f = sym (
    bind_then (instance_of a b) _ (λ w. f w.it w.moves)
    ∙ bind_same (instance_of a b) _ _ (λ it. bind_then (payload_of 40 4 128 c) _ (λ w. f w.it w.moves)
    ∙ bind_same (payload_of 40 4 128 c) _ _ (λ p. bind_then (checked_moves it.graph it.placing p) _ (λ w. f w.it w.moves)))
    )

-- the plan that drawing writes of it
abbrev pub plan_of : Replay → List ℕ
plan_of w = plan_payload (drawn_steps w.it.graph (start w.it) w.moves)

-- the round sheet that rounds writes of it
abbrev pub sheet_of : Replay → List ℕ
sheet_of w = rounds_payload w.moves

-- drawing is the check of the list and then its plan
pub drawing_is : (a b c : List ℕ) (room : ℕ) → drawing a b c room ≡ answer_of room (replay a b c >>= λ w. fits 3 64 room (plan_of w))
unfolding drawing
drawing_is a b c room = ap (answer_of room) (replay_then a b c (λ it ms. fits 3 64 room (plan_payload (drawn_steps it.graph (start it) ms))))

-- rounds is the check of the list and then its round sheet
pub rounds_is : (a b c : List ℕ) (room : ℕ) → rounds a b c room ≡ answer_of room (replay a b c >>= λ w. fits 5 128 room (sheet_of w))
unfolding rounds
rounds_is a b c room = ap (answer_of room) (replay_then a b c (λ it ms. fits 5 128 room (rounds_payload ms)))

-- its refusals are of the table
pub numbered_replay : (a b c : List ℕ) → Numbered list_numbers (replay a b c)
unfolding replay
numbered_replay a b c = numbered_bind list_numbers _ _ (numbered_left map_numbers (41 ∷ 42 ∷ 43 ∷ 44 ∷ 45 ∷ 46 ∷ 47 ∷ 48 ∷ 51 ∷ []) (instance_of a b) (numbered_instance a b))
    (λ it. numbered_bind list_numbers _ _ (numbered_list c) (λ p. numbered_bind list_numbers _ _ (numbered_checked it.graph it.placing p) (λ ms. tt)))

-- a list that is accepted is legal, reaches the goals and is the file
pub record Replayed (a b c : List ℕ) (w : Replay) : Type 0 where
  pub instance : instance_of a b ≡ ok w.it
  pub reaches : Reaches w.it w.moves
  pub file : c ≡ move_file w.moves
  pub size : Within 128 c

-- what is accepted is so
pub replay_sound : (a b c : List ℕ) (w : Replay) → Bytes c → replay a b c ≡ ok w → Replayed a b c w
unfolding replay
replay_sound a b c w h e =
    let i = bound _ _ _ e in
    let p = bound _ _ _ i.2 in
    let m = bound _ _ _ p.2 in
    let s = instance_accepted a b i.0 i.1 in
    let f = written_file 40 4 128 c p.0 h p.1 in
    let k = checked_sound i.0.graph s.accepted i.0.placing s.placed p.0 m.0 (written_bytes 40 4 128 c p.0 h p.1) m.1 in
    rw (← ok_injective m.2) (record { instance = i.1; reaches = (legal_all_lem k.legals, k.reached); file = f.0 ∙ ap (file_of 4) (sym k.payload); size = f.3 })
