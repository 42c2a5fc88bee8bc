-- The hollow controllers of document 01: each is defined, and shown not to meet the term that shuts it out.
-- What it rests on stands in specs/Terms/Hollow.antt.
use Rattle.std.proofs.Math.Path.{◌≡◌, refl, sym, ap}
use Rattle.std.proofs.Common.{◌∙◌}
use Rattle.std.specs.Prelude.{◌≢◌, ℕ, ◌%◌, length, take}
use mathlib.Core.List.{List, [], ◌∷◌}
use native.Mathlib.Omega.{arith}
use Rattle.std.proofs.Math.ListN.{get_or}
use Rattle.std.proofs.Math.Dec.{lit<}
use Rattle.spec.specs.Outcome.{ok, ◌>>=◌, ◌>>◌, check, ◌and◌, ◌or◌, all, u16}
use Rattle.spec.specs.Wire.{file_of, payload_of}
use Rattle.spec.specs.Arrangement.{Move, mv}
use Rattle.spec.specs.State.{standing, moved_all, drawn_steps, plan_payload, move_bytes, moves_payload}
use Rattle.spec.specs.Services.{Answer, instance_of, fits, answer_of, plan_moves}
use Rattle.spec.specs.Terms.{Judging, Writing, Bytes, Within, writes, move_file, plan_file, start, goal, Drawn, RoundTrip, Sound, Complete}
use Rattle.theory.specs.Basics.Outcomes.{ok_injective}
use Rattle.theory.specs.Plans.MoveList.{moves_length}
use Rattle.theory.proofs.Services.Replayed.{read_moves}
use Rattle.theory.proofs.Terms.Services.{complete}
use Rattle.theory.specs.Terms.Yards.{all_bytes, map_a, placing_a, plan_a, bytes_a, cleared_a, no_steps, bytes_none, map_b, placing_b, plan_b, bytes_b, it_b, only_b}
use Rattle.theory.proofs.Terms.Yards.{same_list_lem}
use Rattle.theory.specs.Terms.Hollow.{turns_down, empty_list, inside, step_one, skips_later, invented, invented_b}

-- ---- "turns down every plan": demand 3, second half

-- Yard A's plan is drawn from a legal list to the goals, so whoever turns it down is out
pub turned_down : (judge : Judging) → (judge map_a placing_a plan_a).number ≢ 0 → Complete judge → ⊥
unfolding Complete
turned_down judge n t = n ((t map_a placing_a plan_a bytes_a).1 ((complete map_a placing_a plan_a bytes_a).0 cleared_a))

-- so is this one
pub turns_down_out : Complete turns_down → ⊥
turns_down_out = turned_down turns_down (λ e. omega arith)

-- ---- "clears all with an empty list": demand 3, goals

-- the empty list is legal, but in Yard B does not end on the goal: whoever answers with it there is out
pub answered_empty : (resolve : Writing) (c : List ℕ) → Bytes c → resolve map_b placing_b c 512 ≡ writes 512 (move_file []) → Sound resolve → ⊥
unfolding Sound
answered_empty resolve c h a s =
    let w = s map_b placing_b c 512 h (ap (λ (x : Answer). x.number) a) in
    let e = same_list_lem 512 [] w.2 small w.6 (sym a ∙ w.7) in
    let r : (moved_all (start it_b) []).vertices ≡ (goal it_b).vertices
    = ap (λ it. (moved_all (start it) []).vertices) (only_b w.0 w.1) ∙ ap (λ xs. (moved_all (start w.0) xs).vertices) e ∙ w.3.1 ∙ ap (λ it. (goal it).vertices) (sym (only_b w.0 w.1)) in
    off r
  where
    small : Within 128 (move_file [])
    small = unfold file_of moves_payload in lit< tt

    off : (moved_all (start it_b) []).vertices ≡ (goal it_b).vertices → ⊥
    off r = unfold moved_all standing it_b in absurd (let z : ◌≡◌ {A = ℕ} 0 1 = ap (λ l. get_or l 0 0) r in omega arith)

-- also for the plan with no steps, whose crossings are those of the empty list
pub empty_list_out : Sound empty_list → ⊥
empty_list_out = answered_empty empty_list no_steps bytes_none refl

-- ---- "works out step one, skips later crossings": demand 3, crossings

-- but the plan drawn from it has one step
pub skips_later_out : Sound skips_later → ⊥
unfolding Sound
skips_later_out s =
    let w = s map_b placing_b plan_b 512 bytes_b (ap (λ (x : Answer). x.number) answer) in
    let e = same_list_lem 512 (mv 0 0 1 ∷ []) w.2 small w.6 (sym answer ∙ w.7) in
    let r : plan_b ≡ plan_file it_b (mv 0 0 1 ∷ []) = w.4 ∙ ap (λ it. plan_file it w.2) (sym (only_b w.0 w.1)) ∙ ap (plan_file it_b) (sym e) in
    off r
  where
    answer : skips_later map_b placing_b plan_b 512 ≡ writes 512 (move_file (mv 0 0 1 ∷ []))
    answer = unfold skips_later map_b placing_b plan_b file_of moves_payload step_one inside instance_of plan_moves fits answer_of ◌>>=◌ ◌>>◌ check ◌and◌ ◌or◌ in refl

    small : Within 128 (move_file (mv 0 0 1 ∷ []))
    small = unfold file_of moves_payload in lit< tt

    off : plan_b ≡ plan_file it_b (mv 0 0 1 ∷ []) → ⊥
    off r = let z : ◌≡◌ {A = ℕ} 3 1 = unfold plan_b file_of plan_payload drawn_steps standing it_b ◌and◌ in ap (λ l. get_or l 7 0) r in omega arith

-- ---- "writes an invented move count": demand 2

-- the count in a list's payload is the number of its moves, whatever follows
count_true : (xs : List Move) → moves_payload xs ≡ invented_b → ⊥
unfolding moves_payload u16 invented_b
count_true xs e =
    let n : length xs ≡ 3 = omega (arith, sym (moves_length xs) ∙ ap length e) in
    let z : length xs % 256 ≡ 4 = ap (λ l. get_or l 1 0) e in
    omega arith

-- what draws legal lists alone can't draw from it
pub invented_out : (draw : Writing) → Drawn draw → RoundTrip invented draw → ⊥
unfolding RoundTrip Drawn
invented_out draw d t =
    let e = t map_b placing_b plan_b 512 512 bytes_b zero_number (unfold plan_b file_of in lit< tt) in
    let f : draw map_b placing_b (file_of 4 invented_b) 512 ≡ writes 512 plan_b = ap (λ l. draw map_b placing_b l 512) (sym file) ∙ e in
    let w = d map_b placing_b (file_of 4 invented_b) 512 bytes (ap (λ (x : Answer). x.number) f) in
    let r = read_moves w.2 (rw w.4 at w.5) in
    count_true w.2 (ok_injective (sym r ∙ ap (payload_of 40 4 128) (sym w.4) ∙ read))
  where
    zero_number : (invented map_b placing_b plan_b 512).number ≡ 0
    zero_number = unfold invented map_b placing_b plan_b file_of plan_moves fits answer_of u16 move_bytes ◌>>=◌ ◌>>◌ check ◌and◌ ◌or◌ in refl

    file : take (invented map_b placing_b plan_b 512).value (invented map_b placing_b plan_b 512).buffer ≡ file_of 4 invented_b
    file = unfold invented invented_b map_b placing_b plan_b file_of plan_moves fits answer_of u16 move_bytes ◌>>=◌ ◌>>◌ check ◌and◌ ◌or◌ in refl

    bytes : Bytes (file_of 4 invented_b)
    bytes = all_bytes (file_of 4 invented_b) (unfold file_of invented_b all in tt)

    read : payload_of 40 4 128 (file_of 4 invented_b) ≡ ok invented_b
    read = unfold invented_b file_of payload_of ◌>>=◌ ◌>>◌ check ◌and◌ ◌or◌ in refl
