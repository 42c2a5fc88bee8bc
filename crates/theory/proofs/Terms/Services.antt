-- What is claimed of the four services.
-- What it rests on stands in specs/Terms/Services.antt.
use Rattle.std.specs.Prelude.{◌≡◌, refl, List, [], ℕ, ◌-◌, ◌≤◌, length, take, replicate}
use Rattle.std.proofs.Common.{sym, ap, ap₂, ◌∙◌, take_at}
use Rattle.spec.specs.Outcome.{ok, ◌>>=◌}
use Rattle.spec.specs.Wire.{file_of}
use Rattle.spec.specs.Arrangement.{Move}
use Rattle.spec.specs.State.{drawn_steps, moves_payload}
use Rattle.spec.specs.Services.{Instance, Answer, fits, answer_of, plan_moves, judging, resolving, drawing, rounds}
use Rattle.spec.specs.Terms.{Writing, Gives, Takes, start, plan_numbers, list_numbers, move_file, plan_file, writes, Within, Resolves, Cleared, Draws, Drawn, OneList, OnePlan, RoundTrip, Times, Timed, Sound, Complete, Ryan}
use Rattle.theory.specs.Basics.Outcomes.{ok_injective, bound}
use Rattle.theory.specs.Maps.Moves.{legal_all_lem}
use Rattle.theory.specs.Services.Refusals.{numbered_plan}
use Rattle.theory.specs.Services.Answers.{number_zero, answer_zero}
use Rattle.theory.proofs.Services.Answers.{answer_of_lem}
use Rattle.theory.proofs.Services.Judged.{cleared_plan, cleared_file, abstract_cleared}
use Rattle.theory.specs.Services.Replayed.{Replay, replay, plan_of, sheet_of, drawing_is, rounds_is, numbered_replay, replay_sound}
use Rattle.theory.proofs.Services.Replayed.{replay_complete, one_list}
use Rattle.theory.proofs.Terms.Plans.{ryan}
use Rattle.theory.specs.Terms.Services.{plan_zero, list_zero, judge_zero, judge_numbered}

-- ---- the services as checks and a file

-- what is cleared has a defined list
judged : (a b c : List ℕ) → (judging a b c).number ≡ 0 → (ms : List Move) × (plan_moves a b c ≡ ok ms)
unfolding judging
judged a b c e =
    let f = number_zero plan_numbers judge_zero 0 _ (judge_numbered a b c) e in
    let g = bound (plan_moves a b c) (λ ms. ok []) f.0 f.1 in
    (g.0, g.1)

-- and what has one is cleared
judges : (a b c : List ℕ) (ms : List Move) → plan_moves a b c ≡ ok ms → (judging a b c).number ≡ 0
unfolding judging answer_of ◌>>=◌
judges a b c ms e = rw e

-- ---- demand 1

-- and answers what judging clears
pub resolves : Resolves judging resolving
unfolding Resolves resolving
resolves a b c room e =
    let j = judged a b c e in
    (j.0, j.1, answer_of_lem (plan_moves a b c) 4 128 moves_payload room j.0 j.1)

-- ---- demand 2

-- judging clears a file exactly where it is that of an abstract plan from the starts to the goals, and fits
pub cleared : Cleared judging
unfolding Cleared Ryan
cleared a b c h = (
  λ e.
      let j = judged a b c e in
      let p = cleared_plan a b c j.0 h j.1 in
      (p.it, p.instance, p.steps, (ryan a b p.it p.steps p.instance).1 (j.0, (legal_all_lem p.concrete.legals, p.concrete.reached), p.concrete.drawn), p.file, p.size),
  λ w. let v = abstract_cleared a b c w.0 w.2 w.1 w.3 w.4 w.5 in judges a b c v.0 v.1,
)

-- a service that checks the list and then writes a file of it
module _ (kind limit : ℕ) (payload : Replay → List ℕ) (write : Writing)
    (is : (a b c : List ℕ) (room : ℕ) → write a b c room ≡ answer_of room (replay a b c >>= λ w. fits kind limit room (payload w))) where
  -- the file of a list
  abbrev file_for : Instance → List Move → List ℕ
  file_for it xs = file_of kind (payload (record { it = it; moves = xs }))

  -- it answers a legal list to the goals
  gives : Gives limit file_for write
  gives a b it xs room i r h = rw (is a b (move_file xs) room)
      (answer_of_lem (replay a b (move_file xs)) kind limit payload room (record { it = it; moves = xs }) (replay_complete a b it xs i r h))

  -- and accepts nothing else
  takes : Takes limit file_for write
  takes a b c room h e =
      let z = rw (is a b c room) at e in
      let w = answer_zero list_numbers (replay a b c) (numbered_replay a b c) kind limit payload room list_zero z in
      let x = answer_of_lem (replay a b c) kind limit payload room w.0 w.1 in
      let s = replay_sound a b c w.0 h w.1 in
      (w.0.it, s.instance, w.0.moves, s.reaches, s.file, s.size, (x.whole.0 z).0, is a b c room ∙ x.wrote z)

-- drawing answers with the plan
pub draws : Draws drawing
unfolding Draws
draws = gives 3 64 plan_of drawing drawing_is

-- and accepts nothing but such lists
pub drawn : Drawn drawing
unfolding Drawn
drawn = takes 3 64 plan_of drawing drawing_is

-- rounds answers with the round sheet
pub times : Times rounds
unfolding Times
times = gives 5 128 sheet_of rounds rounds_is

-- and accepts nothing else
pub timed : Timed rounds
unfolding Timed
timed = takes 5 128 sheet_of rounds rounds_is

-- a file that is written is what is read up to its length
written : (room : ℕ) (x : Answer) (f : List ℕ) → x ≡ writes room f → take x.value x.buffer ≡ f
written room x f e = ap (λ (y : Answer). take y.value y.buffer) e ∙ take_at f (replicate (room - length f) 0) (length f) refl

-- a file has one plan
pub one_plan : OnePlan drawing
unfolding OnePlan Drawn OneList
one_plan a b c room other h e f =
    let v = drawn a b c room h e in
    let w = drawn a b c other h f in
    let i : v.0 ≡ w.0 = ok_injective (sym v.1 ∙ w.1) in
    let m : v.2 ≡ w.2 = one_list v.2 w.2 (rw v.4 at v.5) (rw w.4 at w.5) (sym v.4 ∙ w.4) in
    written room _ _ v.7 ∙ ap₂ {C = List ℕ} plan_file i m ∙ sym (written other _ _ w.7)

-- ---- demand 3

-- what resolving writes is a legal list to the goals that draws the plan
pub sound : Sound resolving
unfolding Sound resolving
sound a b c room h e =
    let w = answer_zero plan_numbers (plan_moves a b c) (numbered_plan a b c) 4 128 moves_payload room plan_zero e in
    let x = answer_of_lem (plan_moves a b c) 4 128 moves_payload room w.0 w.1 in
    let p = cleared_plan a b c w.0 h w.1 in
    (p.it, p.instance, w.0, (legal_all_lem p.concrete.legals, p.concrete.reached), cleared_file p, p.size, (x.whole.0 e).0, x.wrote e)

-- judging clears a file exactly where it is the plan that a legal list to the goals draws, and fits
pub complete : Complete judging
unfolding Complete Ryan
complete a b c h = (
  λ e.
      let j = judged a b c e in
      let p = cleared_plan a b c j.0 h j.1 in
      (p.it, p.instance, j.0, (legal_all_lem p.concrete.legals, p.concrete.reached), cleared_file p, p.size),
  λ w.
      let ss = drawn_steps w.0.graph (start w.0) w.2 in
      let x = (ryan a b w.0 ss w.1).1 (w.2, w.3, refl) in
      let v = abstract_cleared a b c w.0 ss w.1 x w.4 w.5 in
      judges a b c v.0 v.1,
)

-- drawing from what resolving wrote gives the plan again, byte for byte
pub round_trip : RoundTrip resolving drawing
unfolding RoundTrip Sound Draws
round_trip a b c room back h e k =
    let s = sound a b c room h e in
    let it = s.0 in
    let xs = s.2 in
    let list : take (resolving a b c room).value (resolving a b c room).buffer ≡ move_file xs = written room (resolving a b c room) (move_file xs) s.7 in
    let size : Within 64 (plan_file it xs) = rw s.4 at s.5 in
    let fits : length (plan_file it xs) ≤ back = rw s.4 at k in
    let d = draws a b it xs back s.1 s.3 s.6 in
    ap (λ f. drawing a b f back) list ∙ d.wrote (d.whole.1 (size, fits)) ∙ ap (writes back) (sym s.4)
