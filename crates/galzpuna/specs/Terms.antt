-- The terms of supply, of what the exported functions return: a contract says that the answer is the written meaning's, so the theorems about
-- the meanings hold of it. Here r is what an exported function returns and o its buffer at exit.
use Rattle.std.specs.Prelude.{◌≡◌, ℕ, ◌≤◌, ◌↔◌, List, [], length, take}
use Rattle.std.proofs.Common.{sym, ap, ◌∙◌}
use Rattle.spec.specs.Outcome.{ok}
use Rattle.spec.specs.Wire.{file_of}
use Rattle.spec.specs.Arrangement.{Move}
use Rattle.spec.specs.State.{Step, plan_payload}
use Rattle.spec.specs.Services.{Instance, instance_of, plan_moves, judging, resolving, drawing}
use Rattle.spec.specs.Terms as term
use Rattle.theory.specs.Terms.Services.{zeroed}
use Rattle.theory.proofs.Terms.Services.{cleared, complete, sound, resolves, round_trip, drawn}
use Rattle.galzpuna.specs.declared.Answer.{Answer}
use Rattle.galzpuna.specs.Services.{answered}

module _ (a b c : List ℕ) (r : Answer) where
  module _ (e : answered r [] ≡ judging a b c) (h : term.Bytes c) where
    same : (judging a b c).number ≡ r.number
    same = sym (ap (λ x. x.number) e)

    -- demand 2: judging returns 0 exactly if map and placing are accepted, and the plan is an abstract plan from the starts to the goals that fits
    pub judge_cleared : (r.number ≡ 0)
        ↔ ((it : Instance) × (instance_of a b ≡ ok it) × (ss : List Step) × term.Abstract it.graph (term.start it) ss (term.goal it) × (c ≡ file_of 3 (plan_payload ss)) × term.Within 64 c)
    unfolding term.Cleared
    judge_cleared = rw same at (cleared a b c h)

    -- demand 3, second half: exactly if it is drawn from a legal list from the starts to the goals, and fits
    pub judge_complete : (r.number ≡ 0)
        ↔ ((it : Instance) × (instance_of a b ≡ ok it) × (xs : List Move) × term.Reaches it xs × (c ≡ term.plan_file it xs) × term.Within 64 c)
    unfolding term.Complete
    judge_complete = rw same at (complete a b c h)

  module _ (room : ℕ) (o : List ℕ) where
    -- demand 3, first half: what resolving writes is a legal list to the goals, and the plan drawn from it is the plan
    pub resolve_sound : answered r o ≡ resolving a b c room → term.Bytes c → r.number ≡ 0
        → (it : Instance) × (instance_of a b ≡ ok it) × (xs : List Move) × term.Reaches it xs × (c ≡ term.plan_file it xs) × term.Within 64 c
        × term.Within 128 (term.move_file xs) × (answered r o ≡ term.writes room (term.move_file xs))
    unfolding term.Sound
    resolve_sound e h z = rw (← e) at (sound a b c room h (sym (ap (λ x. x.number) e) ∙ z))

    -- every refusal leaves the buffer all zero, and success leaves the file and zeros
    pub resolve_left : answered r o ≡ resolving a b c room → term.Left room (answered r o)
    unfolding term.Zeroed
    resolve_left e = rw e (zeroed a b c room).1

    -- what drawing accepts is a legal list from the starts to the goals, and its answer is that list's plan and zeros
    pub draw_drawn : answered r o ≡ drawing a b c room → term.Bytes c → r.number ≡ 0
        → (it : Instance) × (instance_of a b ≡ ok it) × (xs : List Move) × term.Reaches it xs × (c ≡ term.move_file xs) × term.Within 128 c
        × term.Within 64 (term.plan_file it xs) × (answered r o ≡ term.writes room (term.plan_file it xs))
    unfolding term.Drawn
    draw_drawn e h z = rw (← e) at (drawn a b c room h (sym (ap (λ x. x.number) e) ∙ z))

-- demand 2: the plan drawn from what resolving wrote is the plan, byte for byte
pub round_trip_lem : (a b c : List ℕ) (room back : ℕ) (r q : Answer) (o p : List ℕ) → term.Bytes c → answered r o ≡ resolving a b c room → r.number ≡ 0 → length c ≤ back
    → answered q p ≡ drawing a b (take r.place o) back → answered q p ≡ term.writes back c
unfolding term.RoundTrip
round_trip_lem a b c room back r q o p h e z l f =
    f ∙ (rw (← e) at (round_trip a b c room back h (sym (ap (λ x. x.number) e) ∙ z) l))

-- what judging clears resolving resolves, unless 61 or 60
pub resolves_of : (a b c : List ℕ) (room : ℕ) (r q : Answer) (o : List ℕ) → answered r [] ≡ judging a b c → answered q o ≡ resolving a b c room → r.number ≡ 0
    → (xs : List Move) × (plan_moves a b c ≡ ok xs) × term.Answers 128 room (term.move_file xs) (answered q o)
unfolding term.Resolves
resolves_of a b c room r q o e f z = rw (← f) at (resolves a b c room (sym (ap (λ x. x.number) e) ∙ z))
