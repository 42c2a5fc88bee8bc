-- Plans as files: what is cleared is the plan of a legal list to the goals, and every abstract plan that fits is cleared.
-- What it rests on stands in specs/Services/Judged.antt.
use Rattle.std.specs.Prelude.{◌≡◌, List, [], ◌∷◌, ℕ, ◌*◌, ◌≤◌, length}
use Rattle.std.proofs.Common.{sym, ap, ◌∙◌, arith, length-append}
use Rattle.spec.specs.Outcome.{ok}
use Rattle.spec.specs.Wire.{file_of}
use Rattle.spec.specs.Arrangement.{Move}
use Rattle.spec.specs.State.{Step, step_bytes, plan_payload}
use Rattle.spec.specs.Services.{Instance, instance_of, plan_moves}
use Rattle.spec.specs.Terms.{Bytes, Within, start, goal, plan_file, Abstract}
use Rattle.theory.specs.Basics.Outcomes.{bound, bind}
use Rattle.theory.specs.Codec.{written_file, written_bytes}
use Rattle.theory.proofs.Codec.ReadBack.{read_file}
use Rattle.theory.specs.Maps.Instance.{instance_accepted}
use Rattle.theory.specs.Plans.Resolve.{plan_length}
use Rattle.theory.proofs.Plans.Resolve.{resolved_sound, resolved_complete}
use Rattle.theory.specs.Services.Answers.{payload_within}
use Rattle.theory.specs.Services.Judged.{Cleared-plan}

-- the defined list of a plan is such a list
pub cleared_plan : (a b c : List ℕ) (ms : List Move) → Bytes c → plan_moves a b c ≡ ok ms → Cleared-plan a b c ms
unfolding plan_moves
cleared_plan a b c ms h e =
    let i = bound _ _ _ e in
    let p = bound _ _ _ i.2 in
    let s = instance_accepted a b i.0 i.1 in
    let w = written_file 30 3 64 c p.0 h p.1 in
    let v = resolved_sound i.0.graph s.accepted i.0.placing s.placed p.0 ms (written_bytes 30 3 64 c p.0 h p.1) p.2 in
    record { it = i.0; instance = i.1; steps = v.steps; concrete = v.concrete; file = w.0 ∙ ap (file_of 3) v.payload; size = w.3 }

-- the file is the plan drawn from the list
pub cleared_file : {a b c : List ℕ} {ms : List Move} (p : Cleared-plan a b c ms) → c ≡ plan_file p.it ms
cleared_file p = p.file ∙ ap (λ ss. file_of 3 (plan_payload ss)) (sym p.concrete.drawn)

-- at least four bytes a step
step_bytes_lem : (ss : List Step) → length ss * 4 ≤ length (step_bytes ss)
unfolding step_bytes
step_bytes_lem [] = omega arith
step_bytes_lem (s ∷ ss) = rw (length-append s.list (step_bytes ss)) (omega (arith, step_bytes_lem ss))

-- an abstract plan whose file fits has a defined list
pub abstract_cleared : (a b c : List ℕ) (it : Instance) (ss : List Step) → instance_of a b ≡ ok it → Abstract it.graph (start it) ss (goal it)
    → c ≡ file_of 3 (plan_payload ss) → Within 64 c → (ms : List Move) × (plan_moves a b c ≡ ok ms)
unfolding plan_moves
abstract_cleared a b c it ss i x e h =
    let s = instance_accepted a b it i in
    let one : 1 ≤ length (plan_payload ss) = omega (arith, plan_length ss) in
    let l : length (plan_payload ss) ≤ 504 * 64 = payload_within 3 64 (plan_payload ss) (rw e at h) in
    let v = resolved_complete it.graph s.accepted it.placing s.placed ss x (omega (arith, step_bytes_lem ss, plan_length ss)) in
    (v.0, bind _ _ _ i ∙ bind _ (plan_payload ss) _ (rw e (read_file 30 3 64 (plan_payload ss) one l (omega arith))) ∙ v.1)
