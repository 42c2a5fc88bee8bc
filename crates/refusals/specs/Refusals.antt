-- A refusal's number and place, and the outcome that a result stands for.
use Rattle.std.specs.Prelude.{◌≡◌, ℕ, ◌+◌, List, take, Result, Ok, Err, MatchResult}
use Rattle.std.proofs.Math.Path.{refl, sym, ap}
use Rattle.std.proofs.Common.{◌∙◌}
use Rattle.spec.specs.Outcome.{Outcome, ok, refuse}
use Rattle.spec.specs.Wire.{payload_of}
use Rattle.wire.specs.Payload.{payload}
use Rattle.checking.specs.declared.FileFault.{FileFault}
use Rattle.checking.specs.declared.FileFault.TheVariants as file
use Rattle.checking.specs.Checked.{checked_of}
use Rattle.zoning.specs.Chain as chain
use Rattle.zoning.specs.Fault as mapFault
use Rattle.zoning.specs.declared.MapFault.{MapFault}
use Rattle.placing.specs.Fault as placingFault
use Rattle.placing.specs.declared.PlacingFault.{PlacingFault}
use Rattle.replay.specs.declared.ListFault.{ListFault}
use Rattle.replay.specs.declared.ListFault.TheVariants as list
use Rattle.replay.specs.Check.{refused_for}
use Rattle.testing.specs.Fault as planFault
use Rattle.testing.specs.declared.PlanFault.{PlanFault}
use Rattle.answers.specs.declared.Undelivered.{Undelivered}
use Rattle.answers.specs.declared.Undelivered.TheVariants as answer
use Rattle.answers.specs.Delivered.{answered}
use Rattle.refusals.specs.declared.Refusal.{Refusal}
use Rattle.refusals.specs.declared.Refusal.TheVariants as refusal

-- a file's faults: numbers 1 to 4 after its base, and the block
abbrev pub part_of : FileFault → ℕ
part_of file.Length = 1
part_of (file.Checksum i) = 2
part_of (file.Head i) = 3
part_of (file.Fill i) = 4

abbrev pub block_of : FileFault → ℕ
block_of file.Length = 0
block_of (file.Checksum i) = i
block_of (file.Head i) = i
block_of (file.Fill i) = i

-- a move list's faults
abbrev pub list_number : ListFault → ℕ
list_number (list.Short i) = 45
list_number (list.Number i) = 46
list_number (list.Edge i) = 47
list_number (list.Standing i) = 48
list_number (list.Goal r) = 51

abbrev pub list_place : ListFault → ℕ
list_place (list.Short i) = i
list_place (list.Number i) = i
list_place (list.Edge i) = i
list_place (list.Standing i) = i
list_place (list.Goal r) = r

abbrev pub answer_number : Undelivered → ℕ
answer_number answer.NoRoom = 60
answer_number answer.TooLong = 61

-- document 01's number
abbrev pub number_of : Refusal → ℕ
number_of (refusal.MapFile f) = 10 + part_of f
number_of (refusal.Map f) = mapFault.number_of f
number_of (refusal.Placing f) = placingFault.number_of f
number_of (refusal.PlanFile f) = 30 + part_of f
number_of (refusal.Plan f) = (planFault.fault_of f).0
number_of (refusal.ListFile f) = 40 + part_of f
number_of (refusal.List f) = list_number f
number_of (refusal.Answer f) = answer_number f

-- its place; 0 where there is none
abbrev pub place_of : Refusal → ℕ
place_of (refusal.MapFile f) = block_of f
place_of (refusal.Map f) = mapFault.fault_place f
place_of (refusal.Placing f) = placingFault.fault_place f
place_of (refusal.PlanFile f) = block_of f
place_of (refusal.Plan f) = (planFault.fault_of f).1
place_of (refusal.ListFile f) = block_of f
place_of (refusal.List f) = list_place f
place_of (refusal.Answer f) = 0

-- the outcome that refuses so
abbrev pub refused : {A : Type 0} → Refusal → Outcome A
refused r = refuse (number_of r) (place_of r)

-- ---- a file's check whose fault is told

-- a check that came out well did so before its faults were told
told_ok : {F : Type 0} (r : Result ℕ F) (n : ℕ) → MatchResult r (λ m. ◌≡◌ {A = Result ℕ Refusal} (Ok n) (Ok m)) (λ e. ⊥) → r ≡ Ok n
told_ok (Ok m) n w = cc
told_ok (Err e) n w = absurd w

module _ (f : List ℕ) where
  -- each fault is refused as the check of its kind of file says
  pub map_file_refused : (e : FileFault) → checked_of 10 f (Err e) ≡ refused (refusal.MapFile e)
  map_file_refused file.Length = refl
  map_file_refused (file.Checksum i) = refl
  map_file_refused (file.Head i) = refl
  map_file_refused (file.Fill i) = refl

  pub plan_file_refused : (e : FileFault) → checked_of 30 f (Err e) ≡ refused (refusal.PlanFile e)
  plan_file_refused file.Length = refl
  plan_file_refused (file.Checksum i) = refl
  plan_file_refused (file.Head i) = refl
  plan_file_refused (file.Fill i) = refl

  pub list_file_refused : (e : FileFault) → checked_of 40 f (Err e) ≡ refused (refusal.ListFile e)
  list_file_refused file.Length = refl
  list_file_refused (file.Checksum i) = refl
  list_file_refused (file.Head i) = refl
  list_file_refused (file.Fill i) = refl

  -- what a file's check gives where its fault e is told as v e
  module _ (base kind limit : ℕ) (v : FileFault → Refusal) (r : Result ℕ FileFault) (c : checked_of base f r ≡ payload_of base kind limit f) where
    pub file_refused : (y : Refusal) → ((e : FileFault) → checked_of base f (Err e) ≡ refused (v e)) → MatchResult r (λ n. ◌≡◌ {A = Result ℕ Refusal} (Err y) (Ok n)) (λ e. y ≡ v e)
        → payload_of base kind limit f ≡ refused y
    file_refused y h w = go r w c
      where
        go : (s : Result ℕ FileFault) → MatchResult s (λ n. ◌≡◌ {A = Result ℕ Refusal} (Err y) (Ok n)) (λ e. y ≡ v e) → checked_of base f s ≡ payload_of base kind limit f → payload_of base kind limit f ≡ refused y
        go (Ok n) w c = cc
        go (Err e) w c = rw w (sym c ∙ h e)

    pub file_read : (n : ℕ) → MatchResult r (λ m. ◌≡◌ {A = Result ℕ Refusal} (Ok n) (Ok m)) (λ e. ⊥) → (r ≡ Ok n) × (payload_of base kind limit f ≡ ok (take n (payload f)))
    file_read n w = let x = told_ok r n w in (x, sym c ∙ ap (checked_of base f) x)

-- a move list's fault is refused as its check says
pub list_refused : {A : Type 0} (e : ListFault) → refused_for {A = A} e ≡ refused (refusal.List e)
list_refused (list.Short i) = refl
list_refused (list.Number i) = refl
list_refused (list.Edge i) = refl
list_refused (list.Standing i) = refl
list_refused (list.Goal r) = refl
