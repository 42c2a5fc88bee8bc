-- Document 01's number and place for each refusal of a step and of a plan.
use Rattle.std.specs.Prelude.{◌≡◌, ℕ, Result, Ok, Err}
use Rattle.spec.specs.Outcome.{Outcome, ok, refuse, ◌>>◌}
use Rattle.testing.specs.declared.StepFault.{StepFault}
use Rattle.testing.specs.declared.StepFault.TheVariants as step
use Rattle.testing.specs.declared.PlanFault.{PlanFault}
use Rattle.testing.specs.declared.PlanFault.TheVariants as plan

-- the refusal of a plan at step i
abbrev pub refusal_of : ℕ → StepFault → PlanFault
refusal_of i step.Short = plan.Short i
refusal_of i step.Number = plan.Number i
refusal_of i step.Edge = plan.Edge i
refusal_of i step.Leave = plan.Leave i
refusal_of i step.Enter = plan.Enter i

-- its number and place: 35, "payload ends before the field to be read, or goes on after the last"; 36, "cart not below k, or point not below n";
-- 37, "no track; in a plan also the same zone"; 38, "cart can't leave there"; 39, "target zone full; else behind or follow list unmet"; 50,
-- "goals not in the reached configuration"
abbrev pub fault_of : PlanFault → ℕ × ℕ
fault_of (plan.Short i) = (35, i)
fault_of (plan.Number i) = (36, i)
fault_of (plan.Edge i) = (37, i)
fault_of (plan.Leave i) = (38, i)
fault_of (plan.Enter i) = (39, i)
fault_of (plan.Goal z) = (50, z)

-- what is refused
abbrev pub refused : {A : Type 0} → PlanFault → Outcome A
refused f = refuse (fault_of f).0 (fault_of f).1

-- what v makes of the value, or the refusal
abbrev pub outcome_of : {A B : Type 0} → (A → B) → Result A PlanFault → Outcome B
outcome_of v (Ok a) = ok (v a)
outcome_of v (Err f) = refused f

-- what passed is handed on, and a refusal stands
pub outcome_then : {A B C : Type 0} (v : A → B) (x : C) (r : Result A PlanFault) (o : Outcome B) → outcome_of v r ≡ o → outcome_of (λ a. x) r ≡ (o >> ok x)
unfolding ◌>>◌
outcome_then v x (Ok a) o e = rw (← e)
outcome_then v x (Err f) o e = rw (← e)
