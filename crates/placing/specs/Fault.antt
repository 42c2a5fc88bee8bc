-- Document 01's number and place for each refusal of a placing.
use Rattle.std.specs.Prelude.{ℕ, Result}
use Rattle.spec.specs.Outcome.{Outcome}
use Rattle.zoning.specs.Chain.{outcome_of}
use Rattle.checking.specs.declared.FileFault.TheVariants.{Length, Checksum, Head, Fill}
use Rattle.placing.specs.declared.PlacingFault.{PlacingFault}
use Rattle.placing.specs.declared.PlacingFault.TheVariants.{File, Short, Range, Start, Goal}

abbrev pub number_of : PlacingFault → ℕ
number_of (File Length) = 21
number_of (File (Checksum block)) = 22
number_of (File (Head block)) = 23
number_of (File (Fill block)) = 24
number_of (Short offset) = 25
number_of Range = 26
number_of (Start offset) = 27
number_of (Goal offset) = 28

abbrev pub fault_place : PlacingFault → ℕ
fault_place (File Length) = 0
fault_place (File (Checksum block)) = block
fault_place (File (Head block)) = block
fault_place (File (Fill block)) = block
fault_place (Short offset) = offset
fault_place Range = 0
fault_place (Start offset) = offset
fault_place (Goal offset) = offset

-- what was read, or the refusal
abbrev pub answered : {A B : Type 0} → (A → B) → Result A PlacingFault → Outcome B
answered f r = outcome_of number_of fault_place f r
