-- Document 01's number and place for each refusal of a map whose blocks have passed.
use Rattle.std.specs.Prelude.{ℕ, Result}
use Rattle.spec.specs.Outcome.{Outcome}
use Rattle.zoning.specs.Chain.{outcome_of}
use Rattle.zoning.specs.declared.MapFault.{MapFault}
use Rattle.zoning.specs.declared.MapFault.TheVariants.{Short, Range, Listing, Edge, Kind}

abbrev pub number_of : MapFault → ℕ
number_of (Short offset) = 15
number_of (Range offset) = 16
number_of (Listing offset) = 17
number_of (Edge offset) = 18
number_of (Kind zone) = 19

abbrev pub fault_place : MapFault → ℕ
fault_place (Short offset) = offset
fault_place (Range offset) = offset
fault_place (Listing offset) = offset
fault_place (Edge offset) = offset
fault_place (Kind zone) = zone

-- what was read, or the refusal
abbrev pub answered : {A B : Type 0} → (A → B) → Result A MapFault → Outcome B
answered f r = outcome_of number_of fault_place f r
