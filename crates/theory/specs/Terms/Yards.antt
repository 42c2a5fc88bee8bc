-- Two yards, as files, for which the services compute.
use Rattle.std.specs.Prelude.{◌≡◌, refl, Bool, true, false, List, [], ◌∷◌, ℕ, zero, suc, ◌<◌, get_or, T, ltb}
use Rattle.std.proofs.Common.{sym, ◌∙◌, ltb→lt, lit<}
use Rattle.spec.specs.Outcome.{ok, ◌>>=◌, ◌>>◌, check, ◌and◌, ◌or◌, all}
use Rattle.spec.specs.Wire.{file_of}
use Rattle.spec.specs.Services.{Instance, instance_of, judging}
use Rattle.spec.specs.Terms.{Bytes}
use Rattle.theory.specs.Basics.Tests.{of_true}
use Rattle.theory.specs.Basics.Outcomes.{ok_injective}

-- bytes that pass the test are bytes
pub all_bytes : (c : List ℕ) → T (all (λ x. ltb x 256) c) → Bytes c
unfolding all
all_bytes [] t i = lit< tt
all_bytes (x ∷ c) t i = case (ltb x 256) refl t (all_bytes c) i
  where
    case : (b : Bool) → ltb x 256 ≡ b → T (elim b [ true ↦ all (λ x. ltb x 256) c | false ↦ false ]) → (T (all (λ x. ltb x 256) c) → Bytes c) → (i : ℕ) → get_or (x ∷ c) i 0 < 256
    case true e t ih zero = ltb→lt x 256 (of_true e)
    case true e t ih (suc i) = ih t i
    case false e t ih i = absurd t

-- Yard A: stack 0, 1, 2; hall 3, 4; robot 0 from 1 to 4, robot 1 from 2 to 3
unfoldable pub map_a : List ℕ
map_a = file_of 1 (5 ∷ 2 ∷ 1 ∷ 3 ∷ 0 ∷ 1 ∷ 2 ∷ 2 ∷ 2 ∷ 3 ∷ 4 ∷ 0 ∷ 4 ∷ 0 ∷ 1 ∷ 0 ∷ 3 ∷ 1 ∷ 2 ∷ 3 ∷ 4 ∷ [])

-- its placing
unfoldable pub placing_a : List ℕ
placing_a = file_of 2 (2 ∷ 1 ∷ 4 ∷ 2 ∷ 3 ∷ [])

-- its plan: both robots cross
unfoldable pub plan_a : List ℕ
plan_a = file_of 3 (0 ∷ 2 ∷ 0 ∷ 0 ∷ 3 ∷ 255 ∷ 1 ∷ 0 ∷ 3 ∷ 255 ∷ [])

-- the plan is bytes
pub bytes_a : Bytes plan_a
unfolding plan_a file_of all
bytes_a = all_bytes plan_a tt

-- and is cleared
pub cleared_a : (judging map_a placing_a plan_a).number ≡ 0
unfolding judging map_a placing_a plan_a file_of ◌>>=◌ ◌>>◌ check ◌and◌ ◌or◌
cleared_a = refl

-- a plan with no steps
unfoldable pub no_steps : List ℕ
no_steps = file_of 3 (0 ∷ 0 ∷ [])

-- it is bytes
pub bytes_none : Bytes no_steps
unfolding no_steps file_of all
bytes_none = all_bytes no_steps tt

-- Yard B: stack 0; hall 1; robot 0 from 0 to 1
unfoldable pub map_b : List ℕ
map_b = file_of 1 (2 ∷ 2 ∷ 1 ∷ 1 ∷ 0 ∷ 2 ∷ 1 ∷ 1 ∷ 0 ∷ 1 ∷ 0 ∷ 1 ∷ [])

-- its placing
unfoldable pub placing_b : List ℕ
placing_b = file_of 2 (1 ∷ 0 ∷ 1 ∷ [])

-- its plan: the robot goes there, back and there
unfoldable pub plan_b : List ℕ
plan_b = file_of 3 (0 ∷ 3 ∷ 0 ∷ 0 ∷ 1 ∷ 255 ∷ 0 ∷ 1 ∷ 0 ∷ 255 ∷ 0 ∷ 0 ∷ 1 ∷ 255 ∷ [])

-- the plan is bytes
pub bytes_b : Bytes plan_b
unfolding plan_b file_of all
bytes_b = all_bytes plan_b tt

-- a plan that goes there alone
unfoldable pub step_b : List ℕ
step_b = file_of 3 (0 ∷ 1 ∷ 0 ∷ 0 ∷ 1 ∷ 255 ∷ [])

-- it is bytes
pub bytes_step : Bytes step_b
unfolding step_b file_of all
bytes_step = all_bytes step_b tt

-- its map and placing as they are read
unfoldable pub it_b : Instance
it_b = record {
  graph = record {
    size = 2;
    zones = record { kind = 1; vertices = 0 ∷ [] } ∷ record { kind = 2; vertices = 1 ∷ [] } ∷ [];
    edges = record { a = 0; b = 1 } ∷ [];
  };
  placing = record { starts = 0 ∷ []; goals = 1 ∷ [] };
}

-- they are read so
read_b : instance_of map_b placing_b ≡ ok it_b
unfolding instance_of map_b placing_b file_of it_b ◌>>=◌ ◌>>◌ check ◌and◌ ◌or◌
read_b = refl

-- it is the only instance that these files give
pub only_b : (it : Instance) → instance_of map_b placing_b ≡ ok it → it_b ≡ it
only_b it e = ok_injective (sym read_b ∙ e)
