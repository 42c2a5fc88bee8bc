-- Plans as files: what is cleared is the plan of a legal list to the goals, and every abstract plan that fits is cleared.
use Rattle.std.specs.Prelude.{◌≡◌, List, ℕ}
use Rattle.spec.specs.Outcome.{ok}
use Rattle.spec.specs.Wire.{file_of}
use Rattle.spec.specs.Arrangement.{Move}
use Rattle.spec.specs.State.{Step, plan_payload}
use Rattle.spec.specs.Services.{Instance, instance_of}
use Rattle.spec.specs.Terms.{Within}
use Rattle.theory.specs.Plans.Resolve.{Concrete}

-- a plan that is cleared: a legal list to the goals that draws it
pub record Cleared-plan (a b c : List ℕ) (ms : List Move) : Type 0 where
  pub it : Instance
  pub instance : instance_of a b ≡ ok it
  pub steps : List Step
  pub concrete : Concrete it.graph it.placing steps ms
  pub file : c ≡ file_of 3 (plan_payload steps)
  pub size : Within 64 c
