-- Walks: steps that pass one after the other. Their moves are legal and draw them, and they are what is read from a plan's bytes.
-- What it rests on stands in specs/Plans/Walk.antt.
use Rattle.std.specs.Prelude.{ℕ, ◌≤◌}
use Rattle.std.proofs.Math.Path.{refl}
use Rattle.std.proofs.Common.{ap₂, ◌∙◌}
use mathlib.Core.List.{List, ◌++◌}
use Rattle.spec.specs.Layout.{Map}
use Rattle.spec.specs.Arrangement.{Move}
use Rattle.spec.specs.State.{State, Step, drawn_steps}
use Rattle.theory.specs.Maps.Layout.{Accepted}
use Rattle.theory.specs.Maps.Moves.{stay, legals_append, drawn_append}
use Rattle.theory.specs.Maps.Consistent.{Consistent, consistent_all}
use Rattle.theory.specs.Plans.Taken.{moves_of}
use Rattle.theory.proofs.Plans.Step.{made}
use Rattle.theory.specs.Plans.Walk.{Walk, halt, walk, Walked}

-- the moves of a walk are so
pub walked : (m : Map) (g : Accepted m) (k : ℕ) (few : k ≤ 64) {s : State} {ss : List Step} {xs : List Move} → Consistent m k s → Walk m k s ss xs → Walked m s ss xs
walked m g k few h halt = record { legals = stay; drawn = unfold drawn_steps in refl }
walked m g k few h (walk {s} {r} {u} {v} {behind} {list} {ss} {xs} t w) =
    let d = made m g k few s h r u v behind list t in
    let i = walked m g k few (consistent_all m g k h d.legals) w in
    record {
      legals = legals_append xs d.legals i.legals;
      drawn = drawn_append m s (moves_of m s r u v behind list) xs ∙ ap₂ {C = List Step} (λ a b. a ++ b) d.drawn i.drawn;
    }
