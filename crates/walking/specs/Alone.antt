-- What the goals read of a state is its table of the robots by vertex, so that table alone decides them.
use Rattle.std.specs.Prelude.{◌≡◌, refl, Bool, List, [], ◌∷◌, ◌++◌, ℕ, ◌+◌}
use Rattle.std.proofs.Common.{ap, ap₂, sym, ◌∙◌}
use Rattle.spec.specs.Outcome.{Outcome, ok, check, ◌>>◌}
use Rattle.spec.specs.Layout.{Zone}
use Rattle.spec.specs.Arrangement.{Arrangement, Move}
use Rattle.spec.specs.State.{State, arrangement_of, across}
use Rattle.spec.specs.ZoneKind.{can_end, end}
use Rattle.spec.specs.Run.{goals_from, endings_from}
use Rattle.motion.specs.Alone.{arrangement_alone}

-- the tests of the goals
pub goals_alone : (i : ℕ) (zs : List Zone) (s t g h : State) → s.robots ≡ t.robots → g.robots ≡ h.robots → goals_from i zs s g ≡ goals_from i zs t h
unfolding goals_from
goals_alone i [] s t g h e f = refl
goals_alone i (z ∷ zs) s t g h e f =
    ap₂ (λ (b : Bool) (r : Outcome (Unit {0})). check b 50 i >> r)
    (ap₂ (can_end z.kind) (arrangement_alone s t z.vertices e) (arrangement_alone g h z.vertices f))
    (goals_alone (i + 1) zs s t g h e f)

-- the table of the goals alone decides whether they can be reached
pub goals_by : (zs : List Zone) (s g h : State) → g.robots ≡ h.robots → goals_from 0 zs s g ≡ ok tt → goals_from 0 zs s h ≡ ok tt
goals_by zs s g h f e = sym (goals_alone 0 zs s s g h refl f) ∙ e

-- the moves to the goals
pub endings_alone : (zs : List Zone) (s t g h : State) → s.robots ≡ t.robots → g.robots ≡ h.robots → endings_from zs s g ≡ endings_from zs t h
unfolding endings_from
endings_alone [] s t g h e f = refl
endings_alone (z ∷ zs) s t g h e f =
    ap₂ (λ (ms ns : List Move). ms ++ ns)
    (ap₂ (λ (a b : Arrangement). across z.vertices (end z.kind a b)) (arrangement_alone s t z.vertices e) (arrangement_alone g h z.vertices f))
    (endings_alone zs s t g h e f)
