-- The follow list of a step that fills a clique: who stands on each listed place once the robot has come in.
use Rattle.std.specs.Prelude.{◌≡◌, ℕ, zero, suc, ◌+◌, ◌≤◌, Bool, List, [], ◌∷◌, length, set, drop}
use Rattle.std.proofs.Math.Bool.{true, false}
use Rattle.std.proofs.Math.Dec.{eqb}
use borrow.Author.Tests.{eq-eqb, ne_eqb}
use Rattle.spec.specs.State.{State, robot_on, arrangement_of, robots_of}
use Rattle.writer.specs.Laid.{laid_all}

-- the robots of the zone with vertices vs once robot r has come in at place j
unfoldable pub followed : State → List ℕ → ℕ → ℕ → List ℕ
followed s vs j r = robots_of (set (arrangement_of s vs) j (suc r))

-- who stands on place i, a vertex v, once robot r has come in at place j
unfoldable pub seated : State → ℕ → ℕ → ℕ → ℕ → ℕ
seated s v i j r = elim (eqb i j) [ true ↦ r | false ↦ robot_on s v ]

pub seated_here : (s : State) (v i j r : ℕ) → i ≡ j → r ≡ seated s v i j r
unfolding seated
seated_here s v i j r e = rw (eq-eqb i j e, seated)

pub seated_there : (s : State) (v i j r x : ℕ) → (i ≡ j → ⊥) → x ≡ robot_on s v → x ≡ seated s v i j r
unfolding seated
seated_there s v i j r x n e = rw (ne_eqb i j n, seated) e

-- the robot of a cell
abbrev pub robot_in : ℕ → ℕ
robot_in zero = 255
robot_in (suc r) = r

module _ (s : State) (vs : List ℕ) (j r : ℕ) where
  -- how far the list is laid from payload offset off on: i of its numbers, in buffer o
  pub record Following (off : ℕ) (o₀ : List ℕ) (i : ℕ) (o : List ℕ) : Type 0 where
    pub within : i ≤ length vs
    pub long : length o ≡ length o₀
    pub rest : laid_all o (off + i) (drop i (followed s vs j r)) ≡ laid_all o₀ off (followed s vs j r)

-- ---- a step

-- the bytes of a step into place j of the zone with vertices vs: with the follow list where it fills a clique
unfoldable pub step_from : State → List ℕ → ℕ → ℕ → ℕ → ℕ → ℕ → Bool → List ℕ
step_from s vs j r u v behind filled = r ∷ u ∷ v ∷ behind ∷ elim filled [ true ↦ followed s vs j r | false ↦ [] ]
