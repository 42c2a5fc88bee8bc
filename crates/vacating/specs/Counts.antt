-- How many robots a zone holds.
use Rattle.std.specs.Prelude.{◌≡◌, refl, Bool, cond, ℕ, suc, ◌+◌, List, ◌∷◌, length, count_by, not, eqb}
use Rattle.std.proofs.Common.{arith, eq-eqb, ne_eqb}
use Rattle.std.proofs.Math.Decide.{ℕ_discrete}
use Rattle.std.proofs.lemmas.List.Recursion.{is_count_by}
use Rattle.spec.specs.Arrangement.{order, last_free}
use Rattle.spec.specs.State.{State, robot_on, cell_of, arrangement_of}
use Rattle.theory.specs.Maps.Cells.{cell_of_lem, cell_none}
use Rattle.motion.specs.Across.{arrangement_length}

-- does a robot stand on a vertex?
abbrev taken : State → ℕ → Bool
taken s v = not (eqb (robot_on s v) 255)

-- the robots of a zone are as many as its vertices on which one stands
robots_counted : (s : State) (vs : List ℕ) → length (order (arrangement_of s vs)) ≡ count_by (taken s) vs
unfolding arrangement_of order
robots_counted s vs = is_count_by (λ ws. length (order (arrangement_of s ws))) (taken s) refl (λ v ws. pick v ws (ℕ_discrete (robot_on s v) 255)) vs
  where
    pick : (v : ℕ) (ws : List ℕ) → Dec (robot_on s v ≡ 255) → length (order (cell_of (robot_on s v) ∷ arrangement_of s ws)) ≡ cond (taken s v) (1 + length (order (arrangement_of s ws))) (length (order (arrangement_of s ws)))
    pick v ws (yes e) = rw (eq-eqb _ _ e, cell_none e)
    pick v ws (no n) = rw (ne_eqb _ _ n, cell_of_lem n) (omega arith)

-- the last free place: one robot fewer
pub last_free_is : (s : State) (vs : List ℕ) (n : ℕ) → n ≡ count_by (λ v. not (eqb (robot_on s v) 255)) vs → eqb (n + 1) (length vs) ≡ last_free (arrangement_of s vs)
unfolding last_free
last_free_is s vs n e =
    let d : n + 1 ≡ suc (length (order (arrangement_of s vs))) = omega (arith, e, robots_counted s vs) in
    rw (d, arrangement_length s vs)
