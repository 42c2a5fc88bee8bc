-- Rings: what a push does, and that pushing brings a robot to a place.
use Rattle.std.specs.Prelude.{◌≡◌, refl, ◌⊎◌, [], ◌∷◌, ◌++◌, List, map, zero, suc, ℕ, ◌<◌, ◌+◌, ◌-◌, ◌≤◌, length}
use Rattle.std.proofs.Common.{sym, ap, ◌∙◌, inl, arith}
use Rattle.std.proofs.lemmas.List.{map-append}
use Rattle.spec.specs.Arrangement.{Arrangement, mv, order, cell, seek}
use Rattle.spec.specs.Terms.{Inside, Runs, done, Distinct}
use Rattle.spec.specs.Ring.{shove, run, wrap, ahead, pushes, push_to}
use Rattle.theory.specs.Zones.Arrangements.{seek_robot}
use Rattle.theory.specs.Zones.Moves.{in_line, next, runs_append}
use Rattle.theory.specs.Zones.Ring.Turning.{turn1}
use Rattle.theory.specs.Zones.Ring.Frames.{along, runs_along, wrap_ge}

-- ---- one push

-- the frame at the next place, after a push of the robot in the first
unfoldable pub pushed : Arrangement → Arrangement
pushed [] = []
pushed (zero ∷ a) = a ++ 0 ∷ []
pushed (suc c ∷ a) = suc c ∷ pushed a

-- moving on from the next place is moving on from this one, one place on
shove_along : (k : ℕ) (cs : List ℕ) → shove (suc k) cs ≡ map along (shove k cs)
unfolding shove along
shove_along k [] = refl
shove_along k (c ∷ cs) = rw (shove_along (suc k) cs) (sym (map-append along (shove (suc k) cs) (mv c k (suc k) ∷ [])))

-- the robots side by side from the first place on move one place on, the foremost first
pub push_runs : (a : Arrangement) → length (order a) < length a → (w : Arrangement) × Runs 2 (shove 0 (run a)) a (0 ∷ w) × (turn1 (0 ∷ w) ≡ pushed a)
unfolding order run shove pushed turn1
push_runs [] h = absurd (omega arith)
push_runs (zero ∷ a) h = (a, done, refl)
push_runs (suc c ∷ a) h = go (push_runs a (omega arith))
  where
    go : (w : Arrangement) × Runs 2 (shove 0 (run a)) a (0 ∷ w) × (turn1 (0 ∷ w) ≡ pushed a)
        → (w : Arrangement) × Runs 2 (shove 0 (run (suc c ∷ a))) (suc c ∷ a) (0 ∷ w) × (turn1 (0 ∷ w) ≡ pushed (suc c ∷ a))
    go (w, r, e) =
        let l : Inside 2 (mv c 0 1) (suc c ∷ 0 ∷ w) = record { near = in_line 2 (suc (suc (length w))) {p = 0} {q = 1} (inl refl); there = refl; free = refl; within = omega arith } in
        (suc c ∷ w, rw (shove_along 0 (run a)) (runs_append (runs_along (suc c) r) (next l refl done)), ap (λ r. suc c ∷ r) e)

-- ---- pushing a robot to a place

-- n places on from p is j
unfoldable pub Away : ℕ → ℕ → ℕ → ℕ → Type 0
Away m p j n = (p + n ≡ j) ⊎ (p + n ≡ m + j)

-- where it is there already nothing moves
pub push_none : (a : Arrangement) (r j : ℕ) → Distinct a → cell a j ≡ suc r → (b : Arrangement) × Runs 4 (push_to a r j) a b × (cell b j ≡ suc r)
unfolding push_to ahead pushes
push_none a r j d e =
    let q : seek (suc r) a ≡ j = d (seek (suc r) a) j r (seek_robot r a j e) e in
    let f : length a ≤ length a + j - j = omega arith in
    let z : wrap (length a) (length a + j - j) ≡ 0 = wrap_ge f ∙ omega arith in
    (a, rw (q, z) done, e)
