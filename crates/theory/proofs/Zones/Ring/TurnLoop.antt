-- Rings: the test and moves of entering are right. The ring is turned until the named robot is the first behind place j.
-- What it rests on stands in specs/Zones/Ring/Entering.antt.
use Rattle.std.specs.Prelude.{◌≡◌, refl, ◌⊎◌, not, [], ◌++◌, ◌∷◌, eqb, T}
use Rattle.std.proofs.Common.{ap, ◌∙◌, inl, inr, arith}
use Prim.Native.Nat.{ℕ, zero, suc, ◌≤◌, ◌<◌}
use Rattle.std.proofs.Math.ListN.{length}
use Rattle.spec.specs.Outcome.{◌and◌}
use Rattle.spec.specs.Arrangement.{Arrangement, cell, order}
use Rattle.spec.specs.Terms.{Runs, done, Distinct, Named}
use Rattle.spec.specs.Ring.{ring_behind, entry_open, turn_for, push, turn_place, opened}
use Rattle.theory.specs.Basics.Tests.{if_true, if_false, eq→eqb, and_both}
use Rattle.theory.specs.Zones.Moves.{runs_append, runs_length, runs_applied, runs_distinct, runs_count}
use Rattle.theory.specs.Zones.Robots.{runs_named}
use Rattle.theory.specs.Zones.Ring.Turning.{turn}
use Rattle.theory.specs.Zones.Ring.Push.{pushed}
use Rattle.theory.specs.Zones.Ring.Measure.{after, Early, spread, at_once, after_here, length_pushed}
use Rattle.theory.specs.Zones.Ring.Pushes.{Open, place_on, shut_on, Lower}
use Rattle.theory.proofs.Zones.Ring.Pushes.{lower, push_off}
use Rattle.theory.specs.Zones.Ring.Entering.{Turns}

-- ---- the loop

-- nothing moves where the place is open
pub turn_stays : (f : ℕ) (a : Arrangement) (j n : ℕ) → Open j n a → turn_for f a j n ≡ []
unfolding turn_for entry_open
turn_stays zero a j n o = refl
turn_stays (suc f) a j n o = if_true (eqb (cell a j) 0 and eqb (ring_behind a j) n) [] _ (and_both (eqb (cell a j) 0) (eqb (ring_behind a j) n) (eq→eqb (cell a j) 0 o.0) (eq→eqb (ring_behind a j) n o.1))

-- otherwise one push is made
turn_steps : (f : ℕ) (a b : Arrangement) (j n : ℕ) → T (not (entry_open a j n)) → Runs 4 (push a (turn_place a j)) a b → turn_for (suc f) a j n ≡ push a (turn_place a j) ++ turn_for f b j n
unfolding turn_for
turn_steps f a b j n t r = if_false (entry_open a j n) [] _ t ∙ ap (λ c. push a (turn_place a j) ++ turn_for f c j n) (runs_applied r)

-- the loop ends as it should if as many turns are allowed as the measure says
pub turn_loop : (f j n : ℕ) (a : Arrangement) → j < length a → Distinct a → Named a → length (order a) < length a → Early n (turn (suc j) a) → after n (turn (suc j) a) ≤ f → Turns f j n a
unfolding Turns
turn_loop zero j n a h d nm g E m = go (lower j n a h d g nm E)
  where
    go : Open j n a ⊎ Lower j n a → Turns zero j n a
    go (inl s) = (a, rw (turn_stays zero a j n s) done, s.0, s.1)
    go (inr s) = absurd (omega (arith, s.fewer))
turn_loop (suc f) j n a h d nm g E m = go (lower j n a h d g nm E) (λ b. turn_loop f j n b)
  where
    go : Open j n a ⊎ Lower j n a
        → ((b : Arrangement) → j < length b → Distinct b → Named b → length (order b) < length b → Early n (turn (suc j) b) → after n (turn (suc j) b) ≤ f → Turns f j n b)
        → Turns (suc f) j n a
    go (inl s) ih = (a, rw (turn_stays (suc f) a j n s) done, s.0, s.1)
    go (inr s) ih =
        let r = s.runs in
        let l = runs_length r in
        let t = ih s.to (omega arith) (runs_distinct r d) (runs_named r nm) (omega (arith, runs_count r)) s.early (omega (arith, s.fewer)) in
        (t.0, rw (turn_steps f a s.to j n s.shut r) (runs_append r t.1), t.2, t.3)

-- from the named robot on place j: it is pushed first
pub turn_first : (f j n : ℕ) (a : Arrangement) → j < length a → Distinct a → Named a → length (order a) < length a → cell a j ≡ suc n → spread (pushed (opened j a)) < f → Turns f j n a
unfolding Turns
turn_first zero j n a h d nm g e m = absurd (omega arith)
turn_first (suc f) j n a h d nm g e m = go (push_off j n a g e)
  where
    go : (b : Arrangement) × Runs 4 (push a j) a b × (turn (suc j) b ≡ suc n ∷ pushed (opened j a)) × (length (order (opened j a)) < length (opened j a)) → Turns (suc f) j n a
    go (b, r, t, c) =
        let l = runs_length r in
        let p : Runs 4 (push a (turn_place a j)) a b = rw (place_on a j n e) r in
        let E : Early n (turn (suc j) b) = rw t (at_once (omega (arith, length_pushed (opened j a)))) in
        let u = turn_loop f j n b (omega arith) (runs_distinct r d) (runs_named r nm) (omega (arith, runs_count r)) E (omega (arith, ap (after n) t ∙ after_here n (pushed (opened j a)))) in
        (u.0, rw (turn_steps f a b j n (shut_on a j n n e) p) (runs_append p u.1), u.2, u.3)
