-- Rings: what a push does, and that pushing brings a robot to a place.
-- What it rests on stands in specs/Zones/Ring/Push.antt.
use Rattle.std.specs.Prelude.{◌≡◌, refl, [], ◌∷◌, ◌++◌, map, zero, suc, ℕ, ◌<◌, ◌+◌, ◌-◌, ◌≤◌, length, take, drop}
use Rattle.std.proofs.Common.{sym, ap, ◌∙◌, inl, inr, arith}
use Rattle.std.proofs.Math.Decide.{dec_lt, dec_le}
use Rattle.spec.specs.Arrangement.{Arrangement, order, cell, apply_all, seek}
use Rattle.spec.specs.Terms.{Runs, done}
use Rattle.spec.specs.Ring.{shove, run, in_ring, push, frame, wrap, ahead, pushes, push_to}
use Rattle.theory.specs.Zones.Arrangements.{cell_inside, seek_robot}
use Rattle.theory.specs.Zones.Moves.{runs_append, runs_length, runs_applied, runs_count}
use Rattle.theory.specs.Zones.Ring.Turning.{turn1, turn, length_turn1, turn_round, length_turn, turn_back, turn_split, turn_add, turn_head}
use Rattle.theory.specs.Zones.Ring.Frames.{in_ring_lem, runs_from, turn_wrap, wrap_under, wrap_lt, wrap_ge}
use Rattle.theory.specs.Zones.Ring.Opened.{count_turn}
use Rattle.theory.specs.Zones.Ring.Push.{pushed, push_runs, Away}

-- ---- one push

-- a whole turn and one more is a turn by one
turn_full : (m : ℕ) (a : Arrangement) → length a ≡ m → turn (suc m) a ≡ turn1 a
unfolding turn
turn_full m a l = let e : m ≡ length (turn1 a) = sym (length_turn1 a ∙ l) in rw e (turn_round (turn1 a))

-- a push moves on the robots that stand side by side from p
pub push_at : (a : Arrangement) (p : ℕ) → p < length a → length (order a) < length a → (b : Arrangement) × Runs 4 (push a p) a b × (turn (suc p) b ≡ pushed (turn p a))
unfolding push frame
push_at a p h f = go (push_runs (turn p a) (omega (arith, count_turn p a, length_turn p a)))
  where
    go : (w : Arrangement) × Runs 2 (shove 0 (run (turn p a))) (turn p a) (0 ∷ w) × (turn1 (0 ∷ w) ≡ pushed (turn p a))
        → (b : Arrangement) × Runs 4 (map (λ v. in_ring (length a) p v) (shove 0 (run (drop p a ++ take p a)))) a b × (turn (suc p) b ≡ pushed (turn p a))
    go (w, r, e) =
        let l : length (0 ∷ w) ≡ length a = sym (runs_length r) ∙ length_turn p a in
        let n : length a - p + suc p ≡ suc (length a) = omega arith in
        let k : p ≤ length a = omega arith in (
          turn (length a - p) (0 ∷ w),
          rw (turn_back (length a) p a k refl, turn_split p a k) at (runs_from (length a - p) p (omega arith) (length_turn p a) (in_ring_lem r)),
          sym (turn_add (length a - p) (suc p) (0 ∷ w)) ∙ ap (λ k. turn k (0 ∷ w)) n ∙ turn_full (length a) (0 ∷ w) l ∙ e,
        )

-- the pushed robot stands first in the next frame
pushed_head : (c : ℕ) (a : Arrangement) → cell a 0 ≡ suc c → cell (pushed a) 0 ≡ suc c
unfolding pushed
pushed_head c [] e = e
pushed_head c (zero ∷ a) e = absurd (omega arith)
pushed_head c (suc x ∷ a) e = e

-- where the pushed robot is then
pushed_to : (a b : Arrangement) (p r : ℕ) → cell a p ≡ suc r → length b ≡ length a → turn (suc p) b ≡ pushed (turn p a) → cell b (wrap (length a) (suc p)) ≡ suc r
pushed_to a b p r e l t =
    let h = cell_inside a p r e in
    sym (turn_head (wrap (length a) (suc p)) b (rw l (wrap_under (length a) (suc p) (omega arith))))
    ∙ ap (λ x. cell x 0) (turn_wrap (length a) (suc p) b l ∙ t) ∙ pushed_head r (turn p a) (turn_head p a h ∙ e)

-- ---- pushing a robot to a place

-- one place on it is one place nearer
away_next : (m p j n : ℕ) → j < m → Away m p j (suc n) → Away m (wrap m (suc p)) j n
unfolding Away
away_next m p j n k w = go (dec_lt (suc p) m) w
  where
    go : Dec (suc p < m) → Away m p j (suc n) → Away m (wrap m (suc p)) j n
    go (yes l) (inl e) = rw (wrap_lt l) (inl (omega arith))
    go (yes l) (inr e) = rw (wrap_lt l) (inr (omega arith))
    go (no l) (inl e) = absurd (omega arith)
    go (no l) (inr e) = let f : m ≤ suc p = omega arith in rw (wrap_ge f) (inl (omega arith))

-- as far as the rule says
away_ahead : (m p j : ℕ) → p < m → Away m p j (ahead m p j)
unfolding Away ahead
away_ahead m p j h = go (dec_le p j)
  where
    go : Dec (p ≤ j) → Away m p j (wrap m (m + j - p))
    go (yes l) = let f : m ≤ m + j - p = omega arith in rw (wrap_ge f) (inl (omega arith))
    go (no l) = let f : m + j - p < m = omega arith in rw (wrap_lt f) (inr (omega arith))

-- nothing further on is here
away_none : (a : Arrangement) (r j p : ℕ) → cell a p ≡ suc r → Away (length a) p j 0 → cell a j ≡ suc r
unfolding Away
away_none a r j p e (inl z) = let y : p ≡ j = omega arith in rw y at e
away_none a r j p e (inr z) = absurd (omega (arith, cell_inside a p r e))

-- n pushes take a robot n places on
push_on : (n : ℕ) (a : Arrangement) (r j p : ℕ) → length (order a) < length a → j < length a → cell a p ≡ suc r → Away (length a) p j n
    → (b : Arrangement) × Runs 4 (pushes n a p) a b × (cell b j ≡ suc r)
unfolding pushes
push_on zero a r j p g h e w = (a, done, away_none a r j p e w)
push_on (suc n) a r j p g h e w = go (push_at a p (cell_inside a p r e) g) (λ b. push_on n b r j (wrap (length a) (suc p)))
  where
    go : (b : Arrangement) × Runs 4 (push a p) a b × (turn (suc p) b ≡ pushed (turn p a))
        → ((b : Arrangement) → length (order b) < length b → j < length b → cell b (wrap (length a) (suc p)) ≡ suc r → Away (length b) (wrap (length a) (suc p)) j n
        → (c : Arrangement) × Runs 4 (pushes n b (wrap (length a) (suc p))) b c × (cell c j ≡ suc r))
        → (b : Arrangement) × Runs 4 (push a p ++ pushes n (apply_all a (push a p)) (wrap (length a) (suc p))) a b × (cell b j ≡ suc r)
    go (b, s, t) ih =
        let m = runs_length s in
        let u = ih b (omega (arith, runs_count s)) (omega arith) (pushed_to a b p r e (sym m) t) (rw (← m) (away_next (length a) p j n h w)) in
        (u.0, rw (runs_applied s) (runs_append s u.1), u.2)

-- pushing brings a robot to place j
pub push_to_lem : (a : Arrangement) (r j p : ℕ) → length (order a) < length a → j < length a → cell a p ≡ suc r
    → (b : Arrangement) × Runs 4 (push_to a r j) a b × (cell b j ≡ suc r)
unfolding push_to
push_to_lem a r j p g h e =
    let s = seek_robot r a p e in
    push_on (ahead (length a) (seek (suc r) a) j) a r j (seek (suc r) a) g h s (away_ahead (length a) (seek (suc r) a) j (cell_inside a (seek (suc r) a) r s))
