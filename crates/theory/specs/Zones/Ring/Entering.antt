-- Rings: the test and moves of entering are right. The ring is turned until the named robot is the first behind place j.
use Rattle.std.specs.Prelude.{◌≡◌, refl, not, [], ◌∷◌, replicate, eqb, T}
use Rattle.std.proofs.Common.{sym, ap, ◌∙◌, arith, eqb→eq, T_not}
use Prim.Native.Nat.{ℕ, zero, suc, ◌<◌}
use Rattle.std.proofs.Math.ListN.{length}
use Rattle.std.proofs.Math.Seq.{get_or-append_seam}
use Rattle.spec.specs.Outcome.{member}
use Rattle.spec.specs.Arrangement.{Arrangement, cell, order, last_named}
use Rattle.spec.specs.Terms.{Runs, Named, Reachable}
use Rattle.spec.specs.Ring.{ring_behind, turn_for, opened, ring_can_enter}
use Rattle.theory.specs.Basics.Tests.{eq→eqb, if_T}
use Rattle.theory.specs.Zones.Arrangements.{cell→member}
use Rattle.theory.specs.Zones.Moves.{runs_length, runs_count}
use Rattle.theory.specs.Zones.Robots.{runs_named, runs_robots}
use Rattle.theory.specs.Zones.Hall.Places.{order_none}
use Rattle.theory.specs.Zones.Ring.Opened.{count_opened, cell_opened, none_opened}
use Rattle.theory.specs.Zones.Ring.Pushes.{Trail, bare, trail, trail_view}

-- ---- the loop

-- the written moves open the place
unfoldable pub Turns : ℕ → ℕ → ℕ → Arrangement → Type 0
Turns f j n a = (b : Arrangement) × Runs 4 (turn_for f a j n) a b × (cell b j ≡ 0) × (ring_behind b j ≡ n)

-- ---- the moves and the test

-- where there are no robots none is named
nobody_there : (a : Arrangement) → length (order a) ≡ 0 → last_named a ≡ 255
unfolding last_named order
nobody_there [] h = refl
nobody_there (zero ∷ a) h = nobody_there a h
nobody_there (suc x ∷ a) h = absurd (omega arith)

module _ (a : Arrangement) (j : ℕ) (h : j < length a) where
  -- an empty ring is empty at j, and behind it
  pub ring_empty : length (order a) ≡ 0 → (cell a j ≡ 0) × (ring_behind a j ≡ 255)
  unfolding ring_behind order
  ring_empty z = go (cell a j) (count_opened j a (cell a j) h refl)
    where
      go : (c : ℕ) → length (order (c ∷ opened j a)) ≡ length (order a) → (c ≡ 0) × (last_named (opened j a) ≡ 255)
      go zero t = (refl, nobody_there (opened j a) (t ∙ z))
      go (suc x) t = absurd (omega arith)

-- where a reachable arrangement has j empty and the named robot behind it, a robot may enter
pub ring_entered_lem : (a b : Arrangement) (j n : ℕ) → j < length a → Named a → Reachable 4 a b → cell b j ≡ 0 → ring_behind b j ≡ n → T (ring_can_enter a j n)
unfolding ring_can_enter ring_behind order
ring_entered_lem a b j n h nm s e k = if_T (eqb (length (order a)) 0) (eqb n 255) (member n (order a)) nobody somebody
  where
    l : j < length b
    l = omega (arith, runs_length s.1)

    nobody : T (eqb (length (order a)) 0) → T (eqb n 255)
    nobody t = eq→eqb n 255 (sym k ∙ (ring_empty b j l (sym (runs_count s.1) ∙ eqb→eq (length (order a)) 0 t)).1)

    somebody : T (not (eqb (length (order a)) 0)) → T (member n (order a))
    somebody t = go (trail_view (opened j b) (none_opened b j (runs_named s.1 nm)))
      where
        go : Trail (opened j b) → T (member n (order a))
        go (bare i w) = absurd (T_not (eqb (length (order a)) 0) t (eq→eqb (length (order a)) 0 (runs_count s.1 ∙ sym (count_opened j b 0 l e) ∙ ap (λ x. length (order x)) w ∙ ap length (order_none i))))
        go (trail u x i q w z) =
            let y = cell_opened j b (length u) x (ap (λ x. cell x (length u)) w ∙ get_or-append_seam u (suc x) (replicate i 0) 0) in
            let v = (runs_robots s.1).back y.0 x y.1 in
            rw (sym k ∙ z) (cell→member a v.0 x v.1)
