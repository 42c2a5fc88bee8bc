-- Rings: each push of entering lowers the measure.
-- What it rests on stands in specs/Zones/Ring/Pushes.antt.
use Rattle.std.specs.Prelude.{◌≡◌, ◌≢◌, ◌⊎◌, not, ◌∷◌, ◌++◌, [], T, eqb}
use Rattle.std.proofs.Math.Path.{refl, sym, ap}
use Rattle.std.proofs.Common.{◌∙◌, inl, inr, append-nil, append_assoc, arith, length-append, eqb→eq}
use Prim.Native.Nat.{ℕ, suc, zero, ◌<◌, ◌+◌, ◌-◌}
use Rattle.std.proofs.Math.Decide.{ℕ_discrete}
use Rattle.std.proofs.Math.ListN.{replicate, length}
use Rattle.std.proofs.lemmas.List.{length-replicate}
use Rattle.std.proofs.Math.Dec.{not_T}
use Rattle.spec.specs.Arrangement.{Arrangement, order, cell, seek}
use Rattle.spec.specs.Terms.{Runs, Distinct, Named}
use Rattle.spec.specs.Ring.{push, opened, wrap, ring_behind, entry_open, turn_place}
use Rattle.theory.specs.Basics.Lists.{Each, none, each_append}
use Rattle.theory.specs.Basics.Tests.{if_true, eq→eqb, and_right}
use Rattle.theory.specs.Zones.Arrangements.{cell_inside, seek_robot, not_under, not_over}
use Rattle.theory.specs.Zones.Moves.{runs_length}
use Rattle.theory.specs.Zones.Hall.Places.{empty_snoc, order_none}
use Rattle.theory.specs.Zones.Ring.Turning.{turn, turn_add, turn_append, length_turn, turn_back, turn_head}
use Rattle.theory.specs.Zones.Ring.Frames.{turn_wrap, wrap_under}
use Rattle.theory.specs.Zones.Ring.Opened.{turn_at_lem, count_opened, length_opened, turn_past, order_opened, none_opened}
use Rattle.theory.specs.Zones.Ring.Push.{pushed}
use Rattle.theory.proofs.Zones.Ring.Push.{push_at}
use Rattle.theory.specs.Zones.Ring.Measure.{Early, later, after_later, early_not, after_pushed, early_pushed, after_step, early_step, early_none}
use Rattle.theory.specs.Zones.Ring.Pushes.{Trail, bare, trail, trail_view, Open, place_on, shut_on, Lower}

-- ---- one push

-- the robot on place j is pushed
pub push_off : (j x : ℕ) (a : Arrangement) → length (order a) < length a → cell a j ≡ suc x
    → (b : Arrangement) × Runs 4 (push a j) a b × (turn (suc j) b ≡ suc x ∷ pushed (opened j a)) × (length (order (opened j a)) < length (opened j a))
unfolding pushed order
push_off j x a f e =
    let h = cell_inside a j x e in
    let s = push_at a j h f in
    let t : turn j a ≡ suc x ∷ opened j a = turn_at_lem j a h ∙ ap (λ y. y ∷ opened j a) e in
    (s.0, s.1, s.2 ∙ ap pushed t, omega (arith, count_opened j a (suc x) h e, length_opened j a h))

-- the first robot behind place j is pushed
module _ (j : ℕ) (a : Arrangement) (h : j < length a) (d : Distinct a) (g : length (order a) < length a) (e : cell a j ≡ 0)
    (u : Arrangement) (x k : ℕ) (w : opened j a ≡ u ++ suc x ∷ replicate k 0) where
  -- the ring read from the place after j on
  seen : turn (suc j) a ≡ u ++ suc x ∷ 0 ∷ replicate k 0
  seen = turn_past j a h ∙ rw (e, w) (append_assoc u (suc x ∷ replicate k 0) (0 ∷ []) ∙ ap (λ l. u ++ suc x ∷ l) (sym (empty_snoc k []) ∙ append-nil (replicate (suc k) 0)))

  -- how many places it has
  long : length a ≡ length u + suc (suc k)
  long = sym (length_turn (suc j) a) ∙ ap length seen ∙ length-append u (suc x ∷ 0 ∷ replicate k 0) ∙ omega (arith, length-replicate {A = ℕ} k 0)

  -- the place of the robot behind j
  spot : ℕ
  spot = wrap (length a) (suc j + length u)

  -- it is a place
  spot_in : spot < length a
  unfolding spot
  spot_in = wrap_under (length a) (suc j + length u) (omega (arith, long))

  -- the ring read from it on
  ahead : turn spot a ≡ (suc x ∷ 0 ∷ replicate k 0) ++ u
  unfolding spot
  ahead = turn_wrap (length a) (suc j + length u) a refl ∙ turn_add (suc j) (length u) a ∙ ap (turn (length u)) seen ∙ turn_append u (suc x ∷ 0 ∷ replicate k 0)

  -- seeking finds it
  spot_is : seek (suc x) a ≡ spot
  spot_is =
      let z : cell a spot ≡ suc x = sym (turn_head spot a spot_in) ∙ ap (λ l. cell l 0) ahead in
      d (seek (suc x) a) spot x (seek_robot x a spot z) z

  -- pushing it takes it one place on
  push_behind : (b : Arrangement) × Runs 4 (push a spot) a b × (turn (suc j) b ≡ u ++ 0 ∷ suc x ∷ replicate k 0)
  unfolding pushed spot
  push_behind = go (push_at a spot spot_in g)
    where
      go : (b : Arrangement) × Runs 4 (push a spot) a b × (turn (suc spot) b ≡ pushed (turn spot a))
          → (b : Arrangement) × Runs 4 (push a spot) a b × (turn (suc j) b ≡ u ++ 0 ∷ suc x ∷ replicate k 0)
      go (b, r, t) = (b, r, placed)
        where
          m : length b ≡ length a
          m = sym (runs_length r)

          v : Arrangement
          v = suc x ∷ replicate k 0

          pushed_so : turn (suc spot) b ≡ v ++ (u ++ 0 ∷ [])
          pushed_so = t ∙ ap pushed ahead ∙ ap (λ l. suc x ∷ l) (append_assoc (replicate k 0) u (0 ∷ []))

          read_so : turn (suc spot) b ≡ turn (suc (length u)) (turn (suc j) b)
          read_so =
              let o : suc spot ≡ spot + 1 = omega arith in
              let q : suc j + length u + 1 ≡ suc j + suc (length u) = omega arith in
              ap (λ i. turn i b) o ∙ turn_add spot 1 b ∙ ap (turn 1) (turn_wrap (length a) (suc j + length u) b m) ∙ sym (turn_add (suc j + length u) 1 b)
              ∙ ap (λ i. turn i b) q ∙ turn_add (suc j) (suc (length u)) b

          placed : turn (suc j) b ≡ u ++ 0 ∷ suc x ∷ replicate k 0
          placed =
              let q : length a - suc (length u) ≡ length v = omega (arith, long, length-replicate {A = ℕ} k 0) in
              sym (turn_back (length a) (suc (length u)) (turn (suc j) b) (omega (arith, long)) (length_turn (suc j) b ∙ m))
              ∙ ap (turn (length a - suc (length u))) (sym read_so ∙ pushed_so) ∙ ap (λ i. turn i (v ++ (u ++ 0 ∷ []))) q ∙ turn_append v (u ++ 0 ∷ []) ∙ append_assoc u (0 ∷ []) v

-- ---- one push lowers the measure

-- or if j is empty the first behind it
place_off : (a : Arrangement) (j : ℕ) → cell a j ≡ 0 → turn_place a j ≡ seek (suc (ring_behind a j)) a
unfolding turn_place
place_off a j e = if_true (eqb (cell a j) 0) (seek (suc (ring_behind a j)) a) j (eq→eqb (cell a j) 0 e)

-- nor is one with another robot behind it
shut_off : (a : Arrangement) (j n : ℕ) → ring_behind a j ≢ n → T (not (entry_open a j n))
unfolding entry_open
shut_off a j n k = not_T (entry_open a j n) (λ t. k (eqb→eq (ring_behind a j) n (and_right (eqb (cell a j) 0) (eqb (ring_behind a j) n) t)))

module _ (j n : ℕ) (a : Arrangement) (h : j < length a) (d : Distinct a) (g : length (order a) < length a) where
  -- the robot on j is none of the others
  others : (x : ℕ) → cell a j ≡ suc x → Each (λ y. x ≢ y) (order (opened j a))
  others x e = rw (order_opened j a) (each_append (not_over a d j x e) (not_under a d j x e))

  -- where j is taken, pushing the robot on it lowers the measure
  lower_on : (x : ℕ) → cell a j ≡ suc x → Early n (turn (suc j) a) → Lower j n a
  lower_on x e E = go (push_off j x a g e)
    where
      w : Arrangement
      w = opened j a

      seen' : turn (suc j) a ≡ w ++ suc x ∷ []
      seen' = turn_past j a h ∙ ap (λ c. w ++ c ∷ []) e

      E' : Early n (w ++ suc x ∷ [])
      E' = rw seen' at E

      x≢n : x ≢ n
      x≢n z = early_not w (suc x) E' (rw z at (others x e))

      go : (b : Arrangement) × Runs 4 (push a j) a b × (turn (suc j) b ≡ suc x ∷ pushed w) × (length (order w) < length w) → Lower j n a
      go (b, r, t, c) = record {
        shut = shut_on a j n x e;
        to = b;
        runs = rw (place_on a j x e) r;
        early = rw t (later (early_pushed w x c E'));
        fewer = rw (t, seen', after_later n (suc x) (pushed w) (λ z. x≢n (omega arith))) (after_pushed n w x E');
      }

  -- where j is empty and another than the named robot is behind it, pushing that one does
  lower_off : cell a j ≡ 0 → ring_behind a j ≢ n → Named a → Early n (turn (suc j) a) → Lower j n a
  unfolding ring_behind
  lower_off e k nm E = go (trail_view (opened j a) (none_opened a j nm))
    where
      go : Trail (opened j a) → Lower j n a
      go (bare i w) = absurd (early_not (opened j a) 0 (rw (turn_past j a h, e) at E) (rw (w, order_none i) none))
      go (trail u x i q w l) =
          let s = push_behind j a h d g e u x i w in
          let y = seen j a h d g e u x i w in
          let x≢n : x ≢ n = λ z. k (l ∙ z) in
          let E' = rw y at E in
          record {
            shut = shut_off a j n k;
            to = s.0;
            runs = rw (place_off a j e ∙ ap (λ z. seek (suc z) a) l ∙ spot_is j a h d g e u x i w) s.1;
            early = rw s.2 (early_step u x (replicate i 0) x≢n (early_none i) E');
            fewer = rw (s.2, y) (after_step n u x (replicate i 0) x≢n (early_none i) E');
          }

  -- so either entering may begin or one push lowers the measure
  pub lower : Named a → Early n (turn (suc j) a) → Open j n a ⊎ Lower j n a
  lower nm E = go (cell a j) refl (ℕ_discrete (ring_behind a j) n)
    where
      go : (c : ℕ) → cell a j ≡ c → Dec (ring_behind a j ≡ n) → Open j n a ⊎ Lower j n a
      go zero e (yes k) = inl (e, k)
      go zero e (no k) = inr (lower_off e k nm E)
      go (suc x) e k = inr (lower_on x e E)
