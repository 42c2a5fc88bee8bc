-- Rings: each push of entering lowers the measure.
use Rattle.std.specs.Prelude.{◌≡◌, ◌≢◌, not, ◌∷◌, ◌++◌, [], T, eqb}
use Rattle.std.proofs.Math.Path.{refl, sym, ap}
use Rattle.std.proofs.Common.{◌∙◌, arith, eqb→eq}
use Prim.Native.Nat.{ℕ, suc, zero, ◌<◌}
use Rattle.std.proofs.Math.ListN.{replicate}
use Rattle.std.proofs.Math.Dec.{not_T}
use Rattle.spec.specs.Arrangement.{Arrangement, last_named, order, cell, seek}
use Rattle.spec.specs.Terms.{Runs}
use Rattle.spec.specs.Ring.{push, ring_behind, entry_open, turn_place}
use Rattle.theory.specs.Basics.Lists.{Each, ◌&&&◌}
use Rattle.theory.specs.Basics.Tests.{if_true, if_false, eq→eqb, ne→eqb, and_left}
use Rattle.theory.specs.Zones.Ring.Turning.{turn}
use Rattle.theory.specs.Zones.Ring.Measure.{after, Early}

-- ---- the last robot of a list of cells

-- the last robot of a list of cells
pub data Trail (w : Arrangement) : Type 0 where
  bare : (k : ℕ) → w ≡ replicate k 0 → Trail w
  trail : (u : Arrangement) (x k : ℕ) → x ≢ 255 → w ≡ u ++ suc x ∷ replicate k 0 → last_named w ≡ x → Trail w

-- empty places name nobody
last_none : (k : ℕ) → last_named (replicate k 0) ≡ 255
unfolding last_named
last_none zero = refl
last_none (suc k) = last_none k

-- which of the two a list is can be told, where no robot is 255
pub trail_view : (w : Arrangement) → Each (λ y. 255 ≢ y) (order w) → Trail w
unfolding last_named order
trail_view [] n = bare 0 refl
trail_view (zero ∷ w) n = go (trail_view w n)
  where
    go : Trail w → Trail (zero ∷ w)
    go (bare k e) = bare (suc k) (ap (λ l. 0 ∷ l) e)
    go (trail u x k q e l) = trail (0 ∷ u) x k q (ap (λ l. 0 ∷ l) e) l
trail_view (suc y ∷ w) (◌&&&◌ n ns) = go (trail_view w ns)
  where
    go : Trail w → Trail (suc y ∷ w)
    go (bare k e) = trail [] y k (λ z. n (sym z)) (ap (λ l. suc y ∷ l) e)
        (if_true (eqb (last_named w) 255) y (last_named w) (eq→eqb (last_named w) 255 (ap last_named e ∙ last_none k)))
    go (trail u x k q e l) = trail (suc y ∷ u) x k q (ap (λ l. suc y ∷ l) e)
        (if_false (eqb (last_named w) 255) y (last_named w) (ne→eqb (last_named w) 255 (λ z. q (sym l ∙ z))) ∙ l)

-- ---- one push lowers the measure

-- what entering needs: place j is empty and robot n the first behind it
abbrev pub Open : ℕ → ℕ → Arrangement → Type 0
Open j n a = (cell a j ≡ 0) × (ring_behind a j ≡ n)

-- the robot on j is pushed
pub place_on : (a : Arrangement) (j x : ℕ) → cell a j ≡ suc x → turn_place a j ≡ j
unfolding turn_place
place_on a j x e = if_false (eqb (cell a j) 0) (seek (suc (ring_behind a j)) a) j (ne→eqb (cell a j) 0 (λ z. omega arith))

-- a taken place is not open
pub shut_on : (a : Arrangement) (j n x : ℕ) → cell a j ≡ suc x → T (not (entry_open a j n))
unfolding entry_open
shut_on a j n x e = not_T (entry_open a j n) (λ t. omega (arith, eqb→eq (cell a j) 0 (and_left (eqb (cell a j) 0) (eqb (ring_behind a j) n) t)))

-- the place is not open yet, and the rule's next push lowers the measure
pub record Lower (j n : ℕ) (a : Arrangement) : Type 0 where
  pub shut : T (not (entry_open a j n))
  pub to : Arrangement
  pub runs : Runs 4 (push a (turn_place a j)) a to
  pub early : Early n (turn (suc j) to)
  pub fewer : after n (turn (suc j) to) < after n (turn (suc j) a)
