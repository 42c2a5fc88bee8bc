-- Rings: the test and moves of ending are right, and crossings keep configurations.
-- What it rests on stands in specs/Zones/Ring/Ending.antt.
use Rattle.std.specs.Prelude.{◌≡◌, refl, ◌⊎◌, Bool, T}
use Rattle.std.proofs.Common.{ap, sym, ◌∙◌, inl, inr}
use Rattle.std.proofs.Math.Bool.{true, false}
use mathlib.Core.List.{List, [], ◌∷◌, ◌++◌, map}
use Prim.Native.Nat.{ℕ, suc, ◌≤◌, min, zero, ◌-◌, ◌<◌}
use Rattle.std.proofs.Math.Decide.{dec_le}
use native.Mathlib.Omega.{arith}
use Rattle.std.proofs.Math.ListN.{length}
use Rattle.spec.specs.Outcome.{member, same_list}
use Rattle.spec.specs.Arrangement.{lesser, Arrangement, order, Move, cell, apply_all, seek, full}
use Rattle.spec.specs.Hall.{hall_end}
use Rattle.spec.specs.Terms.{Runs, done, Distinct}
use Rattle.spec.specs.Ring.{lowest, in_ring, push_to, opened, ring_end, ring_end_at, turned, ring_can_end}
use Rattle.theory.specs.Basics.Lists.{in_head, in_tail}
use Rattle.theory.specs.Basics.Tests.{eqb_false, Eqb, same, other, eqb?, same→eq}
use Rattle.theory.specs.Zones.Arrangements.{seek_robot, cell_inside, member→cell, room_left}
use Rattle.theory.specs.Zones.Moves.{runs_append, runs_length, runs_applied}
use Rattle.theory.specs.Zones.Ring.Turning.{turn_nil, Turned, turned→, turn}
use Rattle.theory.specs.Zones.Ring.Order.{runs_turned}
use Rattle.theory.specs.Zones.Ring.Opened.{rest_runs, round_has, round_same}
use Rattle.theory.specs.Zones.Ring.Push.{push_none}
use Rattle.theory.proofs.Zones.Ring.Push.{push_to_lem}
use Rattle.theory.specs.Zones.Ring.Ending.{Lowest, nobody, low}

-- ---- the lowest-numbered robot

-- the search finds so
lowest_view : (xs : List ℕ) → Lowest xs (lowest xs)
unfolding lowest lesser
lowest_view [] = nobody refl
lowest_view (r ∷ rs) = go (lowest_view rs)
  where
    pick : (q : ℕ) → T (member q rs) → Dec (r ≤ q) → Lowest (r ∷ rs) (min (suc r) (suc q))
    pick q h (yes k) = let e : min (suc r) (suc q) ≡ suc r = omega arith in rw e (low r (in_head r rs))
    pick q h (no k) = let e : min (suc r) (suc q) ≡ suc q = omega arith in rw e (low q (in_tail q r rs h))

    go : {o : ℕ} → Lowest rs o → Lowest (r ∷ rs) (lesser (suc r) o)
    go (nobody e) = low r (in_head r rs)
    go (low q h) = rw (eqb_false {m = suc q} {n = 0} (omega arith), lesser) (pick q h (dec_le r q))

-- ---- the moves and the test

-- two arrangements of one length without robots are equal
all_empty : (a g : Arrangement) → length a ≡ length g → order a ≡ [] → order g ≡ [] → a ≡ g
unfolding order
all_empty [] [] l e f = refl
all_empty [] (y ∷ g) l e f = absurd (omega arith)
all_empty (x ∷ a) [] l e f = absurd (omega arith)
all_empty (zero ∷ a) (zero ∷ g) l e f = ap (λ l. 0 ∷ l) (all_empty a g (omega arith) e f)
all_empty (zero ∷ a) (suc y ∷ g) l e f = absurd (omega (arith, ap length f))
all_empty (suc x ∷ a) (y ∷ g) l e f = absurd (omega (arith, ap length e))

module _ (a g : Arrangement) (d : Distinct a) (l : length a ≡ length g) (t : Turned (order a) (order g)) (f : (length (order a) < length a) ⊎ (a ≡ g)) where
  -- pushing any robot to its goal and bringing the others there as in a hall ends in the goal
  end_at : (r : ℕ) → T (member r (order a)) → Runs 4 (ring_end_at a g r) a g
  unfolding ring_end_at
  end_at r h = go (member→cell a r h)
    where
      j : ℕ
      j = seek (suc r) g

      ms : List Move
      ms = push_to a r j

      here : cell g j ≡ suc r
      here = let s = member→cell a r h in let k = member→cell g r (round_has a g s.0 r d s.1 t) in seek_robot r g k.0 k.1

      start : (p : ℕ) → cell a p ≡ suc r → (length (order a) < length a) ⊎ (a ≡ g) → (b : Arrangement) × Runs 4 ms a b × (cell b j ≡ suc r)
      start p e (inl f) = push_to_lem a r j p f (omega (arith, cell_inside g j r here)) e
      start p e (inr f) = push_none a r j d (rw f here)

      go : (p : ℕ) × (cell a p ≡ suc r) → Runs 4 (ms ++ map (λ v. in_ring (length a) (suc j) v) (hall_end (opened j (apply_all a ms)) (opened j g))) a g
      go (p, e) =
          let s = start p e f in
          let m = runs_length s.1 in
          let o = sym (round_same a s.0 p j r d e s.2 (runs_turned s.1)) ∙ round_same a g p j r d e here t in
          runs_append s.1 (rw (runs_applied s.1, m) (rest_runs s.0 g j (cell_inside s.0 j r s.2) (sym m ∙ l) (s.2 ∙ sym here) o))

  -- the written moves end in the goal
  pub ring_goes : Runs 4 (ring_end a g) a g
  unfolding ring_end
  ring_goes = go (lowest_view (order a)) (eqb? (lowest (order a)) 0)
    where
      go : {x : ℕ} {b : Bool} → Lowest (order a) x → Eqb x 0 b → Runs 4 (elim b [ true ↦ [] | false ↦ ring_end_at a g (x - 1) ]) a g
      go (nobody e) (same y) = rw (← (all_empty a g l e (t.is ∙ rw e (turn_nil t.by)))) done
      go (nobody e) (other y) = absurd (y refl)
      go (low r h) (same y) = absurd (omega arith)
      go (low r h) (other y) = let k : suc r - 1 ≡ r = omega arith in rw k (end_at r h)

-- a goal that may be taken is reached by the written moves
pub ring_end_lem : (a g : Arrangement) → Distinct a → length a ≡ length g → T (ring_can_end a g) → Runs 4 (ring_end a g) a g
unfolding ring_can_end full turn
ring_end_lem a g d l t = go (eqb? (length (order a)) (length a)) t
  where
    go : {q : Bool} → Eqb (length (order a)) (length a) q → T (elim q [ true ↦ same_list a g | false ↦ turned (order a) (order g) ]) → Runs 4 (ring_end a g) a g
    go (same f) t = let e = same→eq a g t in ring_goes a g d l record { by = 0; is = rw e } (inr e)
    go (other n) t = ring_goes a g d l (turned→ (order a) (order g) t) (inl (room_left a n))
