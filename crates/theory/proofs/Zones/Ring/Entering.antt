-- Rings: the test and moves of entering are right. The ring is turned until the named robot is the first behind place j.
-- What it rests on stands in specs/Zones/Ring/Entering.antt.
use Rattle.std.specs.Prelude.{◌≡◌, Bool, true, false, eqb, T}
use Rattle.std.proofs.Common.{sym, ap, ◌∙◌, mul-suc, mul-le-mul_left, arith, eqb→eq}
use Prim.Native.Nat.{ℕ, suc, ◌≤◌, ◌<◌, ◌*◌}
use Rattle.std.proofs.Math.Decide.{ℕ_discrete}
use Rattle.std.proofs.Math.ListN.{length}
use Rattle.spec.specs.Outcome.{member}
use Rattle.spec.specs.Arrangement.{Arrangement, cell, order}
use Rattle.spec.specs.Terms.{Runs, done, Distinct, Named}
use Rattle.spec.specs.Ring.{ring_behind, opened, ring_can_enter, ring_enter}
use Rattle.theory.specs.Basics.Tests.{Eqb, same, other, eqb?}
use Rattle.theory.specs.Zones.Arrangements.{member→cell}
use Rattle.theory.specs.Zones.Ring.Turning.{turn, length_turn}
use Rattle.theory.specs.Zones.Ring.Opened.{count_opened, opened_cell, turn_past, count_turn, length_opened}
use Rattle.theory.specs.Zones.Ring.Push.{pushed}
use Rattle.theory.specs.Zones.Ring.Measure.{length_pushed, after_le, spread_le, count_pushed, early_of}
use Rattle.theory.specs.Zones.Ring.Entering.{Turns, ring_empty}
use Rattle.theory.proofs.Zones.Ring.TurnLoop.{turn_stays, turn_loop, turn_first}

-- ---- the moves and the test

-- where a robot may enter the written moves empty j, with the named robot behind it
pub ring_enter_lem : (a : Arrangement) (j n : ℕ) → j < length a → Distinct a → Named a → length (order a) < length a → T (ring_can_enter a j n)
    → (b : Arrangement) × Runs 4 (ring_enter a j n) a b × (cell b j ≡ 0) × (ring_behind b j ≡ n)
unfolding ring_can_enter ring_enter Turns order
ring_enter_lem a j n h d nm g t = go (eqb? (length (order a)) 0) t
  where
    m : ℕ
    m = length a

    most : m * suc (length (order a)) ≤ m * m
    most = mul-le-mul_left m g

    there : (i : ℕ) → cell a i ≡ suc n → Dec (i ≡ j) → Turns (m * m) j n a
    there i e (yes k) =
        let f : cell a j ≡ suc n = rw k at e in
        let w = opened j a in
        let c : length (order a) ≡ suc (length (order w)) = sym (count_opened j a (suc n) h f) in
        let b = spread_le m (pushed w) (omega (arith, length_pushed w, length_opened j a h)) in
        turn_first (m * m) j n a h d nm g f
        (omega (arith, rw (count_pushed w) at b, most, mul-suc m (length (order a)), mul-suc m (length (order w)), ap (λ z. m * z) c))
    there i e (no k) =
        let s = opened_cell j a i n e k in
        let b = spread_le m (turn (suc j) a) (omega (arith, length_turn (suc j) a)) in
        turn_loop (m * m) j n a h d nm g (rw (turn_past j a h) (early_of (opened j a) (cell a j) s.0 s.1))
        (omega (arith, after_le n (turn (suc j) a), rw (count_turn (suc j) a) at b, most, mul-suc m (length (order a))))

    go : {q : Bool} → Eqb (length (order a)) 0 q → T (elim q [ true ↦ eqb n 255 | false ↦ member n (order a) ]) → Turns (m * m) j n a
    go (same z) t = let s = ring_empty a j h z in let k = s.1 ∙ sym (eqb→eq n 255 t) in (a, rw (turn_stays (m * m) a j n (s.0, k)) done, s.0, k)
    go (other z) t = let s = member→cell a n t in there s.0 s.1 (ℕ_discrete s.0 j)
