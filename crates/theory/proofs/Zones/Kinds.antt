-- Every kind: the tests say what can be reached, the written moves reach it, and crossings keep configurations.
-- What it rests on stands in specs/Zones/Kinds.antt.
use Rattle.std.specs.Prelude.{◌≡◌, Bool, not, List, ℕ, suc, ◌<◌, length, set, take, T, eqb}
use Rattle.std.proofs.Common.{sym, ◌∙◌, arith}
use Rattle.spec.specs.Outcome.{◌and◌}
use Rattle.spec.specs.Arrangement.{Arrangement, cell, order, full, last_free, last_named}
use Rattle.spec.specs.Hall.{hall_can_leave, hall_leave, hall_can_enter, hall_enter, hall_can_end, hall_end}
use Rattle.spec.specs.Clique.{clique_can_leave, clique_leave, clique_can_enter, clique_enter, clique_can_end, clique_end}
use Rattle.spec.specs.Ring.{ring_behind, ring_can_leave, ring_leave, ring_can_enter, ring_enter, ring_can_end, ring_end}
use Rattle.spec.specs.ZoneKind.{behind_of, can_leave, leave, can_enter, enter, can_end, end}
use Rattle.spec.specs.State.{robots_of}
use Rattle.spec.specs.Terms.{Runs, Reachable, Distinct, Named, fills}
use Rattle.theory.specs.Basics.Tests.{Eqb, same, other, eqb?}
use Rattle.theory.specs.Zones.Arrangements.{order_short}
use Rattle.theory.specs.Zones.Hall.Order.{IsHall}
use Rattle.theory.specs.Zones.Hall.Leaving.{hall_left}
use Rattle.theory.proofs.Zones.Hall.Leaving.{hall_leave_lem}
use Rattle.theory.specs.Zones.Hall.Entering.{hall_entered}
use Rattle.theory.proofs.Zones.Hall.Entering.{hall_enter_lem}
use Rattle.theory.specs.Zones.Hall.Ending.{hall_end_lem, hall_ended, hall_keeps_leave, hall_keeps_enter}
use Rattle.theory.specs.Zones.Clique.Leaving.{clique_leave_lem, clique_left}
use Rattle.theory.specs.Zones.Clique.Entering.{clique_entered_lem}
use Rattle.theory.proofs.Zones.Clique.Entering.{clique_enter_lem}
use Rattle.theory.specs.Zones.Clique.Ending.{clique_ended}
use Rattle.theory.proofs.Zones.Clique.Ending.{clique_end_lem, clique_keeps_leave, clique_keeps_enter}
use Rattle.theory.specs.Zones.Ring.Leaving.{ring_left}
use Rattle.theory.proofs.Zones.Ring.Leaving.{ring_leave_lem}
use Rattle.theory.specs.Zones.Ring.Ending.{ring_ended, ring_keeps_leave, ring_keeps_enter}
use Rattle.theory.proofs.Zones.Ring.Ending.{ring_end_lem}
use Rattle.theory.specs.Zones.Ring.Entering.{ring_entered_lem}
use Rattle.theory.proofs.Zones.Ring.Entering.{ring_enter_lem}
use Rattle.theory.specs.Zones.Kinds.{KindOf, clique, ring, hall, kind?, as_hall, Entered, Laws}

-- a zone that is not full has fewer robots than places
room_of : (a : Arrangement) → T (not (full a)) → length (order a) < length a
unfolding full
room_of a t = go (eqb? (length (order a)) (length a)) t
  where
    go : {b : Bool} → Eqb (length (order a)) (length a) b → T (not b) → length (order a) < length a
    go (same e) t = absurd t
    go (other n) t = omega (arith, order_short a)

-- ---- leaving

-- who may leave does by the written moves
reach_leave : {kind : ℕ} → KindOf kind → (a : Arrangement) (r j : ℕ) → Distinct a → j < length a → T (can_leave kind a r j) → (b : Arrangement) × Runs kind (leave kind a r j) a b × (cell b j ≡ suc r)
unfolding can_leave leave
reach_leave clique a r j d h t = clique_leave_lem a r j h t
reach_leave ring a r j d h t = ring_leave_lem a r j d h t
reach_leave (hall i) a r j d h t =
    rw (as_hall i (clique_leave a r j) (ring_leave a r j) (hall_leave a r j)) (hall_leave_lem a r j d (rw (as_hall i (clique_can_leave a r j) (ring_can_leave a r j) (hall_can_leave a r j)) at t))

-- who can come to j may leave
back_leave : {kind : ℕ} → KindOf kind → (a b : Arrangement) (r j : ℕ) → Distinct a → Reachable kind a b → cell b j ≡ suc r → T (can_leave kind a r j)
unfolding can_leave
back_leave clique a b r j d s e = clique_left a b r j s e
back_leave ring a b r j d s e = ring_left a b r j s e
back_leave (hall i) a b r j d s e = rw (as_hall i (clique_can_leave a r j) (ring_can_leave a r j) (hall_can_leave a r j)) (hall_left i a b r j d s e)

-- ---- entering

-- no step fills a clique in a hall
not_clique : {kind : ℕ} {A : Type 0} (q : Bool) → IsHall kind → T (eqb kind 3 and q) → A
unfolding ◌and◌
not_clique {kind} {A} q i t = go (eqb? kind 3) t
  where
    go : {b : Bool} → Eqb kind 3 b → T (b and q) → A
    go (same e) t = absurd (i.three e)
    go (other n) t = absurd t

-- where a robot may enter the written moves make room
reach_enter : {kind : ℕ} → KindOf kind → (a : Arrangement) (r j behind : ℕ) (list : List ℕ) → Distinct a → Named a → j < length a → length (order a) < length a
    → T (can_enter kind a r j behind list) → (b : Arrangement) × Runs kind (enter kind a j behind list) a b × Entered kind a r j behind list b
unfolding can_enter enter behind_of ◌and◌
reach_enter clique a r j behind list d n h f t =
    let s = clique_enter_lem a r j behind list h d f t in
    (s.0, s.1, record { clear = s.2; named_behind = s.3; listed = s.4 })
reach_enter ring a r j behind list d n h f t =
    let s = ring_enter_lem a j behind h d n f t in
    (s.0, s.1, record { clear = s.2; named_behind = s.3; listed = λ z. absurd z })
reach_enter {kind} (hall i) a r j behind list d n h f t =
    let s = hall_enter_lem {kind = kind} a j behind d (rw (as_hall i (clique_can_enter a r j behind list) (ring_can_enter a j behind) (hall_can_enter a j behind)) at t) in (
      s.0,
      rw (as_hall i (clique_enter a j list) (ring_enter a j behind) (hall_enter a j behind)) s.1,
      record {
        clear = s.2;
        named_behind = as_hall i 255 (ring_behind s.0 j) (last_named (take j s.0)) ∙ s.3;
        listed = λ z. not_clique (last_free a) i z;
      },
    )

-- where room can be made a robot may enter
back_enter : {kind : ℕ} → KindOf kind → (a b : Arrangement) (r j behind : ℕ) (list : List ℕ) → Distinct a → Named a → j < length a
    → Reachable kind a b → cell b j ≡ 0 → behind_of kind b j ≡ behind → (T (fills kind a) → list ≡ robots_of (set b j (suc r))) → T (can_enter kind a r j behind list)
unfolding can_enter behind_of ◌and◌
back_enter clique a b r j behind list d n h s e k l = clique_entered_lem a r j behind list h b s e k l
back_enter ring a b r j behind list d n h s e k l = ring_entered_lem a b j behind h n s e k
back_enter (hall i) a b r j behind list d n h s e k l =
    rw (as_hall i (clique_can_enter a r j behind list) (ring_can_enter a j behind) (hall_can_enter a j behind))
    (hall_entered i a b j behind d n h s e (sym (as_hall i 255 (ring_behind b j) (last_named (take j b))) ∙ k))

-- ---- ending

-- a goal that may be taken is reached by the written moves
reach_end : {kind : ℕ} → KindOf kind → (a g : Arrangement) → Distinct a → length a ≡ length g → T (can_end kind a g) → Runs kind (end kind a g) a g
unfolding can_end end
reach_end clique a g d l t = clique_end_lem a g d l t
reach_end ring a g d l t = ring_end_lem a g d l t
reach_end (hall i) a g d l t = rw (as_hall i (clique_end a g) (ring_end a g) (hall_end a g)) (hall_end_lem a g l (rw (as_hall i (clique_can_end a g) (ring_can_end a g) (hall_can_end a g)) at t))

-- a goal that can be reached may be taken
back_end : {kind : ℕ} → KindOf kind → (a g : Arrangement) → Distinct a → Reachable kind a g → T (can_end kind a g)
unfolding can_end
back_end clique a g d s = clique_ended a g s
back_end ring a g d s = ring_ended a g d s
back_end (hall i) a g d s = rw (as_hall i (clique_can_end a g) (ring_can_end a g) (hall_can_end a g)) (hall_ended i a g s)

-- ---- the laws of a kind: what the whole map's proof needs

-- leaving keeps configurations
on_leave : {kind : ℕ} → KindOf kind → (a b : Arrangement) (j r : ℕ) → Distinct a → Reachable kind a b → cell a j ≡ suc r → cell b j ≡ suc r → Reachable kind (set a j 0) (set b j 0)
on_leave clique a b j r d s e f = clique_keeps_leave a b j r d s e f
on_leave ring a b j r d s e f = ring_keeps_leave a b j r d s e f
on_leave (hall i) a b j r d s e f = hall_keeps_leave i a b j r d s e f

-- entering keeps configurations
on_enter : {kind : ℕ} → KindOf kind → (a b : Arrangement) (j r : ℕ) → Distinct a → Named a → j < length a → Reachable kind a b → cell a j ≡ 0 → cell b j ≡ 0
    → behind_of kind a j ≡ behind_of kind b j → ((i : ℕ) → cell a i ≡ suc r → ⊥) → (T (fills kind a) → set a j (suc r) ≡ set b j (suc r))
    → Reachable kind (set a j (suc r)) (set b j (suc r))
unfolding behind_of ◌and◌
on_enter clique a b j r d n h s e f k q l = clique_keeps_enter a b j r d s h e f q l
on_enter ring a b j r d n h s e f k q l = ring_keeps_enter a b j r d s n h e f k
on_enter (hall i) a b j r d n h s e f k q l =
    hall_keeps_enter i a b j r d s n h e f (sym (as_hall i 255 (ring_behind a j) (last_named (take j a))) ∙ k ∙ as_hall i 255 (ring_behind b j) (last_named (take j b)))

-- every kind has them
pub laws : (kind : ℕ) → Laws kind
laws kind = record {
  leaves = reach_leave (kind? kind);
  enters = λ a r j behind list d n h f. reach_enter (kind? kind) a r j behind list d n h (room_of a f);
  ends = reach_end (kind? kind);
  can_leave_lem = back_leave (kind? kind);
  can_enter_lem = back_enter (kind? kind);
  can_end_lem = back_end (kind? kind);
  left_same = on_leave (kind? kind);
  entered_same = on_enter (kind? kind);
}
