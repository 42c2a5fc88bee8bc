-- Configurations: what is reachable in a zone of each kind, and that the tests of leaving, entering and ending hold exactly if it is reachable.
-- What it rests on stands in specs/Zones/Configurations.antt.
use Rattle.std.specs.Prelude.{◌≡◌, ◌↔◌, Bool, not, List, ℕ, suc, ◌<◌, length, set}
use Rattle.std.proofs.Common.{inl}
use lib.Dec.{T}
use Rattle.spec.specs.Arrangement.{Arrangement, cell, order, full}
use Rattle.spec.specs.ZoneKind.{behind_of, can_leave, leave, can_enter, enter, can_end, end}
use Rattle.spec.specs.State.{robots_of}
use Rattle.spec.specs.Terms.{Reachable, Distinct, Named, fills}
use Rattle.theory.specs.Basics.Tests.{Eqb, same, other, eqb?}
use Rattle.theory.specs.Zones.Arrangements.{room_left}
use Rattle.theory.specs.Zones.Moves.{runs_length, runs_full, reach_refl}
use Rattle.theory.specs.Zones.Robots.{SameRobots, runs_robots}
use Rattle.theory.proofs.Zones.Clique.Rule.{clique_reach}
use Rattle.theory.specs.Zones.Ring.Turning.{Turned}
use Rattle.theory.specs.Zones.Ring.Order.{runs_turned}
use Rattle.theory.proofs.Zones.Ring.Ending.{ring_goes}
use Rattle.theory.proofs.Zones.Kinds.{laws}

-- ---- what is reachable

-- where all is full nothing moves
full_stays : {kind : ℕ} (a b : Arrangement) → Reachable kind a b → T (full a) → a ≡ b
unfolding full
full_stays a b s t = runs_full s.1 (lib.Dec.eqb→eq (length (order a)) (length a) t)

-- in a clique: those of the same robots, and if it is full the same arrangement
pub clique_configuration : (a b : Arrangement) → Distinct a → Reachable 3 a b ↔ ((length a ≡ length b) × SameRobots a b × (T (full a) → a ≡ b))
unfolding full
clique_configuration a b d = (λ s. (runs_length s.1, runs_robots s.1, full_stays a b s), λ h. go (eqb? (length (order a)) (length a)) h.0 h.1 h.2)
  where
    go : {q : Bool} → Eqb (length (order a)) (length a) q → length a ≡ length b → SameRobots a b → (T q → a ≡ b) → Reachable 3 a b
    go (same f) l s e = rw (e tt) (reach_refl b)
    go (other n) l s e = clique_reach a b d l (room_left a n) s

-- in a ring: those of the same order up to turning, and if it is full the same arrangement
pub ring_configuration : (a b : Arrangement) → Distinct a → Reachable 4 a b ↔ ((length a ≡ length b) × Turned (order a) (order b) × (T (full a) → a ≡ b))
unfolding full
ring_configuration a b d = (λ s. (runs_length s.1, runs_turned s.1, full_stays a b s), λ h. go (eqb? (length (order a)) (length a)) h.0 h.1 h.2)
  where
    go : {q : Bool} → Eqb (length (order a)) (length a) q → length a ≡ length b → Turned (order a) (order b) → (T q → a ≡ b) → Reachable 4 a b
    go (same f) l t e = rw (e tt) (reach_refl b)
    go (other n) l t e = (_, ring_goes a b d l t (inl (room_left a n)))

-- ---- what the tests say

-- a robot may leave exactly if a reachable arrangement has it at from
pub leaving : (kind : ℕ) (a : Arrangement) (r j : ℕ) → Distinct a → j < length a → T (can_leave kind a r j) ↔ ((b : Arrangement) × Reachable kind a b × (cell b j ≡ suc r))
leaving kind a r j d h = (
  λ t. let s = (laws kind).leaves a r j d h t in (s.0, (leave kind a r j, s.1), s.2),
  λ s. (laws kind).can_leave_lem a s.0 r j d s.1 s.2,
)

-- a robot may enter exactly if a reachable arrangement has to empty and the named robot behind it, and is the listed one where a clique is filled;
-- nothing is asked of the list's length, nor of where the robot is
pub entering : (kind : ℕ) (a : Arrangement) (r j behind : ℕ) (list : List ℕ) → Distinct a → Named a → j < length a → T (not (full a))
    → T (can_enter kind a r j behind list)
    ↔ ((b : Arrangement) × Reachable kind a b × (cell b j ≡ 0) × (behind_of kind b j ≡ behind) × (T (fills kind a) → list ≡ robots_of (set b j (suc r))))
entering kind a r j behind list d n h f = (
  λ t.
      let s = (laws kind).enters a r j behind list d n h f t in
      (s.0, (enter kind a j behind list, s.1), s.2.clear, s.2.named_behind, s.2.listed),
  λ s. (laws kind).can_enter_lem a s.0 r j behind list d n h s.1 s.2 s.3 s.4,
)

-- the goals may be taken exactly if they are reachable; nothing is asked of the goals but their length
pub ending : (kind : ℕ) (a g : Arrangement) → Distinct a → length a ≡ length g → T (can_end kind a g) ↔ Reachable kind a g
ending kind a g d l = (λ t. (end kind a g, (laws kind).ends a g d l t), λ s. (laws kind).can_end_lem a g d s)
