-- The goals reached zone by zone.
use Rattle.std.specs.Prelude.{◌≡◌, refl, Bool, true, List, [], ◌∷◌, ◌++◌, ℕ, zero, suc, ◌+◌, ◌≤◌, ◌<◌, drop, T}
use Rattle.std.proofs.Common.{sym, ap, ◌∙◌, le_refl, arith, add-one, drop_of_length-le, drop-cons}
use Rattle.std.proofs.Math.Decide.{ℕ_discrete}
use Rattle.spec.specs.Outcome.{ok}
use Rattle.spec.specs.Layout.{Map, zone_at}
use Rattle.spec.specs.Arrangement.{Move}
use Rattle.spec.specs.ZoneKind.{can_end}
use Rattle.spec.specs.ZoneKind as meaning
use Rattle.spec.specs.State.{State, moved_all, across}
use Rattle.spec.specs.Run.{goals_from, endings_from}
use Rattle.spec.specs.Terms.{arrangement_in, zone_count, kind_of}
use Rattle.theory.specs.Basics.Tests.{of_true, true_of}
use Rattle.theory.specs.Basics.Outcomes.{passed}
use Rattle.theory.specs.Maps.Layout.{Accepted}
use Rattle.theory.specs.Maps.Cells.{arrangement_length}
use Rattle.theory.specs.Maps.Consistent.{Consistent, consistent_all}
use Rattle.theory.specs.Maps.Inside.{Acted, act}
use Rattle.theory.proofs.Zones.Kinds.{laws}
use Rattle.theory.specs.Plans.Step.{proper}
use Rattle.motion.specs.World.{World, made_all, made_append, state_is}

-- the zones from zone i on
pub zones_next : (m : Map) (i : ℕ) → i < zone_count m → drop i m.zones ≡ zone_at m i ∷ drop (i + 1) m.zones
unfolding zone_at
zones_next m i h = rw (add-one i) (drop-cons m.zones i (record { kind = 0; vertices = [] }) h)

module _ (m : Map) (s g : State) where
  -- the test of zone i
  abbrev pub ends : ℕ → Bool
  ends i = can_end (kind_of m i) (arrangement_in m s i) (arrangement_in m g i)

  -- what the tests say of each zone
  pub goals_at : (n i : ℕ) → i + n ≡ zone_count m → goals_from i (drop i m.zones) s g ≡ ok tt → (z : ℕ) → i ≤ z → z < zone_count m → ends z ≡ true
  goals_at zero i e q z l h = absurd (omega arith)
  goals_at (suc n) i e q z l h = pick (ℕ_discrete z i) (λ t. goals_at n (i + 1) (omega arith) first.1 z t h)
    where
      first : T (ends i) × (goals_from (i + 1) (drop (i + 1) m.zones) s g ≡ ok tt)
      first = unfold goals_from in passed _ _ _ _ _ (rw (zones_next m i (omega arith)) at q)

      pick : Dec (z ≡ i) → (i + 1 ≤ z → ends z ≡ true) → ends z ≡ true
      pick (yes d) f = rw d (true_of first.0)
      pick (no d) f = f (omega arith)

-- the moves of zone i, and of those after it
endings_next : (m : Map) (s g : State) (i : ℕ) → i < zone_count m
    → endings_from (drop i m.zones) s g ≡ across (zone_at m i).vertices (meaning.end (kind_of m i) (arrangement_in m s i) (arrangement_in m g i)) ++ endings_from (drop (i + 1) m.zones) s g
unfolding endings_from
endings_next m s g i h = rw (zones_next m i h)

-- how far bringing the zones to the goals has come: those before zone i are, and that led to the world w; those from i on are as they were in s
pub record Ending (m : Map) (k : ℕ) (s g : State) (w₀ : World) (i : ℕ) (w : World) : Type 0 where
  pub within : i ≤ zone_count m
  pub consistent : Consistent m k w.state
  pub same : (y : ℕ) → i ≤ y → y < zone_count m → arrangement_in m w.state y ≡ arrangement_in m s y
  pub rest : made_all w (endings_from (drop i m.zones) s g) ≡ made_all w₀ (endings_from m.zones s g)

module _ (m : Map) (a : Accepted m) (k : ℕ) (few : k ≤ 64) (s g : State) (hs : Consistent m k s) (pass : goals_from 0 m.zones s g ≡ ok tt) (w₀ : World) where
  -- every zone can be brought to its goals
  pub ends_at : (z : ℕ) → z < zone_count m → ends m s g z ≡ true
  ends_at z h = goals_at m s g (zone_count m) 0 (omega arith) pass z (omega arith) h

  -- no zone yet
  pub ending_start : w₀.state ≡ s → Ending m k s g w₀ 0 w₀
  ending_start e = record { within = omega arith; consistent = rw e hs; same = λ y h l. rw e; rest = refl }

  module _ (i : ℕ) (w : World) (d : Ending m k s g w₀ i w) where
    -- zone i can still be brought to its goals
    pub ending_can : i < zone_count m → can_end (kind_of m i) (arrangement_in m w.state i) (arrangement_in m g i) ≡ true
    ending_can h = rw (d.same i (le_refl i) h) (ends_at i h)

    -- it is brought there
    pub ending_next : (u : World) → i < zone_count m
        → u ≡ made_all w (across (zone_at m i).vertices (meaning.end (kind_of m i) (arrangement_in m w.state i) (arrangement_in m g i))) → Ending m k s g w₀ (i + 1) u
    ending_next u h q =
        let ms : List Move = across (zone_at m i).vertices (meaning.end (kind_of m i) (arrangement_in m s i) (arrangement_in m g i)) in
        let e : u ≡ made_all w ms = q ∙ rw (d.same i (le_refl i) h) in
        let z : u.state ≡ moved_all w.state ms = ap (λ (y : World). y.state) e ∙ state_is w ms in
        let x : Acted m w.state i ms (arrangement_in m g i) =
        act m a i h ((laws (kind_of m i)).ends (arrangement_in m s i) (arrangement_in m g i) (proper m a k few s hs i h).once
        (arrangement_length s (zone_at m i) ∙ sym (arrangement_length g (zone_at m i))) (of_true (ends_at i h))) w.state d.consistent.rooms (sym (d.same i (le_refl i) h)) in
        record {
          within = omega arith;
          consistent = rw z (consistent_all m a k d.consistent x.legals);
          same = λ y l b. ap (λ (t : State). arrangement_in m t y) z ∙ x.away y b (λ (t : y ≡ i). omega arith) ∙ d.same y (omega arith) b;
          rest =
              ap (λ (t : World). made_all t (endings_from (drop (i + 1) m.zones) s g)) e
              ∙ sym (made_append w ms (endings_from (drop (i + 1) m.zones) s g))
              ∙ ap (made_all w) (sym (endings_next m s g i h)) ∙ d.rest;
        }

    -- all zones are
    pub ending_end : zone_count m ≤ i → w ≡ made_all w₀ (endings_from m.zones s g)
    unfolding endings_from made_all
    ending_end h = rw (drop_of_length-le m.zones {i = i} h) at d.rest
