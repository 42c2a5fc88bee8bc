-- Endings: the goals are in the configurations reached exactly where the test says so, and then each zone is brought to them.
-- What it rests on stands in specs/Plans/Endings.antt.
use Rattle.std.specs.Prelude.{◌≡◌, T}
use Rattle.std.proofs.Math.Path.{refl}
use Rattle.std.proofs.Common.{sym, ap, ap₂, ◌∙◌, zero-add, le_refl, add-one, arith}
use mathlib.Core.List.{List, [], ◌∷◌, ◌++◌}
use Prim.Native.Nat.{ℕ, zero, suc, ◌+◌, ◌≤◌, ◌<◌}
use Rattle.std.proofs.Math.Decide.{ℕ_discrete}
use Rattle.std.proofs.Math.ListN.{drop, drop_of_length-le}
use Rattle.std.proofs.Math.Seq.{drop-cons}
use Rattle.spec.specs.Outcome.{ok}
use Rattle.spec.specs.Layout.{Map, Zone, zone_at}
use Rattle.spec.specs.Arrangement.{Move}
use Rattle.spec.specs.ZoneKind.{can_end, end}
use Rattle.spec.specs.State.{State, moved_all, arrangement_of, across, drawn_steps}
use Rattle.spec.specs.Run.{goals_from, endings_from}
use Rattle.spec.specs.Terms.{SameTuple, arrangement_in, zone_count, kind_of}
use Rattle.theory.specs.Basics.Outcomes.{passed, pass}
use Rattle.theory.specs.Maps.Layout.{Accepted}
use Rattle.theory.specs.Maps.Cells.{arrangement_length}
use Rattle.theory.specs.Maps.Moves.{stay, moved_append, legals_append, drawn_append}
use Rattle.theory.specs.Maps.Consistent.{Consistent, consistent_all}
use Rattle.theory.specs.Maps.Inside.{Acted, act}
use Rattle.theory.proofs.Zones.Kinds.{laws}
use Rattle.theory.specs.Plans.Step.{proper}
use Rattle.theory.specs.Plans.Tuple.{tuple_at}
use Rattle.theory.specs.Plans.Endings.{Ended}

-- the goals test of a zone and those after it
goals_cons : (s goal : State) (z : Zone) (zs : List Zone) (i : ℕ) → goals_from i (z ∷ zs) s goal ≡ ok tt
    → T (can_end z.kind (arrangement_of s z.vertices) (arrangement_of goal z.vertices)) × (goals_from (suc i) zs s goal ≡ ok tt)
unfolding goals_from
goals_cons s goal z zs i e = let a = passed _ _ _ _ _ e in (a.0, ap (λ j. goals_from j zs s goal) (sym (add-one i)) ∙ a.1)

-- the moves to the goals, zone by zone
endings_cons : (s goal : State) (z : Zone) (zs : List Zone) → endings_from (z ∷ zs) s goal ≡ across z.vertices (end z.kind (arrangement_of s z.vertices) (arrangement_of goal z.vertices)) ++ endings_from zs s goal
unfolding endings_from
endings_cons s goal z zs = refl

-- a zone whose goals can be reached passes, and so do those after it
reached_cons : (q goal : State) (z : Zone) (zs : List Zone) (i : ℕ) → T (can_end z.kind (arrangement_of q z.vertices) (arrangement_of goal z.vertices)) → goals_from (suc i) zs q goal ≡ ok tt
    → goals_from i (z ∷ zs) q goal ≡ ok tt
unfolding goals_from
reached_cons q goal z zs i t e = pass _ _ _ _ t ∙ ap (λ j. goals_from j zs q goal) (add-one i) ∙ e

module _ (m : Map) (g : Accepted m) (k : ℕ) (few : k ≤ 64) where
  module _ (s goal : State) (hs : Consistent m k s) where
    -- a zone that passes is brought to its goals
    zone_ends : (n i : ℕ) → i + suc n ≡ zone_count m → T (can_end (kind_of m i) (arrangement_in m s i) (arrangement_in m goal i)) → (t : State) → Consistent m k t
        → ((y : ℕ) → i ≤ y → y < zone_count m → arrangement_in m t y ≡ arrangement_in m s y) → Acted m t i (across (zone_at m i).vertices (end (kind_of m i) (arrangement_in m s i) (arrangement_in m goal i))) (arrangement_in m goal i)
    zone_ends n i e c t ht same =
        act m g i (omega arith) ((laws (kind_of m i)).ends (arrangement_in m s i) (arrangement_in m goal i) (proper m g k few s hs i (omega arith)).once
        (arrangement_length s (zone_at m i) ∙ sym (arrangement_length goal (zone_at m i))) c) t ht.rooms (sym (same i (le_refl i) (omega arith)))

    -- then those after it
    ends_cons : (i : ℕ) (xs ys : List Move) (t : State) → Acted m t i xs (arrangement_in m goal i) → Ended m goal (moved_all t xs) (suc i) ys → Ended m goal t i (xs ++ ys)
    ends_cons i xs ys t a r = record {
      legals = legals_append ys a.legals r.legals;
      reached = λ y l h. rw (moved_append t xs ys) (case y l h (ℕ_discrete y i));
      kept = λ y h l. rw (moved_append t xs ys) (r.kept y h (omega arith) ∙ a.away y h (omega arith));
      silent = drawn_append m t xs ys ∙ ap₂ (λ p q. p ++ q) a.silent r.silent;
    }
      where
        case : (y : ℕ) → i ≤ y → y < zone_count m → Dec (y ≡ i) → arrangement_in m (moved_all (moved_all t xs) ys) y ≡ arrangement_in m goal y
        case y l h (yes q) = rw q (r.kept i (omega arith) (omega arith) ∙ a.here)
        case y l h (no q) = r.reached y (omega arith) h

    -- the zones from i on
    ends_sound : (n i : ℕ) → i + n ≡ zone_count m → goals_from i (drop i m.zones) s goal ≡ ok tt → (t : State) → Consistent m k t
        → ((y : ℕ) → i ≤ y → y < zone_count m → arrangement_in m t y ≡ arrangement_in m s y) → Ended m goal t i (endings_from (drop i m.zones) s goal)
    unfolding drawn_steps moved_all
    ends_sound zero i e q t ht same =
        let z : drop i m.zones ≡ [] = drop_of_length-le m.zones {i = i} (omega arith) in
        rw z (unfold endings_from in record { legals = stay; reached = λ y a b. absurd (omega arith); kept = λ y a b. refl; silent = refl })
    ends_sound (suc n) i e q t ht same =
        let cut : drop i m.zones ≡ zone_at m i ∷ drop (suc i) m.zones = unfold zone_at in drop-cons m.zones i (record { kind = 0; vertices = [] }) (omega arith) in
        let a = goals_cons s goal (zone_at m i) (drop (suc i) m.zones) i (rw cut at q) in
        let b = zone_ends n i e a.0 t ht same in
        rw (cut, endings_cons s goal (zone_at m i) (drop (suc i) m.zones))
        (ends_cons i _ _ t b (ends_sound n (suc i) (omega arith) a.1 (moved_all t (across (zone_at m i).vertices (end (kind_of m i) (arrangement_in m s i) (arrangement_in m goal i))))
        (consistent_all m g k ht b.legals) (λ y l h. b.away y h (omega arith) ∙ same y (omega arith) h)))

    -- zones that all pass are all brought to the goals
    pub brought : goals_from 0 m.zones s goal ≡ ok tt → Ended m goal s 0 (endings_from m.zones s goal)
    brought q = ends_sound (zone_count m) 0 (zero-add (zone_count m)) q s hs (λ y a b. refl)

  -- the goals are in the configurations reached
  goals_reached : (q goal : State) → Consistent m k q → SameTuple m q goal → (n i : ℕ) → i + n ≡ zone_count m → goals_from i (drop i m.zones) q goal ≡ ok tt
  goals_reached q goal hq st zero i e = rw (drop_of_length-le m.zones {i = i} (omega arith)) (unfold goals_from in refl)
  goals_reached q goal hq st (suc n) i e =
      let cut : drop i m.zones ≡ zone_at m i ∷ drop (suc i) m.zones = unfold zone_at in drop-cons m.zones i (record { kind = 0; vertices = [] }) (omega arith) in
      rw cut (reached_cons q goal (zone_at m i) (drop (suc i) m.zones) i
      ((laws (kind_of m i)).can_end_lem (arrangement_in m q i) (arrangement_in m goal i) (proper m g k few q hq i (omega arith)).once (tuple_at m q goal st i (omega arith)))
      (goals_reached q goal hq st n (suc i) (omega arith)))

  -- a state in the goals' tuple passes
  pub goals_pass : (q goal : State) → Consistent m k q → SameTuple m q goal → goals_from 0 m.zones q goal ≡ ok tt
  goals_pass q goal hq st = goals_reached q goal hq st (zone_count m) 0 (zero-add (zone_count m))
