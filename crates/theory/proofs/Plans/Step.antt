-- What the moves of a step do: they are legal, draw the step, and change two zones.
-- What it rests on stands in specs/Plans/Step.antt.
use Rattle.std.specs.Prelude.{◌≡◌, refl, ◌≢◌, ℕ, suc, ◌≤◌, ◌<◌, length}
use Rattle.std.proofs.Common.{sym, ◌∙◌, arith}
use Rattle.std.proofs.Math.Path.{ap, ap₂}
use mathlib.Core.List.{List, [], ◌∷◌, ◌++◌}
use Rattle.std.proofs.Math.ListN.{set}
use Rattle.spec.specs.Layout.{Map, zone_of, zone_at}
use Rattle.spec.specs.Arrangement.{Arrangement, mv, cell, last_free}
use Rattle.spec.specs.ZoneKind.{behind_of, leave, enter}
use Rattle.spec.specs.State.{State, robot_on, moved, moved_all, step_of, drawn_steps, robots_of}
use Rattle.spec.specs.Terms.{Runs, fills, vertex_at, arrangement_in, zone_count, kind_of, place_of, Stands}
use Rattle.theory.specs.Maps.Layout.{Accepted}
use Rattle.theory.specs.Maps.Cells.{arrangement_length, arrangement_cell, cell_robot, cell_empty}
use Rattle.theory.specs.Maps.Moves.{Legal, Legals, stay, go, moved_append, legals_append, drawn_append, crossing_move}
use Rattle.theory.specs.Maps.Consistent.{Consistent, consistent_all}
use Rattle.theory.specs.Maps.Inside.{arrangement_away, arrangement_leave, arrangement_enter, Acted, act}
use Rattle.theory.proofs.Zones.Kinds.{laws}
use Rattle.theory.specs.Zones.Crossing.{kept, extra_of, list_for, Filled, list_of}
use Rattle.theory.proofs.Zones.Crossing.{enters}
use Rattle.theory.specs.Plans.Taken.{Taken, leaving, entering, moves_of, step_with}
use Rattle.theory.specs.Plans.Step.{Made, proper, drawn_step}

module _ (m : Map) (g : Accepted m) (k : ℕ) (few : k ≤ 64) (s : State) (h : Consistent m k s) (r u v behind : ℕ) (list : List ℕ) (t : Taken m k s r u v behind list) where
  -- where from stands
  at_u : Stands m u (zone_of m u) (place_of m u)
  at_u = g.placed u t.from

  -- where to stands
  at_v : Stands m v (zone_of m v) (place_of m v)
  at_v = g.placed v t.to

  -- the left zone's moves bring the robot to from
  outward : (b : Arrangement) × Runs (kind_of m (zone_of m u)) (leave (kind_of m (zone_of m u)) (arrangement_in m s (zone_of m u)) r (place_of m u)) (arrangement_in m s (zone_of m u)) b × (cell b (place_of m u) ≡ suc r)
  outward = (laws (kind_of m (zone_of m u))).leaves (arrangement_in m s (zone_of m u)) r (place_of m u) (proper m g k few s h (zone_of m u) at_u.zone).once
      (rw (arrangement_length s (zone_at m (zone_of m u))) at_u.place) t.leaves

  -- the entered zone's moves make room at to
  inward : (c : Arrangement) × Runs (kind_of m (zone_of m v)) (enter (kind_of m (zone_of m v)) (arrangement_in m s (zone_of m v)) (place_of m v) behind list) (arrangement_in m s (zone_of m v)) c
      × (cell c (place_of m v) ≡ 0) × (behind_of (kind_of m (zone_of m v)) c (place_of m v) ≡ behind) × Filled (kind_of m (zone_of m v)) c (place_of m v) r list
  inward = enters (kind_of m (zone_of m v)) (arrangement_in m s (zone_of m v)) (proper m g k few s h (zone_of m v) at_v.zone) r (place_of m v)
      (rw (arrangement_length s (zone_at m (zone_of m v))) at_v.place) behind list t.room t.enters

  -- the state after the left zone's moves
  first : State
  first = moved_all s (leaving m s r u)

  -- what they do on the map
  acted_out : Acted m s (zone_of m u) (leaving m s r u) outward.0
  acted_out = act m g (zone_of m u) at_u.zone outward.1 s h.rooms refl

  -- it is consistent
  first_consistent : Consistent m k first
  unfolding first
  first_consistent = consistent_all m g k h acted_out.legals

  -- what the entered zone's moves do then
  acted_in : Acted m first (zone_of m v) (entering m s v behind list) inward.0
  unfolding first
  acted_in = act m g (zone_of m v) at_v.zone inward.1 first first_consistent.rooms (sym (acted_out.away (zone_of m v) at_v.zone (λ e. t.apart (sym e))))

  -- the state after those
  second : State
  second = moved_all first (entering m s v behind list)

  -- it is consistent too
  second_consistent : Consistent m k second
  unfolding second
  second_consistent = consistent_all m g k first_consistent acted_in.legals

  -- the left zone in it
  second_u : arrangement_in m second (zone_of m u) ≡ outward.0
  unfolding first second
  second_u = acted_in.away (zone_of m u) at_u.zone t.apart ∙ acted_out.here

  -- the entered zone in it
  second_v : arrangement_in m second (zone_of m v) ≡ inward.0
  unfolding second
  second_v = acted_in.here

  -- the crossing is legal in it
  crossing : Legal m second (mv r u v)
  crossing =
      let c = cell_robot (robot_on second (vertex_at m (zone_of m u) (place_of m u))) r
      (sym (arrangement_cell second (zone_at m (zone_of m u)) (place_of m u) at_u.place) ∙ ap (λ a. cell a (place_of m u)) second_u ∙ outward.2) in
      let d = cell_empty (robot_on second (vertex_at m (zone_of m v) (place_of m v)))
      (sym (arrangement_cell second (zone_at m (zone_of m v)) (place_of m v) at_v.place) ∙ ap (λ a. cell a (place_of m v)) second_v ∙ inward.2) in
      record { near = t.near; robot = omega (arith, t.robot); there = rw at_u.vertex at c.0; free = rw at_v.vertex at d }

  -- the state after the crossing
  third : State
  third = moved second (mv r u v)

  -- all the moves lead there
  ends_at : moved_all s (moves_of m s r u v behind list) ≡ third
  unfolding first second third moved_all
  ends_at = moved_append s (leaving m s r u ++ entering m s v behind list) (mv r u v ∷ []) ∙ ap (λ q. moved q (mv r u v)) (moved_append s (leaving m s r u) (entering m s v behind list))

  -- the moves before the crossing lead to the second state
  both_moved : moved_all s (leaving m s r u ++ entering m s v behind list) ≡ second
  unfolding first second
  both_moved = moved_append s (leaving m s r u) (entering m s v behind list)

  -- the moves are legal
  made_legals : Legals m s (moves_of m s r u v behind list)
  unfolding first
  made_legals = legals_append (mv r u v ∷ []) (legals_append (entering m s v behind list) acted_out.legals acted_in.legals) (rw both_moved (go crossing stay))

  -- the crossing draws the step
  step_drawn : step_of m second (mv r u v) ≡ step_with r u v behind list
  step_drawn = drawn_step m second r u v behind list (rw second_v inward.3)
      (ap (λ a. list_for (kind_of m (zone_of m v)) a (place_of m v) r) second_v ∙ (list_of (fills (kind_of m (zone_of m v)) inward.0) list (robots_of (set inward.0 (place_of m v) (suc r))) (length (arrangement_in m s (zone_of m v)))
      inward.4 (rw (same_last, extra_of) at t.listed)))
    where
      same_last : last_free (arrangement_in m s (zone_of m v)) ≡ last_free inward.0
      same_last = (kept (_, inward.1)).as_last

  -- and the moves draw nothing else
  made_drawn : drawn_steps m s (moves_of m s r u v behind list) ≡ step_with r u v behind list ∷ []
  unfolding first drawn_steps
  made_drawn =
      drawn_append m s (leaving m s r u ++ entering m s v behind list) (mv r u v ∷ [])
      ∙ ap₂ (λ a b. a ++ b) (drawn_append m s (leaving m s r u) (entering m s v behind list) ∙ ap₂ (λ a b. a ++ b) acted_out.silent acted_in.silent)
      (ap (λ q. drawn_steps m q (mv r u v ∷ [])) both_moved ∙ crossing_move m second (mv r u v) [] t.apart ∙ ap (λ q. q ∷ []) step_drawn)

  -- the moves of a step that passes do that
  pub made : Made m s r u v behind list (moved_all s (moves_of m s r u v behind list))
  made = rw ends_at made_third
    where
      second_away : (y : ℕ) → y < zone_count m → y ≢ zone_of m u → y ≢ zone_of m v → arrangement_in m second y ≡ arrangement_in m s y
      second_away y hy p q = unfold first second in acted_in.away y hy q ∙ acted_out.away y hy p

      made_third : Made m s r u v behind list third
      made_third = unfold third in record {
        legals = made_legals;
        drawn = made_drawn;
        b = outward.0;
        out = (leave (kind_of m (zone_of m u)) (arrangement_in m s (zone_of m u)) r (place_of m u), outward.1);
        there = outward.2;
        gone = arrangement_leave m g second (mv r u v) (zone_of m u) (place_of m u) (omega (arith, second_consistent.rooms, g.small, t.from)) at_u.zone at_u.place (sym at_u.vertex) (λ e. t.apart (sym e))
            ∙ ap (λ a. set a (place_of m u) 0) second_u;
        c = inward.0;
        into = (enter (kind_of m (zone_of m v)) (arrangement_in m s (zone_of m v)) (place_of m v) behind list, inward.1);
        free = inward.2;
        named = inward.3;
        filled = inward.4;
        come = arrangement_enter m g second (mv r u v) (zone_of m v) (place_of m v) (omega (arith, second_consistent.rooms, g.small, t.to)) at_v.zone at_v.place (sym at_v.vertex) t.apart crossing.robot
            ∙ ap (λ a. set a (place_of m v) (suc r)) second_v;
        away = λ y hy p q. arrangement_away m g second (mv r u v) y hy (λ e. p (sym e)) (λ e. q (sym e)) ∙ second_away y hy p q;
      }
