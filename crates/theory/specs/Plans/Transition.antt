-- Transitions: one is applicable zone by zone exactly where some state of the tuple has it legal.
use Rattle.std.specs.Prelude.{◌≡◌, refl, ◌≢◌, List, ℕ, ◌≤◌, ◌<◌, T}
use Rattle.std.proofs.Common.{sym, ap, ◌∙◌}
use Rattle.std.proofs.Math.Decide.{ℕ_discrete}
use Rattle.spec.specs.Layout.{Map, zone_of, zone_at}
use Rattle.spec.specs.Arrangement.{Move, cell}
use Rattle.spec.specs.State.{State, robot_on, moved_all, legal, across}
use Rattle.spec.specs.Terms.{Reachable, SameTuple, IsState, Applicable, vertex_at, arrangement_in, zone_count, kind_of, place_of, Stands}
use Rattle.theory.specs.Maps.Layout.{Accepted}
use Rattle.theory.specs.Maps.Cells.{cell_robot, cell_empty, arrangement_cell}
use Rattle.theory.specs.Maps.Moves.{Legal, is_legal, legal_is}
use Rattle.theory.specs.Maps.Inside.{Acted, act}
use Rattle.theory.specs.Maps.Tracks.{Tracks, tracks_all}
use Rattle.theory.specs.Plans.Tuple.{tuple, tuple_at}
use Rattle.theory.specs.Plans.Crossing.{on_cell, off_cell}
use Rattle.theory.specs.Zones.Moves.{reach_refl}

-- a state of the tuple of s in which x is a legal crossing
abbrev pub Ready : Map → State → Move → Type 0
Ready m s x = (t : State) × IsState t × SameTuple m s t × T (legal m t x) × (zone_of m x.from ≢ zone_of m x.to)

module _ (m : Map) (g : Accepted m) (s : State) (x : Move) where
  -- where a state has it legal its zones do
  pub ready_applicable : Ready m s x → Applicable m s x
  ready_applicable (t, i, p, l, n) =
      let y = is_legal m t x l in
      let e = g.ends x.from x.to y.near in
      record {
        near = y.near;
        apart = n;
        leaves = (arrangement_in m t (zone_of m x.from), tuple_at m s t p (zone_of m x.from) (g.placed x.from e.0).zone, on_cell m g t x.from x.robot e.0 y.robot y.there);
        enters = (arrangement_in m t (zone_of m x.to), tuple_at m s t p (zone_of m x.to) (g.placed x.to e.1).zone, off_cell m g t x.to e.1 y.free);
      }

  -- where its zones do, the moves inside them lead to a state that has
  pub applicable_ready : (k : ℕ) → k ≤ 64 → Tracks m k s → Applicable m s x → Ready m s x
  applicable_ready k few h a = (second, record { robots = tracked.consistent.rooms; vertices = tracked.places }, same, legal_is m second x crossing, a.apart)
    where
      u : ℕ
      u = zone_of m x.from

      v : ℕ
      v = zone_of m x.to

      e : (x.from < m.size) × (x.to < m.size) × (x.from ≢ x.to)
      e = g.ends x.from x.to a.near

      pu : Stands m x.from (zone_of m x.from) (place_of m x.from)
      pu = g.placed x.from e.0

      pv : Stands m x.to (zone_of m x.to) (place_of m x.to)
      pv = g.placed x.to e.1

      out : List Move
      out = across (zone_at m u).vertices a.leaves.1.0

      into : List Move
      into = across (zone_at m v).vertices a.enters.1.0

      first : State
      first = moved_all s out

      acted_out : Acted m s u out a.leaves.0
      acted_out = act m g u pu.zone a.leaves.1.1 s h.consistent.rooms refl

      tracked_first : Tracks m k first
      tracked_first = tracks_all m g k few h acted_out.legals

      acted_in : Acted m first v into a.enters.0
      acted_in = act m g v pv.zone a.enters.1.1 first tracked_first.consistent.rooms (sym (acted_out.away v pv.zone (λ q. a.apart (sym q))))

      second : State
      second = moved_all first into

      tracked : Tracks m k second
      tracked = tracks_all m g k few tracked_first acted_in.legals

      at_u : arrangement_in m second u ≡ a.leaves.0
      at_u = acted_in.away u pu.zone a.apart ∙ acted_out.here

      same : SameTuple m s second
      same = tuple m s second (λ z hz. case z hz (ℕ_discrete z u) (ℕ_discrete z v))
        where
          case : (z : ℕ) → z < zone_count m → Dec (z ≡ u) → Dec (z ≡ v) → Reachable (kind_of m z) (arrangement_in m s z) (arrangement_in m second z)
          case z hz (yes q) w = rw (q, at_u) a.leaves.1
          case z hz (no p) (yes q) = rw (q, acted_in.here) a.enters.1
          case z hz (no p) (no q) = rw (acted_in.away z hz q, acted_out.away z hz p) (reach_refl (arrangement_in m s z))

      crossing : Legal m second x
      crossing =
          let c = cell_robot (robot_on second (vertex_at m u (place_of m x.from))) x.robot
          (sym (arrangement_cell second (zone_at m u) (place_of m x.from) pu.place) ∙ ap (λ b. cell b (place_of m x.from)) at_u ∙ a.leaves.2) in
          let d = cell_empty (robot_on second (vertex_at m v (place_of m x.to)))
          (sym (arrangement_cell second (zone_at m v) (place_of m x.to) pv.place) ∙ ap (λ b. cell b (place_of m x.to)) acted_in.here ∙ a.enters.2) in
          record { near = a.near; robot = λ q. c.1 (c.0 ∙ q); there = rw pu.vertex at c.0; free = rw pv.vertex at d }
