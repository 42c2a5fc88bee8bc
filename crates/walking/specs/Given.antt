-- What a plan is walked on: an accepted map in tables and rows, and a placing on it.
use Rattle.std.specs.Prelude.{◌≡◌, List, ℕ, ◌+◌, ◌-◌, ◌*◌, ◌/◌, ◌<◌, ◌≤◌, length, get_or, take, drop}
use Rattle.std.proofs.Common.{sym, ap, ◌∙◌, arith}
use Rattle.spec.specs.Outcome.{ok}
use Rattle.spec.specs.Run.{Ran, steps_from, goals_from, resolved_moves}
use Rattle.spec.specs.Layout.{Map, Placing, zone_of, zone_at}
use Rattle.spec.specs.Arrangement.{Move}
use Rattle.spec.specs.State as meaning
use Rattle.spec.specs.ZoneKind.{can_end}
use Rattle.walking.specs.Kinds.{end_moves}
use Rattle.spec.specs.Terms.{zone_count, kind_of, place_of, arrangement_in}
use Rattle.theory.specs.Maps.Layout.{Accepted}
use Rattle.theory.specs.Maps.Placing.{Placed}
use Rattle.theory.specs.Maps.Consistent.{Consistent}
use Rattle.adjacency.specs.Rows.{Shows}
use Rattle.motion.specs.Coupling.{Listed}
use Rattle.walking.specs.Tables.{Tables, vertices_in, zone_listed, zone_small}
use Rattle.wire.specs.Payload.{payload}
use Rattle.walking.specs.Tests.{Passes}

-- an accepted map m of n vertices, whose tables and rows these are, for k robots
pub record Given (m : Map) (n k : ℕ) (kind first size listed zone place : List ℕ) (rows : List (List ℕ)) : Type 0 where
  pub accepted : Accepted m
  pub vertices : m.size ≡ n
  pub few : k ≤ 64
  pub tables : Tables m kind first size listed zone place
  pub edges : Shows rows m.edges

-- the step at offset o of the payload in the file f passed its tests in state s, with a follow list of e bytes
pub record Stepping (f : List ℕ) (o e : ℕ) (kind first size listed zone place : List ℕ) (s : meaning.State) : Type 0 where
  pub map : Map
  pub n : ℕ
  pub k : ℕ
  pub rows : List (List ℕ)
  pub given : Given map n k kind first size listed zone place rows
  pub consistent : Consistent map k s
  pub len : ℕ
  pub most : len ≤ length f / 512 * 504
  pub passes : Passes map k (take len (payload f)) o s e

-- the tables are those of some accepted map, and from the state s of its robots `count` steps of the payload in the file f pass
pub record Started (f : List ℕ) (count : ℕ) (kind first size listed zone place : List ℕ) (s : meaning.State) : Type 0 where
  pub map : Map
  pub n : ℕ
  pub k : ℕ
  pub rows : List (List ℕ)
  pub given : Given map n k kind first size listed zone place rows
  pub consistent : Consistent map k s
  pub len : ℕ
  pub most : len ≤ length f / 512 * 504
  pub two : 2 ≤ len
  pub ran : Ran
  pub pass : steps_from map k (take len (payload f)) count 0 2 s ≡ ok ran

-- the tables are those of some accepted map of `zones` zones, with a state of its robots
pub record Goaled (zones : ℕ) (kind first size listed : List ℕ) (s : meaning.State) : Type 0 where
  pub map : Map
  pub n : ℕ
  pub k : ℕ
  pub zone : List ℕ
  pub place : List ℕ
  pub rows : List (List ℕ)
  pub given : Given map n k kind first size listed zone place rows
  pub count : zone_count map ≡ zones
  pub consistent : Consistent map k s

-- the same, from which the goals can be reached
pub record Bringing (zones : ℕ) (kind first size listed : List ℕ) (s g : meaning.State) : Type 0 where
  pub on : Goaled zones kind first size listed s
  pub pass : goals_from 0 on.map.zones s g ≡ ok tt

-- the tables and rows are some accepted map's, with a placing on it
pub record Placement (n zones k : ℕ) (kind first size listed zone place : List ℕ) (rows : List (List ℕ)) (starts goals : List ℕ) : Type 0 where
  pub map : Map
  pub placing : Placing
  pub given : Given map n k kind first size listed zone place rows
  pub count : zone_count map ≡ zones
  pub placed : Placed map.size placing
  pub on_starts : placing.starts ≡ take k starts
  pub on_goals_lem : placing.goals ≡ take k goals

-- the tables are some accepted map's, with a placing on it, and the plan whose payload stands in the file f is cleared
pub record Cleared (f : List ℕ) (zones k : ℕ) (kind first size listed zone place starts goals : List ℕ) : Type 0 where
  pub n : ℕ
  pub rows : List (List ℕ)
  pub on : Placement n zones k kind first size listed zone place rows starts goals
  pub len : ℕ
  pub most : len ≤ length f / 512 * 504
  pub few : len ≤ 32256
  pub moves : List Move
  pub resolved : resolved_moves on.map on.placing (take len (payload f)) ≡ ok moves

-- ---- what the tables say

-- a part of the listed vertices, as the code takes it
pub part : (a c : ℕ) (l : List ℕ) → take (a + c - a) (drop a l) ≡ take c (drop a l)
part a c l = let e : a + c - a ≡ c = omega arith in rw e

-- the zone of vertex v, its kind and vertices, and the place of v in it, by the tables
abbrev pub kind_at : List ℕ → List ℕ → ℕ → ℕ
kind_at kind zone v = get_or kind (get_or zone v 0) 0

abbrev pub vertices_at : List ℕ → List ℕ → List ℕ → List ℕ → ℕ → List ℕ
vertices_at first size listed zone v = vertices_in first size listed (get_or zone v 0)

-- the tables have zone z
pub record HasZone (first size listed : List ℕ) (z : ℕ) : Type 0 where
  pub below : z < 64
  pub fits : get_or first z 0 + get_or size z 0 ≤ length listed
  pub long : length (vertices_in first size listed z) ≤ 128
  pub once : Listed 128 (vertices_in first size listed z)

-- the tables have vertex v
pub record HasVertex (first size listed zone place : List ℕ) (v : ℕ) : Type 0 where
  pub below : v < 128
  pub inside : get_or place v 0 < length (vertices_at first size listed zone v)
  pub there : get_or (vertices_at first size listed zone v) (get_or place v 0) 0 ≡ v
  pub here : HasZone first size listed (get_or zone v 0)

module _ (m : Map) (n k : ℕ) (kind first size listed zone place : List ℕ) (rows : List (List ℕ)) (d : Given m n k kind first size listed zone place rows) where
  -- every zone is in the tables
  pub has_zone : (z : ℕ) → z < zone_count m → HasZone first size listed z
  has_zone z l =
      let e : vertices_in first size listed z ≡ (zone_at m z).vertices = sym (d.tables.vertices z l) in
      record {
        below = omega (arith, d.tables.few);
        fits = d.tables.fits z l;
        long = rw e (zone_small m d.accepted z);
        once = rw e (zone_listed m d.accepted z l);
      }

  module _ (z : ℕ) (h : z < zone_count m) (s g : meaning.State) where
    -- the test of a zone's goals, by the tables
    pub ends_is : can_end (get_or kind z 0) (meaning.arrangement_of s (vertices_in first size listed z)) (meaning.arrangement_of g (vertices_in first size listed z))
        ≡ can_end (kind_of m z) (arrangement_in m s z) (arrangement_in m g z)
    ends_is = rw (← d.tables.kinds z h, ← d.tables.vertices z h)

    -- the moves to them
    pub end_moves_is : meaning.across (vertices_in first size listed z) (end_moves (get_or kind z 0) (meaning.arrangement_of s (vertices_in first size listed z)) (meaning.arrangement_of g (vertices_in first size listed z)))
        ≡ meaning.across (zone_at m z).vertices (end_moves (kind_of m z) (arrangement_in m s z) (arrangement_in m g z))
    end_moves_is = rw (← d.tables.kinds z h, ← d.tables.vertices z h)

  module _ (v : ℕ) (h : v < n) where
    -- it is one of the map's
    small : v < m.size
    small = rw d.vertices h

    -- in its zone
    pub zone_is : get_or zone v 0 ≡ zone_of m v
    zone_is = d.tables.zones v small

    -- at its place
    pub place_is : get_or place v 0 ≡ place_of m v
    place_is = d.tables.places v small

    -- its zone is one of the map's
    in_range : get_or zone v 0 < zone_count m
    in_range = rw zone_is (d.accepted.placed v small).zone

    -- of its kind
    pub kind_is : kind_at kind zone v ≡ kind_of m (zone_of m v)
    kind_is = sym (d.tables.kinds (get_or zone v 0) in_range) ∙ ap (kind_of m) zone_is

    -- among its vertices
    pub vertices_is : vertices_at first size listed zone v ≡ (zone_at m (zone_of m v)).vertices
    vertices_is = sym (d.tables.vertices (get_or zone v 0) in_range) ∙ ap (λ (z : ℕ). (zone_at m z).vertices) zone_is

    -- so the tables have it
    pub has_vertex : HasVertex first size listed zone place v
    has_vertex = record {
      below = omega (arith, d.accepted.small, small);
      inside = rw (vertices_is, place_is) (d.accepted.placed v small).place;
      there = rw (vertices_is, place_is) (d.accepted.placed v small).vertex;
      here = has_zone (get_or zone v 0) in_range;
    }
