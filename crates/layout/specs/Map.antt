-- The whole map: what was read is the map that the definition gives.
use Rattle.std.specs.Prelude.{ℕ, ◌+◌, ◌≤◌, ◌<◌, ◌≡◌, refl, Result, Ok, Err, IfOk, OnOk, is_err, true, false, List, [], map, length, get_or, take, drop}
use Rattle.std.proofs.Common.{ap, sym, ◌∙◌}
use Rattle.spec.specs.Outcome.{Outcome, ok, refuse, index_of}
use Rattle.spec.specs.Layout.{Map, Edge, zone_of, zone_at}
use Rattle.adjacency.specs.Rows.{blank, rows_of, join_all, Shows, shows_none}
use Rattle.numbering.specs.Kind as kinds
use Rattle.zoning.specs.declared.MapFault.{MapFault}
use Rattle.zoning.specs.declared.Zones.{Zones}
use Rattle.layout.specs.declared.MapTables.{MapTables}
use Rattle.zoning.specs.Fault.{number_of, fault_place, answered}
use Rattle.zoning.specs.Bytes.{held}
use Rattle.zoning.specs.Zones.{zones_length, zones_at, place_from}
use Rattle.zoning.specs.Found.{ZonesAre, heads_of}
use Rattle.layout.specs.Kinds.{zone_some}
use Rattle.layout.specs.Rest.{map_at, rest_of, edges_in, RestIs}

-- the map of no vertices, which stands for a map that is refused
abbrev pub no_map : Map
no_map = record { size = 0; zones = []; edges = [] }

abbrev pub map_or : Outcome Map → Map
map_or (ok m) = m
map_or (refuse number place) = no_map

-- what a map that was read holds of the definition's map
pub record MapHeld (r : MapTables 128) (m : Map) : Type 0 where
  pub size : r.vertices ≡ m.size
  pub small : r.vertices ≤ 128
  pub count : r.zones ≡ length m.zones
  pub few : r.zones ≤ 64
  -- the kind and the vertices of each zone
  pub zone_at_lem : (z : ℕ) → z < r.zones → zone_at m z ≡ record { kind = get_or r.kind z 0; vertices = take (get_or r.size z 0) (drop (get_or r.first z 0) r.listed) }
  pub some : (z : ℕ) → z < r.zones → 1 ≤ get_or r.size z 0
  pub inside : (z : ℕ) → z < r.zones → get_or r.first z 0 + get_or r.size z 0 ≤ 128
  -- the zone and the place of each vertex
  pub zone_of_lem : (v : ℕ) → get_or r.zone v 255 ≡ zone_of m v
  pub place_of_lem : (v : ℕ) → get_or r.place v 0 ≡ index_of v (zone_at m (zone_of m v)).vertices
  pub long_kind : length r.kind ≡ 64
  pub long_first : length r.first ≡ 64
  pub long_size : length r.size ≡ 64
  pub long_listed : length r.listed ≡ 128
  pub long_zone : length r.zone ≡ 128
  pub long_place : length r.place ≡ 128

-- what is read of a payload, and the rows where it is a map
pub record LayoutIs (outcome : Outcome Map) (r : Result (MapTables 128) MapFault) (rows : List (List ℕ)) : Type 0 where
  pub answer : outcome ≡ answered (λ _. map_or outcome) r
  pub tables : IfOk r (λ t. MapHeld t (map_or outcome))
  pub entered : OnOk r (rows ≡ rows_of (map_or outcome).edges)
  pub shown : OnOk r (Shows rows (map_or outcome).edges)

-- what is read of a file: the map that the definition gives, or its refusal and the rows of the map of no vertices
pub record MapIs (outcome : Outcome Map) (r : Result (MapTables 128) MapFault) (rows : List (List ℕ)) : Type 0 where
  pub answer : outcome ≡ answered (λ _. map_or outcome) r
  pub tables : IfOk r (λ t. MapHeld t (map_or outcome))
  pub entered : rows ≡ rows_of (map_or outcome).edges
  pub shown : Shows rows (map_or outcome).edges

-- ---- the map

-- a refusal
pub layout_refused : (outcome : Outcome Map) (f : MapFault) (rows : List (List ℕ)) → outcome ≡ refuse (number_of f) (fault_place f) → LayoutIs outcome (Err f) rows
layout_refused outcome f rows e = record { answer = e; tables = tt; entered = tt; shown = tt }

abbrev pub made : ℕ → ℕ → Zones → MapTables 128
made n z t = record {
  vertices = n;
  zones = z;
  kind = map kinds.number_of t.kind;
  first = t.first;
  size = t.size;
  listed = t.listed;
  zone = t.zone;
  place = t.place;
}

made_held : (p : List ℕ) (n z : ℕ) (t : Zones) (es : List Edge) → n ≤ 128 → z ≤ 64 → ZonesAre p n z (Ok t) → MapHeld (made n z t) (map_at n t z es)
unfolding zone_of zone_at place_from
made_held p n z t es small few found = record {
  size = refl;
  small = small;
  count = sym (zones_length (heads_of t) t.listed z);
  few = few;
  zone_at_lem = λ j l. zones_at (heads_of t) t.listed z j l;
  some = λ j l. zone_some p n z small few (heads_of t) t.listed t.zone t.place t.next found.answer found.tables j l;
  inside = found.tables.inside;
  zone_of_lem = found.tables.zoned;
  place_of_lem = found.tables.placed;
  long_kind = found.tables.long_kind;
  long_first = found.tables.long_first;
  long_size = found.tables.long_size;
  long_listed = found.tables.long_listed;
  long_zone = found.tables.long_zone;
  long_place = found.tables.long_place;
}

-- an accepted map
pub layout_made : (file : List ℕ) (m n z : ℕ) (t : Zones) → n ≤ 128 → z ≤ 64 → ZonesAre (held file m) n z (Ok t) → (outcome : Outcome Map) → outcome ≡ rest_of (held file m) n t z → (rows : List (List ℕ))
    → RestIs file m n t z rows (Ok tt) → LayoutIs outcome (Ok (made n z t)) rows
layout_made file m n z t small few found outcome e rows rest =
    let x : outcome ≡ ok (map_at n t z (edges_in file t)) = e ∙ rest.answer in
    let it : map_at n t z (edges_in file t) ≡ map_or outcome = ap map_or (sym x) in
    let es : edges_in file t ≡ (map_or outcome).edges = ap (λ (m : Map). m.edges) it in
    record {
      answer = x ∙ ap (λ (m : Map). ok m) it;
      tables = rw it at (made_held (held file m) n z t (edges_in file t) small few found);
      entered = rest.entered ∙ ap (λ (m : Map). rows_of m.edges) it;
      shown = rw es at rest.shown;
    }

-- ---- the rows

-- a map that is read, and one that is refused, with the rows cleared
pub map_is : (outcome : Outcome Map) (r : Result (MapTables 128) MapFault) (rows : List (List ℕ)) → is_err r ≡ false → LayoutIs outcome r rows → MapIs outcome r rows
map_is outcome (Ok t) rows e l = record { answer = l.answer; tables = l.tables; entered = l.entered; shown = l.shown }
map_is outcome (Err f) rows e l = cc

pub cleared_is : (outcome : Outcome Map) (r : Result (MapTables 128) MapFault) (rows last : List (List ℕ)) → is_err r ≡ true → LayoutIs outcome r rows → last ≡ blank → MapIs outcome r last
unfolding join_all
cleared_is outcome (Ok t) rows last e l k = cc
cleared_is outcome (Err f) rows last e l k =
    let none : no_map ≡ map_or outcome = ap map_or (sym l.answer) in
    record {
      answer = l.answer;
      tables = tt;
      entered = k ∙ ap (λ (m : Map). rows_of m.edges) none;
      shown = rw (k, ← none) shows_none;
    }
