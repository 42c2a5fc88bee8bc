-- What callers have of a map that was read: its rows, its tables and its zones are those of the definition's map.
use Rattle.std.specs.Prelude.{ℕ, ◌+◌, ◌≤◌, ◌<◌, ◌≡◌, Result, Ok, List, length, get_or, drop}
use Rattle.std.proofs.Common.{ap, sym, ◌∙◌, length-take-le, length-drop, get_or-take, get_or-drop, arith}
use Rattle.spec.specs.Outcome.{Outcome, ok, ◌>>=◌, index_of}
use Rattle.spec.specs.Wire.{payload_of}
use Rattle.spec.specs.Layout.{Map, map_of, joined, zone_of, zone_at}
use Rattle.theory.specs.Basics.Outcomes.{bound}
use Rattle.theory.specs.Maps.Layout as theory
use Rattle.adjacency.specs.Rows.{bit_at, shows_joined}
use Rattle.zoning.specs.declared.MapFault.{MapFault}
use Rattle.layout.specs.declared.MapTables.{MapTables}
use Rattle.layout.specs.Map.{map_or, MapIs}

-- the map in a file, or its refusal
abbrev pub map_in : List ℕ → Outcome Map
map_in file = payload_of 10 1 9 file >>= map_of

-- the rows say which vertices the map joins
pub rows_joined : (outcome : Outcome Map) (r : Result (MapTables 128) MapFault) (rows : List (List ℕ)) → MapIs outcome r rows → (u v : ℕ) → bit_at rows u v ≡ joined (map_or outcome) u v
unfolding joined
rows_joined outcome r rows a u v = shows_joined rows (map_or outcome).edges a.shown u v

module _ (outcome : Outcome Map) (t : MapTables 128) (rows : List (List ℕ)) (a : MapIs outcome (Ok t) rows) where
  -- the zone table gives the zone of each vertex, the place table its place there
  pub zone_entry : (v : ℕ) → get_or t.zone v 255 ≡ zone_of (map_or outcome) v
  zone_entry v = a.tables.zone_of_lem v

  pub place_entry : (v : ℕ) → get_or t.place v 0 ≡ index_of v (zone_at (map_or outcome) (zone_of (map_or outcome) v)).vertices
  place_entry v = a.tables.place_of_lem v

  module _ (z : ℕ) (low : z < t.zones) where
    -- the tables of kinds and sizes
    pub kind_entry : get_or t.kind z 0 ≡ (zone_at (map_or outcome) z).kind
    kind_entry = sym (ap (λ q. q.kind) (a.tables.zone_at_lem z low))

    fits : get_or t.size z 0 ≤ length (drop (get_or t.first z 0) t.listed)
    fits = omega (arith, length-drop (get_or t.first z 0) t.listed, a.tables.inside z low, a.tables.long_listed)

    pub size_entry : get_or t.size z 0 ≡ length (zone_at (map_or outcome) z).vertices
    size_entry = sym (length-take-le (get_or t.size z 0) (drop (get_or t.first z 0) t.listed) fits) ∙ sym (ap (λ q. length q.vertices) (a.tables.zone_at_lem z low))

    -- the vertex at place i of zone z stands at i after the zone's first
    pub vertex_entry : (i : ℕ) → i < get_or t.size z 0 → get_or t.listed (get_or t.first z 0 + i) 0 ≡ get_or (zone_at (map_or outcome) z).vertices i 0
    vertex_entry i l =
        sym (get_or-drop (get_or t.first z 0) t.listed i 0)
        ∙ sym (get_or-take (get_or t.size z 0) (drop (get_or t.first z 0) t.listed) i 0 l)
        ∙ sym (ap (λ q. get_or q.vertices i 0) (a.tables.zone_at_lem z low))

-- a file's map that was read is accepted
pub file_accepted : (file : List ℕ) (t : MapTables 128) (rows : List (List ℕ)) → MapIs (map_in file) (Ok t) rows
    → (map_in file ≡ ok (map_or (map_in file))) × theory.Accepted (map_or (map_in file))
file_accepted file t rows a =
    let p = bound (payload_of 10 1 9 file) map_of (map_or (map_in file)) a.answer in
    (a.answer, theory.map_accepted p.0 (map_or (map_in file)) p.2)
