-- The tables that a map is read into, and what they say of an accepted map.
use Rattle.std.specs.Prelude.{◌≡◌, List, ℕ, ◌+◌, ◌<◌, ◌≤◌, length, get_or, take, drop}
use Rattle.std.proofs.Common.{arith}
use Rattle.spec.specs.Layout.{Map, zone_of, zone_at}
use Rattle.spec.specs.Terms.{zone_count, kind_of, size_of, place_of}
use Rattle.theory.specs.Maps.Layout.{Accepted}
use Rattle.theory.specs.Maps.ZoneSize.{zone_size, zone_different}
use Rattle.motion.specs.Coupling.{Listed}

-- the vertices of zone z by the tables
abbrev pub vertices_in : List ℕ → List ℕ → List ℕ → ℕ → List ℕ
vertices_in first size listed z = take (get_or size z 0) (drop (get_or first z 0) listed)

-- the tables show the zones of the map m: zone z has the kind kind[z] and the vertices from listed[first[z]] on, size[z] of them; vertex v
-- stands in zone zone[v] at place place[v]
pub record Tables (m : Map) (kind first size listed zone place : List ℕ) : Type 0 where
  pub few : zone_count m ≤ 64
  pub fits : (z : ℕ) → z < zone_count m → get_or first z 0 + get_or size z 0 ≤ length listed
  pub kinds : (z : ℕ) → z < zone_count m → kind_of m z ≡ get_or kind z 0
  pub vertices : (z : ℕ) → z < zone_count m → (zone_at m z).vertices ≡ vertices_in first size listed z
  pub zones : (v : ℕ) → v < m.size → get_or zone v 0 ≡ zone_of m v
  pub places : (v : ℕ) → v < m.size → get_or place v 0 ≡ place_of m v

module _ (m : Map) (g : Accepted m) where
  -- a zone's vertices are below 128, none twice
  pub zone_listed : (z : ℕ) → z < zone_count m → Listed 128 (zone_at m z).vertices
  zone_listed z h = record { under = λ i k. omega (arith, (g.inside z i h k).0, g.small); once = λ i k a b e. zone_different g z h i k a b e }

  -- and at most 128
  pub zone_small : (z : ℕ) → size_of m z ≤ 128
  zone_small z = omega (arith, zone_size g z, g.small)
