-- A map's tables as contracts see them: lists of numbers.
use Rattle.std.specs.Prelude.{ℕ, ◌+◌, ◌≤◌, ◌<◌, List, length, get_or, take, drop}

-- how many vertices and zones there are; each zone's kind, first position in the listing, and size; the listed vertices; each vertex's zone and place
pub record MapLists : Type 0 where
  pub vertices : ℕ
  pub zones : ℕ
  pub kind : List ℕ
  pub first : List ℕ
  pub size : List ℕ
  pub listed : List ℕ
  pub zone : List ℕ
  pub place : List ℕ

-- zone z is one of the tables', and its vertices stand in the listing
pub record HasPart (t : MapLists) (z : ℕ) : Type 0 where
  pub below : z < 64
  pub inside : get_or t.first z 0 + get_or t.size z 0 ≤ length t.listed

-- the vertices of zone z
abbrev pub part_of : MapLists → ℕ → List ℕ
part_of t z = take (get_or t.size z 0) (drop (get_or t.first z 0) t.listed)
