-- What is said of a map in tables and rows, by the one value that holds the tables.
use Rattle.std.specs.Prelude.{ℕ, List, get_or}
use Rattle.spec.specs.Layout.{Map}
use Rattle.spec.specs.State.{State}
use Rattle.layout.specs.Lists.{MapLists, part_of}
use Rattle.walking.specs.Given.{Given, HasZone, HasVertex, Stepping, Started, Bringing, Placement, Cleared}

-- the tables and rows are those of the accepted map m, for k robots
abbrev pub GivenOn : Map → ℕ → MapLists → List (List ℕ) → Type 0
GivenOn m k t rows = Given m t.vertices k t.kind t.first t.size t.listed t.zone t.place rows

-- the tables have zone z; they have vertex v
abbrev pub ZoneOn : MapLists → ℕ → Type 0
ZoneOn t z = HasZone t.first t.size t.listed z

abbrev pub VertexOn : MapLists → ℕ → Type 0
VertexOn t v = HasVertex t.first t.size t.listed t.zone t.place v

-- the kind and the vertices of the zone of vertex v, and its place there
abbrev pub kind_on : MapLists → ℕ → ℕ
kind_on t v = get_or t.kind (get_or t.zone v 0) 0

abbrev pub vertices_on : MapLists → ℕ → List ℕ
vertices_on t v = part_of t (get_or t.zone v 0)

abbrev pub place_on : MapLists → ℕ → ℕ
place_on t v = get_or t.place v 0

-- the step at offset o of the payload in the file f passed its tests in state s, with a follow list of e bytes
abbrev pub SteppingOn : List ℕ → ℕ → ℕ → MapLists → State → Type 0
SteppingOn f o e t s = Stepping f o e t.kind t.first t.size t.listed t.zone t.place s

-- from state s `count` steps of the payload in the file f pass
abbrev pub StartedOn : List ℕ → ℕ → MapLists → State → Type 0
StartedOn f count t s = Started f count t.kind t.first t.size t.listed t.zone t.place s

-- from state s the goals g can be reached
abbrev pub BringingOn : MapLists → State → State → Type 0
BringingOn t s g = Bringing t.zones t.kind t.first t.size t.listed s g

-- a placing of k robots stands on the map
abbrev pub PlacementOn : MapLists → ℕ → List (List ℕ) → List ℕ → List ℕ → Type 0
PlacementOn t k rows starts goals = Placement t.vertices t.zones k t.kind t.first t.size t.listed t.zone t.place rows starts goals

-- and the plan whose payload stands in the file f is cleared
abbrev pub ClearedOn : List ℕ → MapLists → ℕ → List ℕ → List ℕ → Type 0
ClearedOn f t k starts goals = Cleared f t.zones k t.kind t.first t.size t.listed t.zone t.place starts goals
