-- Terms of maps and placings: what an accepted map's zones are, that the states reached from the starts agree, and what moves do to zones (A.1 to A.3).
use Rattle.std.specs.Prelude.{◌≡◌, ℕ, suc, ◌≤◌, ◌<◌, List, [], ◌≢◌, length, get_or, set, T}
use Rattle.spec.specs.Outcome.{ok, index_of}
use Rattle.spec.specs.Layout.{Map, least_size, joined, zone_of, zone_at}
use Rattle.spec.specs.Arrangement.{Arrangement, Move}
use Rattle.spec.specs.State.{State, robot_on, standing, moved, moved_all, legal, legal_all, arrangement_of, across, drawn_steps}
use Rattle.spec.specs.Services.{Instance, instance_of}
use Rattle.spec.specs.Terms.Zones.{joined_places, Runs}

-- how many zones there are; of a zone its kind, how many places it has, the vertex at a place and the arrangement in it
abbrev pub zone_count : Map → ℕ
zone_count m = length m.zones

abbrev pub kind_of : Map → ℕ → ℕ
kind_of m z = (zone_at m z).kind

abbrev pub size_of : Map → ℕ → ℕ
size_of m z = length (zone_at m z).vertices

abbrev pub vertex_at : Map → ℕ → ℕ → ℕ
vertex_at m z i = get_or (zone_at m z).vertices i 0

abbrev pub arrangement_in : Map → State → ℕ → Arrangement
arrangement_in m s z = arrangement_of s (zone_at m z).vertices

-- the place of a vertex in its zone
abbrev pub place_of : Map → ℕ → ℕ
place_of m v = index_of v (zone_at m (zone_of m v)).vertices

-- vertex v is at place i of zone z
pub record Stands (m : Map) (v z i : ℕ) : Type 0 where
  pub zone : z < zone_count m
  pub place : i < size_of m z
  pub vertex : vertex_at m z i ≡ v

-- the zones are a partition of the vertices (A.1), each of its kind
pub record Zoned (m : Map) : Type 0 where
  -- each vertex is in a zone, at a place, and in no other
  pub placed : (v : ℕ) → v < m.size → (z : ℕ) × (i : ℕ) × Stands m v z i
  pub once : (v y i z j : ℕ) → Stands m v y i → Stands m v z j → (y ≡ z) × (i ≡ j)
  -- what is in a zone is a vertex of the map
  pub inside : (v z i : ℕ) → Stands m v z i → v < m.size
  -- "its kind (1 stack, 2 hall, 3 clique, 4 ring), its size (ring at least 3, others at least 1)"
  pub kinds : (z : ℕ) → z < zone_count m → (1 ≤ kind_of m z) × (kind_of m z ≤ 4) × (least_size (kind_of m z) ≤ size_of m z)
  -- inside a zone vertices are joined as its kind says
  pub joins : (z i j : ℕ) → z < zone_count m → i < size_of m z → j < size_of m z
      → joined m (vertex_at m z i) (vertex_at m z j) ≡ joined_places (kind_of m z) (size_of m z) i j
  -- "in a stack only the first listed may have outside tracks"
  pub stacks : (z i v : ℕ) → z < zone_count m → i < size_of m z → kind_of m z ≡ 1 → zone_of m v ≢ z → T (joined m (vertex_at m z i) v) → i ≡ 0

-- an accepted map is so
unfoldable pub Partition : Type 0
Partition = (a b : List ℕ) (it : Instance) → instance_of a b ≡ ok it → Zoned it.graph

-- the vertex of a robot
abbrev pub vertex_of : State → ℕ → ℕ
vertex_of s r = get_or s.vertices r 255

-- the starts, and the goals, as states
abbrev pub start : Instance → State
start it = standing it.placing.starts

abbrev pub goal : Instance → State
goal it = standing it.placing.goals

-- the list is legal from the starts, and the state that it reaches
abbrev pub LegalList : Instance → List Move → Type 0
LegalList it xs = T (legal_all it.graph (start it) xs)

abbrev pub reached : Instance → List Move → State
reached it xs = moved_all (start it) xs

-- "A state holds the cart on each point and the point of each cart": of n vertices and k robots, and the two agree
pub record Agrees (n k : ℕ) (s : State) : Type 0 where
  pub robots : length s.robots ≡ 128
  pub vertices : length s.vertices ≡ 64
  pub up : (v : ℕ) → v < n → robot_on s v ≢ 255 → (robot_on s v < k) × (vertex_of s (robot_on s v) ≡ v)
  pub down : (r : ℕ) → r < k → (vertex_of s r < n) × (robot_on s (vertex_of s r) ≡ r)
  -- no robot stands twice
  pub once : (u v : ℕ) → u < n → v < n → robot_on s u ≢ 255 → robot_on s u ≡ robot_on s v → u ≡ v

-- every state that a legal list reaches from the starts is so
unfoldable pub Consistency : Type 0
Consistency = (a b : List ℕ) (it : Instance) (xs : List Move) → instance_of a b ≡ ok it → LegalList it xs
    → Agrees it.graph.size (length it.placing.starts) (reached it xs)

-- and so is the state with every robot on its goal
unfoldable pub GoalState : Type 0
GoalState = (a b : List ℕ) (it : Instance) → instance_of a b ≡ ok it → Agrees it.graph.size (length it.placing.starts) (goal it)

-- moves ys of zone z, made on the map: legal, they bring the zone to b, leave every other zone alone and give no step
pub record ActsInside (m : Map) (s : State) (z : ℕ) (ys : List Move) (b : Arrangement) : Type 0 where
  pub legals : T (legal_all m s ys)
  pub here : arrangement_in m (moved_all s ys) z ≡ b
  pub others : (y : ℕ) → y < zone_count m → y ≢ z → arrangement_in m (moved_all s ys) y ≡ arrangement_in m s y
  pub silent : drawn_steps m s ys ≡ []

-- legal moves inside a zone are legal on the map (A.3, Lemma 2)
unfoldable pub InsideZones : Type 0
InsideZones = (a b : List ℕ) (it : Instance) (xs : List Move) → instance_of a b ≡ ok it → LegalList it xs
    → (z : ℕ) (ys : List Move) (c : Arrangement) → z < zone_count it.graph → Runs (kind_of it.graph z) ys (arrangement_in it.graph (reached it xs) z) c
    → ActsInside it.graph (reached it xs) z (across (zone_at it.graph z).vertices ys) c

-- a crossing takes its robot from the place of from, puts it at the place of to, and changes no third zone
pub record Crosses (m : Map) (s : State) (x : Move) : Type 0 where
  pub left : arrangement_in m (moved s x) (zone_of m x.from) ≡ set (arrangement_in m s (zone_of m x.from)) (place_of m x.from) 0
  pub entered : arrangement_in m (moved s x) (zone_of m x.to) ≡ set (arrangement_in m s (zone_of m x.to)) (place_of m x.to) (suc x.robot)
  pub others : (y : ℕ) → y < zone_count m → y ≢ zone_of m x.from → y ≢ zone_of m x.to → arrangement_in m (moved s x) y ≡ arrangement_in m s y

-- "A step takes its cart from one zone to another over a track."
unfoldable pub Crossings : Type 0
Crossings = (a b : List ℕ) (it : Instance) (xs : List Move) (x : Move) → instance_of a b ≡ ok it → LegalList it xs
    → T (legal it.graph (reached it xs) x) → zone_of it.graph x.from ≢ zone_of it.graph x.to → Crosses it.graph (reached it xs) x
