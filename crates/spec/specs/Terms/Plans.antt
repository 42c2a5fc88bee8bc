-- Terms of plans of any length: abstract plans (A.5) are the crossings of concrete ones, Ryan's Theorem 1.
use Rattle.std.specs.Prelude.{◌≡◌, ℕ, suc, ◌<◌, List, [], ◌∷◌, ◌↔◌, ◌≢◌, length, T}
use Rattle.spec.specs.Outcome.{ok}
use Rattle.spec.specs.Layout.{Map, joined, zone_of}
use Rattle.spec.specs.Arrangement.{Arrangement, Move, cell}
use Rattle.spec.specs.State.{State, Step, moved, legal, step_of, drawn_steps}
use Rattle.spec.specs.Services.{Instance, instance_of}
use Rattle.spec.specs.Terms.Zones.{Reachable}
use Rattle.spec.specs.Terms.Layout.{zone_count, kind_of, arrangement_in, place_of, start, goal, LegalList, reached}

-- a configuration tuple (A.4) is given by a state that is in it; two states are in one tuple if every zone is in one configuration
unfoldable pub SameTuple : Map → State → State → Type 0
SameTuple m s t = (z : ℕ) → z < zone_count m → Reachable (kind_of m z) (arrangement_in m s z) (arrangement_in m t z)

-- a list of 128 robots and one of 64 vertices
pub record IsState (t : State) : Type 0 where
  pub robots : length t.robots ≡ 128
  pub vertices : length t.vertices ≡ 64

-- an abstract plan with the steps ss from the tuple of s to the tuple of g.
-- The transition x = (r, u, v) is applicable to the tuple of s where a state t of the tuple has r on u, v empty and u, v joined in two zones;
-- the tuple after it is that of t with x made. A.5 leaves open which of the tuples s(γ) follows; a step says it by the neighbour and the follow list that it has in t.
pub data Abstract (m : Map) : State → List Step → State → Type 0 where
  ends : {s g : State} → SameTuple m s g → Abstract m s [] g
  makes : {s g : State} {ss : List Step} (t : State) (x : Move) → IsState t → SameTuple m s t → T (legal m t x)
      → zone_of m x.from ≢ zone_of m x.to → Abstract m (moved t x) ss g → Abstract m s (step_of m t x ∷ ss) g

-- the transition x is applicable to the tuple of s as A.5 says it, zone by zone: c_x ⊖ (r, u) and c_y ⊕ (r, v) are not empty
pub record Applicable (m : Map) (s : State) (x : Move) : Type 0 where
  pub near : T (joined m x.from x.to)
  pub apart : zone_of m x.from ≢ zone_of m x.to
  pub leaves : (b : Arrangement) × Reachable (kind_of m (zone_of m x.from)) (arrangement_in m s (zone_of m x.from)) b
      × (cell b (place_of m x.from) ≡ suc x.robot)
  pub enters : (c : Arrangement) × Reachable (kind_of m (zone_of m x.to)) (arrangement_in m s (zone_of m x.to)) c
      × (cell c (place_of m x.to) ≡ 0)

-- that is what `makes` asks for
unfoldable pub Transitions : Type 0
Transitions = (a b : List ℕ) (it : Instance) (xs : List Move) (x : Move) → instance_of a b ≡ ok it → LegalList it xs
    → Applicable it.graph (reached it xs) x
    ↔ ((t : State) × IsState t × SameTuple it.graph (reached it xs) t × T (legal it.graph t x) × (zone_of it.graph x.from ≢ zone_of it.graph x.to))

-- a concrete plan (A.3): a legal list from the starts; it "reaches the goals if every cart then stands on its goal"
abbrev pub Reaches : Instance → List Move → Type 0
Reaches it xs = LegalList it xs × ((reached it xs).vertices ≡ (goal it).vertices)

-- Ryan's Theorem 1, with no limit on length: an abstract plan with the steps ss exists exactly if a concrete plan does whose crossings are ss
unfoldable pub Ryan : Type 0
Ryan = (a b : List ℕ) (it : Instance) (ss : List Step) → instance_of a b ≡ ok it
    → Abstract it.graph (start it) ss (goal it) ↔ ((xs : List Move) × Reaches it xs × (drawn_steps it.graph (start it) xs ≡ ss))

-- change request 2026-14: "a legal move list from starts to goals exists exactly if a plan exists all of whose steps can be made and whose last configurations hold the goals"
unfoldable pub AnyLength : Type 0
AnyLength = (a b : List ℕ) (it : Instance) → instance_of a b ≡ ok it
    → ((xs : List Move) × Reaches it xs) ↔ ((ss : List Step) × Abstract it.graph (start it) ss (goal it))
