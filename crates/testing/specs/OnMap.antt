-- What is said of lists on a map in tables, by the one value that holds the tables and the one that holds the lists.
use Rattle.std.specs.Prelude.{◌≡◌, ℕ, List, get_or, Result}
use Rattle.spec.specs.Layout.{Map}
use Rattle.spec.specs.State.{State}
use Rattle.numbering.specs.Kind.{number_of}
use Rattle.layout.specs.Lists.{MapLists}
use Rattle.walking.specs.OnMap.{kind_on, place_on}
use Rattle.testing.specs.declared.Lists.{Lists}
use Rattle.rosters.specs.declared.Spot.{Spot}
use Rattle.testing.specs.declared.Step.{Step}
use Rattle.testing.specs.declared.StepFault.{StepFault}
use Rattle.testing.specs.Held.{list_in, Held}
use Rattle.testing.specs.Steps.{Ready, HasList, Fits, Chosen, StepTested}

-- the size of the zone of vertex v; how many robots it has, and its list
abbrev pub size_on : MapLists → ℕ → ℕ
size_on t v = get_or t.size (get_or t.zone v 0) 0

abbrev pub count_on : {L : ℕ} → MapLists → Lists L → ℕ → ℕ
count_on {L} t l v = get_or l.counts (get_or t.zone v 0) 0

abbrev pub list_on : {L : ℕ} → MapLists → Lists L → ℕ → List ℕ
list_on {L} t l v = list_in t.first l.counts l.cells (get_or t.zone v 0)

-- zone z has its list among the lists; vertex v is in such a zone
abbrev pub HasListOn : {L : ℕ} → MapLists → Lists L → ℕ → Type 0
HasListOn {L} t l z = HasList t.first t.size l.counts l.cells z

abbrev pub FitsOn : {L : ℕ} → MapLists → Lists L → ℕ → Type 0
FitsOn {L} t l v = Fits t.first t.size t.zone t.place l.counts l.cells v

-- where vertex v stands
pub record SpotOf {L : ℕ} (t : MapLists) (l : Lists L) (v : ℕ) (s : Spot) : Type 0 where
  pub zone : s.zone.0 ≡ get_or t.zone v 0
  pub kind : number_of s.kind ≡ kind_on t v
  pub first : s.first ≡ get_or t.first (get_or t.zone v 0) 0
  pub size : s.size ≡ size_on t v
  pub count : s.count ≡ count_on t l v
  pub place : s.place ≡ place_on t v

-- the lists are those of an accepted map's zones in a state of its k robots
abbrev pub ReadyOn : {L : ℕ} → MapLists → ℕ → List (List ℕ) → Lists L → Type 0
ReadyOn {L} t k rows l = Ready t.vertices k t.kind t.first t.size t.listed t.zone t.place rows l.counts l.cells

-- the tests of the step at offset o of the payload in the file f
abbrev pub StepTestedOn : {L : ℕ} → List ℕ → ℕ → ℕ → MapLists → ℕ → List (List ℕ) → Lists L → Result Step StepFault → Type 0
StepTestedOn {L} f len o t k rows l q = StepTested f len o t.vertices k t.kind t.first t.size t.listed t.zone t.place rows l.counts l.cells q

-- every zone's list stands for its configuration in state s of the map m
abbrev pub HeldOn : {L : ℕ} → Map → MapLists → Lists L → State → Type 0
HeldOn {L} m t l s = Held m t.first l.counts l.cells s

-- the step x at offset o of the payload in the file f: where its robot stands in the list that it leaves, and comes into the other
abbrev pub ChosenOn : {L : ℕ} → List ℕ → ℕ → MapLists → Lists L → Step → Type 0
ChosenOn {L} f o t l x = Chosen f o t.kind t.first t.zone l.counts l.cells x
