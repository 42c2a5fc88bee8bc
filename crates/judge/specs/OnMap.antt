-- What is said of a plan judged on lists, by the one value that holds the map's tables and the one that holds the lists.
use Rattle.std.specs.Prelude.{ℕ, List, Result}
use Rattle.spec.specs.Layout.{Map}
use Rattle.spec.specs.State.{State}
use Rattle.layout.specs.Lists.{MapLists}
use Rattle.testing.specs.declared.Lists.{Lists}
use Rattle.testing.specs.declared.PlanFault.{PlanFault}
use Rattle.judge.specs.Making.{Marching, Marched, TakesOut, PutsIn, Listed}
use Rattle.judge.specs.Judging.{JudgedWalk}

-- zone z's list is written
abbrev pub ListedOn : {L : ℕ} → MapLists → Lists L → ℕ → List ℕ → Lists L → Type 0
ListedOn {L} t l z list new = Listed t.first t.size l.counts l.cells z list new.counts new.cells

-- the list of vertex u's zone has an element i; there is room in that of vertex v's
abbrev pub TakesOutOn : {L : ℕ} → MapLists → Lists L → ℕ → ℕ → Type 0
TakesOutOn {L} t l u i = TakesOut t.first t.size t.zone t.place l.counts l.cells u i

abbrev pub PutsInOn : {L : ℕ} → MapLists → Lists L → ℕ → ℕ → ℕ → Type 0
PutsInOn {L} t l e v i = PutsIn t.kind t.first t.size t.zone t.place l.counts l.cells e v i

-- the step at offset o of the payload in the file f passed its tests on the lists, with a follow list of e bytes
abbrev pub MarchingOn : {L : ℕ} → List ℕ → ℕ → ℕ → MapLists → Lists L → Type 0
MarchingOn {L} f o e t l = Marching f o e t.kind t.first t.size t.listed t.zone t.place l.counts l.cells

-- the lists stand for the state after it
abbrev pub MarchedOn : {L : ℕ} (f : List ℕ) (o e : ℕ) (t : MapLists) (l : Lists L) → MarchingOn f o e t l → Lists L → Type 0
MarchedOn {L} f o e t l x new = Marched f o e t.kind t.first t.size t.listed t.zone t.place l.counts l.cells x new.counts new.cells

-- what a walk of n steps comes to on the lists
abbrev pub JudgedWalkOn : {L : ℕ} → Map → ℕ → List ℕ → ℕ → State → Result ℕ PlanFault → MapLists → Lists L → Type 0
JudgedWalkOn {L} m k p n s r t l = JudgedWalk m k p n s r t.first l.counts l.cells
