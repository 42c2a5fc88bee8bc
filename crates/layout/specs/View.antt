-- A map's tables: the numbers in them.
use Rattle.std.specs.Prelude.{◌≡◌, refl, ℕ, zero, suc, List, [], ◌∷◌, map, length}
use Rattle.std.proofs.Common.{ap, ap₂}
use Rattle.numbering.specs.declared.ZoneKind.{ZoneKind}
use Rattle.numbering.specs.declared.ZoneKind.TheVariants.{Stack, Hall, Clique, Ring}
use Rattle.numbering.specs.Kind.{number_of}
use Rattle.layout.specs.Lists.{MapLists}
use Rattle.layout.specs.declared.MapTables.TheInside.{Inside}

abbrev pub view_of : {L : ℕ} → Inside L → MapLists
view_of {L} a = record {
  vertices = a.vertices;
  zones = a.zones;
  kind = map number_of a.kind;
  first = a.first;
  size = a.size;
  listed = a.listed;
  zone = a.zone;
  place = a.place;
}

-- the kind that has a number; a ring where none has it
abbrev pub numbered : ℕ → ZoneKind
numbered zero = Ring
numbered (suc zero) = Stack
numbered (suc (suc zero)) = Hall
numbered (suc (suc (suc zero))) = Clique
numbered (suc (suc (suc (suc n)))) = Ring

abbrev pub held_in : {L : ℕ} → MapLists → Inside L
held_in {L} t = record {
  vertices = t.vertices;
  zones = t.zones;
  kind = map numbered t.kind;
  first = t.first;
  size = t.size;
  listed = t.listed;
  zone = t.zone;
  place = t.place;
}

numbered_again : (k : ZoneKind) → numbered (number_of k) ≡ k
numbered_again Stack = refl
numbered_again Hall = refl
numbered_again Clique = refl
numbered_again Ring = refl

kinds_again : (l : List ZoneKind) → map numbered (map number_of l) ≡ l
kinds_again [] = refl
kinds_again (k ∷ l) = ap₂ (λ (x : ZoneKind) (xs : List ZoneKind). x ∷ xs) (numbered_again k) (kinds_again l)

abbrev with_kinds : {L : ℕ} → Inside L → List ZoneKind → Inside L
with_kinds {L} a l = record { vertices = a.vertices; zones = a.zones; kind = l; first = a.first; size = a.size; listed = a.listed; zone = a.zone; place = a.place }

-- a map's lists give its tables back
pub held_again : {L : ℕ} (a : Inside L) → held_in (view_of a) ≡ a
held_again {L} a = ap (λ (l : List ZoneKind). with_kinds a l) (kinds_again a.kind)

-- each table has an entry for each zone, or each vertex
pub record Whole {L : ℕ} (a : Inside L) : Type 0 where
  pub kinds : length a.kind ≡ 64
  pub firsts : length a.first ≡ 64
  pub sizes : length a.size ≡ 64
  pub listing : length a.listed ≡ L
  pub zones_of : length a.zone ≡ 128
  pub places : length a.place ≡ 128
