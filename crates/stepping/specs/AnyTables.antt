-- Goals and a map's tables of other lengths than a placing's and a map's, filled up, and kinds made of any number.
use Rattle.std.specs.Prelude.{◌≡◌, refl, ℕ, zero, suc, ◌+◌, ◌<◌, ◌≤◌, List, [], ◌∷◌, ◌++◌, length, get_or, take, drop}
use Rattle.std.proofs.Common.{ap, sym, ◌∙◌, arith, length-take, length-append, length-drop, get_or-drop, ext_get_or}
use Rattle.std.proofs.lemmas.List.{get_or-take, take-append-le, drop-append-le}
use Rattle.spec.specs.Layout.{Map, Zone}
use Rattle.spec.specs.Run.{goals_from}
use Rattle.spec.specs.State as meaning
use Rattle.spec.specs.Terms.{zone_count, kind_of}
use Rattle.theory.specs.Maps.Layout.{Accepted}
use Rattle.numbering.specs.Kind.{number_of, goes_as}
use Rattle.motion.specs.States.{numbers}
use Rattle.motion.specs.Tables.{fitted, fitted_length, fitted_at, tabled, tabled_arranged}
use Rattle.walking.specs.Tables.{Tables, vertices_in}
use Rattle.walking.specs.Given.{HasZone}

-- goals of any length
pub goals_filled : (n m i : ℕ) (zs : List Zone) (s : meaning.State) (goals vs : List ℕ)
    → ((k l : ℕ) → k < length zs → l < length (get_or zs k (record { kind = 0; vertices = [] })).vertices → get_or (get_or zs k (record { kind = 0; vertices = [] })).vertices l 0 < n)
    → goals_from i zs s (tabled n m goals vs) ≡ goals_from i zs s (numbers goals vs)
unfolding goals_from
goals_filled n m i [] s goals vs h = refl
goals_filled n m i (z ∷ zs) s goals vs h =
    simp (tabled_arranged n m goals vs z.vertices (λ l q. h 0 l (omega arith) q), goals_filled n m (i + 1) zs s goals vs (λ k l a b. h (suc k) l (omega arith) b))

-- ---- a map's tables

-- a listing with more entries behind it has the same parts, and so has one that is filled up or cut to n entries
pub vertices_more : (first size listed rest : List ℕ) (z : ℕ) → get_or first z 0 + get_or size z 0 ≤ length listed
    → vertices_in first size (listed ++ rest) z ≡ vertices_in first size listed z
vertices_more first size listed rest z h =
    ap (take (get_or size z 0)) (drop-append-le (get_or first z 0) listed rest (omega arith))
    ∙ take-append-le (get_or size z 0) (drop (get_or first z 0) listed) rest (omega (arith, length-drop (get_or first z 0) listed))

pub vertices_fitted : (n : ℕ) (first size listed : List ℕ) (z : ℕ) → get_or first z 0 + get_or size z 0 ≤ length listed → get_or first z 0 + get_or size z 0 ≤ n
    → vertices_in first size (fitted n listed) z ≡ vertices_in first size listed z
vertices_fitted n first size listed z h q =
    let f : ℕ = get_or first z 0 in
    let s : ℕ = get_or size z 0 in
    let a : length (take s (drop f (fitted n listed))) ≡ s = omega (arith, length-take s (drop f (fitted n listed)), length-drop f (fitted n listed), fitted_length n listed) in
    let b : length (take s (drop f listed)) ≡ s = omega (arith, length-take s (drop f listed), length-drop f listed) in
    ext_get_or 255 _ _ (a ∙ sym b)
    (λ k l.
    let p : k < s = omega arith in
    get_or-take s (drop f (fitted n listed)) k 255 p ∙ get_or-drop f (fitted n listed) k 255
    ∙ fitted_at n listed (f + k) (omega arith)
    ∙ sym (get_or-take s (drop f listed) k 255 p ∙ get_or-drop f listed k 255))

-- a zone of the tables stays one
pub zone_fitted : (n : ℕ) (first size listed : List ℕ) (z : ℕ) → HasZone first size listed z → get_or first z 0 + get_or size z 0 ≤ n → HasZone first size (fitted n listed) z
zone_fitted n first size listed z h q =
    let e = vertices_fitted n first size listed z h.fits q in
    record { below = h.below; fits = omega (arith, fitted_length n listed); long = rw e h.long; once = rw e h.once }

-- an accepted map's kinds go as themselves
pub kind_kept : (m : Map) (z k : ℕ) → Accepted m → z < zone_count m → kind_of m z ≡ k → number_of (goes_as k) ≡ k
kind_kept m z k a h e = four k (omega (arith, (a.kinds z h).0)) (omega (arith, (a.kinds z h).1))
  where
    four : (k : ℕ) → 1 ≤ k → k ≤ 4 → number_of (goes_as k) ≡ k
    four zero p q = absurd (omega arith)
    four (suc zero) p q = refl
    four (suc (suc zero)) p q = refl
    four (suc (suc (suc zero))) p q = refl
    four (suc (suc (suc (suc zero)))) p q = refl
    four (suc (suc (suc (suc (suc k))))) p q = absurd (omega arith)

-- the tables of an accepted map stay its tables, each kind made of its number and the listing filled up
pub tables_kept : (m : Map) (kind kind' first size listed rest zone place : List ℕ) → Accepted m → Tables m kind first size listed zone place
    → ((z : ℕ) → z < 64 → get_or kind' z 0 ≡ number_of (goes_as (get_or kind z 0)))
    → Tables m kind' first size (listed ++ rest) zone place
tables_kept m kind kind' first size listed rest zone place a t k =
    record {
      few = t.few;
      fits = λ z h. omega (arith, t.fits z h, length-append listed rest);
      kinds = λ z h. t.kinds z h ∙ sym (k z (omega (arith, t.few)) ∙ kind_kept m z (get_or kind z 0) a h (t.kinds z h));
      vertices = λ z h. t.vertices z h ∙ sym (vertices_more first size listed rest z (t.fits z h));
      zones = t.zones;
      places = t.places;
    }
