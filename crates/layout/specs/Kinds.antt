-- Every zone is tested for its kind, lowest first; what the tests lean on follows from what was read.
use Rattle.std.specs.Prelude.{ℕ, zero, suc, ◌+◌, ◌≤◌, ◌<◌, ◌≡◌, refl, Bool, true, false, List, [], ◌∷◌, length, get_or, drop, eqb}
use Rattle.std.proofs.Common.{ap, sym, ◌∙◌, drop-cons, eq-eqb, eqb-true, arith}
use Rattle.std.proofs.Math.Seq.{drop-length}
use Rattle.std.proofs.Math.Numerals.{add-one}
use Rattle.spec.specs.Outcome.{ok, refuse, ◌>>◌, check, member, index_of}
use Rattle.spec.specs.Layout.{Map, Zone, Edge, read_zones, read_edges, least_size, of_kind, kinds_from, zone_from}
use Rattle.theory.specs.Basics.Tests.{of_true}
use Rattle.theory.specs.Basics.Lists.{get_d_default}
use Rattle.theory.specs.Maps.Listing as listing
use Rattle.theory.specs.Maps.Layout.{no_edge, read_edges_lem, has_edge_lem}
use Rattle.adjacency.specs.Rows.{Shows, same_test}
use Rattle.kinds.specs.Tests.{test_of}
use Rattle.kinds.specs.Shape.{part, part_length}
use Rattle.kinds.specs.Closed.{Stack}
use Rattle.kinds.specs.Kind.{kind_is}
use Rattle.zoning.specs.Heads.{least_some}
use Rattle.zoning.specs.Zones.{Heads, zone_in, zones_in, no_zone, zones_length, zones_at}
use Rattle.zoning.specs.Found.{ZonesHeld}

-- the rows show the map's edges, and each zone in the arrays may be tested
pub record Ready (rows : List (List ℕ)) (m : Map) (h : Heads) (l zone : List ℕ) (c : ℕ) : Type 0 where
  pub shows : Shows rows m.edges
  pub kinds : (j : ℕ) → j < c → (1 ≤ get_or h.kind j 0) × (get_or h.kind j 0 ≤ 4)
  pub stacks : (j : ℕ) → j < c → Stack m (part l (get_or h.first j 0) (get_or h.size j 0)) zone j

-- the test that the code makes of zone i
abbrev pub test_at : List (List ℕ) → Heads → List ℕ → List ℕ → ℕ → Bool
test_at rows h l zone i = test_of rows (part l (get_or h.first i 0) (get_or h.size i 0)) zone i (get_or h.kind i 0)

module _ (rows : List (List ℕ)) (m : Map) (h : Heads) (l zone : List ℕ) (c i : ℕ) (r : Ready rows m h l zone c) (low : i < c) where
  test_is : test_at rows h l zone i ≡ of_kind m (zone_in h l i)
  test_is =
      let k = r.kinds i low in
      kind_is rows m (part l (get_or h.first i 0) (get_or h.size i 0)) zone i (get_or h.kind i 0) k.0 k.1 r.shows (r.stacks i low)

  next : drop i (zones_in h l c) ≡ zone_in h l i ∷ drop (suc i) (zones_in h l c)
  next = drop-cons (zones_in h l c) i no_zone (omega (arith, zones_length h l c)) ∙ ap (λ (z : Zone). z ∷ drop (suc i) (zones_in h l c)) (zones_at h l c i low)

  -- a zone that is not of its kind
  pub kinds_bad : test_at rows h l zone i ≡ false → kinds_from m i (drop i (zones_in h l c)) ≡ refuse 19 i
  unfolding kinds_from ◌>>◌ check
  kinds_bad e = rw (next, ← test_is, e)

  -- one that is
  pub kinds_good : test_at rows h l zone i ≡ true → kinds_from m i (drop i (zones_in h l c)) ≡ kinds_from m (i + 1) (drop (i + 1) (zones_in h l c))
  unfolding kinds_from ◌>>◌ check
  kinds_good e = rw (next, ← test_is, e, add-one i)

-- all are
pub kinds_all : (m : Map) (h : Heads) (l : List ℕ) (c i : ℕ) → i ≡ c → kinds_from m i (drop i (zones_in h l c)) ≡ ok tt
unfolding kinds_from
kinds_all m h l c i e = rw e (ap (kinds_from m c) (ap (λ (k : ℕ). drop k (zones_in h l c)) (sym (zones_length h l c)) ∙ drop-length (zones_in h l c)))

-- ---- what was read may be tested

-- a zone is not before the first
zone_least : (i : ℕ) (zs : List Zone) (v : ℕ) → i + length zs ≤ 255 → i ≤ zone_from i zs v
unfolding zone_from
zone_least i [] v b = omega arith
zone_least i (x ∷ zs) v b = go (member v x.vertices) (zone_least (i + 1) zs v (omega arith))
  where
    go : (c : Bool) → i + 1 ≤ zone_from (i + 1) zs v → i ≤ elim c as (λ _. ℕ) [ true ↦ i | false ↦ zone_from (i + 1) zs v ]
    go true w = omega arith
    go false w = omega arith

-- the zone of a vertex lists it
zone_found : (i : ℕ) (zs : List Zone) (j v : ℕ) → i + length zs ≤ 255 → j < length zs → zone_from i zs v ≡ i + j → member v (get_or zs j no_zone).vertices ≡ true
unfolding zone_from
zone_found i [] j v b l e = absurd (omega arith)
zone_found i (x ∷ zs) zero v b l e = go (member v x.vertices) refl e
  where
    go : (c : Bool) → member v x.vertices ≡ c → ◌≡◌ {A = ℕ} (elim c [ true ↦ i | false ↦ zone_from (i + 1) zs v ]) (i + 0) → member v x.vertices ≡ true
    go true w e = w
    go false w e = absurd (omega (arith, zone_least (i + 1) zs v (omega arith)))
zone_found i (x ∷ zs) (suc j) v b l e = go (member v x.vertices) e (zone_found (i + 1) zs j v (omega arith) (omega arith))
  where
    go : (c : Bool) → ◌≡◌ {A = ℕ} (elim c [ true ↦ i | false ↦ zone_from (i + 1) zs v ]) (i + suc j)
        → (zone_from (i + 1) zs v ≡ i + 1 + j → member v (get_or zs j no_zone).vertices ≡ true) → member v (get_or zs j no_zone).vertices ≡ true
    go true e ih = absurd (omega arith)
    go false e ih = ih (e ∙ omega arith)

module _ (p : List ℕ) (n c : ℕ) (small : n ≤ 128) (few : c ≤ 64) (h : Heads) (l zone place : List ℕ) (o : ℕ)
    (read : read_zones n p c 2 [] [] ≡ ok (record { it = zones_in h l c; next = o })) (held : ZonesHeld h l zone place c) where
  zoned : listing.Zones n [] (zones_in h l c)
  zoned = let r = listing.read_zones_lem p c 2 [] [] (record { it = zones_in h l c; next = o }) read in rw r.1 r.2

  count : length (zones_in h l c) ≡ c
  count = zones_length h l c

  module _ (j : ℕ) (low : j < c) where
    lower : j < length (zones_in h l c)
    lower = omega (arith, count)

    here : get_or (zones_in h l c) j no_zone ≡ zone_in h l j
    here = zones_at h l c j low

    -- the zone table says which vertices zone j lists
    listed_in : (u : ℕ) → u < 128 → member u (zone_in h l j).vertices ≡ eqb (get_or zone u 0) j
    listed_in u b =
        same_test (member u (zone_in h l j).vertices) (eqb (get_or zone u 0) j)
        (λ e. eq-eqb (get_or zone u 0) j (same ∙ listing.zones_at zoned 0 j u lower (of_true (ap (λ (z : Zone). member u z.vertices) here ∙ e)) ∙ omega arith))
        (λ e. ap (λ (z : Zone). member u z.vertices) (sym here) ∙ zone_found 0 (zones_in h l c) j u (omega (arith, count)) lower (sym same ∙ eqb-true (get_or zone u 0) j e ∙ omega arith))
      where
        same : get_or zone u 0 ≡ zone_from 0 (zones_in h l c) u
        same = get_d_default zone u 0 255 (omega (arith, held.long_zone)) ∙ held.zoned u

    fresh : (seen : List ℕ) × listing.Fresh n seen (zone_in h l j).vertices
    fresh = let f = listing.zones_fresh zoned j lower in (f.0, rw here at f.1)

    kind_range : (1 ≤ get_or h.kind j 0) × (get_or h.kind j 0 ≤ 4)
    kind_range = let k = listing.zones_kind zoned j lower in ((rw here at k.0), (rw here at k.1))

  -- no zone is empty
  pub zone_some : (j : ℕ) → j < c → 1 ≤ get_or h.size j 0
  zone_some j low =
      let k = listing.zones_kind zoned j (lower j low) in
      let x : least_size (get_or h.kind j 0) ≤ length (zone_in h l j).vertices = rw (here j low) at k.2 in
      omega (arith, least_some (get_or h.kind j 0), part_length l (get_or h.first j 0) (get_or h.size j 0) (omega (arith, held.inside j low, held.long_listed)))

  -- the zones and edges that were read may be tested
  pub ready : (rows : List (List ℕ)) (e from : ℕ) (es : List Edge) → read_edges n p e from 0 [] ≡ ok es → Shows rows es
      → Ready rows (record { size = n; zones = zones_in h l c; edges = es }) h l zone c
  ready rows e from es w s = record {
    shows = s;
    kinds = kind_range;
    stacks = λ j low. record {
      proper = λ a b t. let q = has_edge_lem (read_edges_lem n p e from 0 [] es no_edge w) a b (of_true t) in (q.0, omega arith);
      inside = listed_in j low;
      once = λ i g b t. once· j low i g b t;
      small = λ i b. let q = listing.fresh_lt (fresh j low).1 i b in omega arith;
    };
  }
    where
      once· : (j : ℕ) (low : j < c) (i : ℕ) → 0 < i → i < length (zone_in h l j).vertices → get_or (zone_in h l j).vertices i 0 ≡ get_or (zone_in h l j).vertices 0 0 → ⊥
      once· j low i g b t =
          let x = listing.fresh_index (fresh j low).1 i b in
          let y = listing.fresh_index (fresh j low).1 0 (omega arith) in
          let q : i ≡ 0 = sym x ∙ ap (λ (v : ℕ). index_of v (zone_in h l j).vertices) t ∙ y in
          omega arith
