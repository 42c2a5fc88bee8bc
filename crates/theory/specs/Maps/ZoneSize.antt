-- How many zones an accepted map has, and how large each is: at most 64, of at most 128 vertices.
use Rattle.std.specs.Prelude.{◌≡◌, refl, ℕ, zero, suc, ◌+◌, ◌≤◌, ◌<◌, get_or, drop}
use Rattle.std.proofs.Common.{sym, ◌∙◌, arith, length-append, leb→le}
use Rattle.std.proofs.Math.Path.{ap}
use mathlib.Core.List.{List, [], ◌∷◌, ◌++◌}
use Rattle.std.proofs.Math.Decide.{dec_lt}
use Rattle.std.proofs.Math.ListN.{length, get_or-eq_default}
use Rattle.std.proofs.lemmas.List.{length-map}
use Rattle.spec.specs.Outcome.{ok, index_of}
use Rattle.spec.specs.Arrangement.{Arrangement, cell, order}
use Rattle.spec.specs.Clique.{named}
use Rattle.spec.specs.Layout.{Map, Zone, Read, read_zones, zones_of, counts_of, map_of, zone_at}
use Rattle.spec.specs.Terms.{Distinct}
use Rattle.theory.specs.Basics.Tests.{and_right}
use Rattle.theory.specs.Basics.Outcomes.{ok_injective, passed, bound, seq_ok}
use Rattle.theory.specs.Basics.Lists.{get_d_map}
use Rattle.theory.specs.Zones.Arrangements.{cell_inside}
use Rattle.theory.specs.Zones.Robots.{pigeon}
use Rattle.theory.specs.Zones.Clique.Entering.{named_count}
use Rattle.theory.specs.Maps.Layout.{Accepted}

-- no number stands twice in the list
abbrev pub Different : List ℕ → Type 0
Different vs = (i j : ℕ) → i < length vs → j < length vs → get_or vs i 0 ≡ get_or vs j 0 → i ≡ j

-- n places, with the robots k, k + 1 and so on
row : ℕ → ℕ → Arrangement
row k zero = []
row k (suc n) = suc k ∷ row (suc k) n

-- n robots stand in it
row_count : (k n : ℕ) → length (order (row k n)) ≡ n
unfolding row order
row_count k zero = refl
row_count k (suc n) = ap suc (row_count (suc k) n)

-- the robot of each place
row_cell : (k n i : ℕ) → i < n → cell (row k n) i ≡ suc (k + i)
unfolding row
row_cell k zero i h = absurd (omega arith)
row_cell k (suc n) zero h = omega arith
row_cell k (suc n) (suc i) h = row_cell (suc k) n i (omega arith) ∙ omega arith

-- of a list of numbers as robots each stands where it is listed
named_cell : (vs : List ℕ) (i c : ℕ) → cell (named vs) i ≡ suc c → (i < length vs) × (get_or vs i 0 ≡ c)
unfolding named
named_cell vs i c e =
    let h : i < length vs = omega (arith, cell_inside (named vs) i c e, length-map vs suc) in
    (h, omega (arith, get_d_map suc vs i h))

-- different numbers below n are at most n
pub different_few : (vs : List ℕ) (n : ℕ) → Different vs → ((i : ℕ) → i < length vs → get_or vs i 0 < n) → length vs ≤ n
different_few vs n d h = omega (arith, named_count vs, row_count 0 n, pigeon (named vs) (row 0 n) apart stands)
  where
    apart : Distinct (named vs)
    apart i j c e f = let s = named_cell vs i c e in let t = named_cell vs j c f in d i j s.0 t.0 (s.1 ∙ sym t.1)

    stands : (i c : ℕ) → cell (named vs) i ≡ suc c → (q : ℕ) × (cell (row 0 n) q ≡ suc c)
    stands i c e =
        let s = named_cell vs i c e in
        (c, row_cell 0 n c (omega (arith, h i s.0, s.1)) ∙ omega arith)

-- the vertices of a zone of an accepted map are different
pub zone_different : {m : Map} → Accepted m → (z : ℕ) → z < length m.zones → Different (zone_at m z).vertices
zone_different {m} g z h i j k l e =
    sym (g.inside z i h k).2 ∙ ap (λ v. index_of v (zone_at m z).vertices) e ∙ (g.inside z j h l).2

-- a zone has no more vertices than the map
pub zone_size : {m : Map} → Accepted m → (z : ℕ) → length (zone_at m z).vertices ≤ m.size
zone_size {m} g z = go (dec_lt z (length m.zones))
  where
    go : Dec (z < length m.zones) → length (zone_at m z).vertices ≤ m.size
    go (yes h) = different_few (zone_at m z).vertices m.size (zone_different g z h) (λ i k. (g.inside z i h k).0)
    go (no h) =
        let e : zone_at m z ≡ record { kind = 0; vertices = [] } = unfold zone_at in get_or-eq_default m.zones (record { kind = 0; vertices = [] }) (omega arith) in
        omega (arith, ap (λ y. length y.vertices) e)

-- as many zones are read as are asked for
zones_length : (n : ℕ) (p : List ℕ) (todo o : ℕ) (ys : List Zone) (seen : List ℕ) (r : Read (List Zone)) → read_zones n p todo o ys seen ≡ ok r → length r.it ≡ length ys + todo
unfolding read_zones
zones_length n p zero o ys seen r e = ap (λ q. length q.it) (sym (ok_injective e)) ∙ omega arith
zones_length n p (suc todo) o ys seen r e =
    let h = bound _ _ _ e in
    let v = bound _ _ _ h.2 in
    let y : Zone = record { kind = h.0.kind; vertices = drop (length seen) v.0 } in
    zones_length n p todo (o + 2 + h.0.size) (ys ++ (y ∷ [])) v.0 r v.2 ∙ omega (arith, length-append ys (y ∷ []))

-- and at most 64 may be
pub map_zones : (p : List ℕ) (m : Map) → map_of p ≡ ok m → length m.zones ≤ 64
unfolding map_of counts_of zones_of
map_zones p m e =
    let c = bound _ _ _ e in
    let n = bound _ _ _ c.1 in
    let z = bound _ _ _ (passed _ _ _ _ _ n.2).1 in
    let b = passed _ _ _ _ _ z.2 in
    let few : c.0.zones ≤ 64 = rw (← ok_injective b.1) (leb→le _ _ (and_right _ _ b.0)) in
    let zs = bound _ _ _ c.2 in
    let y = bound _ _ _ zs.1 in
    let l = zones_length c.0.vertices p c.0.zones 2 [] [] y.0 y.1 in
    let f : length zs.0.it ≤ 64 = rw (← ok_injective (passed _ _ _ _ _ y.2).1) (omega arith) in
    let es = bound _ _ _ zs.2 in
    let k = seq_ok _ _ _ es.2 in
    rw (← ok_injective k.2) f
