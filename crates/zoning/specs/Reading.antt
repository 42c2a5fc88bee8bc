-- All zones, read one by one: what the arrays hold after each, and every way out.
use Prim.Native.Nat.{ℕ, zero, suc, ◌+◌, ◌-◌, ◌≤◌, ◌<◌}
use Rattle.std.specs.Prelude.{◌≡◌, Bool, true, false, length, get_or, take, drop, set, replicate, eqb}
use Rattle.std.proofs.Math.Path.{refl, ap₂}
use Rattle.std.proofs.Common.{ap, sym, ◌∙◌, length-set, take-add, get_or-set_same, get_or-set_other, drop_at, eqb-true}
use mathlib.Core.List.{List, [], ◌∷◌, ◌++◌}
use Rattle.std.proofs.lemmas.Bool.{eqb-false}
use native.Mathlib.Omega.{arith}
use Rattle.spec.specs.Outcome.{ok, refuse, ◌>>=◌, member, index_of}
use Rattle.spec.specs.Layout as layout
use Rattle.spec.specs.Layout.{Zone, Read, read_head, read_vertices, read_zones, listed, zone_from}
use Rattle.theory.specs.Basics.Lists.{get_d_uniform}
use Rattle.zoning.specs.declared.reading.Listing.{Listing}
use Rattle.zoning.specs.Chain.{refused}
use Rattle.zoning.specs.Table.{seen, newly, pick, Rep, no_table, rep_none}
use Rattle.zoning.specs.Vertices.{Going}
use Rattle.zoning.specs.Zones.{Heads, zone_in, zones_in, place_from, zones_length, listed_snoc, zone_other, zone_new, place_other, place_new, zones_more, same_part}

-- i zones are read, the next stands at o
pub record GoingAll (p : List ℕ) (n z : ℕ) (h : Heads) (t : Listing) (i o : ℕ) : Type 0 where
  pub rep : Rep t
  pub inside : (j : ℕ) → j < i → get_or h.first j 0 + get_or h.size j 0 ≤ t.used
  pub zoned : (v : ℕ) → get_or t.zone v 255 ≡ zone_from 0 (zones_in h t.listed i) v
  pub placed : (v : ℕ) → get_or t.place v 0 ≡ place_from (zones_in h t.listed i) v
  pub whole : listed (zones_in h t.listed i) ≡ seen t
  pub rest : read_zones n p z 2 [] [] ≡ read_zones n p (z - i) o (zones_in h t.listed i) (seen t)
  pub long_kind : length h.kind ≡ 64
  pub long_first : length h.first ≡ 64
  pub long_size : length h.size ≡ 64

abbrev pub filled : Heads → ℕ → ℕ → ℕ → ℕ → Heads
filled h i kind u size = record { kind = set h.kind i kind; first = set h.first i u; size = set h.size i size }

lt_of : (j i : ℕ) → j < i + 1 → (j ≡ i → ⊥) → j < i
lt_of j i q w = omega arith

-- ---- the definition's reader

module _ (n : ℕ) (p : List ℕ) (o : ℕ) (zs : List Zone) (done : List ℕ) where
  -- a zone's head that is refused
  zones_head : (todo : ℕ) → 0 < todo → (r q : ℕ) → read_head p o ≡ refuse r q → read_zones n p todo o zs done ≡ refuse r q
  unfolding read_zones
  zones_head zero h r q e = absurd (omega arith)
  zones_head (suc todo) h r q e = refused (read_head p o) r q _ e

  -- its vertices that are refused
  zones_vertices : (todo : ℕ) → 0 < todo → (d : layout.Head) → read_head p o ≡ ok d → (r q : ℕ) → read_vertices n p d.size (o + 2) done ≡ refuse r q → read_zones n p todo o zs done ≡ refuse r q
  unfolding read_zones ◌>>=◌
  zones_vertices zero h d e r q w = absurd (omega arith)
  zones_vertices (suc todo) h d e r q w = rw e (refused (read_vertices n p d.size (o + 2) done) r q _ w)

  pub zones_step : (todo : ℕ) → 0 < todo → (d : layout.Head) → read_head p o ≡ ok d → (all : List ℕ) → read_vertices n p d.size (o + 2) done ≡ ok all
      → read_zones n p todo o zs done ≡ read_zones n p (todo - 1) (o + 2 + d.size) (zs ++ (record { kind = d.kind; vertices = drop (length done) all } ∷ [])) all
  unfolding read_zones ◌>>=◌
  zones_step zero h d e all f = absurd (omega arith)
  zones_step (suc todo) h d e all f = let a : suc todo - 1 ≡ todo = omega arith in rw (e, f, a)

-- ---- one zone more

module _ (p : List ℕ) (n z : ℕ) (h : Heads) (s t : Listing) (i o kind size : ℕ) (g : Going p n i size (o + 2) s t size) (a : GoingAll p n z h s i o) (low : i < z) (few : z ≤ 64) where
  keep_one : (j : ℕ) → j < i → zone_in (filled h i kind s.used size) t.listed j ≡ zone_in h s.listed j
  keep_one j l =
      let w : (j ≡ i → ⊥) = λ (e : j ≡ i). omega arith in
      rw (
        get_or-set_other h.kind i j kind 0 w,
        get_or-set_other h.first i j s.used 0 w,
        get_or-set_other h.size i j size 0 w,
        same_part t.listed s.listed s.used (get_or h.first j 0) (get_or h.size j 0) (a.inside j l) g.before,
      )

  keep : (j : ℕ) → j ≤ i → zones_in (filled h i kind s.used size) t.listed j ≡ zones_in h s.listed j
  unfolding zones_in
  keep zero l = refl
  keep (suc j) l = ap₂ (λ (zs : List Zone) (x : Zone). zs ++ (x ∷ [])) (keep j (omega arith)) (keep_one j (omega arith))

  this : Zone
  this = record { kind = kind; vertices = newly s t size }

  this_zone : zone_in (filled h i kind s.used size) t.listed i ≡ record { kind = kind; vertices = newly s t size }
  this_zone =
      rw (
        get_or-set_same h.kind i kind 0 (omega (arith, a.long_kind)),
        get_or-set_same h.first i s.used 0 (omega (arith, a.long_first)),
        get_or-set_same h.size i size 0 (omega (arith, a.long_size)),
      )

  longer : zones_in (filled h i kind s.used size) t.listed (i + 1) ≡ zones_in h s.listed i ++ (record { kind = kind; vertices = newly s t size } ∷ [])
  longer = zones_more (filled h i kind s.used size) t.listed i
      ∙ ap₂ (λ (zs : List Zone) (y : Zone). zs ++ (y ∷ [])) (keep i (omega arith)) this_zone

  seen_all : seen t ≡ seen s ++ newly s t size
  seen_all = ap (λ (u : ℕ). take u t.listed) g.used ∙ take-add s.used size t.listed ∙ ap (λ (l : List ℕ). l ++ newly s t size) g.before

  count : length (zones_in h s.listed i) ≡ i
  count = zones_length h s.listed i

  inside_more : (j : ℕ) → j < i + 1 → get_or (set h.first i s.used) j 0 + get_or (set h.size i size) j 0 ≤ t.used
  inside_more j q = go (eqb j i) refl
    where
      go : (b : Bool) → eqb j i ≡ b → get_or (set h.first i s.used) j 0 + get_or (set h.size i size) j 0 ≤ t.used
      go true e =
          rw (eqb-true j i e, get_or-set_same h.first i s.used 0 (omega (arith, a.long_first)), get_or-set_same h.size i size 0 (omega (arith, a.long_size))) (omega (arith, g.used))
      go false e =
          let w = eqb-false j i e in
          let l = lt_of j i q w in
          rw (get_or-set_other h.first i j s.used 0 w, get_or-set_other h.size i j size 0 w) (omega (arith, a.inside j l, g.used))

  -- the zone and place of v with this zone more
  both_more : (v : ℕ) (b : Bool) → member v (newly s t size) ≡ b
      → (get_or t.zone v 255 ≡ zone_from 0 (zones_in h s.listed i ++ (record { kind = kind; vertices = newly s t size } ∷ [])) v)
      × (get_or t.place v 0 ≡ place_from (zones_in h s.listed i ++ (record { kind = kind; vertices = newly s t size } ∷ [])) v)
  both_more v true e =
      let f : zone_from 0 (zones_in h s.listed i) v ≡ 255 = sym (a.zoned v) ∙ g.fresh v e in
      let c : 0 + length (zones_in h s.listed i) ≡ i = omega (arith, count) in (
        g.zoned v ∙ ap (λ (b : Bool). pick b i (get_or s.zone v 255)) e ∙ sym (zone_new 0 (zones_in h s.listed i) (record { kind = kind; vertices = newly s t size }) v (omega (arith, count)) f e ∙ c),
        g.placed v ∙ ap (λ (b : Bool). pick b (index_of v (newly s t size)) (get_or s.place v 0)) e
            ∙ sym (place_new (zones_in h s.listed i) (record { kind = kind; vertices = newly s t size }) v (omega (arith, count)) f e),
      )
  both_more v false e = (
    g.zoned v ∙ ap (λ (b : Bool). pick b i (get_or s.zone v 255)) e ∙ a.zoned v ∙ sym (zone_other 0 (zones_in h s.listed i) (record { kind = kind; vertices = newly s t size }) v e),
    g.placed v ∙ ap (λ (b : Bool). pick b (index_of v (newly s t size)) (get_or s.place v 0)) e ∙ a.placed v
        ∙ sym (place_other (zones_in h s.listed i) (record { kind = kind; vertices = newly s t size }) v (omega (arith, count)) e),
  )

  rest_more : (d : layout.Head) → read_head p o ≡ ok d → d.kind ≡ kind → d.size ≡ size → read_vertices n p size (o + 2) (seen s) ≡ ok (seen t)
      → read_zones n p z 2 [] [] ≡ read_zones n p (z - (i + 1)) (o + (2 + size)) (zones_in h s.listed i ++ (record { kind = kind; vertices = newly s t size } ∷ [])) (seen t)
  rest_more d e x y f =
      let a1 : z - i - 1 ≡ z - (i + 1) = omega arith in
      let a2 : o + 2 + size ≡ o + (2 + size) = omega arith in
      let w : drop (length (seen s)) (seen t) ≡ newly s t size = ap (drop (length (seen s))) seen_all ∙ drop_at (seen s) (newly s t size) (length (seen s)) refl in
      a.rest ∙ zones_step n p o (zones_in h s.listed i) (seen s) (z - i) (omega arith) d e (seen t) (ap (λ (q : ℕ). read_vertices n p q (o + 2) (seen s)) y ∙ f)
      ∙ rw (a1, y, a2, x, w)

  pub all_more : (d : layout.Head) → read_head p o ≡ ok d → d.kind ≡ kind → d.size ≡ size → read_vertices n p size (o + 2) (seen s) ≡ ok (seen t)
      → GoingAll p n z (filled h i kind s.used size) t (i + 1) (o + (2 + size))
  all_more d e x y f = record {
    rep = g.rep;
    inside = inside_more;
    zoned = λ v. (both_more v (member v (newly s t size)) refl).0 ∙ ap (λ (zs : List Zone). zone_from 0 zs v) (sym longer);
    placed = λ v. (both_more v (member v (newly s t size)) refl).1 ∙ ap (λ (zs : List Zone). place_from zs v) (sym longer);
    whole = ap listed longer ∙ listed_snoc (zones_in h s.listed i) (record { kind = kind; vertices = newly s t size })
        ∙ ap (λ (l : List ℕ). l ++ newly s t size) a.whole ∙ sym seen_all;
    rest = rest_more d e x y f ∙ ap (λ (zs : List Zone). read_zones n p (z - (i + 1)) (o + (2 + size)) zs (seen t)) (sym longer);
    long_kind = length-set h.kind i kind ∙ a.long_kind;
    long_first = length-set h.first i s.used ∙ a.long_first;
    long_size = length-set h.size i size ∙ a.long_size;
  }

-- ---- the ways out

abbrev pub no_heads : Heads
no_heads = record { kind = replicate 64 1; first = replicate 64 0; size = replicate 64 0 }

pub all_start : (p : List ℕ) (n z : ℕ) → GoingAll p n z no_heads no_table 0 2
unfolding zones_in zone_from place_from index_of listed
all_start p n z = record {
  rep = rep_none;
  inside = λ (j : ℕ) (h : j < 0). absurd (omega arith);
  zoned = λ v. get_d_uniform 128 v 255;
  placed = λ v. get_d_uniform 128 v 0;
  whole = refl;
  rest = ap (λ (c : ℕ). read_zones n p c 2 [] []) a1;
  long_kind = refl;
  long_first = refl;
  long_size = refl;
}
  where
    a1 : z ≡ z - 0
    a1 = omega arith

module _ (p : List ℕ) (n z : ℕ) (h : Heads) (t : Listing) (i o : ℕ) (a : GoingAll p n z h t i o) where
  pub all_end : i ≡ z → read_zones n p z 2 [] [] ≡ ok (record { it = zones_in h t.listed z; next = o })
  unfolding read_zones
  all_end e =
      let c : z - i ≡ 0 = omega arith in
      a.rest ∙ ap₂ (λ (x y : ℕ). read_zones n p x o (zones_in h t.listed y) (seen t)) c e

  -- a zone is refused by its head or by its vertices
  module _ (low : i < z) where
    pub all_head : (r q : ℕ) → read_head p o ≡ refuse r q → read_zones n p z 2 [] [] ≡ refuse r q
    all_head r q e = a.rest ∙ zones_head n p o (zones_in h t.listed i) (seen t) (z - i) (omega arith) r q e

    pub all_vertices : (d : layout.Head) → read_head p o ≡ ok d → (r q : ℕ) → read_vertices n p d.size (o + 2) (seen t) ≡ refuse r q → read_zones n p z 2 [] [] ≡ refuse r q
    all_vertices d e r q w = a.rest ∙ zones_vertices n p o (zones_in h t.listed i) (seen t) (z - i) (omega arith) d e r q w
