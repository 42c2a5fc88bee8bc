-- The zones in the arrays: the first c of them as a list, and what one zone more changes in it.
use Rattle.std.specs.Prelude.{ℕ, zero, suc, ◌+◌, ◌-◌, ◌≤◌, ◌<◌, ◌≡◌, refl, ◌⊎◌, Bool, true, false, List, [], ◌∷◌, ◌++◌, length, get_or, take, drop, eqb}
use Rattle.std.proofs.Common.{ap, sym, ◌∙◌, inl, inr, append_assoc, append-nil, length-append, take-take, eqb-true, add-one, arith}
use Rattle.std.proofs.Math.ListN.{get_or-append, get_or-eq_default}
use Rattle.std.proofs.lemmas.List.{get_or_at}
use Rattle.std.proofs.lemmas.Bool.{eqb-false}
use Rattle.spec.specs.Outcome.{member, index_of}
use Rattle.spec.specs.Layout.{Zone, listed, zone_from}
use Rattle.wire.specs.Payload.{drop_take}

-- the kind of each zone, where its vertices begin in the listing, and how many they are
pub record Heads : Type 0 where
  pub kind : List ℕ
  pub first : List ℕ
  pub size : List ℕ

abbrev pub heads_at : List ℕ → List ℕ → List ℕ → Heads
heads_at kind first size = record { kind = kind; first = first; size = size }

abbrev pub zone_in : Heads → List ℕ → ℕ → Zone
zone_in h l c = record { kind = get_or h.kind c 0; vertices = take (get_or h.size c 0) (drop (get_or h.first c 0) l) }

-- the first c zones
unfoldable pub zones_in : Heads → List ℕ → ℕ → List Zone
zones_in h l zero = []
zones_in h l (suc c) = zones_in h l c ++ (zone_in h l c ∷ [])

abbrev pub no_zone : Zone
no_zone = record { kind = 0; vertices = [] }

-- a vertex's place in its zone
unfoldable pub place_from : List Zone → ℕ → ℕ
place_from zs v = index_of v (get_or zs (zone_from 0 zs v) no_zone).vertices

-- ---- one zone more, in the definitions

pub listed_snoc : (zs : List Zone) (y : Zone) → listed (zs ++ (y ∷ [])) ≡ listed zs ++ y.vertices
unfolding listed
listed_snoc [] y = append-nil y.vertices
listed_snoc (x ∷ zs) y = ap (λ (l : List ℕ). x.vertices ++ l) (listed_snoc zs y) ∙ sym (append_assoc x.vertices (listed zs) y.vertices)

-- a zone that does not list v changes nothing
pub zone_other : (i : ℕ) (zs : List Zone) (y : Zone) (v : ℕ) → member v y.vertices ≡ false → zone_from i (zs ++ (y ∷ [])) v ≡ zone_from i zs v
unfolding zone_from
zone_other i [] y v h = rw (h, zone_from)
zone_other i (x ∷ zs) y v h = ap (λ (r : ℕ). elim (member v x.vertices) [ true ↦ i | false ↦ r ]) (zone_other (i + 1) zs y v h)

-- the first zone to list v is its zone
pub zone_new : (i : ℕ) (zs : List Zone) (y : Zone) (v : ℕ) → i + length zs ≤ 255 → zone_from i zs v ≡ 255 → member v y.vertices ≡ true → zone_from i (zs ++ (y ∷ [])) v ≡ i + length zs
unfolding zone_from
zone_new i [] y v b e h = rw (h, zone_from) (omega arith)
zone_new i (x ∷ zs) y v b e h = go (member v x.vertices) e (λ e. zone_new (i + 1) zs y v (omega arith) e h)
  where
    go : (c : Bool) → ◌≡◌ {A = ℕ} (elim c [ true ↦ i | false ↦ zone_from (i + 1) zs v ]) 255
        → (zone_from (i + 1) zs v ≡ 255 → zone_from (i + 1) (zs ++ (y ∷ [])) v ≡ i + 1 + length zs)
        → ◌≡◌ {A = ℕ} (elim c [ true ↦ i | false ↦ zone_from (i + 1) (zs ++ (y ∷ [])) v ]) (i + suc (length zs))
    go true e ih = absurd (omega arith)
    go false e ih = ih e ∙ omega arith

-- a vertex has a zone of the list, or none
pub zone_bound : (i : ℕ) (zs : List Zone) (v : ℕ) → (zone_from i zs v ≡ 255) ⊎ (zone_from i zs v < i + length zs)
unfolding zone_from
zone_bound i [] v = inl refl
zone_bound i (x ∷ zs) v = go (member v x.vertices) (zone_bound (i + 1) zs v)
  where
    lift : (zone_from (i + 1) zs v ≡ 255) ⊎ (zone_from (i + 1) zs v < i + 1 + length zs) → (zone_from (i + 1) zs v ≡ 255) ⊎ (zone_from (i + 1) zs v < i + suc (length zs))
    lift (inl e) = inl e
    lift (inr h) = inr (omega arith)

    go : (c : Bool) → (zone_from (i + 1) zs v ≡ 255) ⊎ (zone_from (i + 1) zs v < i + 1 + length zs)
        → (◌≡◌ {A = ℕ} (elim c [ true ↦ i | false ↦ zone_from (i + 1) zs v ]) 255) ⊎ (elim c as (λ _. ℕ) [ true ↦ i | false ↦ zone_from (i + 1) zs v ] < i + suc (length zs))
    go true w = inr (omega arith)
    go false w = lift w

-- the place in a zone that stands does not change
pub place_other : (zs : List Zone) (y : Zone) (v : ℕ) → length zs < 255 → member v y.vertices ≡ false → place_from (zs ++ (y ∷ [])) v ≡ place_from zs v
unfolding place_from
place_other zs y v few h =
    ap (λ (k : ℕ). index_of v (get_or (zs ++ (y ∷ [])) k no_zone).vertices) (zone_other 0 zs y v h) ∙ ap (λ (q : Zone). index_of v q.vertices) (go (zone_bound 0 zs v))
  where
    go : (zone_from 0 zs v ≡ 255) ⊎ (zone_from 0 zs v < 0 + length zs) → get_or (zs ++ (y ∷ [])) (zone_from 0 zs v) no_zone ≡ get_or zs (zone_from 0 zs v) no_zone
    go (inl e) =
        get_or-eq_default (zs ++ (y ∷ [])) no_zone {n = zone_from 0 zs v} (omega (arith, length-append zs (y ∷ [])))
        ∙ sym (get_or-eq_default zs no_zone {n = zone_from 0 zs v} (omega arith))
    go (inr l) = get_or-append zs (y ∷ []) no_zone (zone_from 0 zs v) (omega arith)

-- in the first zone to list v it is the index there
pub place_new : (zs : List Zone) (y : Zone) (v : ℕ) → length zs < 255 → zone_from 0 zs v ≡ 255 → member v y.vertices ≡ true → place_from (zs ++ (y ∷ [])) v ≡ index_of v y.vertices
unfolding place_from
place_new zs y v few e h =
    let a : 0 + length zs ≡ length zs = omega arith in
    ap (λ (k : ℕ). index_of v (get_or (zs ++ (y ∷ [])) k no_zone).vertices) (zone_new 0 zs y v (omega arith) e h ∙ a)
    ∙ ap (λ (q : Zone). index_of v q.vertices) (get_or_at zs y [] no_zone (length zs) refl)

-- ---- the zones in the arrays

pub zones_length : (h : Heads) (l : List ℕ) (c : ℕ) → length (zones_in h l c) ≡ c
unfolding zones_in
zones_length h l zero = refl
zones_length h l (suc c) = length-append (zones_in h l c) (zone_in h l c ∷ []) ∙ omega (arith, zones_length h l c)

pub zones_more : (h : Heads) (l : List ℕ) (c : ℕ) → zones_in h l (c + 1) ≡ zones_in h l c ++ (zone_in h l c ∷ [])
unfolding zones_in
zones_more h l c = rw (add-one c)

-- each is the zone of its number
pub zones_at : (h : Heads) (l : List ℕ) (c j : ℕ) → j < c → get_or (zones_in h l c) j no_zone ≡ zone_in h l j
unfolding zones_in
zones_at h l zero j q = absurd (omega arith)
zones_at h l (suc c) j q = go (eqb j c) refl (zones_at h l c j)
  where
    go : (b : Bool) → eqb j c ≡ b → (j < c → get_or (zones_in h l c) j no_zone ≡ zone_in h l j) → get_or (zones_in h l c ++ (zone_in h l c ∷ [])) j no_zone ≡ zone_in h l j
    go true e ih =
        let w = eqb-true j c e in
        get_or_at (zones_in h l c) (zone_in h l c) [] no_zone j (zones_length h l c ∙ sym w) ∙ ap (zone_in h l) (sym w)
    go false e ih =
        let w = eqb-false j c e in
        let r : j < c = omega arith in
        get_or-append (zones_in h l c) (zone_in h l c ∷ []) no_zone j (omega (arith, zones_length h l c)) ∙ ih r

pub same_part : (l k : List ℕ) (u a b : ℕ) → a + b ≤ u → take u l ≡ take u k → take b (drop a l) ≡ take b (drop a k)
same_part l k u a b h e = one l ∙ ap (λ (x : List ℕ). take b (drop a x)) e ∙ sym (one k)
  where
    one : (x : List ℕ) → take b (drop a x) ≡ take b (drop a (take u x))
    one x = sym (ap (take b) (drop_take a u x) ∙ take-take b (u - a) (drop a x) (omega arith))
