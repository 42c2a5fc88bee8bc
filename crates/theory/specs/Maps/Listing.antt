-- Vertices and zones as a map lists them: each vertex is in one zone, at one place.
use Rattle.std.specs.Prelude.{◌≡◌, refl, ◌⊎◌, length, get_or}
use Rattle.std.proofs.Math.Path.{sym, ap}
use Rattle.std.proofs.Common.{◌∙◌, inl, inr, le_of_suc-le-suc, add-zero, not-suc-le-zero, arith, drop_at, leb→le, ltb→lt, T_not}
use mathlib.Core.List.{List, [], ◌∷◌, ◌++◌, append-nil, append_assoc}
use Prim.Native.Nat.{ℕ, zero, suc, ◌+◌, ◌≤◌, ◌<◌}
use Rattle.std.proofs.Math.ListN.{drop}
use Rattle.spec.specs.Outcome.{ok, member, index_of}
use Rattle.spec.specs.Layout.{Zone, Read, least_size, read_vertices, Head, read_head, read_zones, listed, zone_from}
use Rattle.theory.specs.Basics.Tests.{true_of, false_of, and_left, and_right}
use Rattle.theory.specs.Basics.Lists.{In, in_head, Found, here, further, found, in_left, in_right, in_get_d, index_here, index_further, in_append}
use Rattle.theory.specs.Basics.Outcomes.{ok_injective, passed, bound}

-- ---- vertices as they are read

-- vertices below n, none twice and none of those seen
pub data Fresh (n : ℕ) : List ℕ → List ℕ → Type 0 where
  none : {seen : List ℕ} → Fresh n seen []
  more : {v : ℕ} {seen vs : List ℕ} → v < n → (In v seen → ⊥) → Fresh n (seen ++ (v ∷ [])) vs → Fresh n seen (v ∷ vs)

module _ {n : ℕ} where
  -- none of them was seen
  pub fresh_not : {seen vs : List ℕ} → Fresh n seen vs → (v : ℕ) → In v vs → In v seen → ⊥
  fresh_not none v h k = unfold member in h
  fresh_not (more {v = w} {seen} {vs} l m f) v h k = go (found v w vs h) (fresh_not f v)
    where
      go : Found v w vs → (In v vs → In v (seen ++ (w ∷ [])) → ⊥) → ⊥
      go (here e) ih = m (rw e at k)
      go (further d h) ih = ih h (in_left v seen (w ∷ []) k)

  -- each is below n
  pub fresh_lt : {seen vs : List ℕ} → Fresh n seen vs → (i : ℕ) → i < length vs → get_or vs i 0 < n
  fresh_lt none i h = absurd (not-suc-le-zero h)
  fresh_lt (more l m f) zero h = l
  fresh_lt (more l m f) (suc i) h = fresh_lt f i (le_of_suc-le-suc h)

  -- each stands at its index
  pub fresh_index : {seen vs : List ℕ} → Fresh n seen vs → (i : ℕ) → i < length vs → index_of (get_or vs i 0) vs ≡ i
  fresh_index none i h = absurd (not-suc-le-zero h)
  fresh_index (more {v} {vs} l m f) zero h = index_here v v vs refl
  fresh_index (more {v} {seen} {vs} l m f) (suc i) h =
      let k : i < length vs = le_of_suc-le-suc h in
      index_further (get_or vs i 0) v vs (λ e. fresh_not f (get_or vs i 0) (in_get_d vs i k) (rw e (in_right v seen (v ∷ []) (in_head v [])))) ∙ ap suc (fresh_index f i k)

  -- vertices that are read are fresh, and are listed after those before
  pub read_vertices_lem : (p : List ℕ) (todo o : ℕ) (seen all : List ℕ) → read_vertices n p todo o seen ≡ ok all
      → (vs : List ℕ) × (all ≡ seen ++ vs) × Fresh n seen vs × (length vs ≡ todo)
  unfolding read_vertices
  read_vertices_lem p zero o seen all e = ([], sym (ok_injective e) ∙ sym (append-nil seen), none, refl)
  read_vertices_lem p (suc todo) o seen all e =
      let one = bound _ _ _ e in
      let two = passed _ _ _ _ _ one.2 in
      let v = one.0 in
      let ih = read_vertices_lem p todo (o + 1) (seen ++ (v ∷ [])) all two.1 in
      (v ∷ ih.0, ih.1 ∙ append_assoc seen (v ∷ []) ih.0, more (ltb→lt _ _ (and_left _ _ two.0)) (T_not (member v seen) (and_right _ _ two.0)) ih.2, ap suc ih.3)

-- ---- zones as they are read

-- zones of a kind and a size that may be, with fresh vertices
pub data Zones (n : ℕ) : List ℕ → List Zone → Type 0 where
  no_zone_lem : {seen : List ℕ} → Zones n seen []
  a_zone : {z : Zone} {seen : List ℕ} {zs : List Zone} → 1 ≤ z.kind → z.kind ≤ 4 → least_size z.kind ≤ length z.vertices
      → Fresh n seen z.vertices → Zones n (seen ++ z.vertices) zs → Zones n seen (z ∷ zs)

-- what a place past the last zone gives
abbrev pub no_zone : Zone
no_zone = record { kind = 0; vertices = [] }

-- a vertex of the first zone
zone_here : (i v : ℕ) (y : Zone) (zs : List Zone) → In v y.vertices → zone_from i (y ∷ zs) v ≡ i
unfolding zone_from
zone_here i v y zs h = rw (true_of {b = member v y.vertices} h, zone_from)

-- a vertex of a later one
zone_further : (i v : ℕ) (y : Zone) (zs : List Zone) → (In v y.vertices → ⊥) → zone_from i (y ∷ zs) v ≡ zone_from (i + 1) zs v
unfolding zone_from
zone_further i v y zs h = rw (false_of {b = member v y.vertices} h, zone_from)

-- a zone's head that is read has a kind and a size that may be
read_head_lem : (p : List ℕ) (o : ℕ) (h : Head) → read_head p o ≡ ok h → (1 ≤ h.kind) × (h.kind ≤ 4) × (least_size h.kind ≤ h.size)
unfolding read_head
read_head_lem p o h e =
    let k = bound _ _ _ e in
    let c = passed _ _ _ _ _ k.2 in
    let s = bound _ _ _ c.1 in
    let l = passed _ _ _ _ _ s.2 in
    rw (← ok_injective l.1) (leb→le _ _ (and_left _ _ c.0), leb→le _ _ (and_right _ _ c.0), leb→le _ _ l.0)

module _ {n : ℕ} where
  -- a zone that is read and the zones after it
  zone_after : (h : Head) (seen vs all : List ℕ) (zs : List Zone) → (1 ≤ h.kind) × (h.kind ≤ 4) × (least_size h.kind ≤ h.size) → all ≡ seen ++ vs → Fresh n seen vs → length vs ≡ h.size
      → Zones n all zs → Zones n seen (record { kind = h.kind; vertices = drop (length seen) all } ∷ zs)
  zone_after h seen vs all zs k e f l r =
      let least : least_size h.kind ≤ length vs = rw l k.2 in
      let rest : Zones n (seen ++ vs) zs = rw e at r in
      let d : drop (length seen) all ≡ vs = ap (drop (length seen)) e ∙ drop_at seen vs (length seen) refl in
      rw d (a_zone k.0 k.1 least f rest)

  -- zones that are read are so, and are listed after those before
  pub read_zones_lem : (p : List ℕ) (todo o : ℕ) (ys : List Zone) (seen : List ℕ) (r : Read (List Zone)) → read_zones n p todo o ys seen ≡ ok r
      → (zs : List Zone) × (r.it ≡ ys ++ zs) × Zones n seen zs
  unfolding read_zones
  read_zones_lem p zero o ys seen r e = ([], ap (λ r. r.it) (sym (ok_injective e)) ∙ sym (append-nil ys), no_zone_lem)
  read_zones_lem p (suc todo) o ys seen r e =
      let h = bound _ _ _ e in
      let v = bound _ _ _ h.2 in
      let k = read_head_lem p o h.0 h.1 in
      let f = read_vertices_lem p h.0.size (o + 2) seen v.0 v.1 in
      let y : Zone = record { kind = h.0.kind; vertices = drop (length seen) v.0 } in
      let ih = read_zones_lem p todo (o + 2 + h.0.size) (ys ++ (y ∷ [])) v.0 r v.2 in
      (y ∷ ih.0, ih.1 ∙ append_assoc ys (y ∷ []) ih.0, zone_after h.0 seen f.0 v.0 ih.0 k f.1 f.2 f.3 ih.2)

  -- no vertex of a zone was seen before
  pub zones_not : {seen : List ℕ} {zs : List Zone} → Zones n seen zs → (z v : ℕ) → z < length zs → In v (get_or zs z no_zone).vertices → In v seen → ⊥
  zones_not no_zone_lem z v h i k = not-suc-le-zero h
  zones_not (a_zone a b c f r) zero v h i k = fresh_not f v i k
  zones_not (a_zone {z = y} {seen} a b c f r) (suc z) v h i k = zones_not r z v (le_of_suc-le-suc h) i (in_left v seen y.vertices k)

  -- the vertices of a zone are fresh
  pub zones_fresh : {seen : List ℕ} {zs : List Zone} → Zones n seen zs → (z : ℕ) → z < length zs
      → (seen' : List ℕ) × Fresh n seen' (get_or zs z no_zone).vertices
  zones_fresh no_zone_lem z h = absurd (not-suc-le-zero h)
  zones_fresh (a_zone {seen} a b c f r) zero h = (seen, f)
  zones_fresh (a_zone a b c f r) (suc z) h = zones_fresh r z (le_of_suc-le-suc h)

  -- the kind and the size of a zone
  pub zones_kind : {seen : List ℕ} {zs : List Zone} → Zones n seen zs → (z : ℕ) → z < length zs
      → (1 ≤ (get_or zs z no_zone).kind) × ((get_or zs z no_zone).kind ≤ 4) × (least_size (get_or zs z no_zone).kind ≤ length (get_or zs z no_zone).vertices)
  zones_kind no_zone_lem z h = absurd (not-suc-le-zero h)
  zones_kind (a_zone a b c f r) zero h = (a, b, c)
  zones_kind (a_zone a b c f r) (suc z) h = zones_kind r z (le_of_suc-le-suc h)

  -- the zone of a vertex is the one that lists it
  pub zones_at : {seen : List ℕ} {zs : List Zone} → Zones n seen zs → (i z v : ℕ) → z < length zs → In v (get_or zs z no_zone).vertices → zone_from i zs v ≡ i + z
  zones_at no_zone_lem i z v h k = absurd (not-suc-le-zero h)
  zones_at (a_zone {z = y} {seen} {zs} a b c f r) i zero v h k = zone_here i v y zs k ∙ sym (add-zero i)
  zones_at (a_zone {z = y} {seen} {zs} a b c f r) i (suc z) v h k =
      zone_further i v y zs (λ t. zones_not r z v (le_of_suc-le-suc h) k (in_right v seen y.vertices t))
      ∙ zones_at r (i + 1) z v (le_of_suc-le-suc h) k ∙ omega arith

-- v is in zone z
abbrev InZone : List Zone → ℕ → ℕ → Type 0
InZone zs v z = (z < length zs) × In v (get_or zs z no_zone).vertices

-- a listed vertex is in some zone
pub zone_with : (zs : List Zone) (v : ℕ) → In v (listed zs) → (z : ℕ) × InZone zs v z
unfolding listed
zone_with [] v h = absurd (unfold member in h)
zone_with (y ∷ zs) v h = go (in_append v y.vertices (listed zs) h) (zone_with zs v)
  where
    go : In v y.vertices ⊎ In v (listed zs) → (In v (listed zs) → (z : ℕ) × InZone zs v z) → (z : ℕ) × InZone (y ∷ zs) v z
    go (inl h) ih = (0, (omega arith, h))
    go (inr h) ih = let w = ih h in (suc w.0, (omega (arith, w.1.0), w.1.1))
