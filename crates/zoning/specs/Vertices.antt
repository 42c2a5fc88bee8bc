-- The vertices of one zone, read one by one: what the tables hold after each, and every way out.
use Prim.Native.Nat.{ℕ, zero, suc, ◌+◌, ◌-◌, ◌≤◌, ◌<◌}
use Rattle.std.specs.Prelude.{◌≡◌, refl, Result, IfOk, Bool, false, length, get_or, take, drop, set, eqb, ltb}
use Rattle.std.proofs.Math.Path.{ap}
use Rattle.std.proofs.Common.{ap₂, sym, ◌∙◌, length-drop, get_or-set_same, get_or-set_other, take-suc-set, length-take-le, add-one}
use Rattle.std.proofs.Math.Bool.{true, not}
use mathlib.Core.List.{List, [], ◌∷◌, ◌++◌}
use Rattle.std.proofs.Math.ListN.{length-set}
use Rattle.std.proofs.Math.Seq.{take-set-le}
use Rattle.std.proofs.lemmas.List.{drop-set-add}
use borrow.Author.Tests.{eqb-true, eqb-false, lt-ltb, le-ltb, ne_eqb}
use native.Mathlib.Omega.{arith}
use Rattle.spec.specs.Outcome.{ok, ◌>>=◌, ◌>>◌, check, member, index_of, refuse, ◌and◌}
use Rattle.spec.specs.Layout.{byte_at, read_vertices}
use Rattle.theory.specs.Basics.Lists.{get_d_default}
use Rattle.zoning.specs.declared.MapFault.{MapFault}
use Rattle.zoning.specs.declared.reading.Listing.{Listing}
use Rattle.zoning.specs.Fault.{answered}
use Rattle.zoning.specs.Table.{seen, newly, pick, Rep, snoc_here, snoc_there, index_last, index_stays, free_set}

-- k of the `size` vertices of zone z are read after those of s
pub record Going (p : List ℕ) (n z size from : ℕ) (s t : Listing) (k : ℕ) : Type 0 where
  pub rep : Rep t
  pub used : t.used ≡ s.used + k
  pub before : take s.used t.listed ≡ take s.used s.listed
  pub zoned : (v : ℕ) → get_or t.zone v 255 ≡ pick (member v (newly s t k)) z (get_or s.zone v 255)
  pub placed : (v : ℕ) → get_or t.place v 0 ≡ pick (member v (newly s t k)) (index_of v (newly s t k)) (get_or s.place v 0)
  pub fresh : (v : ℕ) → member v (newly s t k) ≡ true → get_or s.zone v 255 ≡ 255
  pub rest : read_vertices n p size from (seen s) ≡ read_vertices n p (size - k) (from + k) (seen t)

-- the vertices of a zone are read, or refused
pub record VerticesAre (p : List ℕ) (n z size from : ℕ) (s t : Listing) (r : Result (Unit {0}) MapFault) : Type 0 where
  pub answer : read_vertices n p size from (seen s) ≡ answered (λ _. seen t) r
  pub going : IfOk r (λ _. Going p n z size from s t size)

-- ---- the definition's reader

module _ (p : List ℕ) (n o : ℕ) (done : List ℕ) where
  vertices_short : (todo : ℕ) → 0 < todo → byte_at 15 p o ≡ refuse 15 o → read_vertices n p todo o done ≡ refuse 15 o
  unfolding read_vertices ◌>>=◌
  vertices_short zero h e = absurd (omega arith)
  vertices_short (suc todo) h e = rw e

  module _ (v : ℕ) (there : byte_at 15 p o ≡ ok v) where
    vertices_bad : (todo : ℕ) → 0 < todo → (ltb v n and not (member v done)) ≡ false → read_vertices n p todo o done ≡ refuse 17 o
    unfolding read_vertices ◌>>=◌ ◌>>◌ check
    vertices_bad zero h e = absurd (omega arith)
    vertices_bad (suc todo) h e = rw (there, e)

    vertices_more : (todo : ℕ) → 0 < todo → (ltb v n and not (member v done)) ≡ true
        → read_vertices n p todo o done ≡ read_vertices n p (todo - 1) (o + 1) (done ++ (v ∷ []))
    unfolding read_vertices ◌>>=◌ ◌>>◌ check
    vertices_more zero h e = absurd (omega arith)
    vertices_more (suc todo) h e = let a : suc todo - 1 ≡ todo = omega arith in rw (there, e, a)

-- ---- one vertex more

-- the table with vertex v at the place k of zone z
abbrev pub stepped : Listing → ℕ → ℕ → ℕ → Listing
stepped t v z k = record {
  used = t.used + 1;
  listed = set t.listed t.used v;
  zone = set t.zone v z;
  place = set t.place v k;
}

-- the listing has room for one that has no zone
pub space : (t : Listing) (v : ℕ) → Rep t → v < 128 → get_or t.zone v 255 ≡ 255 → t.used < 128
space t v r small empty = omega (arith, free_set t.zone v 0 (omega (arith, r.long_zone)) empty (λ (e : 0 ≡ 255). omega arith), r.room)

module _ (p : List ℕ) (n z size from : ℕ) (s t : Listing) (k : ℕ) (g : Going p n z size from s t k) (v : ℕ) (small : v < 128) (empty : get_or t.zone v 255 ≡ 255) (few : z < 64) where
  room : t.used < length t.listed
  room = omega (arith, g.rep.long_listed, space t v g.rep small empty)

  seen_more : seen (stepped t v z k) ≡ seen t ++ (v ∷ [])
  seen_more = rw (add-one t.used) (take-suc-set t.listed t.used v room)

  newly_more : newly s (stepped t v z k) (k + 1) ≡ newly s t k ++ (v ∷ [])
  newly_more =
      ap (λ (u : ℕ). take (k + 1) (drop s.used (set t.listed u v))) g.used
      ∙ rw (add-one k, drop-set-add s.used t.listed k v) (take-suc-set (drop s.used t.listed) k v (omega (arith, length-drop s.used t.listed, g.used, room)))

  newly_length : length (newly s t k) ≡ k
  newly_length = length-take-le k (drop s.used t.listed) (omega (arith, length-drop s.used t.listed, g.used, room))

  -- it was not listed in this zone before
  not_newly : member v (newly s t k) ≡ false
  not_newly = go (member v (newly s t k)) refl
    where
      go : (b : Bool) → member v (newly s t k) ≡ b → member v (newly s t k) ≡ false
      go true e =
          let x : get_or t.zone v 255 ≡ z = g.zoned v ∙ ap (λ (b : Bool). pick b z (get_or s.zone v 255)) e in
          absurd (omega arith)
      go false e = e

  old_empty : get_or s.zone v 255 ≡ 255
  old_empty = ap (λ (b : Bool). pick b z (get_or s.zone v 255)) (sym not_newly) ∙ sym (g.zoned v) ∙ empty

  marks_more : (w : ℕ) → member w (seen (stepped t v z k)) ≡ not (eqb (get_or (set t.zone v z) w 255) 255)
  marks_more w = ap (member w) seen_more ∙ go (eqb w v) refl
    where
      go : (b : Bool) → eqb w v ≡ b → member w (seen t ++ (v ∷ [])) ≡ not (eqb (get_or (set t.zone v z) w 255) 255)
      go true e =
          let q = eqb-true w v e in
          rw (q, snoc_here v (seen t), get_or-set_same t.zone v z 255 (omega (arith, g.rep.long_zone)), ne_eqb z 255 (λ (i : z ≡ 255). omega arith))
      go false e =
          let q = eqb-false w v e in
          snoc_there w v (seen t) q ∙ g.rep.marks w ∙ rw (get_or-set_other t.zone v w z 255 q)

  zoned_more : (w : ℕ) → get_or (set t.zone v z) w 255 ≡ pick (member w (newly s t k ++ (v ∷ []))) z (get_or s.zone w 255)
  zoned_more w = go (eqb w v) refl
    where
      go : (b : Bool) → eqb w v ≡ b → get_or (set t.zone v z) w 255 ≡ pick (member w (newly s t k ++ (v ∷ []))) z (get_or s.zone w 255)
      go true e =
          let q = eqb-true w v e in
          rw (q, snoc_here v (newly s t k)) (get_or-set_same t.zone v z 255 (omega (arith, g.rep.long_zone)))
      go false e =
          let q = eqb-false w v e in
          get_or-set_other t.zone v w z 255 q ∙ g.zoned w ∙ ap (λ (b : Bool). pick b z (get_or s.zone w 255)) (sym (snoc_there w v (newly s t k) q))

  placed_more : (w : ℕ) → get_or (set t.place v k) w 0 ≡ pick (member w (newly s t k ++ (v ∷ []))) (index_of w (newly s t k ++ (v ∷ []))) (get_or s.place w 0)
  placed_more w = go (eqb w v) refl
    where
      old : (b : Bool) → member w (newly s t k) ≡ b → pick b (index_of w (newly s t k)) (get_or s.place w 0) ≡ pick b (index_of w (newly s t k ++ (v ∷ []))) (get_or s.place w 0)
      old true e = sym (index_stays w v (newly s t k) e)
      old false e = refl

      go : (b : Bool) → eqb w v ≡ b → get_or (set t.place v k) w 0 ≡ pick (member w (newly s t k ++ (v ∷ []))) (index_of w (newly s t k ++ (v ∷ []))) (get_or s.place w 0)
      go true e =
          let q = eqb-true w v e in
          rw (q, snoc_here v (newly s t k), index_last v (newly s t k) not_newly, newly_length) (get_or-set_same t.place v k 0 (omega (arith, g.rep.long_place)))
      go false e =
          let q = eqb-false w v e in
          get_or-set_other t.place v w k 0 q ∙ g.placed w ∙ old (member w (newly s t k)) refl
          ∙ ap (λ (b : Bool). pick b (index_of w (newly s t k ++ (v ∷ []))) (get_or s.place w 0)) (sym (snoc_there w v (newly s t k) q))

  fresh_more : (w : ℕ) → member w (newly s t k ++ (v ∷ [])) ≡ true → get_or s.zone w 255 ≡ 255
  fresh_more w h = go (eqb w v) refl
    where
      go : (b : Bool) → eqb w v ≡ b → get_or s.zone w 255 ≡ 255
      go true e = ap (λ (x : ℕ). get_or s.zone x 255) (eqb-true w v e) ∙ old_empty
      go false e = g.fresh w (sym (snoc_there w v (newly s t k) (eqb-false w v e)) ∙ h)

  pub going_more : k < size → byte_at 15 p (from + k) ≡ ok v → v < n → Going p n z size from s (stepped t v z k) (k + 1)
  unfolding ◌and◌
  going_more h e b = record {
    rep = record {
      marks = marks_more;
      room = omega (arith, free_set t.zone v z (omega (arith, g.rep.long_zone)) empty (λ (e : z ≡ 255). omega arith), g.rep.room);
      long_listed = length-set t.listed t.used v ∙ g.rep.long_listed;
      long_zone = length-set t.zone v z ∙ g.rep.long_zone;
      long_place = length-set t.place v k ∙ g.rep.long_place;
    };
    used = omega (arith, g.used);
    before = take-set-le s.used t.listed t.used v (omega (arith, g.used)) ∙ g.before;
    zoned = λ w. zoned_more w ∙ ap (λ (l : List ℕ). pick (member w l) z (get_or s.zone w 255)) (sym newly_more);
    placed = λ w. placed_more w ∙ ap (λ (l : List ℕ). pick (member w l) (index_of w l) (get_or s.place w 0)) (sym newly_more);
    fresh = λ w h. fresh_more w (ap (member w) (sym newly_more) ∙ h);
    rest = g.rest ∙ step;
  }
    where
      fine : (ltb v n and not (member v (seen t))) ≡ true
      fine = rw (lt-ltb v n b, g.rep.marks v, empty)

      a1 : size - k - 1 ≡ size - (k + 1)
      a1 = omega arith

      a2 : from + k + 1 ≡ from + (k + 1)
      a2 = omega arith

      step : read_vertices n p (size - k) (from + k) (seen t) ≡ read_vertices n p (size - (k + 1)) (from + (k + 1)) (seen (stepped t v z k))
      step = vertices_more p n (from + k) (seen t) v e (size - k) (omega arith) fine
          ∙ ap₂ (λ (x y : ℕ). read_vertices n p x y (seen t ++ (v ∷ []))) a1 a2
          ∙ ap (read_vertices n p (size - (k + 1)) (from + (k + 1))) (sym seen_more)

-- ---- the ways out

pub going_start : (p : List ℕ) (n z size from : ℕ) (s : Listing) → Rep s → Going p n z size from s s 0
unfolding member
going_start p n z size from s r = record {
  rep = r;
  used = omega arith;
  before = refl;
  zoned = λ v. refl;
  placed = λ v. refl;
  fresh = λ v h. cc;
  rest = ap₂ (λ (a b : ℕ). read_vertices n p a b (seen s)) a1 a2;
}
  where
    a1 : size ≡ size - 0
    a1 = omega arith

    a2 : from ≡ from + 0
    a2 = omega arith

module _ (p : List ℕ) (n z size from : ℕ) (s t : Listing) (k : ℕ) (g : Going p n z size from s t k) (more : k < size) where
  -- the payload ends
  pub going_short : byte_at 15 p (from + k) ≡ refuse 15 (from + k) → read_vertices n p size from (seen s) ≡ refuse 15 (from + k)
  going_short e = g.rest ∙ vertices_short p n (from + k) (seen t) (size - k) (omega arith) e

  module _ (v : ℕ) (there : byte_at 15 p (from + k) ≡ ok v) where
    -- the vertex is not below n
    pub going_over : n ≤ v → read_vertices n p size from (seen s) ≡ refuse 17 (from + k)
    unfolding ◌and◌
    going_over b = g.rest ∙ vertices_bad p n (from + k) (seen t) v there (size - k) (omega arith) (rw (le-ltb v n b))

    -- the vertex is listed already
    pub going_twice : n ≤ 128 → v < n → (get_or t.zone v 0 ≡ 255 → ⊥) → read_vertices n p size from (seen s) ≡ refuse 17 (from + k)
    unfolding ◌and◌
    going_twice few b w =
        let d : (get_or t.zone v 255 ≡ 255 → ⊥) = λ e. w (get_d_default t.zone v 0 255 (omega (arith, g.rep.long_zone)) ∙ e) in
        g.rest ∙ vertices_bad p n (from + k) (seen t) v there (size - k) (omega arith)
        (rw (lt-ltb v n b, g.rep.marks v, ne_eqb _ _ d))

-- all are read
pub going_end : (p : List ℕ) (n z size from : ℕ) (s t : Listing) → Going p n z size from s t size → read_vertices n p size from (seen s) ≡ ok (seen t)
unfolding read_vertices
going_end p n z size from s t g = let e : size - size ≡ 0 = omega arith in g.rest ∙ ap (λ (x : ℕ). read_vertices n p x (from + size) (seen t)) e
