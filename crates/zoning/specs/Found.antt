-- What the zones are once they are read: the arrays hold them, and every vertex has a zone or not.
use Rattle.std.specs.Prelude.{ℕ, ◌+◌, ◌≤◌, ◌<◌, ◌≡◌, ◌⊎◌, zero, suc, refl, min, Bool, true, false, ◌&&◌, Result, IfOk, not, List, [], ◌∷◌, map, length, take, get_or, eqb}
use Rattle.std.proofs.Common.{ap, sym, ◌∙◌, inl, inr, eqb-true, arith}
use Rattle.std.proofs.lemmas.Bool.{eqb-false}
use Rattle.std.proofs.Math.Seq.{take-suc}
use Rattle.std.proofs.Math.ListN.{get_or-eq_default}
use Rattle.std.proofs.lemmas.List.Folds.{list_all-append}
use Rattle.std.specs.List.{list_all}
use Rattle.spec.specs.Outcome.{member, below}
use Rattle.spec.specs.Layout.{Zone, Read, read_zones, listed, zone_from}
use Rattle.theory.specs.Basics.Lists.{get_d_default}
use Rattle.wire.specs.Payload.{lt_or_ge}
use Rattle.kinds.specs.Tests.{below_same}
use Rattle.numbering.specs.Kind.{number_of}
use Rattle.zoning.specs.declared.MapFault.{MapFault}
use Rattle.zoning.specs.declared.Zones.{Zones}
use Rattle.zoning.specs.declared.reading.Listing.{Listing}
use Rattle.zoning.specs.Fault.{answered}
use Rattle.zoning.specs.Zones.{Heads, zones_in, place_from}
use Rattle.zoning.specs.Reading.{GoingAll}

abbrev pub heads_of : Zones → Heads
heads_of r = record { kind = map number_of r.kind; first = r.first; size = r.size }

abbrev pub zones_read : Zones → ℕ → Read (List Zone)
zones_read r c = record { it = zones_in (heads_of r) r.listed c; next = r.next }

-- the arrays hold c zones, and the tables say the zone and place of each vertex
pub record ZonesHeld (h : Heads) (l zone place : List ℕ) (c : ℕ) : Type 0 where
  pub inside : (j : ℕ) → j < c → get_or h.first j 0 + get_or h.size j 0 ≤ 128
  pub zoned : (v : ℕ) → get_or zone v 255 ≡ zone_from 0 (zones_in h l c) v
  pub placed : (v : ℕ) → get_or place v 0 ≡ place_from (zones_in h l c) v
  pub marks : (v : ℕ) → member v (listed (zones_in h l c)) ≡ not (eqb (get_or zone v 255) 255)
  pub long_listed : length l ≡ 128
  pub long_zone : length zone ≡ 128
  pub long_place : length place ≡ 128
  pub long_kind : length h.kind ≡ 64
  pub long_first : length h.first ≡ 64
  pub long_size : length h.size ≡ 64

-- the zones are read, or refused
pub record ZonesAre (p : List ℕ) (n z : ℕ) (r : Result Zones MapFault) : Type 0 where
  pub answer : read_zones n p z 2 [] [] ≡ answered (λ t. zones_read t z) r
  pub tables : IfOk r (λ t. ZonesHeld (heads_of t) t.listed t.zone t.place z)

pub all_held : (p : List ℕ) (n z : ℕ) (h : Heads) (t : Listing) (i o : ℕ) → GoingAll p n z h t i o → i ≡ z → ZonesHeld h t.listed t.zone t.place z
all_held p n z h t i o a e = rw (← e) (record {
  inside = λ j l. let x = a.inside j l in omega (arith, a.rep.room);
  zoned = a.zoned;
  placed = a.placed;
  marks = λ v. ap (member v) a.whole ∙ a.rep.marks v;
  long_listed = a.rep.long_listed;
  long_zone = a.rep.long_zone;
  long_place = a.rep.long_place;
  long_kind = a.long_kind;
  long_first = a.long_first;
  long_size = a.long_size;
})

-- a vertex is listed if it has a zone
pub cover_is : (n z : ℕ) (t : Zones) → n ≤ 128 → ZonesHeld (heads_of t) t.listed t.zone t.place z
    → below (λ v. member v (listed (zones_in (heads_of t) t.listed z))) n ≡ below (λ v. not (eqb (get_or t.zone v 0) 255)) n
cover_is n z t small held = below_same (λ v. member v (listed (zones_in (heads_of t) t.listed z))) (λ v. not (eqb (get_or t.zone v 0) 255)) n
    (λ v h. held.marks v ∙ ap (λ (x : ℕ). not (eqb x 255)) (get_d_default t.zone v 255 0 (omega (arith, held.long_zone))))

-- a test of each of a list's first n numbers
pub below_list : (f : ℕ → Bool) (l : List ℕ) (n : ℕ) → n ≤ length l → below (λ v. f (get_or l v 0)) n ≡ list_all f (take n l)
unfolding below
below_list f l zero h = refl
below_list f l (suc n) h =
    ap (λ (b : Bool). elim (f (get_or l n 0)) [ true ↦ b | false ↦ false ]) (below_list f l n (omega arith)) ∙ last (list_all f (take n l)) (f (get_or l n 0))
    ∙ sym (ap (list_all f) (take-suc l n 0 (omega arith)) ∙ list_all-append f (take n l) (get_or l n 0 ∷ []))
  where
    last : (a b : Bool) → elim b [ true ↦ a | false ↦ false ] ≡ (a && (b && true))
    last true true = refl
    last true false = refl
    last false true = refl
    last false false = refl

-- past the list's end there is nothing to test, where 0 passes
below_past : (f : ℕ → Bool) (l : List ℕ) (n : ℕ) → f 0 ≡ true → length l ≤ n → below (λ v. f (get_or l v 0)) n ≡ below (λ v. f (get_or l v 0)) (length l)
unfolding below
below_past f l zero pass h = let e : zero ≡ length l = omega arith in ap (below (λ v. f (get_or l v 0))) e
below_past f l (suc n) pass h = go (eqb (length l) (suc n)) refl (below_past f l n pass)
  where
    go : (b : Bool) → eqb (length l) (suc n) ≡ b → (length l ≤ n → below (λ v. f (get_or l v 0)) n ≡ below (λ v. f (get_or l v 0)) (length l))
        → below (λ v. f (get_or l v 0)) (suc n) ≡ below (λ v. f (get_or l v 0)) (length l)
    go true e ih = ap (below (λ v. f (get_or l v 0))) (sym (eqb-true (length l) (suc n) e))
    go false e ih =
        let d = eqb-false (length l) (suc n) e in
        let q : length l ≤ n = omega arith in
        rw (get_or-eq_default l 0 {n = n} q, pass) (ih q)

-- the same test of as many numbers as the list has of them
pub below_held : (f : ℕ → Bool) (l : List ℕ) (n k : ℕ) → f 0 ≡ true → k ≡ min n (length l) → below (λ v. f (get_or l v 0)) n ≡ list_all f (take k l)
below_held f l n k pass e = go (lt_or_ge (length l) n)
  where
    go : (length l < n) ⊎ (n ≤ length l) → below (λ v. f (get_or l v 0)) n ≡ list_all f (take k l)
    go (inl h) = let q : length l ≡ k = omega arith in below_past f l n pass (omega arith) ∙ below_list f l (length l) (omega arith) ∙ ap (λ (i : ℕ). list_all f (take i l)) q
    go (inr h) = let q : n ≡ k = omega arith in below_list f l n h ∙ ap (λ (i : ℕ). list_all f (take i l)) q
