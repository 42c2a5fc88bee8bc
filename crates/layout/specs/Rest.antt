-- What comes after the zones: the test that every vertex has a zone, the edges and the kinds, in the order of the definition.
use Rattle.std.specs.Prelude.{ℕ, ◌+◌, ◌≤◌, ◌≡◌, refl, Result, Ok, Err, OnOk, Bool, true, false, not, get_or, eqb}
use Rattle.std.proofs.Common.{ap, sym, ◌∙◌}
use mathlib.Core.List.{List, []}
use Rattle.spec.specs.Outcome.{Outcome, ok, refuse, ◌>>=◌, ◌>>◌, check, member, below}
use Rattle.spec.specs.Layout.{Map, Edge, read_zones, listed, counts_of, zones_of, edges_of, kinds_from, map_of}
use Rattle.theory.specs.Basics.Outcomes.{bind, after}
use Rattle.wire.specs.Payload.{word_at}
use Rattle.adjacency.specs.Rows.{blank, rows_of, Shows, shows_none}
use Rattle.zoning.specs.declared.MapFault.{MapFault}
use Rattle.zoning.specs.declared.Counts.{Counts}
use Rattle.zoning.specs.declared.Zones.{Zones}
use Rattle.zoning.specs.Chain.{refused, refused_on}
use Rattle.zoning.specs.Fault.{number_of, fault_place, answered}
use Rattle.zoning.specs.Bytes.{held}
use Rattle.zoning.specs.Heads.{counts_in}
use Rattle.zoning.specs.Zones.{zones_in}
use Rattle.zoning.specs.Found.{ZonesAre, heads_of, zones_read, cover_is}
use Rattle.edging.specs.Edges.{edges_at, EdgesFound}
use Rattle.layout.specs.Kinds.{Ready, ready}

abbrev pub map_at : ℕ → Zones → ℕ → List Edge → Map
map_at n t z es = record { size = n; zones = zones_in (heads_of t) t.listed z; edges = es }

-- does every vertex stand in a zone
abbrev pub cover_of : ℕ → Zones → ℕ → Bool
cover_of n t z = below (λ v. member v (listed (zones_in (heads_of t) t.listed z))) n

-- the test that every vertex has a zone, edges and kinds, after the zones
unfoldable pub rest_of : List ℕ → ℕ → Zones → ℕ → Outcome Map
rest_of p n t z = check (cover_of n t z) 17 t.next >> edges_of n p t.next >>= (λ es. kinds_from (map_at n t z es) 0 (zones_in (heads_of t) t.listed z) >> ok (map_at n t z es))

-- a value that is tested and handed on
tested : {A B C : Type 0} (b : Bool) (r o : ℕ) (a : A) (g : A → Outcome C) (e : Outcome B) (k : B → Outcome C) → g a ≡ (e >>= k)
    → (check b r o >> ok a >>= g) ≡ (check b r o >> e >>= k)
unfolding check ◌>>◌ ◌>>=◌
tested true r o a g e k h = h
tested false r o a g e k h = refl

module _ (p : List ℕ) where
  pub map_counts : (r q : ℕ) → counts_of p ≡ refuse r q → map_of p ≡ refuse r q
  unfolding map_of
  map_counts r q e = refused (counts_of p) r q _ e

  module _ (c : Counts) (counts : counts_of p ≡ ok (counts_in c)) where
    pub map_zones : (r q : ℕ) → read_zones c.vertices p c.zones 2 [] [] ≡ refuse r q → map_of p ≡ refuse r q
    unfolding map_of zones_of
    map_zones r q e = bind (counts_of p) (counts_in c) _ counts ∙ refused (zones_of p (counts_in c)) r q _ (refused (read_zones c.vertices p c.zones 2 [] []) r q _ e)

    pub map_rest : (t : Zones) → ZonesAre p c.vertices c.zones (Ok t) → map_of p ≡ rest_of p c.vertices t c.zones
    unfolding map_of zones_of rest_of
    map_rest t zones =
        let w : zones_of p (counts_in c) ≡ (check (cover_of c.vertices t c.zones) 17 t.next >> ok (zones_read t c.zones)) =
        bind (read_zones c.vertices p c.zones 2 [] []) (zones_read t c.zones) _ zones.answer in
        bind (counts_of p) (counts_in c) _ counts ∙ rw w (tested (cover_of c.vertices t c.zones) 17 t.next (zones_read t c.zones) _ _ _ refl)

-- the edges that were read
abbrev pub edges_in : List ℕ → Zones → List Edge
edges_in file t = edges_at file (t.next + 2) (word_at file t.next)

-- edges and kinds are read and tested, or refused
pub record RestIs (file : List ℕ) (m n : ℕ) (t : Zones) (z : ℕ) (rows : List (List ℕ)) (r : Result (Unit {0}) MapFault) : Type 0 where
  pub answer : rest_of (held file m) n t z ≡ answered (λ _. map_at n t z (edges_in file t)) r
  pub entered : OnOk r (rows ≡ rows_of (edges_in file t))
  pub shown : OnOk r (Shows rows (edges_in file t))

module _ (file : List ℕ) (m n : ℕ) (t : Zones) (z : ℕ) (small : n ≤ 128) (few : z ≤ 64) (found : ZonesAre (held file m) n z (Ok t))
    (covered : Bool) (cover : covered ≡ below (λ v. not (eqb (get_or t.zone v 0) 255)) n) (rows : List (List ℕ)) where
  cover_same : (check covered 17 t.next >> edges_of n (held file m) t.next) ≡ (check (cover_of n t z) 17 t.next >> edges_of n (held file m) t.next)
  cover_same = ap (λ (b : Bool). check b 17 t.next >> edges_of n (held file m) t.next) (cover ∙ sym (cover_is n z t small found.tables))

  pub rest_refused : (f : MapFault) → EdgesFound file m n covered t.next blank rows (Err f) → RestIs file m n t z rows (Err f)
  unfolding rest_of
  rest_refused f edges = record {
    answer = refused (check (cover_of n t z) 17 t.next >> edges_of n (held file m) t.next) (number_of f) (fault_place f) _ (sym cover_same ∙ edges.answer);
    entered = tt;
    shown = tt;
  }

  module _ (edges : EdgesFound file m n covered t.next blank rows (Ok tt)) where
    -- the zones may be tested
    pub rest_ready : Ready rows (map_at n t z (edges_in file t)) (heads_of t) t.listed t.zone z
    rest_ready = ready (held file m) n z small few (heads_of t) t.listed t.zone t.place t.next found.answer found.tables rows (word_at file t.next) (t.next + 2) (edges_in file t) edges.read (edges.shown small shows_none)

    step : rest_of (held file m) n t z ≡ (kinds_from (map_at n t z (edges_in file t)) 0 (zones_in (heads_of t) t.listed z) >> ok (map_at n t z (edges_in file t)))
    unfolding rest_of
    step = bind (check (cover_of n t z) 17 t.next >> edges_of n (held file m) t.next) (edges_in file t) _ (sym cover_same ∙ edges.answer)

    pub rest_tested : (r : Result (Unit {0}) MapFault) → kinds_from (map_at n t z (edges_in file t)) 0 (zones_in (heads_of t) t.listed z) ≡ answered (λ _. tt) r → RestIs file m n t z rows r
    rest_tested (Ok u) kinds = record {
      answer = step ∙ after (kinds_from (map_at n t z (edges_in file t)) 0 (zones_in (heads_of t) t.listed z)) tt _ kinds;
      entered = edges.entered;
      shown = edges.shown small shows_none;
    }
    rest_tested (Err f) kinds = record {
      answer = step ∙ refused_on (kinds_from (map_at n t z (edges_in file t)) 0 (zones_in (heads_of t) t.listed z)) (number_of f) (fault_place f) _ kinds;
      entered = tt;
      shown = tt;
    }
