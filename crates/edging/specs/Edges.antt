-- The edges of a map, read into the rows.
use Prim.Native.Nat.{ℕ, zero, suc, ◌+◌, ◌-◌, ◌*◌, ◌≤◌, ◌<◌}
use Rattle.std.specs.Prelude.{◌≡◌, ◌⊎◌, Option, Some, None, Result, Ok, Err, IfOk, OnOk, if◌then◌else◌, nat_lt, Bool, true, false, List, [], ◌∷◌, ◌++◌, length, get_or, eqb, ltb, leb}
use Rattle.std.proofs.Math.Path.{refl}
use Rattle.std.proofs.Common.{ap, ap₂, sym, ◌∙◌, inl, inr, add-one}
use Rattle.std.proofs.Math.ListN.{get_or-eq_default}
use borrow.Author.Tests.{lt-ltb, le-ltb, le-leb, lt-leb, eq-eqb, ne_eqb, ltb-false}
use native.Mathlib.Omega.{arith}
use Rattle.spec.specs.Outcome.{ok, refuse, ◌>>=◌, ◌>>◌, check, ◌and◌}
use Rattle.spec.specs.Layout as layout
use Rattle.spec.specs.Layout.{Edge, read_edges, edges_of}
use Rattle.theory.specs.Basics.Outcomes.{bind}
use Rattle.wire.specs.Payload.{place_of, word_at, lt_or_ge}
use Rattle.adjacency.specs.Rows.{join, join_all, rows_snoc, Shows, shows_more, both}
use Rattle.zoning.specs.declared.MapFault.{MapFault}
use Rattle.zoning.specs.declared.MapFault.TheVariants.{Short, Range, Listing}
use Rattle.zoning.specs.Chain.{refused}
use Rattle.zoning.specs.Fault.{number_of, fault_place, answered}
use Rattle.zoning.specs.Bytes.{held, held_size, no_byte, a_byte, no_word, a_word, count_of}

-- a pair of payload bytes of which the first stands at `at`: where the second stands, and where the next pair begins
pub record PlacesAre (at behind next : ℕ) : Type 0 where
  pub after : at < behind
  pub second : (off : ℕ) → at ≡ place_of off → behind ≡ place_of (off + 1)
  pub third : (off : ℕ) → at ≡ place_of off → next ≡ place_of (off + 2)

abbrev pub edge_at : List ℕ → ℕ → Edge
edge_at file o = record { a = get_or file (place_of o) 0; b = get_or file (place_of (o + 1)) 0 }

-- the first k edges from payload offset o on
unfoldable pub edges_at : List ℕ → ℕ → ℕ → List Edge
edges_at file o zero = []
edges_at file o (suc k) = edges_at file o k ++ (edge_at file (o + k * 2) ∷ [])

-- k edges are read and entered
pub record GoingEdges (file : List ℕ) (m n e from : ℕ) (before rows : List (List ℕ)) (k least : ℕ) : Type 0 where
  pub entered : rows ≡ join_all before (edges_at file from k)
  pub shown : n ≤ 128 → Shows before [] → Shows rows (edges_at file from k)
  pub rest : read_edges n (held file m) e from 0 [] ≡ read_edges n (held file m) (e - k) (from + k * 2) least (edges_at file from k)

-- e edges are read and entered, or refused
pub record EdgesAre (file : List ℕ) (m n e from : ℕ) (before rows : List (List ℕ)) (r : Result ℕ MapFault) : Type 0 where
  pub answer : read_edges n (held file m) e from 0 [] ≡ answered (λ _. edges_at file from e) r
  pub behind : IfOk r (λ q. q ≡ from + e * 2)
  pub entered : OnOk r (rows ≡ join_all before (edges_at file from e))
  pub shown : OnOk r (n ≤ 128 → Shows before [] → Shows rows (edges_at file from e))

-- a count that is not 0 stands in the file
pub counted_there : (file : List ℕ) (o : ℕ) → 0 < word_at file o → o < length file
counted_there file o h = go (lt_or_ge o (length file))
  where
    go : (o < length file) ⊎ (length file ≤ o) → o < length file
    go (inl l) = l
    go (inr l) =
        let a : get_or file (place_of o) 0 ≡ 0 = get_or-eq_default file 0 {n = place_of o} (omega arith) in
        let b : get_or file (place_of (o + 1)) 0 ≡ 0 = get_or-eq_default file 0 {n = place_of (o + 1)} (omega arith) in
        absurd (omega arith)

-- the edges of a map whose zones list every vertex or not are read and entered, or refused
pub record EdgesFound (file : List ℕ) (m n : ℕ) (covered : Bool) (o : ℕ) (before rows : List (List ℕ)) (r : Result (Unit {0}) MapFault) : Type 0 where
  pub answer : (check covered 17 o >> edges_of n (held file m) o) ≡ answered (λ _. edges_at file (o + 2) (word_at file o)) r
  pub read : OnOk r (read_edges n (held file m) (word_at file o) (o + 2) 0 [] ≡ ok (edges_at file (o + 2) (word_at file o)))
  pub entered : OnOk r (rows ≡ join_all before (edges_at file (o + 2) (word_at file o)))
  pub shown : OnOk r (n ≤ 128 → Shows before [] → Shows rows (edges_at file (o + 2) (word_at file o)))

edges_more : (file : List ℕ) (o k : ℕ) → edges_at file o (k + 1) ≡ edges_at file o k ++ (edge_at file (o + k * 2) ∷ [])
unfolding edges_at
edges_more file o k = rw (add-one k)

-- ---- the definition's reader

module _ (file : List ℕ) (m n o least : ℕ) (es : List Edge) where
  edge_short : (todo : ℕ) → 0 < todo → m ≤ o → read_edges n (held file m) todo o least es ≡ refuse 15 o
  unfolding read_edges ◌>>=◌
  edge_short zero h l = absurd (omega arith)
  edge_short (suc todo) h l = rw (no_byte file m 15 o l)

  edge_half : (todo : ℕ) → 0 < todo → o < m → m ≤ o + 1 → read_edges n (held file m) todo o least es ≡ refuse 15 (o + 1)
  unfolding read_edges ◌>>=◌
  edge_half zero h g l = absurd (omega arith)
  edge_half (suc todo) h g l = rw (a_byte file m 15 o g, no_byte file m 15 (o + 1) l)

  module _ (a b : ℕ) (is-a : a ≡ get_or file (place_of o) 0) (is_b : b ≡ get_or file (place_of (o + 1)) 0) (there : o + 1 < m) where
    edge_bad : (todo : ℕ) → 0 < todo → (ltb a b and ltb b n and leb least (a * 256 + b)) ≡ false → read_edges n (held file m) todo o least es ≡ refuse 18 o
    unfolding read_edges ◌>>=◌ ◌>>◌ check
    edge_bad zero h e = absurd (omega arith)
    edge_bad (suc todo) h e = let g : o < m = omega arith in rw (a_byte file m 15 o g, a_byte file m 15 (o + 1) there, ← is-a, ← is_b, e)

    edge_more : (todo : ℕ) → 0 < todo → (ltb a b and ltb b n and leb least (a * 256 + b)) ≡ true
        → read_edges n (held file m) todo o least es ≡ read_edges n (held file m) (todo - 1) (o + 2) (a * 256 + b + 1) (es ++ (record { a = a; b = b } ∷ []))
    unfolding read_edges ◌>>=◌ ◌>>◌ check
    edge_more zero h e = absurd (omega arith)
    edge_more (suc todo) h e =
        let g : o < m = omega arith in
        let d : suc todo - 1 ≡ todo = omega arith in
        rw (a_byte file m 15 o g, a_byte file m 15 (o + 1) there, ← is-a, ← is_b, e, d)

-- ---- one edge more, and the ways out

module _ (file : List ℕ) (m n e from : ℕ) (before rows : List (List ℕ)) (k least : ℕ) (g : GoingEdges file m n e from before rows k least) (more : k < e) where
  pub edges_short : m ≤ from + k * 2 → read_edges n (held file m) e from 0 [] ≡ refuse 15 (from + k * 2)
  edges_short l = g.rest ∙ edge_short file m n (from + k * 2) least (edges_at file from k) (e - k) (omega arith) l

  pub edges_half : from + k * 2 < m → m ≤ from + k * 2 + 1 → read_edges n (held file m) e from 0 [] ≡ refuse 15 (from + k * 2 + 1)
  edges_half h l = g.rest ∙ edge_half file m n (from + k * 2) least (edges_at file from k) (e - k) (omega arith) h l

  module _ (a b : ℕ) (is-a : a ≡ get_or file (place_of (from + k * 2)) 0) (is_b : b ≡ get_or file (place_of (from + k * 2 + 1)) 0) (there : from + k * 2 + 1 < m) where
    bad : (ltb a b and ltb b n and leb least (a * 256 + b)) ≡ false → read_edges n (held file m) e from 0 [] ≡ refuse 18 (from + k * 2)
    bad w = g.rest ∙ edge_bad file m n (from + k * 2) least (edges_at file from k) a b is-a is_b there (e - k) (omega arith) w

    -- the ends are not in order
    pub edges_order : b ≤ a → read_edges n (held file m) e from 0 [] ≡ refuse 18 (from + k * 2)
    unfolding ◌and◌
    edges_order h = bad (rw (le-ltb a b h))

    -- an end is not below n
    pub edges_over : a < b → n ≤ b → read_edges n (held file m) e from 0 [] ≡ refuse 18 (from + k * 2)
    unfolding ◌and◌
    edges_over h l = bad (rw (lt-ltb a b h, le-ltb b n l))

    -- the edge does not come after the one before
    pub edges_again : a < b → b < n → a * 256 + b < least → read_edges n (held file m) e from 0 [] ≡ refuse 18 (from + k * 2)
    unfolding ◌and◌
    edges_again h l q = bad (rw (lt-ltb a b h, lt-ltb b n l, lt-leb least (a * 256 + b) q))

    longer : edges_at file from (k + 1) ≡ edges_at file from k ++ (record { a = a; b = b } ∷ [])
    longer = edges_more file from k ∙ ap₂ (λ (x y : ℕ). edges_at file from k ++ (record { a = x; b = y } ∷ [])) (sym is-a) (sym is_b)

    pub edges_good : a < b → b < n → least ≤ a * 256 + b → GoingEdges file m n e from before (join rows a b) (k + 1) (a * 256 + b + 1)
    edges_good h l q = record {
      entered = ap (λ (r : List (List ℕ)). join r a b) g.entered ∙ sym (rows_snoc before (edges_at file from k) (record { a = a; b = b })) ∙ ap (join_all before) (sym longer);
      shown = λ few s. rw longer (shows_more rows (edges_at file from k) (record { a = a; b = b }) (g.shown few s) (h, omega arith));
      rest = g.rest ∙ step ∙ ap (read_edges n (held file m) (e - (k + 1)) (from + (k + 1) * 2) (a * 256 + b + 1)) (sym longer);
    }
      where
        fine : (ltb a b and ltb b n and leb least (a * 256 + b)) ≡ true
        fine = both (lt-ltb a b h) (both (lt-ltb b n l) (le-leb least (a * 256 + b) q))

        a1 : e - k - 1 ≡ e - (k + 1)
        a1 = omega arith

        a2 : from + k * 2 + 2 ≡ from + (k + 1) * 2
        a2 = omega arith

        step : read_edges n (held file m) (e - k) (from + k * 2) least (edges_at file from k)
            ≡ read_edges n (held file m) (e - (k + 1)) (from + (k + 1) * 2) (a * 256 + b + 1) (edges_at file from k ++ (record { a = a; b = b } ∷ []))
        step = edge_more file m n (from + k * 2) least (edges_at file from k) a b is-a is_b there (e - k) (omega arith) fine
            ∙ ap₂ (λ (x y : ℕ). read_edges n (held file m) x y (a * 256 + b + 1) (edges_at file from k ++ (record { a = a; b = b } ∷ []))) a1 a2

pub edges_start : (file : List ℕ) (m n e from : ℕ) (before : List (List ℕ)) → GoingEdges file m n e from before before 0 0
unfolding edges_at join_all
edges_start file m n e from before = record {
  entered = refl;
  shown = λ few s. s;
  rest = ap₂ (λ (x y : ℕ). read_edges n (held file m) x y 0 []) a1 a2;
}
  where
    a1 : e ≡ e - 0
    a1 = omega arith

    a2 : from ≡ from + 0 * 2
    a2 = omega arith

-- all are read
pub edges_end : (file : List ℕ) (m n e from : ℕ) (before rows : List (List ℕ)) (least : ℕ) → GoingEdges file m n e from before rows e least → (q : ℕ) → q ≡ from + e * 2 → EdgesAre file m n e from before rows (Ok q)
unfolding read_edges
edges_end file m n e from before rows least g q is =
    let z : e - e ≡ 0 = omega arith in
    record {
      answer = g.rest ∙ ap (λ (x : ℕ). read_edges n (held file m) x (from + e * 2) least (edges_at file from e)) z;
      behind = is;
      entered = g.entered;
      shown = g.shown;
    }

pub edges_refused : (file : List ℕ) (m n e from : ℕ) (before rows : List (List ℕ)) (f : MapFault) → read_edges n (held file m) e from 0 [] ≡ refuse (number_of f) (fault_place f) → EdgesAre file m n e from before rows (Err f)
edges_refused file m n e from before rows f w = record { answer = w; behind = tt; entered = tt; shown = tt }

-- ---- the count before, the end behind

module _ (file : List ℕ) (m n : ℕ) (covered : Bool) (o : ℕ) (before rows : List (List ℕ)) where
  found_fault : (f : MapFault) → (check covered 17 o >> edges_of n (held file m) o) ≡ refuse (number_of f) (fault_place f) → EdgesFound file m n covered o before rows (Err f)
  found_fault f w = record { answer = w; read = tt; entered = tt; shown = tt }

  -- some vertex is in no zone, whatever comes after
  pub uncovered : covered ≡ false → EdgesFound file m n covered o before rows (Err (Listing o))
  unfolding check ◌>>◌
  uncovered h = found_fault (Listing o) (rw h)

  module _ (pass : covered ≡ true) where
    passed : (check covered 17 o >> edges_of n (held file m) o) ≡ edges_of n (held file m) o
    unfolding check ◌>>◌
    passed = rw pass

    -- every vertex has a zone, and the count's bytes are not there
    pub count_cut : count_of file m o ≡ None → EdgesFound file m n covered o before rows (Err (Short o))
    unfolding edges_of
    count_cut e = found_fault (Short o) (passed ∙ refused (layout.word_at 15 (held file m) o) 15 o _ (no_word file m 15 o (go (nat_lt (o + 1) m) refl e)))
      where
        go : (b : Bool) → nat_lt (o + 1) m ≡ b → ◌≡◌ {A = Option ℕ} (if b then Some (word_at file o) else None) None → m ≤ o + 1
        go true h e = cc
        go false h e = ltb-false (o + 1) m h

    module _ (there : o + 1 < m) where
      count_over : 2048 < word_at file o → edges_of n (held file m) o ≡ refuse 16 o
      unfolding edges_of ◌>>=◌ ◌>>◌ check
      count_over h = rw (edges_of, a_word file m 15 o there, lt-leb (word_at file o) 2048 h)

      -- there are more edges than a map may have
      pub edges_many : 2048 < word_at file o → EdgesFound file m n covered o before rows (Err (Range o))
      edges_many h = found_fault (Range o) (passed ∙ count_over h)

      module _ (few : word_at file o ≤ 2048) where
        step : edges_of n (held file m) o ≡ (read_edges n (held file m) (word_at file o) (o + 2) 0 [] >>= (λ es. check (eqb (o + 2 + word_at file o * 2) (length (held file m))) 15 (o + 2 + word_at file o * 2) >> ok es))
        unfolding edges_of ◌>>=◌ ◌>>◌ check
        step = rw (edges_of, a_word file m 15 o there, le-leb (word_at file o) 2048 few)

        pub edges_fault : (f : MapFault) → EdgesAre file m n (word_at file o) (o + 2) before rows (Err f) → EdgesFound file m n covered o before rows (Err f)
        edges_fault f a = found_fault f (passed ∙ step ∙ refused (read_edges n (held file m) (word_at file o) (o + 2) 0 []) (number_of f) (fault_place f) _ a.answer)

        module _ (q : ℕ) (a : EdgesAre file m n (word_at file o) (o + 2) before rows (Ok q)) where
          last : (check covered 17 o >> edges_of n (held file m) o) ≡ (check (eqb (o + 2 + word_at file o * 2) (length (held file m))) 15 (o + 2 + word_at file o * 2) >> ok (edges_at file (o + 2) (word_at file o)))
          last = passed ∙ step ∙ bind (read_edges n (held file m) (word_at file o) (o + 2) 0 []) (edges_at file (o + 2) (word_at file o)) _ a.answer

          -- bytes are left
          pub edges_surplus : (q ≡ m → ⊥) → EdgesFound file m n covered o before rows (Err (Short q))
          unfolding check ◌>>◌
          edges_surplus d = found_fault (Short q) (last ∙ rw (held_size file m, ← a.behind, ne_eqb q m d))

          pub edges_whole : q ≡ m → EdgesFound file m n covered o before rows (Ok tt)
          unfolding check ◌>>◌
          edges_whole d = record {
            answer = last ∙ rw (held_size file m, ← a.behind, eq-eqb q m d);
            read = a.answer;
            entered = a.entered;
            shown = a.shown;
          }
