-- The size of a clique: a clique of n vertices takes n * (n - 1) / 2 edges, so that an accepted map has none of more than 64 vertices.
use Rattle.std.specs.Prelude.{◌≡◌, refl, ◌≢◌, Bool, true, false, List, [], ◌∷◌, ◌++◌, ℕ, zero, suc, ◌+◌, ◌-◌, ◌*◌, ◌≤◌, ◌<◌, min, max, length, get_or, T, eqb, ltb, leb}
use Rattle.std.proofs.Common.{sym, ap, ◌∙◌, zero-add, suc-add, arith, length-append, eqb→eq, leb→le}
use Rattle.std.proofs.Math.Decide.{dec_le}
use Rattle.spec.specs.Outcome.{ok, ◌>>◌, check, ◌and◌}
use Rattle.spec.specs.Layout.{Map, Zone, Edge, has_edge, joined, linked, shaped, read_edges, edges_of, map_of}
use Rattle.theory.specs.Basics.Tests.{of_true, and_left, and_right}
use Rattle.theory.specs.Basics.Outcomes.{ok_injective, passed, bound, seq_ok}
use Rattle.theory.specs.Maps.Layout.{shaped_at}
use Rattle.theory.specs.Maps.ZoneSize.{Different}

-- ---- counting edges

-- is e the edge of a and b
is_edge : ℕ → ℕ → Edge → Bool
is_edge a b e = eqb e.a a and eqb e.b b

-- a list of edges with the first edge of a and b taken out
without : ℕ → ℕ → List Edge → List Edge
without a b [] = []
without a b (e ∷ es) = elim (is_edge a b e) [ true ↦ es | false ↦ e ∷ without a b es ]

-- that makes it one shorter
without_length : (a b : ℕ) (es : List Edge) → T (has_edge es a b) → suc (length (without a b es)) ≡ length es
unfolding without is_edge has_edge
without_length a b [] t = absurd t
without_length a b (e ∷ es) t = go (is_edge a b e) t (without_length a b es)
  where
    go : (c : Bool) → T (elim c [ true ↦ true | false ↦ has_edge es a b ]) → (T (has_edge es a b) → suc (length (without a b es)) ≡ length es)
        → suc (length {A = Edge} (elim c [ true ↦ es | false ↦ e ∷ without a b es ])) ≡ suc (length es)
    go true t ih = refl
    go false t ih = ap suc (ih t)

-- and keeps the other edges
without_other : (a b c d : ℕ) (es : List Edge) → (a ≡ c → b ≡ d → ⊥) → T (has_edge es c d) → T (has_edge (without a b es) c d)
unfolding without is_edge has_edge
without_other a b c d [] n t = absurd t
without_other a b c d (e ∷ es) n t = go (is_edge a b e) refl (is_edge c d e) refl t (without_other a b c d es n)
  where
    go : (p : Bool) → is_edge a b e ≡ p → (q : Bool) → is_edge c d e ≡ q → T (elim q [ true ↦ true | false ↦ has_edge es c d ])
        → (T (has_edge es c d) → T (has_edge (without a b es) c d)) → T (has_edge (elim p [ true ↦ es | false ↦ e ∷ without a b es ]) c d)
    go true f true g t ih =
        let x = of_true f in
        let y = of_true g in
        absurd (n (sym (eqb→eq _ _ (and_left _ _ x)) ∙ eqb→eq _ _ (and_left _ _ y)) (sym (eqb→eq _ _ (and_right _ _ x)) ∙ eqb→eq _ _ (and_right _ _ y)))
    go true f false g t ih = t
    go false f true g t ih = rw (g, has_edge) tt
    go false f false g t ih = rw (g, has_edge) (ih t)

-- some edge of the list joins u and v
abbrev pub Joins : List Edge → ℕ → ℕ → Type 0
Joins es u v = T (has_edge es (min u v) (max u v))

-- different numbers are different without the first
different_rest : (v : ℕ) (vs : List ℕ) → Different (v ∷ vs) → Different vs
different_rest v vs d i j h k e = omega (arith, d (suc i) (suc j) (omega arith) (omega arith) e)

-- the edges of a vertex v to each of vs, taken out: as many as vs, and every edge without v stays
star : (v : ℕ) (vs : List ℕ) (es : List Edge) → Different (v ∷ vs) → ((i : ℕ) → i < length vs → Joins es v (get_or vs i 0))
    → (ds : List Edge) × (length vs + length ds ≤ length es) × ((c d : ℕ) → c ≢ v → d ≢ v → Joins es c d → Joins ds c d)
star v [] es d h = (es, omega arith, λ x y n k t. t)
star v (w ∷ vs) es d h =
    let t : Joins es v w = h 0 (omega arith) in
    let l = without_length (min v w) (max v w) es t in
    let s = star v vs (without (min v w) (max v w) es) rest
    (λ i k. without_other (min v w) (max v w) (min v (get_or vs i 0)) (max v (get_or vs i 0)) es
    (λ p q. let f : w ≡ get_or vs i 0 = omega arith in omega (arith, d 1 (suc (suc i)) (omega arith) (omega arith) f))
    (h (suc i) (omega arith))) in (
      s.0,
      omega (arith, s.1),
      λ x y n k j. s.2 x y n k (without_other (min v w) (max v w) (min x y) (max x y) es (λ p q. omega arith) j),
    )
  where
    rest : Different (v ∷ vs)
    rest zero zero h k e = refl
    rest zero (suc j) h k e = absurd (omega (arith, d 0 (suc (suc j)) (omega arith) (omega arith) e))
    rest (suc i) zero h k e = absurd (omega (arith, d (suc (suc i)) 0 (omega arith) (omega arith) e))
    rest (suc i) (suc j) h k e = omega (arith, d (suc (suc i)) (suc (suc j)) (omega arith) (omega arith) e)

-- how many pairs n things have
unfoldable pub pairs : ℕ → ℕ
pairs zero = 0
pairs (suc n) = n + pairs n

-- vertices that are joined two by two take an edge for each pair
pub pairs_joined : (vs : List ℕ) (es : List Edge) → Different vs → ((i j : ℕ) → i < j → j < length vs → Joins es (get_or vs i 0) (get_or vs j 0)) → pairs (length vs) ≤ length es
unfolding pairs
pairs_joined [] es d h = omega arith
pairs_joined (v ∷ vs) es d h =
    let s = star v vs es d (λ i k. h 0 (suc i) (omega arith) (omega arith)) in
    omega (
      arith,
      s.1,
      pairs_joined vs s.0 (different_rest v vs d) (λ i j k l. s.2 (get_or vs i 0) (get_or vs j 0)
          (λ e. omega (arith, d (suc i) 0 (omega arith) (omega arith) e)) (λ e. omega (arith, d (suc j) 0 (omega arith) (omega arith) e)) (h (suc i) (suc j) (omega arith) (omega arith))),
    )

-- more things have more pairs
pairs_more : (n k : ℕ) → pairs n ≤ pairs (k + n)
unfolding pairs
pairs_more n zero = rw zero-add (omega arith)
pairs_more n (suc k) = rw suc-add (omega (arith, pairs_more n k))

-- fewer pairs than those of k + 1 things are those of at most k
few_pairs : (n k : ℕ) → pairs n < pairs (suc k) → n ≤ k
few_pairs n k h = go (dec_le n k)
  where
    go : Dec (n ≤ k) → n ≤ k
    go (yes l) = l
    go (no l) = let e : n - suc k + suc k ≡ n = omega arith in absurd (omega (arith, rw e at (pairs_more (suc k) (n - suc k))))

-- with at most 2,048 edges at most 64 vertices are joined two by two: 65 have 2,080 pairs
pub few_joined : (vs : List ℕ) (es : List Edge) → length es ≤ 2048 → Different vs → ((i j : ℕ) → i < j → j < length vs → Joins es (get_or vs i 0) (get_or vs j 0)) → length vs ≤ 64
unfolding pairs
few_joined vs es h d j = few_pairs (length vs) _ (omega (arith, pairs_joined vs es d j))

-- ---- a clique of a map

-- every two vertices of a clique are joined
pub clique_joins : (m : Map) (z : Zone) → z.kind ≡ 3 → T (shaped m z) → (i j : ℕ) → i < j → j < length z.vertices → Joins m.edges (get_or z.vertices i 0) (get_or z.vertices j 0)
unfolding joined linked
clique_joins m z e t i j h k =
    let s : joined m (get_or z.vertices i 0) (get_or z.vertices j 0) ≡ true = shaped_at m z t i j h k ∙ (rw e) in
    of_true s

-- a clique of n vertices takes n * (n - 1) / 2 edges
pub clique_edges : (m : Map) (z : Zone) → z.kind ≡ 3 → Different z.vertices → T (shaped m z) → pairs (length z.vertices) ≤ length m.edges
clique_edges m z e d t = pairs_joined z.vertices m.edges d (clique_joins m z e t)

-- ---- an accepted map

-- as many edges are read as are asked for
read_length : (n : ℕ) (p : List ℕ) (todo o least : ℕ) (ds es : List Edge) → read_edges n p todo o least ds ≡ ok es → length es ≡ length ds + todo
unfolding read_edges
read_length n p zero o least ds es e = ap length (sym (ok_injective e)) ∙ omega arith
read_length n p (suc todo) o least ds es e =
    let a = bound _ _ _ e in
    let b = bound _ _ _ a.2 in
    one a.0 b.0 b.2 (λ least ds. read_length n p todo (o + 2) least ds es)
  where
    one : (u v : ℕ) → (check (ltb u v and ltb v n and leb least (u * 256 + v)) 18 o >> read_edges n p todo (o + 2) (u * 256 + v + 1) (ds ++ (record { a = u; b = v } ∷ []))) ≡ ok es
        → ((least : ℕ) (ds : List Edge) → read_edges n p todo (o + 2) least ds ≡ ok es → length es ≡ length ds + todo) → length es ≡ length ds + suc todo
    one u v e ih = ih _ _ (passed _ _ _ _ _ e).1 ∙ omega (arith, length-append ds (record { a = u; b = v } ∷ []))

-- and at most 2,048 may be
edges_few : (n : ℕ) (p : List ℕ) (o : ℕ) (es : List Edge) → edges_of n p o ≡ ok es → length es ≤ 2048
unfolding edges_of
edges_few n p o es e =
    let w = bound _ _ _ e in
    let c = passed _ _ _ _ _ w.2 in
    let r = bound _ _ _ c.1 in
    let s = passed _ _ _ _ _ r.2 in
    let l : length r.0 ≡ 0 + w.0 = read_length n p w.0 (o + 2) 0 [] r.0 r.1 in
    omega (arith, leb→le w.0 2048 c.0, ap length (ok_injective s.1))

-- an accepted map has at most 2,048 edges
pub map_edges : (p : List ℕ) (m : Map) → map_of p ≡ ok m → length m.edges ≤ 2048
unfolding map_of
map_edges p m e =
    let c = bound _ _ _ e in
    let z = bound _ _ _ c.2 in
    let s = bound _ _ _ z.2 in
    let k = seq_ok _ _ _ s.2 in
    let f = edges_few c.0.vertices p z.0.next s.0 s.1 in
    rw (← ok_injective k.2) f
