-- The test that no edge leads out of a stack but from its first vertex is the definition's.
use Rattle.std.specs.Prelude.{ℕ, ◌+◌, ◌-◌, ◌≤◌, ◌<◌, min, max, ◌≡◌, refl, ◌⊎◌, Bool, List, [], ◌∷◌, get_or, drop}
use Rattle.std.proofs.Common.{ap, ap₂, sym, ◌∙◌, inl, inr, eq-eqb, eqb-true, get_or-drop, length-drop, arith}
use Rattle.std.proofs.lemmas.List.{get_or_default}
use Rattle.std.proofs.lemmas.List.Sums.{AllPass-from_list_all, list_all-from_AllPass}
use Rattle.std.proofs.Math.Bool.{true, false, not}
use Rattle.std.proofs.Math.ListN.{length}
use Rattle.std.proofs.Math.Dec.{eqb}
use Rattle.std.proofs.Math.Nat.{min_comm, max_comm}
use Rattle.spec.specs.Outcome.{◌and◌, ◌or◌, all, member, index_of}
use Rattle.spec.specs.Layout.{Edge, Map, has_edge, same_bool, closed}
use Rattle.theory.specs.Basics.Tests.{below_at, true_of, of_true}
use Rattle.theory.specs.Basics.Lists.{index_in, in_get_d}
use Rattle.adjacency.specs.Rows.{bit_at, Shows, shows_joined, same_test, and_true, or_true, or_left, or_right, both, lt_or_ge}
use Rattle.kinds.specs.Tests.{same_true, same_false, stays_test, inner_test, closed_test, below_all}

-- the definition's test of an edge between a and b
abbrev edge_test : List ℕ → ℕ → ℕ → Bool
edge_test vs a b = same_bool (member a vs) (member b vs) or eqb a (get_or vs 0 0) or eqb b (get_or vs 0 0)

-- a test of every edge
abbrev every : (ℕ → ℕ → Bool) → List Edge → Bool
every g es = all (λ e. g e.a e.b) es

no : {A : Type 0} {b : Bool} → b ≡ true → b ≡ false → A
no {A} {b} e f = absurd (let z : ◌≡◌ {A = ℕ} (elim true as (λ _. ℕ) [ true ↦ 0 | false ↦ 1 ]) (elim false as (λ _. ℕ) [ true ↦ 0 | false ↦ 1 ]) = ap (λ (x : Bool). elim x as (λ _. ℕ) [ true ↦ 0 | false ↦ 1 ]) (sym e ∙ f) in omega arith)

-- an edge of the list passes a test that all pass
every_has : (g : ℕ → ℕ → Bool) (es : List Edge) → every g es ≡ true → (a b : ℕ) → has_edge es a b ≡ true → g a b ≡ true
unfolding all has_edge
every_has g [] t a b h = no h refl
every_has g (e ∷ es) t a b h = go (g e.a e.b) refl t (eqb e.a a and eqb e.b b) refl h (λ t. every_has g es t a b)
  where
    go : (c : Bool) → g e.a e.b ≡ c → ◌≡◌ {A = Bool} (elim c [ true ↦ every g es | false ↦ false ]) true
        → (d : Bool) → (eqb e.a a and eqb e.b b) ≡ d → ◌≡◌ {A = Bool} (elim d [ true ↦ true | false ↦ has_edge es a b ]) true
        → (every g es ≡ true → has_edge es a b ≡ true → g a b ≡ true) → g a b ≡ true
    go false p t d q h ih = no t refl
    go true p t true q h ih =
        let w = and_true _ _ q in
        ap₂ g (sym (eqb-true _ _ w.0)) (sym (eqb-true _ _ w.1)) ∙ p
    go true p t false q h ih = ih t h

-- an edge of a list is an edge of one that begins with another
has_more : (e : Edge) (es : List Edge) (a b : ℕ) → has_edge es a b ≡ true → has_edge (e ∷ es) a b ≡ true
unfolding has_edge
has_more e es a b h = go (eqb e.a a and eqb e.b b)
  where
    go : (d : Bool) → ◌≡◌ {A = Bool} (elim d [ true ↦ true | false ↦ has_edge es a b ]) true
    go true = refl
    go false = h

has_first : (e : Edge) (es : List Edge) → has_edge (e ∷ es) e.a e.b ≡ true
unfolding has_edge
has_first e es = rw (both (eq-eqb e.a e.a refl) (eq-eqb e.b e.b refl), has_edge)

-- a test that each edge passes, all pass
has_every : (g : ℕ → ℕ → Bool) (es : List Edge) → ((a b : ℕ) → has_edge es a b ≡ true → g a b ≡ true) → every g es ≡ true
unfolding all
has_every g [] h = refl
has_every g (e ∷ es) h = rw (h e.a e.b (has_first e es), all) (has_every g es (λ a b q. h a b (has_more e es a b q)))

not_true_of : (b : Bool) → not b ≡ true → b ≡ false
not_true_of true e = sym e
not_true_of false e = refl

not_of : (b : Bool) → (b ≡ true → not b ≡ true) → not b ≡ true
not_of true h = h refl
not_of false h = refl

-- what the test leans on: the edges join vertices below 128, the zone table says which vertices are listed in the zone, and none of those is the first again
pub record Stack (m : Map) (vs zone : List ℕ) (z : ℕ) : Type 0 where
  pub proper : (a b : ℕ) → has_edge m.edges a b ≡ true → (a < b) × (b < 128)
  pub inside : (u : ℕ) → u < 128 → member u vs ≡ eqb (get_or zone u 0) z
  pub once : (i : ℕ) → 0 < i → i < length vs → get_or vs i 0 ≡ get_or vs 0 0 → ⊥
  pub small : (i : ℕ) → i < length vs → get_or vs i 0 < 128

module _ (rows : List (List ℕ)) (m : Map) (vs zone : List ℕ) (z : ℕ) (s : Shows rows m.edges) (k : Stack m vs zone z) where
  -- the rows' bit of an edge, either way round
  bit_of_lem : (a b : ℕ) → a < b → has_edge m.edges a b ≡ true → (bit_at rows a b ≡ true) × (bit_at rows b a ≡ true)
  bit_of_lem a b l h =
      let p : min a b ≡ a = omega arith in
      let q : max a b ≡ b = omega arith in
      let x : bit_at rows a b ≡ true = shows_joined rows m.edges s a b ∙ ap₂ (has_edge m.edges) p q ∙ h in
      (x, shows_joined rows m.edges s b a ∙ ap₂ (has_edge m.edges) (min_comm b a) (max_comm b a) ∙ sym (shows_joined rows m.edges s a b) ∙ x)

  -- a listed vertex with an edge to one that is not listed is the first
  out_first : ((i : ℕ) → 0 < i → i < length vs → inner_test rows zone z (get_or vs i 0) ≡ true) → (a b : ℕ) → b < 128 → bit_at rows a b ≡ true
      → member a vs ≡ true → member b vs ≡ false → eqb a (get_or vs 0 0) ≡ true
  unfolding ◌or◌
  out_first t a b l h p q = go (lt_or_ge 0 (index_of a vs))
    where
      at : (index_of a vs < length vs) × (get_or vs (index_of a vs) 0 ≡ a)
      at = index_in a vs (of_true p)

      go : (0 < index_of a vs) ⊎ (index_of a vs ≤ 0) → eqb a (get_or vs 0 0) ≡ true
      go (inl g) =
          let w : stays_test rows zone z (get_or vs (index_of a vs) 0) b ≡ true = true_of (below_at (stays_test rows zone z (get_or vs (index_of a vs) 0)) 128 (of_true (t (index_of a vs) g at.0)) b l) in
          let e : (false or not (bit_at rows a b)) ≡ true = ap₂ (λ (x : Bool) (y : ℕ). x or not (bit_at rows y b)) (sym (sym (k.inside b l) ∙ q)) (sym at.1) ∙ w in
          no h (not_true_of (bit_at rows a b) e)
      go (inr g) =
          let e : index_of a vs ≡ 0 = omega arith in
          eq-eqb a (get_or vs 0 0) (sym at.1 ∙ ap (λ (i : ℕ). get_or vs i 0) e)

  later_closed : ((i : ℕ) → 0 < i → i < length vs → inner_test rows zone z (get_or vs i 0) ≡ true) → every (edge_test vs) m.edges ≡ true
  later_closed t = has_every (edge_test vs) m.edges (λ a b h. one a b h (member a vs) refl (member b vs) refl)
    where
      one : (a b : ℕ) → has_edge m.edges a b ≡ true → (x : Bool) → member a vs ≡ x → (y : Bool) → member b vs ≡ y → edge_test vs a b ≡ true
      one a b h true p true q = or_left _ _ (same_true _ _ (p ∙ sym q))
      one a b h false p false q = or_left _ _ (same_true _ _ (p ∙ sym q))
      one a b h true p false q =
          let o = k.proper a b h in
          or_right _ _ (or_left _ _ (out_first t a b o.1 (bit_of_lem a b o.0 h).0 p q))
      one a b h false p true q =
          let o = k.proper a b h in
          or_right _ _ (or_right _ _ (out_first t b a (omega arith) (bit_of_lem a b o.0 h).1 q p))

  -- the definition's test is false of an edge from a later vertex out of the zone
  out_fails : (a b : ℕ) → member a vs ≡ true → member b vs ≡ false → (a ≡ get_or vs 0 0 → ⊥) → 0 < length vs → (edge_test vs a b ≡ true → ⊥) × (edge_test vs b a ≡ true → ⊥)
  out_fails a b p q d l = (λ t. first (or_true _ _ t), λ t. second (or_true _ _ t))
    where
      b_not : b ≡ get_or vs 0 0 → ⊥
      b_not e = no (true_of (in_get_d vs 0 l)) (ap (λ (x : ℕ). member x vs) (sym e) ∙ q)

      ends : (eqb a (get_or vs 0 0) ≡ true) ⊎ (eqb b (get_or vs 0 0) ≡ true) → ⊥
      ends (inl e) = d (eqb-true _ _ e)
      ends (inr e) = b_not (eqb-true _ _ e)

      swap : (eqb b (get_or vs 0 0) ≡ true) ⊎ (eqb a (get_or vs 0 0) ≡ true) → (eqb a (get_or vs 0 0) ≡ true) ⊎ (eqb b (get_or vs 0 0) ≡ true)
      swap (inl e) = inr e
      swap (inr e) = inl e

      first : (same_bool (member a vs) (member b vs) ≡ true) ⊎ ((eqb a (get_or vs 0 0) or eqb b (get_or vs 0 0)) ≡ true) → ⊥
      first (inl e) = no p (same_false _ _ e ∙ q)
      first (inr e) = ends (or_true _ _ e)

      second : (same_bool (member b vs) (member a vs) ≡ true) ⊎ ((eqb b (get_or vs 0 0) or eqb a (get_or vs 0 0)) ≡ true) → ⊥
      second (inl e) = no (same_false _ _ e ∙ p) q
      second (inr e) = ends (swap (or_true _ _ e))

  closed_later : every (edge_test vs) m.edges ≡ true → (i : ℕ) → 0 < i → i < length vs → inner_test rows zone z (get_or vs i 0) ≡ true
  unfolding ◌or◌
  closed_later t i g l = below_all (stays_test rows zone z (get_or vs i 0)) 128 (λ u h. one u h (eqb (get_or zone u 0) z) refl)
    where
      one : (u : ℕ) → u < 128 → (x : Bool) → eqb (get_or zone u 0) z ≡ x → (eqb (get_or zone u 0) z or not (bit_at rows (get_or vs i 0) u)) ≡ true
      one u h true e = or_left _ _ e
      one u h false e = or_right (eqb (get_or zone u 0) z) _ (not_of (bit_at rows (get_or vs i 0) u) (λ b. absurd (bad b (lt_or_ge (get_or vs i 0) u))))
        where
          f : (edge_test vs (get_or vs i 0) u ≡ true → ⊥) × (edge_test vs u (get_or vs i 0) ≡ true → ⊥)
          f = out_fails (get_or vs i 0) u (true_of (in_get_d vs i l)) (k.inside u h ∙ e) (k.once i g l) (omega arith)

          bad : bit_at rows (get_or vs i 0) u ≡ true → (get_or vs i 0 < u) ⊎ (u ≤ get_or vs i 0) → ⊥
          bad b (inl o) =
              let p : min (get_or vs i 0) u ≡ get_or vs i 0 = omega arith in
              let q : max (get_or vs i 0) u ≡ u = omega arith in
              f.0 (every_has (edge_test vs) m.edges t (get_or vs i 0) u (sym (ap₂ (has_edge m.edges) p q) ∙ sym (shows_joined rows m.edges s (get_or vs i 0) u) ∙ b))
          bad b (inr o) =
              let p : min (get_or vs i 0) u ≡ u = omega arith in
              let q : max (get_or vs i 0) u ≡ get_or vs i 0 = omega arith in
              f.1 (every_has (edge_test vs) m.edges t u (get_or vs i 0) (sym (ap₂ (has_edge m.edges) p q) ∙ sym (shows_joined rows m.edges s (get_or vs i 0) u) ∙ b))

-- the test on the rows is the definition's
pub closed_is : (rows : List (List ℕ)) (m : Map) (vs zone : List ℕ) (z kind : ℕ) → Shows rows m.edges → Stack m vs zone z
    → closed_test rows vs zone z ≡ closed m (record { kind = kind; vertices = vs })
unfolding closed
closed_is rows m vs zone z kind s k =
    same_test (closed_test rows vs zone z) (every (edge_test vs) m.edges)
    (λ t. later_closed rows m vs zone z s k (λ i g l.
    let e : 1 + (i - 1) ≡ i = omega arith in
    ap (λ (x : ℕ). inner_test rows zone z (get_or vs x 0)) (sym e) ∙ ap (inner_test rows zone z) (sym (get_or-drop 1 vs (i - 1) 0))
    ∙ AllPass-from_list_all (inner_test rows zone z) (drop 1 vs) t (i - 1) 0 (omega (arith, length-drop 1 vs))))
    (λ t. list_all-from_AllPass (inner_test rows zone z) (drop 1 vs) (λ i d l.
    let e : 1 + i ≡ i + 1 = omega arith in
    ap (inner_test rows zone z) (get_or_default (drop 1 vs) i d 0 l ∙ get_or-drop 1 vs i 0 ∙ ap (λ (x : ℕ). get_or vs x 0) e) ∙ closed_later rows m vs zone z s k t (i + 1) (omega arith) (omega (arith, length-drop 1 vs))))
