-- Rows of bits, and what they say of a list of edges.
use Rattle.std.specs.Prelude.{ℕ, zero, suc, ◌/◌, ◌%◌, ◌^◌, ◌≤◌, ◌<◌, min, max, ◌≡◌, ◌⊎◌, Bool, List, [], ◌∷◌, ◌++◌, length, get_or, set, replicate, ltb}
use Rattle.std.proofs.Math.Path.{refl, ap, ap₂}
use Rattle.std.proofs.Common.{sym, ◌∙◌, inl, inr, length-set, get_or-set_same, get_or-set_other, arith}
use Rattle.std.proofs.Math.Bool.{true, false}
use Rattle.std.proofs.lemmas.List.{get_or-replicate}
use Rattle.std.proofs.Math.ListN.{get_or-eq_default}
use Rattle.std.proofs.Math.Dec.{eqb}
use Rattle.std.specs.Int.Bits.{bit_or}
use borrow.Author.Tests.{eq-eqb, eqb-true, eqb-false, ltb-true, ltb-false, lt-ltb, le-ltb}
use Rattle.std.proofs.Math.Nat.{zero-div}
use Rattle.spec.specs.Outcome.{◌and◌, ◌or◌}
use Rattle.spec.specs.Layout.{Edge, has_edge}
use Rattle.adjacency.specs.Bit.{bit_of, set_same, set_other}

-- bit b of row a
abbrev pub bit_in : List (List ℕ) → ℕ → ℕ → Bool
bit_in rows a b = eqb (bit_of (get_or (get_or rows a []) (b / 64) 0) (b % 64)) 1

-- is there an edge between u and v; a vertex that is not below 128 has none
unfoldable pub bit_at : List (List ℕ) → ℕ → ℕ → Bool
bit_at rows u v = elim (ltb u 128 and ltb v 128) [ true ↦ bit_in rows u v | false ↦ false ]

-- the rows with that bit set
abbrev pub put_bit : List (List ℕ) → ℕ → ℕ → List (List ℕ)
put_bit rows a b = set rows a (set (get_or rows a []) (b / 64) (bit_or (get_or (get_or rows a []) (b / 64) 0) (2 ^ (b % 64))))

-- the rows of no edge
abbrev pub blank : List (List ℕ)
blank = replicate 128 (0 ∷ 0 ∷ [])

-- the rows with the edge between a and b
unfoldable pub join : List (List ℕ) → ℕ → ℕ → List (List ℕ)
join rows a b = elim (ltb a 128 and ltb b 128) [ true ↦ put_bit (put_bit rows a b) b a | false ↦ rows ]

-- the rows with these edges more
unfoldable pub join_all : List (List ℕ) → List Edge → List (List ℕ)
join_all rows [] = rows
join_all rows (e ∷ es) = join_all (join rows e.a e.b) es

-- the rows of a list of edges
abbrev pub rows_of : List Edge → List (List ℕ)
rows_of es = join_all blank es

-- 128 rows of two words
pub record Square (rows : List (List ℕ)) : Type 0 where
  pub long : length rows ≡ 128
  pub wide : (a : ℕ) → a < 128 → length (get_or rows a []) ≡ 2

-- the rows say which vertices the edges join
pub record Shows (rows : List (List ℕ)) (es : List Edge) : Type 0 where
  pub square : Square rows
  pub bits : (u v : ℕ) → bit_in rows u v ≡ has_edge es (min u v) (max u v)

-- an edge joins two vertices below 128, the lower first
abbrev pub Proper : Edge → Type 0
Proper e = (e.a < e.b) × (e.b < 128)

abbrev row_with : List (List ℕ) → ℕ → ℕ → List ℕ
row_with rows a b = set (get_or rows a []) (b / 64) (bit_or (get_or (get_or rows a []) (b / 64) 0) (2 ^ (b % 64)))

module _ (rows : List (List ℕ)) (q : Square rows) (a b : ℕ) (la : a < 128) (lb : b < 128) where
  this_row : get_or (put_bit rows a b) a [] ≡ row_with rows a b
  this_row = get_or-set_same rows a (row_with rows a b) [] (omega (arith, q.long))

  other_row : (c : ℕ) → (c ≡ a → ⊥) → get_or (put_bit rows a b) c [] ≡ get_or rows c []
  other_row c h = get_or-set_other rows a c (row_with rows a b) [] h

  -- setting a bit keeps the form
  put_square : Square (put_bit rows a b)
  put_square = record { long = length-set rows a (row_with rows a b) ∙ q.long; wide = λ c l. go c l (eqb c a) refl }
    where
      go : (c : ℕ) → c < 128 → (t : Bool) → eqb c a ≡ t → length (get_or (put_bit rows a b) c []) ≡ 2
      go c l true e =
          ap (λ (x : ℕ). length (get_or (put_bit rows a b) x [])) (eqb-true c a e) ∙ ap length this_row
          ∙ length-set (get_or rows a []) (b / 64) (bit_or (get_or (get_or rows a []) (b / 64) 0) (2 ^ (b % 64))) ∙ q.wide a la
      go c l false e = ap length (other_row c (eqb-false c a e)) ∙ q.wide c l

  word_same : (w : ℕ) → w ≡ b / 64 → get_or (row_with rows a b) w 0 ≡ bit_or (get_or (get_or rows a []) (b / 64) 0) (2 ^ (b % 64))
  word_same w e = ap (λ (x : ℕ). get_or (row_with rows a b) x 0) e
      ∙ get_or-set_same (get_or rows a []) (b / 64) (bit_or (get_or (get_or rows a []) (b / 64) 0) (2 ^ (b % 64))) 0 (omega (arith, q.wide a la))

  put_same : bit_in (put_bit rows a b) a b ≡ true
  put_same =
      ap (λ (l : List ℕ). eqb (bit_of (get_or l (b / 64) 0) (b % 64)) 1) this_row
      ∙ ap (λ (x : ℕ). eqb (bit_of x (b % 64)) 1) (word_same (b / 64) refl)
      ∙ eq-eqb _ _ (set_same (get_or (get_or rows a []) (b / 64) 0) (b % 64))

  put_other_row : (u v : ℕ) → (u ≡ a → ⊥) → bit_in (put_bit rows a b) u v ≡ bit_in rows u v
  put_other_row u v h = ap (λ (l : List ℕ). eqb (bit_of (get_or l (v / 64) 0) (v % 64)) 1) (other_row u h)

  put_other_bit : (v : ℕ) → (v ≡ b → ⊥) → bit_in (put_bit rows a b) a v ≡ bit_in rows a v
  put_other_bit v h = ap (λ (l : List ℕ). eqb (bit_of (get_or l (v / 64) 0) (v % 64)) 1) this_row ∙ go (eqb (v / 64) (b / 64)) refl
    where
      go : (t : Bool) → eqb (v / 64) (b / 64) ≡ t → eqb (bit_of (get_or (row_with rows a b) (v / 64) 0) (v % 64)) 1 ≡ bit_in rows a v
      go true e =
          let w : v / 64 ≡ b / 64 = eqb-true _ _ e in
          let d : (b % 64 ≡ v % 64 → ⊥) = λ (i : b % 64 ≡ v % 64). h (omega arith) in
          ap (λ (x : ℕ). eqb (bit_of x (v % 64)) 1) (word_same (v / 64) w)
          ∙ ap (λ (x : ℕ). eqb x 1) (set_other (get_or (get_or rows a []) (b / 64) 0) (b % 64) (v % 64) d)
          ∙ ap (λ (x : ℕ). eqb (bit_of (get_or (get_or rows a []) x 0) (v % 64)) 1) (sym w)
      go false e = ap (λ (x : ℕ). eqb (bit_of x (v % 64)) 1)
          (get_or-set_other (get_or rows a []) (b / 64) (v / 64) (bit_or (get_or (get_or rows a []) (b / 64) 0) (2 ^ (b % 64))) 0 (eqb-false _ _ e))

  -- a bit of the new rows is this one, or was there
  put_bit_lem : (u v : ℕ) → bit_in (put_bit rows a b) u v ≡ ((eqb u a and eqb v b) or bit_in rows u v)
  unfolding ◌and◌ ◌or◌
  put_bit_lem u v = go (eqb u a) (eqb v b) refl refl
    where
      go : (s t : Bool) → eqb u a ≡ s → eqb v b ≡ t → bit_in (put_bit rows a b) u v ≡ ((s and t) or bit_in rows u v)
      go true true d e = ap₂ (bit_in (put_bit rows a b)) (eqb-true u a d) (eqb-true v b e) ∙ put_same
      go true false d e =
          let w = eqb-true u a d in
          ap (λ (x : ℕ). bit_in (put_bit rows a b) x v) w ∙ put_other_bit v (eqb-false v b e) ∙ ap (λ (x : ℕ). bit_in rows x v) (sym w)
      go false t d e = put_other_row u v (eqb-false u a d)

-- ---- tests

or_false : (b : Bool) → ◌≡◌ {A = Bool} (elim b [ true ↦ true | false ↦ false ]) (b or false)
unfolding ◌or◌
or_false true = refl
or_false false = refl

or_swap : (a b c : Bool) → ◌≡◌ {A = Bool} (elim a [ true ↦ true | false ↦ b or c ]) (b or elim a [ true ↦ true | false ↦ c ])
unfolding ◌or◌
or_swap true true c = refl
or_swap true false c = refl
or_swap false true c = refl
or_swap false false c = refl

or_assoc : (a b c : Bool) → (a or (b or c)) ≡ ((a or b) or c)
unfolding ◌or◌
or_assoc true b c = refl
or_assoc false b c = refl

-- two tests that imply each other are the same
pub same_test : (x y : Bool) → (x ≡ true → y ≡ true) → (y ≡ true → x ≡ true) → x ≡ y
same_test true true f g = refl
same_test true false f g = sym (f refl)
same_test false true f g = g refl
same_test false false f g = refl

pub and_true : (a b : Bool) → (a and b) ≡ true → (a ≡ true) × (b ≡ true)
unfolding ◌and◌
and_true true b e = (refl, e)
and_true false b e = (e, let z : b ≡ true = cc in z)

pub or_true : (a b : Bool) → (a or b) ≡ true → (a ≡ true) ⊎ (b ≡ true)
unfolding ◌or◌
or_true true b e = inl refl
or_true false b e = inr e

pub both : {a b : Bool} → a ≡ true → b ≡ true → (a and b) ≡ true
unfolding ◌and◌
both {a} {b} d e = rw (d, e)

pub or_left : (a b : Bool) → a ≡ true → (a or b) ≡ true
unfolding ◌or◌
or_left a b e = rw e

pub or_right : (a b : Bool) → b ≡ true → (a or b) ≡ true
unfolding ◌or◌
or_right true b e = refl
or_right false b e = e

pub lt_or_ge : (a b : ℕ) → (a < b) ⊎ (b ≤ a)
lt_or_ge a b = go (ltb a b) refl
  where
    go : (t : Bool) → ltb a b ≡ t → (a < b) ⊎ (b ≤ a)
    go true e = inl (ltb-true a b e)
    go false e = inr (ltb-false a b e)

-- ---- one edge more

-- a pair in the list with one edge more
has_snoc : (es : List Edge) (e : Edge) (x y : ℕ) → has_edge (es ++ (e ∷ [])) x y ≡ ((eqb e.a x and eqb e.b y) or has_edge es x y)
unfolding has_edge
has_snoc [] e x y = one (eqb e.a x and eqb e.b y)
  where
    one : (b : Bool) → ◌≡◌ {A = Bool} (elim b [ true ↦ true | false ↦ false ]) (b or false)
    one b = or_false b
has_snoc (d ∷ es) e x y = ap (λ (r : Bool). elim (eqb d.a x and eqb d.b y) [ true ↦ true | false ↦ r ]) (has_snoc es e x y)
    ∙ or_swap (eqb d.a x and eqb d.b y) (eqb e.a x and eqb e.b y) (has_edge es x y)

-- an edge joins its two ends, either way round
min_max : (a b u v : ℕ) → a < b → (eqb a (min u v) and eqb b (max u v)) ≡ ((eqb u b and eqb v a) or (eqb u a and eqb v b))
min_max a b u v h = same_test (eqb a (min u v) and eqb b (max u v)) ((eqb u b and eqb v a) or (eqb u a and eqb v b)) (λ e. one (and_true _ _ e)) (λ e. two (or_true _ _ e))
  where
    one : (eqb a (min u v) ≡ true) × (eqb b (max u v) ≡ true) → ((eqb u b and eqb v a) or (eqb u a and eqb v b)) ≡ true
    one w = pick (eqb-true a (min u v) w.0) (eqb-true b (max u v) w.1) (lt_or_ge u v)
      where
        pick : a ≡ min u v → b ≡ max u v → (u < v) ⊎ (v ≤ u) → ((eqb u b and eqb v a) or (eqb u a and eqb v b)) ≡ true
        pick d e (inl l) = or_right (eqb u b and eqb v a) (eqb u a and eqb v b) (both (eq-eqb u a (omega arith)) (eq-eqb v b (omega arith)))
        pick d e (inr l) = or_left (eqb u b and eqb v a) (eqb u a and eqb v b) (both (eq-eqb u b (omega arith)) (eq-eqb v a (omega arith)))

    two : ((eqb u b and eqb v a) ≡ true) ⊎ ((eqb u a and eqb v b) ≡ true) → (eqb a (min u v) and eqb b (max u v)) ≡ true
    two (inl e) =
        let w = and_true (eqb u b) (eqb v a) e in
        let d = eqb-true u b w.0 in
        let f = eqb-true v a w.1 in
        both (eq-eqb a (min u v) (omega arith)) (eq-eqb b (max u v) (omega arith))
    two (inr e) =
        let w = and_true (eqb u a) (eqb v b) e in
        let d = eqb-true u a w.0 in
        let f = eqb-true v b w.1 in
        both (eq-eqb a (min u v) (omega arith)) (eq-eqb b (max u v) (omega arith))

pub join_is : (rows : List (List ℕ)) (a b : ℕ) → a < 128 → b < 128 → join rows a b ≡ put_bit (put_bit rows a b) b a
unfolding join ◌and◌
join_is rows a b la lb = rw (join, lt-ltb a 128 la, lt-ltb b 128 lb)

-- rows that show some edges, with an edge joined, show it too
pub shows_more : (rows : List (List ℕ)) (es : List Edge) (e : Edge) → Shows rows es → Proper e → Shows (join rows e.a e.b) (es ++ (e ∷ []))
shows_more rows es e s h = rw (join_is rows e.a e.b (omega arith) h.1) (record { square = put_square (put_bit rows e.a e.b) first e.b e.a h.1 (omega arith); bits = bits· })
  where
    first : Square (put_bit rows e.a e.b)
    first = put_square rows s.square e.a e.b (omega arith) h.1

    bits· : (u v : ℕ) → bit_in (put_bit (put_bit rows e.a e.b) e.b e.a) u v ≡ has_edge (es ++ (e ∷ [])) (min u v) (max u v)
    bits· u v =
        put_bit_lem (put_bit rows e.a e.b) first e.b e.a h.1 (omega arith) u v
        ∙ ap (λ (r : Bool). (eqb u e.b and eqb v e.a) or r) (put_bit_lem rows s.square e.a e.b (omega arith) h.1 u v ∙ ap (λ (r : Bool). (eqb u e.a and eqb v e.b) or r) (s.bits u v))
        ∙ or_assoc (eqb u e.b and eqb v e.a) (eqb u e.a and eqb v e.b) (has_edge es (min u v) (max u v))
        ∙ ap (λ (r : Bool). r or has_edge es (min u v) (max u v)) (sym (min_max e.a e.b u v h.0))
        ∙ sym (has_snoc es e (min u v) (max u v))

-- the rows of a list with one edge more
pub rows_snoc : (rows : List (List ℕ)) (es : List Edge) (e : Edge) → join_all rows (es ++ (e ∷ [])) ≡ join (join_all rows es) e.a e.b
unfolding join_all
rows_snoc rows [] e = refl
rows_snoc rows (d ∷ es) e = rows_snoc (join rows d.a d.b) es e

zero_bit : (i : ℕ) → bit_of 0 i ≡ 0
zero_bit i = rw zero-div

blank_word : (i : ℕ) → get_or {A = ℕ} (0 ∷ 0 ∷ []) i 0 ≡ 0
blank_word zero = refl
blank_word (suc zero) = refl
blank_word (suc (suc i)) = refl

blank_row : (u i : ℕ) → get_or (get_or blank u []) i 0 ≡ 0
blank_row u i = go (lt_or_ge u 128)
  where
    go : (u < 128) ⊎ (128 ≤ u) → get_or (get_or blank u []) i 0 ≡ 0
    go (inl h) = rw (get_or-replicate {A = List ℕ} 128 u (0 ∷ 0 ∷ []) [] h) (blank_word i)
    go (inr h) = rw (get_or-eq_default blank [] {n = u} h)

-- the rows of no edge show none
pub shows_none : Shows blank []
unfolding has_edge
shows_none = record {
  square = record { long = refl; wide = λ a l. rw (get_or-replicate {A = List ℕ} 128 a (0 ∷ 0 ∷ []) [] l) };
  bits = λ u v. rw (blank_row u (v / 64), zero_bit (v % 64));
}

-- a vertex that is not below 128 has no edge
pub bit_out : (rows : List (List ℕ)) (u v : ℕ) → 128 ≤ u → false ≡ bit_at rows u v
unfolding bit_at ◌and◌
bit_out rows u v h = rw (bit_at, le-ltb u 128 h)

pub bit_out_2 : (rows : List (List ℕ)) (u v : ℕ) → u < 128 → 128 ≤ v → false ≡ bit_at rows u v
unfolding bit_at ◌and◌
bit_out_2 rows u v h l = rw (bit_at, lt-ltb u 128 h, le-ltb v 128 l)

-- the others have the edges of their rows
pub bit_in_lem : (rows : List (List ℕ)) (u v : ℕ) → u < 128 → v < 128 → bit_in rows u v ≡ bit_at rows u v
unfolding bit_at ◌and◌
bit_in_lem rows u v h l = rw (bit_at, lt-ltb u 128 h, lt-ltb v 128 l)

-- a row that is not there has no bit, and no row has a third word
no_row : (rows : List (List ℕ)) (u v : ℕ) → length rows ≡ 128 → 128 ≤ u → bit_in rows u v ≡ false
no_row rows u v l h = rw (get_or-eq_default rows [] {n = u} (omega arith), zero_bit (v % 64))

no_word : (rows : List (List ℕ)) (u v : ℕ) → length (get_or rows u []) ≡ 2 → 128 ≤ v → bit_in rows u v ≡ false
no_word rows u v l h = rw (get_or-eq_default (get_or rows u []) 0 {n = v / 64} (omega arith), zero_bit (v % 64))

-- the rows say of every two vertices whether the edges join them
pub shows_joined : (rows : List (List ℕ)) (es : List Edge) → Shows rows es → (u v : ℕ) → bit_at rows u v ≡ has_edge es (min u v) (max u v)
shows_joined rows es s u v = go (lt_or_ge u 128) (lt_or_ge v 128)
  where
    go : (u < 128) ⊎ (128 ≤ u) → (v < 128) ⊎ (128 ≤ v) → bit_at rows u v ≡ has_edge es (min u v) (max u v)
    go (inl h) (inl l) = sym (bit_in_lem rows u v h l) ∙ s.bits u v
    go (inl h) (inr l) = sym (bit_out_2 rows u v h l) ∙ sym (no_word rows u v (s.square.wide u h) l) ∙ s.bits u v
    go (inr h) l = sym (bit_out rows u v h) ∙ sym (no_row rows u v s.square.long h) ∙ s.bits u v

-- joining a vertex that is not below 128 changes nothing
pub join_out : (rows : List (List ℕ)) (a b : ℕ) → 128 ≤ a → rows ≡ join rows a b
unfolding join ◌and◌
join_out rows a b h = rw (join, le-ltb a 128 h)

pub join_out_2 : (rows : List (List ℕ)) (a b : ℕ) → a < 128 → 128 ≤ b → rows ≡ join rows a b
unfolding join ◌and◌
join_out_2 rows a b h l = rw (join, lt-ltb a 128 h, le-ltb b 128 l)
