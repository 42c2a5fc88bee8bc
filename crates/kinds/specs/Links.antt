-- Which places of a zone its kind joins.
use Rattle.std.specs.Prelude.{ℕ, ◌+◌, ◌≡◌, refl, Bool, true, false, eqb}
use Rattle.std.proofs.Common.{ap, sym, ◌∙◌, eq-eqb, ne_eqb, arith}
use Rattle.spec.specs.Outcome.{◌and◌, ◌or◌}
use Rattle.spec.specs.Layout.{linked}

-- the definition, over the values of its tests
abbrev linked_by : Bool → Bool → Bool → Bool → Bool → Bool
linked_by clique ring next zero closing = elim clique [ true ↦ true | false ↦ elim ring [ true ↦ next or (zero and closing) | false ↦ next ] ]

linked_by_lem : (kind size i j : ℕ) (a b c d : Bool) → eqb kind 3 ≡ a → eqb kind 4 ≡ b → eqb j (i + 1) ≡ c → eqb i 0 ≡ d
    → linked kind size i j ≡ linked_by a b c d (eqb (j + 1) size)
unfolding linked
linked_by_lem kind size i j a b c d p q r s =
    ap (λ (x : Bool). linked_by x (eqb kind 4) (eqb j (i + 1)) (eqb i 0) (eqb (j + 1) size)) p
    ∙ ap (λ (x : Bool). linked_by a x (eqb j (i + 1)) (eqb i 0) (eqb (j + 1) size)) q
    ∙ ap (λ (x : Bool). linked_by a b x (eqb i 0) (eqb (j + 1) size)) r
    ∙ ap (λ (x : Bool). linked_by a b c x (eqb (j + 1) size)) s

-- the number of a kind whose vertices are a line, or a ring
abbrev pub line_number : Bool → ℕ
line_number true = 4
line_number false = 2

pub line_not_clique : (ring : Bool) → line_number ring ≡ 3 → ⊥
line_not_clique true e = omega arith
line_not_clique false e = omega arith

-- a clique joins any two
pub links_any : (kind size i j : ℕ) → kind ≡ 3 → true ≡ linked kind size i j
unfolding linked
links_any kind size i j e = rw (e, linked)

-- neighbours are joined in every kind
pub links_next : (kind size i j : ℕ) → (kind ≡ 3 → ⊥) → j ≡ i + 1 → true ≡ linked kind size i j
unfolding ◌or◌ ◌and◌
links_next kind size i j h e =
    sym (linked_by_lem kind size i j false (eqb kind 4) true (eqb i 0) (ne_eqb kind 3 h) refl (eq-eqb j (i + 1) e) refl ∙ go (eqb kind 4))
  where
    go : (b : Bool) → linked_by false b true (eqb i 0) (eqb (j + 1) size) ≡ true
    go true = refl
    go false = refl

-- in a stack or hall no others
pub links_line : (kind size i j : ℕ) → (kind ≡ 3 → ⊥) → (j ≡ i + 1 → ⊥) → (kind ≡ 4 → ⊥) → false ≡ linked kind size i j
links_line kind size i j h e g =
    sym (linked_by_lem kind size i j false false false (eqb i 0) (ne_eqb kind 3 h) (ne_eqb kind 4 g) (ne_eqb j (i + 1) e) refl)

-- in a ring the last and the first
pub links_round : (kind size i j : ℕ) → kind ≡ 4 → (j ≡ i + 1 → ⊥) → i ≡ 0 → eqb (j + 1) size ≡ linked kind size i j
unfolding ◌or◌ ◌and◌
links_round kind size i j h e g =
    sym (linked_by_lem kind size i j false true false true (ne_eqb kind 3 (λ (x : kind ≡ 3). omega arith)) (eq-eqb kind 4 h) (ne_eqb j (i + 1) e) (eq-eqb i 0 g))

-- and no others
pub links_inner : (kind size i j : ℕ) → kind ≡ 4 → (j ≡ i + 1 → ⊥) → (i ≡ 0 → ⊥) → false ≡ linked kind size i j
unfolding ◌or◌ ◌and◌
links_inner kind size i j h e g =
    sym (linked_by_lem kind size i j false true false false (ne_eqb kind 3 (λ (x : kind ≡ 3). omega arith)) (eq-eqb kind 4 h) (ne_eqb j (i + 1) e) (ne_eqb i 0 g))
