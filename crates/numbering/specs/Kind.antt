-- The kinds of zones and their numbers.
use Rattle.std.specs.Prelude.{◌≡◌, ◌≢◌, ◌≤◌, refl, ℕ, Bool, true, false, eqb, Result, MatchResult}
use Rattle.std.proofs.Common.{ap₂, ◌∙◌, sym, arith}
use Rattle.std.proofs.Math.Decide.{ℕ_discrete}
use borrow.Author.Tests.{eqb-true, eq-eqb, ne_eqb}
use Rattle.numbering.specs.declared.ZoneKind.{ZoneKind}
use Rattle.numbering.specs.declared.ZoneKind.TheVariants.{Stack, Hall, Clique, Ring}
use Rattle.numbering.specs.declared.NoKind.{NoKind}

-- a kind's number: "1 stack, 2 hall, 3 clique, 4 ring"
abbrev pub number_of : ZoneKind → ℕ
number_of Stack = 1
number_of Hall = 2
number_of Clique = 3
number_of Ring = 4

-- the least size of a zone of a kind
abbrev pub least_of : ZoneKind → ℕ
least_of Stack = 1
least_of Hall = 1
least_of Clique = 1
least_of Ring = 3

-- the kind that has the number, or an error with it, which no kind has
abbrev pub Decodes : ℕ → Result ZoneKind NoKind → Type 0
Decodes n r = MatchResult r (λ kind. number_of kind ≡ n) (λ e. (e.0 ≡ n) × ((kind : ZoneKind) → number_of kind ≢ n))

-- the kind by whose rules a zone with a number goes: the one that has it, and a hall where none has
abbrev pub goes_as : ℕ → ZoneKind
goes_as n = elim (eqb n 1) [ true ↦ Stack | false ↦ elim (eqb n 3) [ true ↦ Clique | false ↦ elim (eqb n 4) [ true ↦ Ring | false ↦ Hall ] ] ]

-- a kind that is not a clique, or not a ring, has another number
pub not_clique : (kind : ZoneKind) → (kind ≡ Clique → ⊥) → number_of kind ≡ 3 → ⊥
not_clique Stack h e = omega arith
not_clique Hall h e = omega arith
not_clique Clique h e = h refl
not_clique Ring h e = omega arith

pub not_ring : (kind : ZoneKind) → (kind ≡ Ring → ⊥) → number_of kind ≡ 4 → ⊥
not_ring Stack h e = omega arith
not_ring Hall h e = omega arith
not_ring Clique h e = omega arith
not_ring Ring h e = h refl

-- a kind's number is from 1 to 4
pub number_low : (kind : ZoneKind) → 1 ≤ number_of kind
number_low Stack = omega arith
number_low Hall = omega arith
number_low Clique = omega arith
number_low Ring = omega arith

pub number_high : (kind : ZoneKind) → number_of kind ≤ 4
number_high Stack = omega arith
number_high Hall = omega arith
number_high Clique = omega arith
number_high Ring = omega arith

-- a number that no kind has is none of these
pub no_number : (n : ℕ) → ((kind : ZoneKind) → number_of kind ≢ n) → 1 ≤ n → n ≤ 4 → ⊥
no_number n h l m = omega (arith, h Stack, h Hall, h Clique, h Ring)

-- and one that is not a stack a number from 2 on
pub not_stack : (kind : ZoneKind) → (kind ≡ Stack → ⊥) → 2 ≤ number_of kind
not_stack Stack h = absurd (h refl)
not_stack Hall h = omega arith
not_stack Clique h = omega arith
not_stack Ring h = omega arith

-- ---- the kind as which a number goes

-- a kind goes as itself
pub goes_itself : (kind : ZoneKind) → goes_as (number_of kind) ≡ kind
goes_itself Stack = refl
goes_itself Hall = refl
goes_itself Clique = refl
goes_itself Ring = refl

-- a number that no kind has goes as a hall
pub goes_hall : (n : ℕ) → (n ≡ 1 → ⊥) → (n ≡ 3 → ⊥) → (n ≡ 4 → ⊥) → goes_as n ≡ Hall
goes_hall n a b c = rw (goes_as, ne_eqb n 1 a, ne_eqb n 3 b, ne_eqb n 4 c)

-- a test of a number that tells stacks, cliques and rings alone answers the same of the number of the kind as which it goes
goes_same : {A : Type 0} (f : ℕ → A) → ((n : ℕ) → (n ≡ 1 → ⊥) → (n ≡ 3 → ⊥) → (n ≡ 4 → ⊥) → f n ≡ f 2) → (n : ℕ) → f (number_of (goes_as n)) ≡ f n
goes_same {A} f h n = go (ℕ_discrete n 1) (ℕ_discrete n 3) (ℕ_discrete n 4)
  where
    go : Dec (n ≡ 1) → Dec (n ≡ 3) → Dec (n ≡ 4) → f (number_of (goes_as n)) ≡ f n
    go (yes e) b c = rw e
    go (no a) (yes e) c = rw e
    go (no a) (no b) (yes e) = rw e
    go (no a) (no b) (no c) = rw (goes_hall n a b c) (sym (h n a b c))

pub goes_stack : (n : ℕ) → eqb (number_of (goes_as n)) 1 ≡ eqb n 1
goes_stack = goes_same (λ (n : ℕ). eqb n 1) (λ n a b c. ne_eqb n 1 a)

pub goes_clique : (n : ℕ) → eqb (number_of (goes_as n)) 3 ≡ eqb n 3
goes_clique = goes_same (λ (n : ℕ). eqb n 3) (λ n a b c. ne_eqb n 3 b)

pub goes_ring : (n : ℕ) → eqb (number_of (goes_as n)) 4 ≡ eqb n 4
goes_ring = goes_same (λ (n : ℕ). eqb n 4) (λ n a b c. ne_eqb n 4 c)

-- it goes as a clique only where it is a clique's
pub goes_clique_only : (n : ℕ) → number_of (goes_as n) ≡ 3 → n ≡ 3
goes_clique_only n e = eqb-true n 3 (sym (goes_clique n) ∙ eq-eqb (number_of (goes_as n)) 3 e)

-- so what is chosen for cliques, for rings and for all others is the same for both numbers
pub goes_chosen : {A : Type 0} (n : ℕ) (clique ring hall : A)
    → ◌≡◌ {A = A} (elim (eqb (number_of (goes_as n)) 3) [ true ↦ clique | false ↦ elim (eqb (number_of (goes_as n)) 4) [ true ↦ ring | false ↦ hall ] ])
    (elim (eqb n 3) [ true ↦ clique | false ↦ elim (eqb n 4) [ true ↦ ring | false ↦ hall ] ])
goes_chosen {A} n clique ring hall = ap₂ (λ (b c : Bool). elim b as (λ _. A) [ true ↦ clique | false ↦ elim c as (λ _. A) [ true ↦ ring | false ↦ hall ] ]) (goes_clique n) (goes_ring n)
