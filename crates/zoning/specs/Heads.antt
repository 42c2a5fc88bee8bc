-- The counts of a map, and a zone's head, read step by step.
use Rattle.std.specs.Prelude.{ℕ, ◌+◌, ◌≤◌, ◌<◌, ◌≡◌, ◌≢◌, refl, Bool, true, false, List, eqb, leb}
use Rattle.std.proofs.Common.{◌∙◌, leb→le, arith}
use borrow.Author.Tests.{le-leb, lt-leb}
use Rattle.spec.specs.Outcome.{Outcome, ok, refuse, ◌>>=◌, ◌>>◌, check, ◌and◌}
use Rattle.spec.specs.Layout as layout
use Rattle.spec.specs.Layout.{byte_at, read_head, counts_of, least_size}
use Rattle.theory.specs.Basics.Tests.{and_left, and_right}
use Rattle.numbering.specs.Kind.{number_of, least_of, number_low, number_high, no_number}
use Rattle.numbering.specs.declared.ZoneKind.{ZoneKind}
use Rattle.numbering.specs.declared.ZoneKind.TheVariants.{Stack, Hall, Clique, Ring}
use Rattle.theory.specs.Basics.Outcomes.{ok_injective, passed, bound, bind}
use Rattle.zoning.specs.declared.Head.{Head}
use Rattle.zoning.specs.declared.Counts.{Counts}
use Rattle.zoning.specs.Chain.{refused, tested, same_rest}

abbrev pub head_in : Head → layout.Head
head_in r = record { kind = number_of r.kind; size = r.size }

abbrev pub counts_in : Counts → layout.Counts
counts_in r = record { vertices = r.vertices; zones = r.zones }

-- the least size of a kind is its number's
pub least_is : (kind : ZoneKind) → least_size (number_of kind) ≡ least_of kind
unfolding least_size
least_is Stack = refl
least_is Hall = refl
least_is Clique = refl
least_is Ring = refl

-- every kind has at least one vertex
pub least_some : (kind : ℕ) → 1 ≤ least_size kind
unfolding least_size
least_some kind = go (eqb kind 4)
  where
    go : (b : Bool) → 1 ≤ elim b as (λ _. ℕ) [ true ↦ 3 | false ↦ 1 ]
    go true = omega arith
    go false = omega arith

-- a kind's number is tested so, and no other
a_kind : (kind : ZoneKind) → (leb 1 (number_of kind) and leb (number_of kind) 4) ≡ true
unfolding ◌and◌
a_kind kind = rw (le-leb 1 (number_of kind) (number_low kind), le-leb (number_of kind) 4 (number_high kind))

no_kind : (n : ℕ) → ((kind : ZoneKind) → number_of kind ≢ n) → (leb 1 n and leb n 4) ≡ false
no_kind n h = go (leb 1 n and leb n 4) refl
  where
    go : (b : Bool) → (leb 1 n and leb n 4) ≡ b → b ≡ false
    go true e = absurd (no_number n h (leb→le 1 n (and_left (leb 1 n) (leb n 4) (rw e tt))) (leb→le n 4 (and_right (leb 1 n) (leb n 4) (rw e tt))))
    go false e = refl

module _ (p : List ℕ) (o : ℕ) where
  pub head_short : byte_at 15 p o ≡ refuse 15 o → read_head p o ≡ refuse 15 o
  unfolding read_head ◌>>=◌
  head_short e = rw (read_head, e)

  pub head_kind : (n : ℕ) → byte_at 15 p o ≡ ok n → ((kind : ZoneKind) → number_of kind ≢ n) → read_head p o ≡ refuse 16 o
  unfolding read_head ◌>>=◌ ◌>>◌ check
  head_kind n there h = rw (read_head, there, no_kind n h)

  module _ (kind : ZoneKind) (there : byte_at 15 p o ≡ ok (number_of kind)) where
    pub head_end : byte_at 15 p (o + 1) ≡ refuse 15 (o + 1) → read_head p o ≡ refuse 15 (o + 1)
    unfolding read_head ◌>>=◌ ◌>>◌ check
    head_end e = rw (read_head, there, a_kind kind, e)

    module _ (size : ℕ) (behind : byte_at 15 p (o + 1) ≡ ok size) where
      pub head_small : size < least_of kind → read_head p o ≡ refuse 16 (o + 1)
      unfolding read_head ◌>>=◌ ◌>>◌ check
      head_small h =
          let l : size < least_size (number_of kind) = rw (least_is kind) h in
          rw (read_head, there, a_kind kind, behind, lt-leb (least_size (number_of kind)) size l)

      pub head_good : least_of kind ≤ size → read_head p o ≡ ok (record { kind = number_of kind; size = size })
      unfolding read_head ◌>>=◌ ◌>>◌ check
      head_good h =
          let l : least_size (number_of kind) ≤ size = rw (least_is kind) h in
          rw (read_head, there, a_kind kind, behind, le-leb (least_size (number_of kind)) size l)

-- one count
unfoldable pub count_at : ℕ → List ℕ → ℕ → Outcome ℕ
count_at most p o = byte_at 15 p o >>= (λ n. check (leb 1 n and leb n most) 16 o >> ok n)

-- the counts are one after the other
pub counts_are : (p : List ℕ) → counts_of p ≡ (count_at 128 p 0 >>= (λ n. count_at 64 p 1 >>= (λ z. ok (record { vertices = n; zones = z }))))
unfolding counts_of count_at
counts_are p =
    tested (byte_at 15 p 0) (λ n. leb 1 n and leb n 128) 16 0 (λ n. byte_at 15 p 1 >>= (λ z. check (leb 1 z and leb z 64) 16 1 >> ok (record { vertices = n; zones = z })))
    ∙ same_rest (count_at 128 p 0) _ _ (λ n. tested (byte_at 15 p 1) (λ z. leb 1 z and leb z 64) 16 1 (λ z. ok (record { vertices = n; zones = z })))

module _ (most : ℕ) (p : List ℕ) (o : ℕ) where
  pub count_short : byte_at 15 p o ≡ refuse 15 o → count_at most p o ≡ refuse 15 o
  unfolding count_at ◌>>=◌
  count_short e = rw (count_at, e)

  module _ (n : ℕ) (there : byte_at 15 p o ≡ ok n) where
    pub count_low : n < 1 → count_at most p o ≡ refuse 16 o
    unfolding count_at ◌>>=◌ ◌>>◌ check ◌and◌
    count_low h = rw (count_at, there, lt-leb 1 n h)

    pub count_high : 1 ≤ n → most < n → count_at most p o ≡ refuse 16 o
    unfolding count_at ◌>>=◌ ◌>>◌ check ◌and◌
    count_high h l = rw (count_at, there, le-leb 1 n h, lt-leb n most l)

    pub count_good : 1 ≤ n → n ≤ most → count_at most p o ≡ ok n
    unfolding count_at ◌>>=◌ ◌>>◌ check ◌and◌
    count_good h l = rw (count_at, there, le-leb 1 n h, le-leb n most l)

-- a count is at most the most
pub count_most : (most : ℕ) (p : List ℕ) (o n : ℕ) → count_at most p o ≡ ok n → n ≤ most
unfolding count_at
count_most most p o n e =
    let b = bound _ _ _ e in
    let a = passed _ _ _ _ _ b.2 in
    rw (← ok_injective a.1) (leb→le _ _ (and_right _ _ a.0))

-- the counts are within their ranges
pub counts_range : (p : List ℕ) (c : layout.Counts) → counts_of p ≡ ok c → (c.vertices ≤ 128) × (c.zones ≤ 64)
unfolding counts_of
counts_range p c e =
    let n = bound _ _ _ e in
    let a = passed _ _ _ _ _ n.2 in
    let z = bound _ _ _ a.1 in
    let b = passed _ _ _ _ _ z.2 in
    rw (← ok_injective b.1) (leb→le _ _ (and_right _ _ a.0), leb→le _ _ (and_right _ _ b.0))

module _ (p : List ℕ) where
  pub counts_vertices : (r q : ℕ) → count_at 128 p 0 ≡ refuse r q → counts_of p ≡ refuse r q
  counts_vertices r q e = counts_are p ∙ refused (count_at 128 p 0) r q _ e

  module _ (n : ℕ) (first : count_at 128 p 0 ≡ ok n) where
    pub counts_zones : (r q : ℕ) → count_at 64 p 1 ≡ refuse r q → counts_of p ≡ refuse r q
    counts_zones r q e = counts_are p ∙ bind (count_at 128 p 0) n _ first ∙ refused (count_at 64 p 1) r q _ e

    pub counts_good : (z : ℕ) → count_at 64 p 1 ≡ ok z → counts_of p ≡ ok (record { vertices = n; zones = z })
    counts_good z e = counts_are p ∙ bind (count_at 128 p 0) n _ first ∙ bind (count_at 64 p 1) z _ e
