-- Results in the words of document 01, and chains of them, for any type of faults with their numbers and places.
use Rattle.std.specs.Prelude.{ℕ, ◌≡◌, refl, Bool, true, false, Result, Ok, Err}
use Rattle.spec.specs.Outcome.{Outcome, ok, refuse, ◌>>=◌, ◌>>◌, check}

-- what was read, or the number and place of the refusal
abbrev pub outcome_of : {F A B : Type 0} → (F → ℕ) → (F → ℕ) → (A → B) → Result A F → Outcome B
outcome_of number place f (Ok a) = ok (f a)
outcome_of number place f (Err e) = refuse (number e) (place e)

module _ {A B : Type 0} where
  -- a step that is refused ends the chain
  pub refused : (o : Outcome A) (n p : ℕ) (g : A → Outcome B) → o ≡ refuse n p → (o >>= g) ≡ refuse n p
  unfolding ◌>>=◌
  refused o n p g e = rw e

  -- the same where the value is not used
  pub refused_on : (o : Outcome A) (n p : ℕ) (g : Outcome B) → o ≡ refuse n p → (o >> g) ≡ refuse n p
  unfolding ◌>>◌
  refused_on o n p g e = rw e

  -- what follows matters only at the value
  pub same_rest : (o : Outcome A) (f g : A → Outcome B) → ((a : A) → f a ≡ g a) → (o >>= f) ≡ (o >>= g)
  unfolding ◌>>=◌
  same_rest (ok a) f g h = h a
  same_rest (refuse n p) f g h = refl

  -- a value and its test might as well be one step
  pub tested : (o : Outcome A) (test : A → Bool) (n p : ℕ) (g : A → Outcome B)
      → (o >>= (λ a. check (test a) n p >> g a)) ≡ ((o >>= (λ a. check (test a) n p >> ok a)) >>= g)
  unfolding ◌>>=◌ ◌>>◌ check
  tested (refuse m q) test n p g = refl
  tested (ok a) test n p g = go (test a)
    where
      go : (b : Bool) → (check b n p >> g a) ≡ ((check b n p >> ok a) >>= g)
      go true = refl
      go false = refl
