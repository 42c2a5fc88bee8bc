-- Answers: what a service returns and leaves whose work is a chain of checks and then a file that has to fit.
use Rattle.std.specs.Prelude.{◌≡◌, refl, List, ◌∷◌, ◌++◌, ℕ, ◌-◌, ◌*◌, ◌≤◌, ◌<◌, length, replicate}
use Rattle.std.proofs.Common.{◌∙◌, arith, length-append, drop_at, leb→le}
use Rattle.std.proofs.lemmas.List.{length-replicate}
use Rattle.spec.specs.Outcome.{Outcome, ok, refuse, ◌>>=◌}
use Rattle.spec.specs.Wire.{file_of}
use Rattle.spec.specs.Services.{Answer, fits, answer_of}
use Rattle.spec.specs.Terms.{Within, Answers, Left, answer_numbers}
use Rattle.theory.specs.Basics.Outcomes.{ok_injective, passed, bound}
use Rattle.theory.specs.Basics.Lists.{In, in_head, in_tail}
use Rattle.theory.specs.Codec.{block_count, file_length}
use Rattle.theory.specs.Services.Refusals.{Numbered, numbered_bind, numbered_left, numbered_right, numbered_fits}

-- ---- files that fit

-- a refusal
abbrev pub refusal : ℕ → ℕ → ℕ → Answer
refusal room n p = record { number = n; value = p; buffer = replicate room 0 }

-- a file fits its blocks exactly where its payload does
pub payload_within : (kind limit : ℕ) (p : List ℕ) → Within limit (file_of kind p) → length p ≤ 504 * limit
unfolding block_count
payload_within kind limit p k = omega (arith, file_length kind p)

-- and the other way
pub file_within : (kind limit : ℕ) (p : List ℕ) → length p ≤ 504 * limit → Within limit (file_of kind p)
unfolding block_count
file_within kind limit p k = omega (arith, file_length kind p)

-- over its blocks: 61
pub answers_over : (limit room : ℕ) (f : List ℕ) → limit * 512 < length f → Answers limit room f (refusal room 61 0)
answers_over limit room f h = record {
  over = (λ e. h, λ e. refl);
  short = (λ e. absurd (omega arith), λ e. absurd (omega (arith, e.0)));
  whole = (λ e. absurd (omega arith), λ e. absurd (omega (arith, e.0)));
  place = λ n. refl;
  wrote = λ e. absurd (omega arith);
}

-- what fits gives is a file that fits the buffer
fitted : (kind limit room : ℕ) (p f : List ℕ) → fits kind limit room p ≡ ok f → (length f ≤ room)
unfolding fits
fitted kind limit room p f e =
    let a = passed _ _ _ _ _ e in
    let b = passed _ _ _ _ _ a.1 in
    rw (← ok_injective b.1) (leb→le _ _ b.0)

-- ---- any answer

-- a number of the table, or 0
pub number_listed : (ns : List ℕ) (room : ℕ) (o : Outcome (List ℕ)) → Numbered ns o → In (answer_of room o).number (0 ∷ ns)
unfolding answer_of
number_listed ns room (ok f) h = in_head 0 ns
number_listed ns room (refuse n p) h = in_tail n 0 ns h

-- 0 is a value's, where no refusal has it
pub number_zero : (ns : List ℕ) → (In 0 ns → ⊥) → (room : ℕ) (o : Outcome (List ℕ)) → Numbered ns o → (answer_of room o).number ≡ 0 → (f : List ℕ) × (o ≡ ok f)
unfolding answer_of
number_zero ns z room (ok f) h e = (f, refl)
number_zero ns z room (refuse n p) h e = absurd (z (rw e at h))

-- the buffer of an answer whose file fits it
pub left : (ns : List ℕ) → (In 0 ns → ⊥) → (room : ℕ) (o : Outcome (List ℕ)) → Numbered ns o → ((f : List ℕ) → o ≡ ok f → length f ≤ room) → Left room (answer_of room o)
unfolding answer_of
left ns z room (ok f) h k = let l = k f refl in record {
  size = length-append f (replicate (room - length f) 0) ∙ rw (length-replicate {A = ℕ} (room - length f) 0) (omega arith);
  refused = λ n. absurd (n refl);
  value = λ e. l;
  rest = λ e. drop_at f (replicate (room - length f) 0) (length f) refl;
}
left ns z room (refuse n p) h k = record {
  size = length-replicate {A = ℕ} room 0;
  refused = λ e. refl;
  value = λ e. absurd (z (rw e at h));
  rest = λ e. absurd (z (rw e at h));
}

-- ---- a service: checks that give a value, and the file of the value's payload

module _ {A : Type 0} (o : Outcome A) (kind limit : ℕ) (payload : A → List ℕ) (room : ℕ) where
  -- the service
  abbrev pub answer : Answer
  answer = answer_of room (o >>= λ x. fits kind limit room (payload x))

module _ {A : Type 0} (ns : List ℕ) (o : Outcome A) (numbered : Numbered ns o) (kind limit : ℕ) (payload : A → List ℕ) (room : ℕ) where
  -- its refusals are the checks' or 61 and 60
  answer_numbered : Numbered (ns ++ answer_numbers) (o >>= λ x. fits kind limit room (payload x))
  answer_numbered = numbered_bind (ns ++ answer_numbers) o (λ x. fits kind limit room (payload x)) (numbered_left ns answer_numbers o numbered)
      (λ x. numbered_right ns answer_numbers (fits kind limit room (payload x)) (numbered_fits kind limit room (payload x)))

  -- its number
  pub answer_listed : In (answer o kind limit payload room).number (0 ∷ ns ++ answer_numbers)
  answer_listed = number_listed (ns ++ answer_numbers) room _ answer_numbered

  -- its buffer
  pub answer_left : (In 0 (ns ++ answer_numbers) → ⊥) → Left room (answer o kind limit payload room)
  answer_left z = left (ns ++ answer_numbers) z room _ answer_numbered (λ f e. let w = bound o (λ x. fits kind limit room (payload x)) f e in fitted kind limit room (payload w.0) f w.2)

  -- 0 is returned for a value's file
  pub answer_zero : (In 0 (ns ++ answer_numbers) → ⊥) → (answer o kind limit payload room).number ≡ 0 → (x : A) × (o ≡ ok x)
  answer_zero z e =
      let f = number_zero (ns ++ answer_numbers) z room _ answer_numbered e in
      let w = bound o (λ x. fits kind limit room (payload x)) f.0 f.1 in
      (w.0, w.1)
