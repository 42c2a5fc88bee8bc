-- Answers: what a service returns and leaves whose work is a chain of checks and then a file that has to fit.
-- What it rests on stands in specs/Services/Answers.antt.
use Rattle.std.specs.Prelude.{◌≡◌, refl, Bool, true, false, List, ℕ, ◌*◌, ◌≤◌, ◌<◌, length, T}
use Rattle.std.proofs.Common.{◌∙◌, arith, leb→le, le→leb}
use Rattle.std.proofs.Math.Decide.{dec_le}
use Rattle.spec.specs.Outcome.{Outcome, ok, refuse, ◌>>◌, check}
use Rattle.spec.specs.Wire.{file_of}
use Rattle.spec.specs.Services.{fits, answer_of}
use Rattle.spec.specs.Terms.{Within, writes, Answers}
use Rattle.theory.specs.Basics.Outcomes.{pass, bind}
use Rattle.theory.specs.Services.Answers.{refusal, payload_within, file_within, answers_over, answer}

-- ---- files that fit

-- a check that fails refuses
fail : {A : Type 0} (b : Bool) (n p : ℕ) (g : Outcome A) → (T b → ⊥) → (check b n p >> g) ≡ refuse n p
unfolding check ◌>>◌
fail true n p g h = absurd (h tt)
fail false n p g h = refl

-- a file that fits is written
answers_whole : (limit room : ℕ) (f : List ℕ) → Within limit f → length f ≤ room → Answers limit room f (writes room f)
answers_whole limit room f h k = record {
  over = (λ e. absurd (omega arith), λ e. absurd (omega arith));
  short = (λ e. absurd (omega arith), λ e. absurd (omega (arith, e.1)));
  whole = (λ e. (h, k), λ e. refl);
  place = λ n. absurd (n refl);
  wrote = λ e. refl;
}

-- longer than the buffer: 60
answers_short : (limit room : ℕ) (f : List ℕ) → Within limit f → room < length f → Answers limit room f (refusal room 60 0)
answers_short limit room f h k = record {
  over = (λ e. absurd (omega arith), λ e. absurd (omega arith));
  short = (λ e. (h, k), λ e. refl);
  whole = (λ e. absurd (omega arith), λ e. absurd (omega (arith, e.1)));
  place = λ n. refl;
  wrote = λ e. absurd (omega arith);
}

module _ (kind limit room : ℕ) (p : List ℕ) where
  -- a payload and a file that fit
  fit : length p ≤ 504 * limit → length (file_of kind p) ≤ room → fits kind limit room p ≡ ok (file_of kind p)
  unfolding fits
  fit h k = pass _ _ _ _ (le→leb _ _ h) ∙ pass _ _ _ _ (le→leb _ _ k)

  -- a payload that does not
  unfit_61 : (length p ≤ 504 * limit → ⊥) → fits kind limit room p ≡ refuse 61 0
  unfolding fits
  unfit_61 h = fail _ _ _ _ (λ t. h (leb→le (length p) (504 * limit) t))

  -- a file that does not
  unfit_60 : length p ≤ 504 * limit → (length (file_of kind p) ≤ room → ⊥) → fits kind limit room p ≡ refuse 60 0
  unfolding fits
  unfit_60 h k = pass _ _ _ _ (le→leb _ _ h) ∙ fail _ _ _ _ (λ t. k (leb→le (length (file_of kind p)) room t))

  -- a payload that fits is written, one that does not is refused
  pub fits_answers : Answers limit room (file_of kind p) (answer_of room (fits kind limit room p))
  fits_answers = case (dec_le (length p) (504 * limit)) (dec_le (length (file_of kind p)) room)
    where
      over : (length p ≤ 504 * limit → ⊥) → Dec (length (file_of kind p) ≤ limit * 512) → limit * 512 < length (file_of kind p)
      over h (yes q) = absurd (h (payload_within kind limit p q))
      over h (no q) = omega arith

      case : Dec (length p ≤ 504 * limit) → Dec (length (file_of kind p) ≤ room) → Answers limit room (file_of kind p) (answer_of room (fits kind limit room p))
      case (yes h) (yes k) = rw (fit h k) (unfold answer_of in answers_whole limit room (file_of kind p) (file_within kind limit p h) k)
      case (yes h) (no k) = rw (unfit_60 h k) (unfold answer_of in answers_short limit room (file_of kind p) (file_within kind limit p h) (omega arith))
      case (no h) k = rw (unfit_61 h) (unfold answer_of in answers_over limit room (file_of kind p) (over h (dec_le (length (file_of kind p)) (limit * 512))))

-- ---- a service: checks that give a value, and the file of the value's payload

module _ {A : Type 0} (o : Outcome A) (kind limit : ℕ) (payload : A → List ℕ) (room : ℕ) where
  -- where the checks give a value the file answers
  pub answer_of_lem : (x : A) → o ≡ ok x → Answers limit room (file_of kind (payload x)) (answer o kind limit payload room)
  answer_of_lem x e = rw (bind o x (λ x. fits kind limit room (payload x)) e) (fits_answers kind limit room (payload x))
