-- What delivering an answer gives: document 01's 61, then 60, else the file and zeros.
use Rattle.std.specs.Prelude.{ℕ, ◌+◌, ◌-◌, ◌*◌, ◌/◌, ◌≤◌, ◌<◌, ◌≡◌, refl, take, replicate, Result, Ok, Err}
use Rattle.std.proofs.Math.Path.{ap, sym}
use Rattle.std.proofs.Common.{◌∙◌, length-append, length-take-le, arith}
use Rattle.std.proofs.Math.Logic.{⊎_elim}
use mathlib.Core.List.{List, ◌++◌}
use Rattle.std.proofs.Math.ListN.{length}
use Rattle.std.proofs.lemmas.List.{length-replicate, take-append-le}
use borrow.Author.Tests.{le-leb, lt-leb}
use Rattle.spec.specs.Outcome.{ok, refuse, ◌>>◌, check}
use Rattle.spec.specs.Wire.{file_of}
use Rattle.spec.specs.Services.{Answer, fits, answer_of}
use Rattle.wire.specs.Payload.{payload, payload_length, lt_or_ge}
use Rattle.writer.specs.Laid.{laid_all, laid_length, laid_count_last, laid_payload}
use Rattle.answers.specs.Sealed.{file_up, up_length}
use Rattle.answers.specs.declared.Undelivered.{Undelivered}
use Rattle.answers.specs.declared.Undelivered.TheVariants.{TooLong, NoRoom}

-- the answer that a result and a buffer are: document 01's numbers for what is not delivered
abbrev pub answered : Result ℕ Undelivered → List ℕ → Answer
answered (Ok n) o = record { number = 0; value = n; buffer = o }
answered (Err TooLong) o = record { number = 61; value = 0; buffer = o }
answered (Err NoRoom) o = record { number = 60; value = 0; buffer = o }

-- the answer that they come to once the buffer of what is not delivered is made 0
abbrev pub zeroed : Result ℕ Undelivered → List ℕ → Answer
zeroed (Ok n) o = answered (Ok n) o
zeroed (Err e) o = answered (Err e) (replicate (length o) 0)

-- the payload of `len` bytes that stands in a buffer, zeros where the buffer ends before it
unfoldable pub payload_in : ℕ → List ℕ → List ℕ
payload_in len o = take len (payload o ++ replicate len 0)

-- the answer with the `len` bytes of payload that stand in a buffer
unfoldable pub delivered_of : ℕ → ℕ → ℕ → List ℕ → Answer
delivered_of kind limit len o = answer_of (length o) (fits kind limit (length o) (payload_in len o))

-- what keeps the file of `len` payload bytes from its kind's blocks or from a buffer, or how many bytes it has
abbrev pub Sized : ℕ → ℕ → ℕ → Result ℕ Undelivered → Type 0
Sized room limit len (Ok n) = (n ≡ (len + 503) / 504 * 512) × (len ≤ 504 * limit) × ((len + 503) / 504 * 512 ≤ room)
Sized room limit len (Err TooLong) = 504 * limit < len
Sized room limit len (Err NoRoom) = (len ≤ 504 * limit) × (room < (len + 503) / 504 * 512)

-- ---- the payload that stands in a buffer

-- it is `len` bytes
pub payload_in_length : (len : ℕ) (o : List ℕ) → length (payload_in len o) ≡ len
unfolding payload_in
payload_in_length len o =
    let r : length {A = ℕ} (replicate len 0) ≡ len = length-replicate len 0 in
    length-take-le len (payload o ++ replicate len 0) (omega (arith, length-append (payload o) (replicate len 0)))

-- where there is room it is the first `len` bytes of the payload
pub payload_in_is : (len : ℕ) (o : List ℕ) → (len + 503) / 504 * 512 ≤ length o → payload_in len o ≡ take len (payload o)
unfolding payload_in
payload_in_is len o h = take-append-le len (payload o) (replicate len 0) (omega (arith, payload_length o))

-- ---- the three ways out: 61, 60, the file

-- how long the file of a payload is
pub file_length : (kind : ℕ) (p : List ℕ) → length (file_of kind p) ≡ (length p + 503) / 504 * 512
file_length kind p = ap length (file_up kind p) ∙ up_length kind p ((length p + 503) / 504)

module _ (kind limit room : ℕ) (p : List ℕ) where
  -- over its kind's blocks
  pub fits_over : 504 * limit < length p → fits kind limit room p ≡ refuse 61 0
  unfolding fits check ◌>>◌
  fits_over h = rw (lt-leb (length p) (504 * limit) h)

  -- over the buffer
  pub fits_short : length p ≤ 504 * limit → room < (length p + 503) / 504 * 512 → fits kind limit room p ≡ refuse 60 0
  unfolding fits check ◌>>◌
  fits_short h g = rw (le-leb (length p) (504 * limit) h, lt-leb (length (file_of kind p)) room (omega (arith, file_length kind p)))

  -- it fits
  pub fits_whole : length p ≤ 504 * limit → (length p + 503) / 504 * 512 ≤ room → fits kind limit room p ≡ ok (file_of kind p)
  unfolding fits check ◌>>◌
  fits_whole h g = rw (le-leb (length p) (504 * limit) h, le-leb (length (file_of kind p)) room (omega (arith, file_length kind p)))

module _ (kind limit len : ℕ) (o : List ℕ) where
  -- 61, with the buffer zeroed
  pub delivered_over : 504 * limit < len → delivered_of kind limit len o ≡ record { number = 61; value = 0; buffer = replicate (length o) 0 }
  unfolding delivered_of answer_of
  delivered_over h = let l = payload_in_length len o in ap (answer_of (length o)) (fits_over kind limit (length o) (payload_in len o) (omega arith))

  -- 60, with the buffer zeroed
  pub delivered_short : len ≤ 504 * limit → length o < (len + 503) / 504 * 512
      → delivered_of kind limit len o ≡ record { number = 60; value = 0; buffer = replicate (length o) 0 }
  unfolding delivered_of answer_of
  delivered_short h g = let l = payload_in_length len o in ap (answer_of (length o)) (fits_short kind limit (length o) (payload_in len o) (omega arith) (omega arith))

  -- the file, with zeros behind it
  pub delivered_whole : len ≤ 504 * limit → (len + 503) / 504 * 512 ≤ length o
      → delivered_of kind limit len o
      ≡ record { number = 0; value = (len + 503) / 504 * 512; buffer = file_of kind (take len (payload o)) ++ replicate (length o - (len + 503) / 504 * 512) 0 }
  unfolding delivered_of answer_of
  delivered_whole h g =
      let l = payload_in_length len o in
      let e : length (file_of kind (take len (payload o))) ≡ (len + 503) / 504 * 512 = file_length kind (take len (payload o)) ∙ ap (λ (k : ℕ). (k + 503) / 504 * 512) (sym (ap length (payload_in_is len o g)) ∙ l) in
      ap (answer_of (length o)) (fits_whole kind limit (length o) (payload_in len o) (omega arith) (omega arith) ∙ ap (λ (p : List ℕ). ok (file_of kind p)) (payload_in_is len o g))
      ∙ rw e

  -- the answer with a size
  pub delivered_size : (n : ℕ) → Sized (length o) limit len (Ok n) → delivered_of kind limit len o
      ≡ answered (Ok n) (file_of kind (take len (payload o)) ++ replicate (length o - (len + 503) / 504 * 512) 0)
  delivered_size n w = rw w.0 (delivered_whole w.1 w.2)

  -- the answer with a fault
  pub delivered_fault : (e : Undelivered) → Sized (length o) limit len (Err e) → delivered_of kind limit len o ≡ answered (Err e) (replicate (length o) 0)
  delivered_fault TooLong w = delivered_over w
  delivered_fault NoRoom w = delivered_short w.0 w.1

  -- ---- what callers cite

  -- the answer is that of a payload which stands in the buffer wherever all of it has room
  pub delivered_is : (p : List ℕ) → length p ≡ len → (len ≤ 504 * limit → (len + 503) / 504 * 512 ≤ length o → take len (payload o) ≡ p)
      → delivered_of kind limit len o ≡ answer_of (length o) (fits kind limit (length o) p)
  unfolding delivered_of
  delivered_is p e h =
      let l = payload_in_length len o in
      ⊎_elim
      (λ (q : 504 * limit < len).
      ap (answer_of (length o)) (fits_over kind limit (length o) (payload_in len o) (omega arith) ∙ sym (fits_over kind limit (length o) p (omega arith))))
      (λ (q : len ≤ 504 * limit).
      ⊎_elim
      (λ (r : length o < (len + 503) / 504 * 512).
      ap (answer_of (length o)) (fits_short kind limit (length o) (payload_in len o) (omega arith) (rw l r) ∙ sym (fits_short kind limit (length o) p (omega arith) (rw e r))))
      (λ (r : (len + 503) / 504 * 512 ≤ length o).
      ap (λ (x : List ℕ). answer_of (length o) (fits kind limit (length o) x)) (payload_in_is len o r ∙ h q r))
      (lt_or_ge (length o) ((len + 503) / 504 * 512)))
      (lt_or_ge (504 * limit) len)

-- the answer is that of the payload that was laid in the buffer, whatever the buffer held before
pub delivered_laid : (kind limit : ℕ) (o p : List ℕ) → delivered_of kind limit (length p) (laid_all o 0 p) ≡ answer_of (length o) (fits kind limit (length o) p)
delivered_laid kind limit o p =
    let l = laid_length o 0 p in
    delivered_is kind limit (length p) (laid_all o 0 p) p refl (λ h g. laid_payload o p (omega arith))
    ∙ ap (λ (k : ℕ). answer_of k (fits kind limit k p)) l

-- the same where the count was laid last
pub delivered_counted : (kind limit : ℕ) (o count bs : List ℕ)
    → delivered_of kind limit (length (count ++ bs)) (laid_all (laid_all o (length count) bs) 0 count) ≡ answer_of (length o) (fits kind limit (length o) (count ++ bs))
delivered_counted kind limit o count bs = rw (laid_count_last o count bs) (delivered_laid kind limit o (count ++ bs))
