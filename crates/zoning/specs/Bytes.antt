-- The bytes of a payload as they are read from the file, and a field read from them.
use Rattle.std.specs.Prelude.{ℕ, zero, suc, ◌+◌, ◌*◌, ◌/◌, ◌≤◌, ◌<◌, ◌≡◌, refl, Bool, true, false, List, [], ◌∷◌, length, get_or, take, Option, Some, None, Ok, Err, if◌then◌else◌, nat_lt}
use Rattle.std.proofs.Common.{ap, sym, ◌∙◌, ext_get_or}
use Rattle.std.specs.Option.{ok_or}
use borrow.Author.Tests.{lt-ltb, le-ltb, ltb-true}
use native.Mathlib.Omega.{arith}
use Rattle.spec.specs.Outcome.{Outcome, ok, refuse}
use Rattle.spec.specs.Wire.{word}
use Rattle.spec.specs.Layout.{byte_at, word_at}
use Rattle.wire.specs.Payload as wire
use Rattle.wire.specs.Payload.{payload, place_of, held_length, held_byte}
use Rattle.zoning.specs.declared.PayloadBytes.{PayloadBytes}

-- `count` payload bytes of a file, from offset o on
unfoldable pub bytes_from : List ℕ → ℕ → ℕ → List ℕ
bytes_from file o zero = []
bytes_from file o (suc count) = get_or file (place_of o) 0 ∷ bytes_from file (o + 1) count

-- a byte that was found, or the refusal of its offset
abbrev pub found : ℕ → ℕ → Option ℕ → Outcome ℕ
found r o (Some v) = ok v
found r o None = refuse r o

-- the first m payload bytes of a file
abbrev pub held : List ℕ → ℕ → List ℕ
held file m = bytes_from file 0 m

-- the same as the code holds them
abbrev pub bytes : PayloadBytes → List ℕ
bytes p = held p.file.now p.len

-- the two-byte number at offset o, where its bytes are there
abbrev pub count_of : List ℕ → ℕ → ℕ → Option ℕ
count_of file m o = if nat_lt (o + 1) m then Some (wire.word_at file o) else None

-- a number that is there
pub counted : (file : List ℕ) (m o e : ℕ) → count_of file m o ≡ Some e → (o + 1 < m) × (e ≡ wire.word_at file o)
counted file m o e h = go (nat_lt (o + 1) m) refl h
  where
    go : (b : Bool) → nat_lt (o + 1) m ≡ b → ◌≡◌ {A = Option ℕ} (if b then Some (wire.word_at file o) else None) (Some e) → (o + 1 < m) × (e ≡ wire.word_at file o)
    go true h e = (ltb-true (o + 1) m h, cc)
    go false h e = cc

bytes_length : (file : List ℕ) (o count : ℕ) → length (bytes_from file o count) ≡ count
unfolding bytes_from
bytes_length file o zero = refl
bytes_length file o (suc count) = ap suc (bytes_length file (o + 1) count)

bytes_at : (file : List ℕ) (o count i : ℕ) → i < count → get_or (bytes_from file o count) i 0 ≡ get_or file (place_of (o + i)) 0
unfolding bytes_from
bytes_at file o zero i h = absurd (omega arith)
bytes_at file o (suc count) zero h = let e : o + 0 ≡ o = omega arith in rw e
bytes_at file o (suc count) (suc i) h = let e : o + 1 + i ≡ o + suc i = omega arith in bytes_at file (o + 1) count i (omega arith) ∙ ap (λ (x : ℕ). get_or file (place_of x) 0) e

module _ (file : List ℕ) (m : ℕ) where
  -- they are m
  pub held_size : length (held file m) ≡ m
  held_size = bytes_length file 0 m

  -- each stands at its place in the file
  pub held_at : (o : ℕ) → o < m → get_or (held file m) o 0 ≡ get_or file (place_of o) 0
  held_at o h = let e : 0 + o ≡ o = omega arith in bytes_at file 0 m o h ∙ ap (λ (x : ℕ). get_or file (place_of x) 0) e

  -- they are the payload of a file that has so many
  pub held_payload : m ≤ length file / 512 * 504 → take m (payload file) ≡ held file m
  held_payload h = ext_get_or 0 (take m (payload file)) (held file m) (held_length file m h ∙ sym held_size)
      (λ i l. let q : i < m = omega (arith, held_length file m h) in held_byte file m h i q ∙ sym (held_at i q))

  -- a field that is missing
  pub no_byte : (r o : ℕ) → m ≤ o → byte_at r (held file m) o ≡ refuse r o
  unfolding byte_at
  no_byte r o h = rw (byte_at, le-ltb o (length (held file m)) (omega (arith, held_size)))

  -- a field that is there
  pub a_byte : (r o : ℕ) → o < m → byte_at r (held file m) o ≡ ok (get_or file (place_of o) 0)
  unfolding byte_at
  a_byte r o h = rw (byte_at, lt-ltb o (length (held file m)) (omega (arith, held_size)), held_at o h)

  pub no_word : (r o : ℕ) → m ≤ o + 1 → word_at r (held file m) o ≡ refuse r o
  unfolding word_at
  no_word r o h = rw (word_at, le-ltb (o + 1) (length (held file m)) (omega (arith, held_size)))

  pub a_word : (r o : ℕ) → o + 1 < m → word_at r (held file m) o ≡ ok (get_or file (place_of o) 0 * 256 + get_or file (place_of (o + 1)) 0)
  unfolding word_at word
  a_word r o h =
      let q : o < m = omega arith in
      rw (word_at, lt-ltb (o + 1) (length (held file m)) (omega (arith, held_size)), held_at o q, held_at (o + 1) h)

-- ---- what an option says that a fault stands for where there is none

pub some_given : {A F : Type 0} (b : Option A) (f : F) (v : A) → Ok v ≡ ok_or b f → b ≡ Some v
some_given (Some x) f v e = cc
some_given None f v e = cc

pub none_given : {A F : Type 0} (b : Option A) (f x : F) → Err x ≡ ok_or b f → (b ≡ None) × (x ≡ f)
none_given (Some y) f x e = cc
none_given None f x e = (refl, cc)

module _ {F : Type 0} (p : List ℕ) (o : ℕ) (b : Option ℕ) (is : (r : ℕ) → byte_at r p o ≡ found r o b) (f : F) where
  -- a byte that was found
  pub present : (v : ℕ) → Ok v ≡ ok_or b f → (r : ℕ) → byte_at r p o ≡ ok v
  present v e r = is r ∙ ap (found r o) (some_given b f v e)

  -- one that was not, and its fault
  pub missing : (x : F) → Err x ≡ ok_or b f → ((r : ℕ) → byte_at r p o ≡ refuse r o) × (x ≡ f)
  missing x e = let w = none_given b f x e in (λ r. is r ∙ ap (found r o) w.0, w.1)
