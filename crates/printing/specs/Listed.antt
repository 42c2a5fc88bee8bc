-- From what resolving and rounds answer to the listing.
use Rattle.std.specs.Prelude.{ℕ, ◌+◌, ◌-◌, ◌*◌, ◌/◌, ◌≤◌, ◌<◌, ◌≡◌, ◌≢◌, take, replicate}
use Rattle.std.proofs.Math.Path.{refl}
use Rattle.std.proofs.Common.{sym, ap, ◌∙◌, take_at}
use Rattle.std.proofs.Math.Logic.{⊎_elim}
use mathlib.Core.List.{List, [], ◌++◌}
use Rattle.std.proofs.Math.ListN.{length}
use native.Mathlib.Omega.{arith}
use Rattle.spec.specs.Outcome.{Outcome, ok, refuse, ◌>>=◌, ◌>>◌, u16}
use Rattle.spec.specs.Wire.{file_of}
use Rattle.spec.specs.Arrangement.{Move}
use Rattle.spec.specs.State.{moves_payload, rounds_payload, rounds_from}
use Rattle.spec.specs.Services.{Answer, fits, answer_of, plan_moves, judging, resolving, rounds}
use Rattle.spec.specs.Terms.{Bytes, Within, move_file, sheet_file, writes, Refuses, Resolves, Times, RoundsSmall, SheetFits}
use Rattle.theory.specs.Basics.Outcomes.{bind, after}
use Rattle.theory.specs.Codec.Words.{word_u16}
use Rattle.theory.specs.Maps.Moves.{legal_all_lem}
use Rattle.theory.specs.Plans.MoveList as theory
use Rattle.theory.proofs.Services.Judged.{cleared_plan}
use Rattle.theory.specs.Services.Sheets.{rounds_small, sheet_fits, sheet_length}
use Rattle.theory.specs.Services.Answers.{payload_within}
use Rattle.theory.specs.Terms.Services.{refuses}
use Rattle.theory.proofs.Terms.Services.{resolves, times}
use Rattle.wire.specs.Payload.{word_at, lt_or_ge}
use Rattle.answers.specs.Delivered.{file_length, fits_whole}
use Rattle.replay.specs.Moves.{moves_by, bytes_of, file_bytes, moves_same}
use Rattle.lines.specs.Listing.{newline, field, moves_word, listed_moves, text_of, moves_text, refused_text, listing_of}
use Rattle.lines.specs.Lines.{rounds_by, lines_by, file_byte, moves_of, rounds_of, rounds_same}

-- ---- a refusal

module _ (a b c : List ℕ) where
  -- resolving's outcome
  abbrev answer_file : Outcome (List ℕ)
  answer_file = plan_moves a b c >>= λ ms. fits 4 128 65536 (moves_payload ms)

  -- the list's outcome goes with it
  same_refusal : (o : Outcome (List Move)) (n p : ℕ) → (o >>= λ ms. fits 4 128 65536 (moves_payload ms)) ≡ refuse n p → (o >>= λ ms. fits 4 128 65536 (moves_payload ms) >> ok ms) ≡ refuse n p
  unfolding ◌>>=◌ ◌>>◌
  same_refusal (ok ms) n p e = rw e
  same_refusal (refuse m q) n p e = let x : m ≡ n = cc in let y : q ≡ p = cc in rw (x, y)

  -- an answer with a number is a refusal
  number_refused : (o : Outcome (List ℕ)) → (answer_of 65536 o).number ≢ 0 → o ≡ refuse (answer_of 65536 o).number (answer_of 65536 o).value
  unfolding answer_of
  number_refused (ok f) h = absurd (h refl)
  number_refused (refuse n p) h = refl

  -- what is refused is listed as a refusal
  pub listed_refused : (x : Answer) → x ≡ resolving a b c 65536 → x.number ≢ 0 → listing_of a b c ≡ refused_text x.number x.value
  unfolding listing_of listed_moves text_of resolving
  listed_refused x e h =
      let h' : (answer_of 65536 answer_file).number ≢ 0 = rw e at h in
      rw e (ap text_of (same_refusal (plan_moves a b c) _ _ (number_refused answer_file h')))

-- ---- moves

-- a plan that is resolved: its moves, the two files, and that they fit
record Resolved (a b c : List ℕ) (x : Answer) : Type 0 where
  ms : List Move
  listed : listed_moves a b c ≡ ok ms
  few : length ms ≤ 21503
  wrote : x ≡ writes 65536 (move_file ms)
  timed : rounds a b (move_file ms) 65536 ≡ writes 65536 (file_of 5 (rounds_payload ms))

module _ (a b c : List ℕ) (bytes : Bytes c) (x : Answer) (e : x ≡ resolving a b c 65536) (z : x.number ≡ 0) where
  -- resolving's number is 0
  zero_number : (resolving a b c 65536).number ≡ 0
  zero_number = sym (ap (λ (y : Answer). y.number) e) ∙ z

  -- so is judging's
  judged : (judging a b c).number ≡ 0
  unfolding Refuses
  judged =
      ⊎_elim
      (λ (h : 0 < (judging a b c).number).
      let r = refuses a b c 65536 (λ q. omega arith) in
      absurd (omega (arith, r.0, zero_number)))
      (λ (h : (judging a b c).number ≤ 0). omega arith)
      (lt_or_ge 0 (judging a b c).number)

  resolved : Resolved a b c x
  unfolding Resolves Times SheetFits listed_moves
  resolved =
      let r = resolves a b c 65536 judged in
      let p = cleared_plan a b c r.0 bytes r.1 in
      let w = r.2.whole.0 zero_number in
      let l : length (moves_payload r.0) ≤ 504 * 128 = payload_within 4 128 (moves_payload r.0) w.0 in
      let room : (length (moves_payload r.0) + 503) / 504 * 512 ≤ 65536 = omega arith in
      let t = times a b p.it r.0 65536 p.instance (legal_all_lem p.concrete.legals, p.concrete.reached) w.0 in
      let s : Within 128 (sheet_file p.it r.0) = sheet_fits p.it r.0 w.0 in
      record {
        ms = r.0;
        listed = bind _ _ _ r.1 ∙ after _ _ _ (fits_whole 4 128 65536 (moves_payload r.0) l room);
        few = omega (arith, theory.moves_length r.0);
        wrote = e ∙ r.2.wrote zero_number;
        timed = t.wrote (t.whole.1 (s, omega arith));
      }

  -- what is written fits the buffer
  pub listed_size : x.value ≤ 65536
  listed_size = let r = resolved in omega (arith, ap (λ (y : Answer). y.value) r.wrote, file_length 4 (moves_payload r.ms), theory.moves_length r.ms, r.few)

-- the moves and rounds of the two buffers are the listed ones
module _ (a b c : List ℕ) (x y : Answer) (r : Resolved a b c x) (f : y ≡ rounds a b (take x.value x.buffer) 65536) where
  -- what rounds is given is the move list's file
  given : take x.value x.buffer ≡ move_file r.ms
  given = ap (λ (w : Answer). take w.value w.buffer) r.wrote ∙ take_at (move_file r.ms) (replicate (65536 - length (move_file r.ms)) 0) (length (move_file r.ms)) refl

  -- the buffers
  moves_buffer : x.buffer ≡ move_file r.ms ++ replicate (65536 - length (move_file r.ms)) 0
  moves_buffer = ap (λ (w : Answer). w.buffer) r.wrote

  sheet_buffer : y.buffer ≡ file_of 5 (rounds_payload r.ms) ++ replicate (65536 - length (file_of 5 (rounds_payload r.ms))) 0
  sheet_buffer = ap (λ (w : Answer). w.buffer) (f ∙ ap (λ (g : List ℕ). rounds a b g 65536) given ∙ r.timed)

  -- a byte of each payload
  moves_byte : (off : ℕ) → off < 2 + length r.ms * 3 → file_bytes x.buffer off ≡ bytes_of (moves_payload r.ms) off
  moves_byte off h = rw moves_buffer (file_byte 4 (moves_payload r.ms) _ off (omega (arith, theory.moves_length r.ms)))

  sheet_byte : (off : ℕ) → off < 2 + length r.ms * 2 → file_bytes y.buffer off ≡ bytes_of (rounds_payload r.ms) off
  sheet_byte off h = rw sheet_buffer (file_byte 5 (rounds_payload r.ms) _ off (omega (arith, sheet_length r.ms)))

  -- the count
  count_is : word_at x.buffer 0 ≡ length r.ms
  count_is =
      let few = r.few in
      rw (moves_byte 0 (omega arith), moves_byte 1 (omega arith)) (unfold moves_payload u16 in word_u16 (length r.ms) (omega arith))

  -- the moves
  moves_are : moves_by (file_bytes x.buffer) 0 (length r.ms) ≡ r.ms
  moves_are =
      moves_same (file_bytes x.buffer) (bytes_of (moves_payload r.ms)) 0 (length r.ms) (λ off h. moves_byte off (omega arith))
      ∙ moves_of (moves_payload r.ms) r.ms 0 (unfold moves_payload u16 in refl)

  -- the rounds
  rounds_are : rounds_by (file_bytes y.buffer) 0 (length r.ms) ≡ rounds_from [] r.ms
  unfolding RoundsSmall
  rounds_are =
      let few = r.few in
      rounds_same (file_bytes y.buffer) (bytes_of (rounds_payload r.ms)) 0 (length r.ms) (λ off h. sheet_byte off (omega arith))
      ∙ rounds_of (rounds_payload r.ms) (rounds_from [] r.ms) 0 (length r.ms) (λ l h. omega (arith, rounds_small r.ms l h)) (unfold rounds_payload u16 in refl) (omega (arith, sheet_length r.ms))

  -- what is put is the listing
  text_is : (count : ℕ) → count ≡ word_at x.buffer 0
      → moves_word ++ field count newline ++ lines_by (file_bytes x.buffer) (file_bytes y.buffer) 0 count ≡ listing_of a b c
  unfolding listing_of text_of moves_text lines_by
  text_is count e = rw (e ∙ count_is, moves_are, rounds_are, r.listed)

module _ (a b c : List ℕ) (bytes : Bytes c) (x : Answer) (e : x ≡ resolving a b c 65536) (z : x.number ≡ 0) (y : Answer)
    (f : y ≡ rounds a b (take x.value x.buffer) 65536) (count : ℕ) (n : count ≡ word_at x.buffer 0) where
  -- there are at most 21,503
  pub listed_few : count ≤ 21503
  listed_few = let r = resolved a b c bytes x e z in omega (arith, n ∙ count_is a b c x y r f, r.few)

  -- a plan that is resolved is listed by its moves
  pub listed_moves_lem : moves_word ++ field count newline ++ lines_by (file_bytes x.buffer) (file_bytes y.buffer) 0 count ≡ listing_of a b c
  listed_moves_lem = text_is a b c x y (resolved a b c bytes x e z) f count n
