-- Round sheets: rounds fit two bytes, and the sheet of a list that fits fits.
use Rattle.std.specs.Prelude.{◌≡◌, refl, Bool, true, false, List, [], ◌∷◌, ℕ, zero, suc, ◌+◌, ◌*◌, ◌≤◌, ◌<◌, length, get_or, eqb}
use Rattle.std.proofs.Common.{ap, le_of_suc-le-suc, not-suc-le-zero, arith}
use Rattle.spec.specs.Outcome.{u16}
use Rattle.spec.specs.Arrangement.{Move}
use Rattle.spec.specs.State.{Timed, last_round, left_round, round_of, rounds_from, word_bytes, moves_payload, rounds_payload}
use Rattle.spec.specs.Terms.{RoundsSmall, SheetFits}
use Rattle.theory.specs.Basics.Lists.{Each, none, ◌&&&◌, ◌&◌, each_map}
use Rattle.theory.specs.Plans.MoveList.{moves_length}
use Rattle.theory.specs.Services.Answers.{payload_within, file_within}

-- earlier moves with rounds up to n
abbrev Early : ℕ → List Timed → Type 0
Early n earlier = Each (λ t. t.round ≤ n) earlier

-- a robot's last round is one of them
last_small : {n : ℕ} {earlier : List Timed} → Early n earlier → (r : ℕ) → last_round earlier r ≤ n
unfolding last_round
last_small none r = omega arith
last_small {n} (◌&&&◌ {x = t} {xs = ts} h hs) r = go (eqb t.move.robot r) (last_small hs r)
  where
    go : (b : Bool) → last_round ts r ≤ n → elim b [ true ↦ t.round | false ↦ last_round ts r ] ≤ n
    go true k = h
    go false k = k

-- so is the round in which a vertex was last left
left_small : {n : ℕ} {earlier : List Timed} → Early n earlier → (v : ℕ) → left_round earlier v ≤ n
unfolding left_round
left_small none v = omega arith
left_small {n} (◌&&&◌ {x = t} {xs = ts} h hs) v = go (eqb t.move.from v) (left_small hs v)
  where
    go : (b : Bool) → left_round ts v ≤ n → elim b [ true ↦ t.round | false ↦ left_round ts v ] ≤ n
    go true k = h
    go false k = k

-- a round is at least 1 and at most one more than those before
round_small : {n : ℕ} {earlier : List Timed} → Early n earlier → (m : Move) → (1 ≤ round_of earlier m) × (round_of earlier m ≤ suc n)
unfolding round_of
round_small e m = (omega arith, omega (arith, last_small e m.robot, left_small e m.to))

-- the rounds of a list after earlier moves
rounds_small_lem : {n : ℕ} (earlier : List Timed) → Early n earlier → (xs : List Move) (i : ℕ) → i < length xs → (1 ≤ get_or (rounds_from earlier xs) i 0) × (get_or (rounds_from earlier xs) i 0 ≤ n + suc i)
unfolding rounds_from
rounds_small_lem earlier e [] i h = absurd (not-suc-le-zero h)
rounds_small_lem {n} earlier e (m ∷ ms) zero h = let r = round_small e m in (r.0, omega (arith, r.1))
rounds_small_lem {n} earlier e (m ∷ ms) (suc i) h =
    let r = round_small e m in
    let w = rounds_small_lem {n = suc n} (record { move = m; round = round_of earlier m } ∷ earlier) (r.1 & each_map (λ t k. omega arith) e) ms i (le_of_suc-le-suc h) in
    (w.0, omega (arith, w.1))

-- every round is at least 1 and at most its move's number
pub rounds_small : RoundsSmall
unfolding RoundsSmall
rounds_small xs i h = let w = rounds_small_lem {n = 0} [] none xs i h in (w.0, omega (arith, w.1))

-- a round for each move
rounds_length : (earlier : List Timed) (xs : List Move) → length (rounds_from earlier xs) ≡ length xs
unfolding rounds_from
rounds_length earlier [] = refl
rounds_length earlier (m ∷ ms) = ap suc (rounds_length (record { move = m; round = round_of earlier m } ∷ earlier) ms)

-- two bytes for each
words_length : (ws : List ℕ) → length (word_bytes ws) ≡ length ws * 2
unfolding word_bytes u16
words_length [] = refl
words_length (w ∷ ws) = omega (arith, words_length ws)

-- how long a sheet's payload is
pub sheet_length : (xs : List Move) → length (rounds_payload xs) ≡ 2 + length xs * 2
unfolding rounds_payload u16
sheet_length xs = omega (arith, words_length (rounds_from [] xs), rounds_length [] xs)

-- the sheet of a list that fits fits
pub sheet_fits : SheetFits
unfolding SheetFits
sheet_fits it xs h =
    let l = payload_within 4 128 (moves_payload xs) h in
    file_within 5 128 (rounds_payload xs) (omega (arith, sheet_length xs, moves_length xs))
