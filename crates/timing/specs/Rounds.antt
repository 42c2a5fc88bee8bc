-- Rounds kept in two tables, one by robot and one by the vertex left, as the definition finds them in the list of earlier moves.
use Rattle.std.specs.Prelude.{◌≡◌, refl, ℕ, zero, suc, ◌+◌, ◌-◌, ◌*◌, ◌≤◌, ◌<◌, max, Bool, true, false, get_or, set, replicate, eqb}
use Rattle.std.proofs.Math.Path.{sym, ap}
use Rattle.std.proofs.Common.{◌∙◌, add-one, length-set, get_or-set_same, get_or-set_other, eqb-true}
use native.Mathlib.Omega.{arith}
use mathlib.Core.List.{List, [], ◌∷◌}
use Rattle.std.proofs.Math.ListN.{length}
use Rattle.std.proofs.lemmas.List.{get_or-replicate}
use Rattle.std.proofs.lemmas.Bool.{eqb-false}
use Rattle.spec.specs.Arrangement.{Move}
use Rattle.spec.specs.Outcome.{u16}
use Rattle.spec.specs.State.{Timed, last_round, left_round, round_of, rounds_from, word_bytes}
use Rattle.writer.specs.Laid.{laid_all, laid_length, laid_append}
use Rattle.replay.specs.Moves.{move_by, moves_by, moves_next, moves_done}

-- a move with its round
abbrev pub timed : Move → ℕ → Timed
timed x r = record { move = x; round = r }

-- the moves before move i with their rounds, latest first
unfoldable pub timed_by : (ℕ → ℕ) → ℕ → List Timed
timed_by byte zero = []
timed_by byte (suc i) = timed (move_by byte i) (round_of (timed_by byte i) (move_by byte i)) ∷ timed_by byte i

-- the tables: by robot the round of its last move, by vertex the round of the last move that left it; no round is above the number of moves
pub record Kept (earlier : List Timed) (n : ℕ) (last left : List ℕ) : Type 0 where
  pub long : length last ≡ 256
  pub wide : length left ≡ 256
  pub robots : (r : ℕ) → r < 256 → get_or last r 0 ≡ last_round earlier r
  pub vertices : (v : ℕ) → v < 256 → get_or left v 0 ≡ left_round earlier v
  pub robots_small : (r : ℕ) → last_round earlier r ≤ n
  pub vertices_small : (v : ℕ) → left_round earlier v ≤ n

-- before the first move the tables are zero
pub kept_start : (byte : ℕ → ℕ) → Kept (timed_by byte 0) 0 (replicate 256 0) (replicate 256 0)
unfolding timed_by last_round left_round
kept_start byte = record {
  long = refl;
  wide = refl;
  robots = λ r h. get_or-replicate 256 r 0 0 h;
  vertices = λ v h. get_or-replicate 256 v 0 0 h;
  robots_small = λ r. omega arith;
  vertices_small = λ v. omega arith;
}

-- a robot's round after one move more
last_more : (x : Move) (n r : ℕ) (ts : List Timed) (last : List ℕ) → x.robot < length last → get_or last r 0 ≡ last_round ts r
    → get_or (set last x.robot n) r 0 ≡ last_round (timed x n ∷ ts) r
unfolding last_round
last_more x n r ts last h e = go (eqb x.robot r) refl
  where
    go : (b : Bool) → eqb x.robot r ≡ b → get_or (set last x.robot n) r 0 ≡ elim b [ true ↦ n | false ↦ last_round ts r ]
    go true q = ap (λ (i : ℕ). get_or (set last x.robot n) i 0) (sym (eqb-true _ _ q)) ∙ get_or-set_same last x.robot n 0 h
    go false q = get_or-set_other last x.robot r n 0 (λ (z : r ≡ x.robot). eqb-false _ _ q (sym z)) ∙ e

-- a vertex's round after one move more
left_more : (x : Move) (n v : ℕ) (ts : List Timed) (left : List ℕ) → x.from < length left → get_or left v 0 ≡ left_round ts v
    → get_or (set left x.from n) v 0 ≡ left_round (timed x n ∷ ts) v
unfolding left_round
left_more x n v ts left h e = go (eqb x.from v) refl
  where
    go : (b : Bool) → eqb x.from v ≡ b → get_or (set left x.from n) v 0 ≡ elim b [ true ↦ n | false ↦ left_round ts v ]
    go true q = ap (λ (i : ℕ). get_or (set left x.from n) i 0) (sym (eqb-true _ _ q)) ∙ get_or-set_same left x.from n 0 h
    go false q = get_or-set_other left x.from v n 0 (λ (z : v ≡ x.from). eqb-false _ _ q (sym z)) ∙ e

-- one more move's round is no larger than it may be
last_small : (x : Move) (n m r : ℕ) (ts : List Timed) → n ≤ m → last_round ts r ≤ m → last_round (timed x n ∷ ts) r ≤ m
unfolding last_round
last_small x n m r ts h e = go (eqb x.robot r)
  where
    go : (b : Bool) → elim b [ true ↦ n | false ↦ last_round ts r ] ≤ m
    go true = h
    go false = e

left_small : (x : Move) (n m v : ℕ) (ts : List Timed) → n ≤ m → left_round ts v ≤ m → left_round (timed x n ∷ ts) v ≤ m
unfolding left_round
left_small x n m v ts h e = go (eqb x.from v)
  where
    go : (b : Bool) → elim b [ true ↦ n | false ↦ left_round ts v ] ≤ m
    go true = h
    go false = e

-- the round of a move, from the tables' entries of its robot and of its end point
round_is : (ts : List Timed) (x : Move) (a b : ℕ) → a ≡ last_round ts x.robot → b ≡ left_round ts x.to → round_of ts x ≡ max (a + 1) b
unfolding round_of
round_is ts x a b e f = omega (arith, e, f)

round_small : (ts : List Timed) (x : Move) (n : ℕ) → last_round ts x.robot ≤ n → left_round ts x.to ≤ n → round_of ts x ≤ n + 1
unfolding round_of
round_small ts x n h g = omega arith

-- an entry of the robots' table is no larger than the number of moves
pub entry_small : (ts : List Timed) (n : ℕ) (last left : List ℕ) → Kept ts n last left → (r : ℕ) → r < 256 → get_or last r 0 ≤ n
entry_small ts n last left k r h = omega (arith, k.robots r h, k.robots_small r)

-- and so is one of the vertices' table
pub left_entry_small : (ts : List Timed) (n : ℕ) (last left : List ℕ) → Kept ts n last left → (v : ℕ) → v < 256 → get_or left v 0 ≤ n
left_entry_small ts n last left k v h = omega (arith, k.vertices v h, k.vertices_small v)

-- the tables after move i
pub kept_more : (byte : ℕ → ℕ) (i : ℕ) (last left : List ℕ) → Kept (timed_by byte i) i last left → (move_by byte i).robot < 256 → (move_by byte i).from < 256
    → Kept (timed_by byte (i + 1)) (i + 1)
    (set last (move_by byte i).robot (round_of (timed_by byte i) (move_by byte i)))
    (set left (move_by byte i).from (round_of (timed_by byte i) (move_by byte i)))
unfolding timed_by
kept_more byte i last left k h g =
    let x : Move = move_by byte i in
    let ts : List Timed = timed_by byte i in
    let n : ℕ = round_of ts x in
    let s : n ≤ i + 1 = round_small ts x i (k.robots_small x.robot) (k.vertices_small x.to) in
    rw (add-one i) (record {
      long = length-set last x.robot n ∙ k.long;
      wide = length-set left x.from n ∙ k.wide;
      robots = λ r l. last_more x n r ts last (omega (arith, k.long)) (k.robots r l);
      vertices = λ v l. left_more x n v ts left (omega (arith, k.wide)) (k.vertices v l);
      robots_small = λ r. last_small x n (suc i) r ts (omega arith) (omega (arith, k.robots_small r));
      vertices_small = λ v. left_small x n (suc i) v ts (omega arith) (omega (arith, k.vertices_small v));
    })

-- the rounds that are left: the next move's, and those after it
pub rounds_next : (byte : ℕ → ℕ) (i n : ℕ) → i < n
    → rounds_from (timed_by byte i) (moves_by byte i (n - i))
    ≡ round_of (timed_by byte i) (move_by byte i) ∷ rounds_from (timed_by byte (i + 1)) (moves_by byte (i + 1) (n - (i + 1)))
unfolding rounds_from timed_by
rounds_next byte i n h = rw (moves_next byte i n h, add-one i)

-- how far the writing of n rounds has come: those of i moves are laid, what is left laid from here is the whole
pub record Timing (byte : ℕ → ℕ) (n : ℕ) (o₀ : List ℕ) (i : ℕ) (last left o : List ℕ) : Type 0 where
  pub within : i ≤ n
  pub kept : Kept (timed_by byte i) i last left
  pub long : length o ≡ length o₀
  pub rest : laid_all o (2 + i * 2) (word_bytes (rounds_from (timed_by byte i) (moves_by byte i (n - i)))) ≡ laid_all o₀ 2 (word_bytes (rounds_from [] (moves_by byte 0 n)))

module _ (byte : ℕ → ℕ) (n : ℕ) (o₀ : List ℕ) where
  -- nothing is laid yet
  pub timing_start : Timing byte n o₀ 0 (replicate 256 0) (replicate 256 0) o₀
  unfolding timed_by
  timing_start = record {
    within = omega arith;
    kept = kept_start byte;
    long = refl;
    rest = let e : n - 0 ≡ n = omega arith in rw e;
  }

  move_timed : (i : ℕ) (last left o o' : List ℕ) (round : ℕ) → Timing byte n o₀ i last left o → i < n
      → (move_by byte i).robot < 256 → (move_by byte i).from < 256 → (move_by byte i).to < 256
      → round ≡ max (get_or last (move_by byte i).robot 0 + 1) (get_or left (move_by byte i).to 0) → o' ≡ laid_all o (2 + i * 2) (u16 round)
      → Timing byte n o₀ (i + 1) (set last (move_by byte i).robot round) (set left (move_by byte i).from round) o'
  unfolding word_bytes
  move_timed i last left o o' round t h hr hu hv e d =
      let x : Move = move_by byte i in
      let w : round ≡ round_of (timed_by byte i) x = e ∙ sym (round_is (timed_by byte i) x _ _ (t.kept.robots x.robot hr) (t.kept.vertices x.to hv)) in
      let off : 2 + i * 2 + 2 ≡ 2 + (i + 1) * 2 = omega arith in
      record {
        within = omega arith;
        kept = rw w (kept_more byte i last left t.kept hr hu);
        long = ap length d ∙ laid_length o (2 + i * 2) (u16 round) ∙ t.long;
        rest =
            rw (d, w, ← off)
            (sym (laid_append o (2 + i * 2) (u16 (round_of (timed_by byte i) x)) (word_bytes (rounds_from (timed_by byte (i + 1)) (moves_by byte (i + 1) (n - (i + 1))))))
            ∙ ap (λ (ws : List ℕ). laid_all o (2 + i * 2) (word_bytes ws)) (sym (rounds_next byte i n h)) ∙ t.rest);
      }

  -- the next move's round is laid and kept
  pub timing_more : (i r u v : ℕ) (last left o o' : List ℕ) (round : ℕ) → Timing byte n o₀ i last left o → i < n
      → r ≡ byte (2 + i * 3) → u ≡ byte (3 + i * 3) → v ≡ byte (4 + i * 3) → r < 256 → u < 256 → v < 256
      → round ≡ max (get_or last r 0 + 1) (get_or left v 0) → o' ≡ laid_all o (2 + i * 2) (u16 round)
      → Timing byte n o₀ (i + 1) (set last r round) (set left u round) o'
  timing_more i r u v last left o o' round t h er eu ev hr hu hv e d =
      rw (er, eu) (move_timed i last left o o' round t h (rw er at hr) (rw eu at hu) (rw ev at hv) (rw (er, ev) at e) d)

  -- all rounds are laid
  pub timing_end : (i : ℕ) (last left o : List ℕ) → Timing byte n o₀ i last left o → n ≤ i → o ≡ laid_all o₀ 2 (word_bytes (rounds_from [] (moves_by byte 0 n)))
  unfolding word_bytes rounds_from
  timing_end i last left o t h = rw (moves_done byte i n h) at t.rest
