-- What a list of moves does to the state, the count and the buffer.
use Rattle.std.specs.Prelude.{◌≡◌, refl, ℕ, ◌+◌, ◌*◌, ◌<◌, ◌≤◌, true, false, List, [], ◌∷◌, ◌++◌, length, ltb}
use Rattle.std.proofs.Common.{ap, sym, ◌∙◌, arith, length-set, lt-ltb, le-ltb}
use Rattle.spec.specs.Arrangement.{Move}
use Rattle.spec.specs.State as meaning
use Rattle.writer.specs.Laid.{laid_all, laid_length, laid_out}

-- ---- the buffer

-- the three bytes of the n-th move, after the two of the count
unfoldable pub laid_move : List ℕ → ℕ → Move → List ℕ
laid_move o n m = laid_all o (n * 3 + 2) (m.robot ∷ m.from ∷ m.to ∷ [])

-- the three bytes, laid together
pub laid_move_lem : (o : List ℕ) (n : ℕ) (m : Move) → laid_all o (n * 3 + 2) (m.robot ∷ m.from ∷ m.to ∷ []) ≡ laid_move o n m
unfolding laid_move
laid_move_lem o n m = refl

-- a move that begins past the end of the buffer changes nothing
pub laid_move_past : (o : List ℕ) (n : ℕ) (m : Move) → length o ≤ n * 3 + 2 → o ≡ laid_move o n m
unfolding laid_move
laid_move_past o n m h = sym (laid_out o (n * 3 + 2) (m.robot ∷ m.from ∷ m.to ∷ []) h)

-- ---- the count

-- the count stands still here, far above the length of any list of moves
abbrev pub most_moves : ℕ
most_moves = 4611686018427387904

unfoldable pub one_more : ℕ → ℕ
one_more n = elim (ltb n most_moves) [ true ↦ n + 1 | false ↦ n ]

pub one_more_lem : (n : ℕ) → n < most_moves → n + 1 ≡ one_more n
unfolding one_more
one_more_lem n h = rw (lt-ltb _ _ h, one_more)

pub no_more : (n : ℕ) → most_moves ≤ n → n ≡ one_more n
unfolding one_more
no_more n h = rw (le-ltb _ _ h, one_more)

-- ---- the moves made

-- the state, how many moves were made, and the answer's buffer
pub record World : Type 0 where
  pub state : meaning.State
  pub count : ℕ
  pub buffer : List ℕ

abbrev pub world : meaning.State → ℕ → List ℕ → World
world s n o = record { state = s; count = n; buffer = o }

-- a move is made, counted and written
unfoldable pub made : World → Move → World
unfolding meaning.moved laid_move one_more
made w m = record { state = meaning.moved w.state m; count = one_more w.count; buffer = laid_move w.buffer w.count m }

unfoldable pub made_all : World → List Move → World
unfolding made
made_all w [] = w
made_all w (m ∷ ms) = made_all (made w m) ms

-- what make leaves: the state moved, one more, and three bytes put
pub make_leaves : (s t : meaning.State) (n k : ℕ) (m : Move) (o p : List ℕ)
    → t ≡ meaning.moved s m → p ≡ laid_move o n m → k ≡ one_more n → world t k p ≡ made (world s n o) m
unfolding made
make_leaves s t n k m o p e b d = rw (d, b) (ap (λ (x : meaning.State). world x (one_more n) (laid_move o n m)) e)

-- lists one after the other are made one after the other
pub made_append : (w : World) (ms ns : List Move) → made_all w (ms ++ ns) ≡ made_all (made_all w ms) ns
unfolding made_all
made_append w [] ns = refl
made_append w (m ∷ ms) ns = made_append (made w m) ms ns

-- a list of one move
pub made_one : (w : World) (m : Move) → made w m ≡ made_all w (m ∷ [])
unfolding made_all
made_one w m = refl

-- one move more, then the rest
pub made_next : (w u : World) (m k : Move) (ms ns : List Move) → u ≡ made w k → k ≡ m → ns ≡ m ∷ ms → made_all u ms ≡ made_all w ns
unfolding made_all
made_next w u m k ms ns a b d = rw (d, a, b)

-- no move
pub made_none : (w : World) (ms : List Move) → ms ≡ [] → w ≡ made_all w ms
unfolding made_all
made_none w ms e = rw e

-- the state after them
pub state_is : (w : World) (ms : List Move) → (made_all w ms).state ≡ meaning.moved_all w.state ms
unfolding made_all made meaning.moved_all
state_is w [] = refl
state_is w (m ∷ ms) = state_is (made w m) ms

-- the count after them
pub count_is : (w : World) (ms : List Move) → w.count + length ms ≤ most_moves → (made_all w ms).count ≡ w.count + length ms
unfolding made_all made
count_is w [] h = omega arith
count_is w (m ∷ ms) h =
    let c : w.count + 1 ≡ one_more w.count = one_more_lem w.count (omega arith) in
    let i = count_is (made w m) ms (omega arith) in
    omega arith

-- the buffer after them: the bytes of the list, laid from its place on
pub buffer_is : (w : World) (ms : List Move) → w.count + length ms ≤ most_moves
    → (made_all w ms).buffer ≡ laid_all w.buffer (w.count * 3 + 2) (meaning.move_bytes ms)
unfolding made_all made meaning.move_bytes laid_move
buffer_is w [] h = refl
buffer_is w (m ∷ ms) h =
    let n : ℕ = w.count in
    let c : n + 1 ≡ one_more n = one_more_lem n (omega arith) in
    let d : one_more n * 3 + 2 ≡ n * 3 + 2 + 1 + 1 + 1 = omega arith in
    buffer_is (made w m) ms (omega arith) ∙ ap (λ (k : ℕ). laid_all (laid_move w.buffer n m) k (meaning.move_bytes ms)) d

-- the buffer keeps its length
pub buffer_length : (w : World) (ms : List Move) → length (made_all w ms).buffer ≡ length w.buffer
unfolding made_all made laid_move
buffer_length w [] = refl
buffer_length w (m ∷ ms) = buffer_length (made w m) ms ∙ laid_length w.buffer (w.count * 3 + 2) (m.robot ∷ m.from ∷ m.to ∷ [])

-- moves keep the lengths of the state's lists
pub robots_length : (s : meaning.State) (ms : List Move) → length (meaning.moved_all s ms).robots ≡ length s.robots
unfolding meaning.moved_all meaning.moved
robots_length s [] = refl
robots_length s (m ∷ ms) = robots_length (meaning.moved s m) ms ∙ simp length-set

pub vertices_length : (s : meaning.State) (ms : List Move) → length (meaning.moved_all s ms).vertices ≡ length s.vertices
unfolding meaning.moved_all meaning.moved
vertices_length s [] = refl
vertices_length s (m ∷ ms) = vertices_length (meaning.moved s m) ms ∙ simp length-set
