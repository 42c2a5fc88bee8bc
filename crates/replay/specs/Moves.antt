-- The moves of a move list's payload, by number, and how far a replay of them has come.
use Rattle.std.specs.Prelude.{◌≡◌, refl, ℕ, zero, suc, ◌+◌, ◌-◌, ◌*◌, ◌≤◌, ◌<◌, Bool, true, false, List, [], ◌∷◌, ◌++◌, length, get_or, eqb, ltb, leb}
use Rattle.std.proofs.Common.{sym, ◌∙◌, add-one, append_assoc, append-nil, le-leb}
use Rattle.std.proofs.Math.Path.{ap}
use native.Mathlib.Omega.{arith}
use Rattle.std.proofs.lemmas.Bool.{lt-leb}
use Rattle.spec.specs.Outcome.{Outcome, ok, refuse, ◌>>=◌, ◌>>◌, check, ◌and◌}
use Rattle.spec.specs.Layout.{Map, joined}
use Rattle.spec.specs.Arrangement.{Move, mv}
use Rattle.spec.specs.State.{State, robot_on, moved, moved_all}
use Rattle.spec.specs.Run.{moves_from}
use Rattle.wire.specs.Payload.{place_of, ThreeAt}
use Rattle.wire.specs.declared.Three.{Three}

-- move i of a payload whose bytes are given by offset
abbrev pub move_by : (ℕ → ℕ) → ℕ → Move
move_by byte i = mv (byte (2 + i * 3)) (byte (3 + i * 3)) (byte (4 + i * 3))

-- n of its moves, from move i on
unfoldable pub moves_by : (ℕ → ℕ) → ℕ → ℕ → List Move
moves_by byte i zero = []
moves_by byte i (suc n) = move_by byte i ∷ moves_by byte (i + 1) n

-- the bytes of a payload by offset
abbrev pub bytes_of : List ℕ → ℕ → ℕ
bytes_of p off = get_or p off 0

-- the bytes of the payload that stands in a file
abbrev pub file_bytes : List ℕ → ℕ → ℕ
file_bytes f off = get_or f (place_of off) 0

-- the move that was read byte by byte
pub move_of : (byte : ℕ → ℕ) (i r u v : ℕ) → r ≡ byte (2 + i * 3) → u ≡ byte (3 + i * 3) → v ≡ byte (4 + i * 3) → mv r u v ≡ move_by byte i
move_of byte i r u v er eu ev = rw (er, eu, ev)

-- the bytes of move i, where they were read at once
pub three_bytes : (f : List ℕ) (i : ℕ) (t : Three) → ThreeAt f (2 + i * 3) t
    → (t.first ≡ file_bytes f (2 + i * 3)) × (t.second ≡ file_bytes f (3 + i * 3)) × (t.third ≡ file_bytes f (4 + i * 3))
three_bytes f i t h =
    let a : 2 + i * 3 + 1 ≡ 3 + i * 3 = omega arith in
    let b : 2 + i * 3 + 2 ≡ 4 + i * 3 = omega arith in
    (h.first, h.second ∙ ap (file_bytes f) a, h.third ∙ ap (file_bytes f) b)

-- and the move that they are
abbrev pub three_move : Three → Move
three_move t = mv t.first t.second t.third

pub three_move_lem : (f : List ℕ) (i : ℕ) (t : Three) → ThreeAt f (2 + i * 3) t → three_move t ≡ move_by (file_bytes f) i
three_move_lem f i t h = let e = three_bytes f i t h in move_of (file_bytes f) i _ _ _ e.0 e.1 e.2

-- the moves are as many as asked for
pub moves_length : (byte : ℕ → ℕ) (i n : ℕ) → length (moves_by byte i n) ≡ n
unfolding moves_by
moves_length byte i zero = refl
moves_length byte i (suc n) = ap suc (moves_length byte (i + 1) n)

suc_more : (byte : ℕ → ℕ) (i n : ℕ) → moves_by byte i (suc n) ≡ moves_by byte i n ++ (move_by byte (i + n) ∷ [])
unfolding moves_by
suc_more byte i zero = let e : i ≡ i + 0 = omega arith in ap (λ (k : ℕ). move_by byte k ∷ []) e
suc_more byte i (suc n) =
    let e : i + 1 + n ≡ i + suc n = omega arith in
    ap (λ (xs : List Move). move_by byte i ∷ xs) (suc_more byte (i + 1) n ∙ ap (λ (k : ℕ). moves_by byte (i + 1) n ++ (move_by byte k ∷ [])) e)

-- one move more at the end
pub moves_more : (byte : ℕ → ℕ) (i n : ℕ) → moves_by byte i (n + 1) ≡ moves_by byte i n ++ (move_by byte (i + n) ∷ [])
moves_more byte i n = rw (add-one n) (suc_more byte i n)

-- one move more at the front
pub moves_next : (byte : ℕ → ℕ) (i n : ℕ) → i < n → moves_by byte i (n - i) ≡ move_by byte i ∷ moves_by byte (i + 1) (n - (i + 1))
unfolding moves_by
moves_next byte i n h = let e : n - i ≡ suc (n - (i + 1)) = omega arith in rw e

-- no move is left
pub moves_done : (byte : ℕ → ℕ) (i n : ℕ) → n ≤ i → moves_by byte i (n - i) ≡ []
unfolding moves_by
moves_done byte i n h = let e : n - i ≡ 0 = omega arith in rw e

-- payloads that agree on the moves' bytes have the same moves
pub moves_same : (f g : ℕ → ℕ) (i n : ℕ) → ((off : ℕ) → off < 2 + (i + n) * 3 → f off ≡ g off) → moves_by f i n ≡ moves_by g i n
unfolding moves_by
moves_same f g i zero h = refl
moves_same f g i (suc n) h =
    rw (h (2 + i * 3) (omega arith), h (3 + i * 3) (omega arith), h (4 + i * 3) (omega arith), moves_same f g (i + 1) n (λ off l. h off (omega arith)))

-- the moves replayed, one more
pub moved_more : (s : State) (xs : List Move) (x : Move) → moved_all s (xs ++ (x ∷ [])) ≡ moved (moved_all s xs) x
unfolding moved_all
moved_more s [] x = refl
moved_more s (y ∷ xs) x = moved_more (moved s y) xs x

-- ---- checking

-- what a list comes to after some moves that passed
unfoldable pub after : List Move → Outcome (List Move) → Outcome (List Move)
after xs (ok ys) = ok (xs ++ ys)
after xs (refuse n i) = refuse n i

-- the tests of move x in state s, as move i: 46, 47, 48
unfoldable pub move_tests : Map → ℕ → State → Move → ℕ → Outcome (Unit {0})
move_tests m k s x i = do
  check (ltb x.robot k and ltb x.from m.size and ltb x.to m.size) 46 i
  check (joined m x.from x.to) 47 i
  check (eqb (robot_on s x.from) x.robot and eqb (robot_on s x.to) 255) 48 i

four : (a b c d : Bool) (i : ℕ) (o : Outcome (List Move)) (x : Move)
    → (check a 45 i >> (check b 46 i >> (check c 47 i >> (check d 48 i >> (o >>= λ xs. ok (x ∷ xs))))))
    ≡ (check a 45 i >> ((check b 46 i >> (check c 47 i >> check d 48 i)) >> after (x ∷ []) o))
unfolding check ◌>>◌ ◌>>=◌ after
four false b c d i o x = refl
four true false c d i o x = refl
four true true false d i o x = refl
four true true true false i o x = refl
four true true true true i (ok xs) x = refl
four true true true true i (refuse n q) x = refl

-- one move of the definition: its bytes are there, it passes the tests, and the rest follows in the state after it
pub moves_step : (m : Map) (k : ℕ) (p : List ℕ) (todo i : ℕ) (s : State)
    → moves_from m k p (suc todo) i s
    ≡ (check (leb (2 + i * 3 + 3) (length p)) 45 i
    >> (move_tests m k s (move_by (bytes_of p) i) i >> after (move_by (bytes_of p) i ∷ []) (moves_from m k p todo (i + 1) (moved s (move_by (bytes_of p) i)))))
unfolding moves_from move_tests
moves_step m k p todo i s =
    let x : Move = move_by (bytes_of p) i in
    four (leb (2 + i * 3 + 3) (length p)) (ltb x.robot k and ltb x.from m.size and ltb x.to m.size) (joined m x.from x.to)
    (eqb (robot_on s x.from) x.robot and eqb (robot_on s x.to) 255) i (moves_from m k p todo (i + 1) (moved s x)) x

after_after : (xs : List Move) (x : Move) (o : Outcome (List Move)) → after xs (after (x ∷ []) o) ≡ after (xs ++ (x ∷ [])) o
unfolding after
after_after xs x (ok ys) = ap ok (sym (append_assoc xs (x ∷ []) ys))
after_after xs x (refuse n i) = refl

-- how far a replay of n moves has come: i moves passed, and led to state s
pub record Replayed (m : Map) (k : ℕ) (p : List ℕ) (n : ℕ) (s₀ : State) (i : ℕ) (s : State) : Type 0 where
  pub within : i ≤ n
  pub reached : s ≡ moved_all s₀ (moves_by (bytes_of p) 0 i)
  pub whole : moves_from m k p n 0 s₀ ≡ after (moves_by (bytes_of p) 0 i) (moves_from m k p (n - i) i s)

from_nothing : (o : Outcome (List Move)) → o ≡ after [] o
unfolding after
from_nothing (ok ys) = refl
from_nothing (refuse a b) = refl

-- a chain of tests and what follows them, once the tests are known
pass_both : (b : Bool) (a i : ℕ) (t : Outcome (Unit {0})) (o : Outcome (List Move)) → b ≡ true → t ≡ ok tt → (check b a i >> (t >> o)) ≡ o
unfolding check ◌>>◌
pass_both b a i t o e h = rw (e, h)

fail_first : (b : Bool) (a i : ℕ) (o : Outcome (List Move)) → b ≡ false → (check b a i >> o) ≡ refuse a i
unfolding check ◌>>◌
fail_first b a i o e = rw e

fail_second : (b : Bool) (a i c j : ℕ) (t : Outcome (Unit {0})) (o : Outcome (List Move)) → b ≡ true → t ≡ refuse c j → (check b a i >> (t >> o)) ≡ refuse c j
unfolding check ◌>>◌
fail_second b a i c j t o e h = rw (e, h)

after_refused : (xs : List Move) (a i : ℕ) → after xs (refuse a i) ≡ refuse a i
unfolding after
after_refused xs a i = refl

module _ (m : Map) (k : ℕ) (p : List ℕ) (n : ℕ) (s₀ : State) where
  -- nothing is replayed yet
  pub replay_start : Replayed m k p n s₀ 0 s₀
  unfolding moves_by moved_all
  replay_start = record {
    within = omega arith;
    reached = refl;
    whole = let e : n - 0 ≡ n = omega arith in rw e (from_nothing (moves_from m k p n 0 s₀));
  }

  module _ (i : ℕ) (s : State) (r : Replayed m k p n s₀ i s) where
    next : i < n → moves_from m k p n 0 s₀ ≡ after (moves_by (bytes_of p) 0 i) (moves_from m k p (suc (n - (i + 1))) i s)
    next h = let e : n - i ≡ suc (n - (i + 1)) = omega arith in r.whole ∙ ap (λ (t : ℕ). after (moves_by (bytes_of p) 0 i) (moves_from m k p t i s)) e

    -- a move that passes the tests
    pub replay_passed : i < n → 2 + i * 3 + 3 ≤ length p → move_tests m k s (move_by (bytes_of p) i) i ≡ ok tt → Replayed m k p n s₀ (i + 1) (moved s (move_by (bytes_of p) i))
    replay_passed h l t =
        let x : Move = move_by (bytes_of p) i in
        let e : 0 + i ≡ i = omega arith in
        let more : moves_by (bytes_of p) 0 (i + 1) ≡ moves_by (bytes_of p) 0 i ++ (x ∷ []) = moves_more (bytes_of p) 0 i ∙ ap (λ (j : ℕ). moves_by (bytes_of p) 0 i ++ (move_by (bytes_of p) j ∷ [])) e in
        record {
          within = omega arith;
          reached = ap (λ (q : State). moved q x) r.reached ∙ sym (moved_more s₀ (moves_by (bytes_of p) 0 i) x) ∙ ap (moved_all s₀) (sym more);
          whole =
              next h
              ∙ ap (after (moves_by (bytes_of p) 0 i)) (moves_step m k p (n - (i + 1)) i s ∙ pass_both (leb (2 + i * 3 + 3) (length p)) 45 i (move_tests m k s x i) _ (le-leb _ _ l) t)
              ∙ after_after (moves_by (bytes_of p) 0 i) x (moves_from m k p (n - (i + 1)) (i + 1) (moved s x))
              ∙ ap (λ (xs : List Move). after xs (moves_from m k p (n - (i + 1)) (i + 1) (moved s x))) (sym more);
        }

    -- a move whose bytes are not all there
    pub replay_cut : i < n → length p < 2 + i * 3 + 3 → moves_from m k p n 0 s₀ ≡ refuse 45 i
    replay_cut h l =
        next h
        ∙ ap (after (moves_by (bytes_of p) 0 i)) (moves_step m k p (n - (i + 1)) i s ∙ fail_first (leb (2 + i * 3 + 3) (length p)) 45 i _ (lt-leb _ _ l))
        ∙ after_refused (moves_by (bytes_of p) 0 i) 45 i

    -- a move that fails a test
    pub replay_failed : (a : ℕ) → i < n → 2 + i * 3 + 3 ≤ length p → move_tests m k s (move_by (bytes_of p) i) i ≡ refuse a i → moves_from m k p n 0 s₀ ≡ refuse a i
    replay_failed a h l t =
        next h
        ∙ ap (after (moves_by (bytes_of p) 0 i))
        (moves_step m k p (n - (i + 1)) i s ∙ fail_second (leb (2 + i * 3 + 3) (length p)) 45 i a i (move_tests m k s (move_by (bytes_of p) i) i) _ (le-leb _ _ l) t)
        ∙ after_refused (moves_by (bytes_of p) 0 i) a i

    -- all moves passed
    pub replay_end : n ≤ i → moves_from m k p n 0 s₀ ≡ ok (moves_by (bytes_of p) 0 n)
    unfolding moves_from after
    replay_end h =
        let e : n - i ≡ 0 = omega arith in
        let d : i ≡ n = omega (arith, r.within) in
        r.whole ∙ ap (λ (t : ℕ). after (moves_by (bytes_of p) 0 i) (moves_from m k p t i s)) e
        ∙ ap ok (append-nil (moves_by (bytes_of p) 0 i)) ∙ ap (λ (t : ℕ). ok (moves_by (bytes_of p) 0 t)) d
