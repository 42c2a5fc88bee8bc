-- Rings: the places but one, which are a hall.
use Rattle.std.specs.Prelude.{◌≡◌, refl, ◌≢◌, ◌∷◌, ◌++◌, [], List, map, ℕ, ◌<◌, suc, zero, ◌+◌, ◌-◌, length, take, drop, set, T}
use Rattle.std.proofs.Common.{ap, ◌∙◌, sym, ap₂, append_assoc, append-nil, arith, length-append, length-drop, drop-cons, take-suc, drop-set-lt, get_or-append-add, get_or-take, get_or-drop}
use Rattle.std.proofs.Math.Decide.{dec_lt}
use Rattle.std.proofs.Math.ListN.{get_or-append}
use Rattle.std.proofs.lemmas.List.{take-set-le}
use Rattle.spec.specs.Outcome.{member}
use Rattle.spec.specs.Arrangement.{Arrangement, cell, order}
use Rattle.spec.specs.Hall.{hall_end}
use Rattle.spec.specs.Terms.{Named, Runs, Distinct}
use Rattle.spec.specs.Ring.{opened, in_ring}
use Rattle.theory.specs.Basics.Lists.{Each, in_right, in_head, split_once}
use Rattle.theory.specs.Zones.Arrangements.{order_append, none_255, cell_inside, cell_take, order_at, not_under, not_over}
use Rattle.theory.specs.Zones.Hall.Walks.{run_hall_end}
use Rattle.theory.specs.Zones.Ring.Turning.{turn_split, turn, turn1, length_turn, turn_back, Anchor, anchor_turned, Turned}
use Rattle.theory.specs.Zones.Ring.Frames.{runs_before, in_ring_lem, runs_from}

-- the ring read from place j on: j, then the others
pub turn_at_lem : (j : ℕ) (a : Arrangement) → j < length a → turn j a ≡ cell a j ∷ opened j a
unfolding opened
turn_at_lem j a h = turn_split j a (omega arith) ∙ ap (λ l. l ++ take j a) (drop-cons a j 0 h)

-- the others, then the place j
pub turn_past : (j : ℕ) (a : Arrangement) → j < length a → turn (suc j) a ≡ opened j a ++ cell a j ∷ []
unfolding opened
turn_past j a h = turn_split (suc j) a h ∙ ap (λ l. drop (suc j) a ++ l) (take-suc a j 0 h) ∙ sym (append_assoc (drop (suc j) a) (take j a) (cell a j ∷ []))

-- a turn by one keeps how many robots there are
pub count_turn1 : (a : Arrangement) → length (order (turn1 a)) ≡ length (order a)
unfolding turn1 order
count_turn1 [] = refl
count_turn1 (zero ∷ a) = rw (order_append a (0 ∷ []), append-nil)
count_turn1 (suc c ∷ a) = rw (order_append a (suc c ∷ []), length-append (order a) (c ∷ [])) (omega arith)

-- so does any turn
pub count_turn : (k : ℕ) (a : Arrangement) → length (order (turn k a)) ≡ length (order a)
unfolding turn
count_turn zero a = refl
count_turn (suc k) a = count_turn k (turn1 a) ∙ count_turn1 a

-- the robot of place j, if any, and the others are all the robots
pub count_opened : (j : ℕ) (a : Arrangement) (x : ℕ) → j < length a → cell a j ≡ x → length (order (x ∷ opened j a)) ≡ length (order a)
count_opened j a x h e = ap (λ l. length (order l)) (sym (turn_at_lem j a h ∙ ap (λ c. c ∷ opened j a) e)) ∙ count_turn j a

-- the places but j are one fewer
pub length_opened : (j : ℕ) (a : Arrangement) → j < length a → suc (length (opened j a)) ≡ length a
length_opened j a h = sym (ap length (turn_at_lem j a h)) ∙ length_turn j a

-- the order of the others goes on from j round to it
pub order_opened : (j : ℕ) (a : Arrangement) → order (opened j a) ≡ order (drop (suc j) a) ++ order (take j a)
unfolding opened
order_opened j a = order_append (drop (suc j) a) (take j a)

-- what stands at j does not matter to the rest
pub opened_set : (j : ℕ) (a : Arrangement) (x : ℕ) → opened j (set a j x) ≡ opened j a
unfolding opened
opened_set j a x = ap₂ {C = List ℕ} (λ u v. u ++ v) (drop-set-lt (suc j) a j x (omega arith)) (take-set-le j a j x (omega arith))

-- whoever stands elsewhere stands in the opened ring
pub opened_cell : (j : ℕ) (a : Arrangement) (i n : ℕ) → cell a i ≡ suc n → i ≢ j → (k : ℕ) × (cell (opened j a) k ≡ suc n)
unfolding opened
opened_cell j a i n e k = go (dec_lt i j)
  where
    go : Dec (i < j) → (k : ℕ) × (cell (drop (suc j) a ++ take j a) k ≡ suc n)
    go (yes l) = (length (drop (suc j) a) + i, get_or-append-add (drop (suc j) a) (take j a) i 0 ∙ get_or-take j a i 0 l ∙ e)
    go (no l) =
        let q : suc j + (i - suc j) ≡ i = omega arith in
        (i - suc j, get_or-append (drop (suc j) a) (take j a) 0 (i - suc j) (omega (arith, length-drop (suc j) a, cell_inside a i n e)) ∙ get_or-drop (suc j) a (i - suc j) 0 ∙ ap (cell a) q ∙ e)

-- whoever stands among the others stands in the ring
pub cell_opened : (j : ℕ) (a : Arrangement) (k x : ℕ) → cell (opened j a) k ≡ suc x → (i : ℕ) × (cell a i ≡ suc x)
unfolding opened
cell_opened j a k x e = go (dec_lt k (length (drop (suc j) a)))
  where
    go : Dec (k < length (drop (suc j) a)) → (i : ℕ) × (cell a i ≡ suc x)
    go (yes l) = (suc j + k, sym (get_or-drop (suc j) a k 0) ∙ sym (get_or-append (drop (suc j) a) (take j a) 0 k l) ∙ e)
    go (no l) =
        let q : length (drop (suc j) a) + (k - length (drop (suc j) a)) ≡ k = omega arith in
        (k - length (drop (suc j) a), (cell_take j a (k - length (drop (suc j) a)) x (sym (get_or-append-add (drop (suc j) a) (take j a) (k - length (drop (suc j) a)) 0) ∙ ap (cell (drop (suc j) a ++ take j a)) q ∙ e)).1)

-- none of them is 255
pub none_opened : (a : Arrangement) (j : ℕ) → Named a → Each (λ x. 255 ≢ x) (order (opened j a))
none_opened a j n = none_255 (opened j a) (λ k c e. let s = cell_opened j a k c e in n s.0 c s.1)

-- ---- the places but one are a hall

-- all places but j are a hall: the same order there is reachable, and j is not touched
pub rest_runs : (b g : Arrangement) (j : ℕ) → j < length b → length b ≡ length g → cell b j ≡ cell g j → order (opened j b) ≡ order (opened j g)
    → Runs 4 (map (λ v. in_ring (length b) (suc j) v) (hall_end (opened j b) (opened j g))) b g
rest_runs b g j h l e o =
    let k : j < length g = omega arith in
    let r = run_hall_end {kind = 2} (opened j b) (opened j g) (omega (arith, length_opened j b h, length_opened j g k)) o in
    let s : Runs 2 (hall_end (opened j b) (opened j g)) (turn (suc j) b) (turn (suc j) g) = rw (turn_past j b h, turn_past j g k, ← e) (runs_before (cell b j ∷ []) r) in
    rw (turn_back (length b) (suc j) b h refl, turn_back (length b) (suc j) g h (sym l)) at (runs_from (length b - suc j) (suc j) (omega arith) (length_turn (suc j) b) (in_ring_lem s))

-- ---- the same order round, read from one robot

-- the anchor of a robot in an arrangement, and in any with the same order round
anchor_at : (a : Arrangement) (i c : ℕ) → Distinct a → cell a i ≡ suc c → Anchor c (order (opened i a)) (order a)
anchor_at a i c d e = record {
  before = order (take i a);
  after = order (drop (suc i) a);
  cut = order_at a i c e;
  round = order_opened i a;
  not_before = not_under a d i c e;
  not_after = not_over a d i c e;
}

-- a turn keeps who is there
pub round_has : (a b : Arrangement) (i c : ℕ) → Distinct a → cell a i ≡ suc c → Turned (order a) (order b) → T (member c (order b))
round_has a b i c d e t = let u = anchor_turned t (anchor_at a i c d e) in rw u.cut (in_right c u.before (c ∷ u.after) (in_head c u.after))

-- two arrangements with the same order round agree on the robots from any one on
pub round_same : (a b : Arrangement) (i k c : ℕ) → Distinct a → cell a i ≡ suc c → cell b k ≡ suc c → Turned (order a) (order b) → order (opened i a) ≡ order (opened k b)
round_same a b i k c d e f t =
    let u = anchor_turned t (anchor_at a i c d e) in
    let v = split_once u.before u.after (order (take k b)) (order (drop (suc k) b)) u.not_before u.not_after (sym u.cut ∙ order_at b k c f) in
    u.round ∙ ap₂ {C = List ℕ} (λ x y. y ++ x) v.0 v.1 ∙ sym (order_opened k b)
