-- A robot put in a list behind the named one: where it comes, and how the others stand round from it.
use Rattle.std.specs.Prelude.{◌≡◌, refl, ◌≢◌, List, [], ◌∷◌, ◌++◌, ℕ, suc, ◌+◌, ◌-◌, length, eqb}
use Rattle.std.proofs.Common.{sym, ap, ap₂, ◌∙◌, append_assoc, arith, length-append, take_at, drop_at}
use Rattle.spec.specs.Outcome.{index_of}
use Rattle.spec.specs.Ring.{wrap}
use Rattle.theory.specs.Basics.Lists.{Each, none, each_mid, Once, once_mid, index_at, Ended, empty, snoc, ended, last_of, last_snoc}
use Rattle.theory.specs.Basics.Tests.{if_false, ne→eqb}
use Rattle.theory.specs.Zones.Ring.Turning.{Turned, turn, turn_add, turn_append, turn_back, turn_nil, turn_split, turned_swap, turned_trans, Anchor, anchor_turned}
use Rattle.theory.specs.Zones.Ring.Frames.{wrap_under, turn_wrap}
use Rattle.orders.specs.Orders.{put_in, entry_in, turned_by}

-- ---- where the robot is put in

-- it is put between two parts
put_at : (t r : ℕ) (xs ys : List ℕ) → length xs ≡ t → put_in t r (xs ++ ys) ≡ xs ++ r ∷ ys
unfolding put_in
put_at t r xs ys e = ap₂ {C = List ℕ} (λ x y. x ++ r ∷ y) (take_at xs ys t e) (drop_at xs ys t e)

-- no robot is named: it comes first
entry_none : (l : List ℕ) → entry_in 255 l ≡ 0
unfolding entry_in
entry_none l = refl

-- it comes after the named one, which stands once
entry_after : (u : ℕ) (xs ys : List ℕ) → u ≢ 255 → Each (λ x. u ≢ x) xs → entry_in u (xs ++ u ∷ ys) ≡ suc (length xs)
unfolding entry_in
entry_after u xs ys n h = if_false (eqb u 255) 0 (suc (index_of u (xs ++ u ∷ ys))) (ne→eqb u 255 n) ∙ ap suc (index_at {c = u} xs ys h)

-- behind the last of the first part it comes between the parts
pub put_behind : (r : ℕ) (xs ys : List ℕ) → Once (xs ++ ys) → Each (λ x. 255 ≢ x) (xs ++ ys) → put_in (entry_in (last_of xs) (xs ++ ys)) r (xs ++ ys) ≡ xs ++ r ∷ ys
unfolding last_of
put_behind r xs ys o n = go (ended xs) o n
  where
    go : {xs : List ℕ} → Ended xs → Once (xs ++ ys) → Each (λ x. 255 ≢ x) (xs ++ ys) → put_in (entry_in (last_of xs) (xs ++ ys)) r (xs ++ ys) ≡ xs ++ r ∷ ys
    go empty o n = put_at (entry_in 255 ys) r [] ys (sym (entry_none ys))
    go (snoc us u) o n =
        let e = append_assoc us (u ∷ []) ys in
        let k : u ≢ 255 = λ g. each_mid us ys (rw e at n) (sym g) in
        put_at (entry_in (last_of (us ++ u ∷ [])) ((us ++ u ∷ []) ++ ys)) r (us ++ u ∷ []) ys
        (length-append us (u ∷ []) ∙ sym (ap₂ {C = ℕ} entry_in (last_snoc us u k) e ∙ entry_after u us ys k (once_mid us (rw e at o)).0 ∙ omega arith))

-- ---- in a list that is an order round

-- a list with r put in at t, cut there: the others stand round from behind r to it as in w
pub record Put (r : ℕ) (w l : List ℕ) (t : ℕ) : Type 0 where
  pub before : List ℕ
  pub after : List ℕ
  pub cut : put_in t r l ≡ before ++ r ∷ after
  pub count : length before ≡ t
  pub round : w ≡ after ++ before

-- behind the last of w, in a list that is w turned, r is put in so
pub put_round : (r : ℕ) (w l : List ℕ) → Once w → Each (λ x. 255 ≢ x) w → Turned w l → Put r w l (entry_in (last_of w) l)
unfolding last_of
put_round r w l o n t = go (ended w) o n t
  where
    go : {w : List ℕ} → Ended w → Once w → Each (λ x. 255 ≢ x) w → Turned w l → Put r w l (entry_in (last_of w) l)
    go empty o n t = record {
      before = [];
      after = [];
      cut = ap (put_in (entry_in 255 l) r) (t.is ∙ turn_nil t.by) ∙ put_at (entry_in 255 l) r [] [] (sym (entry_none l));
      count = sym (entry_none l);
      round = refl;
    }
    go (snoc us u) o n t =
        let k : u ≢ 255 = λ g. each_mid us [] n (sym g) in
        let s : Anchor u us l = anchor_turned t record { before = us; after = []; cut = refl; round = refl; not_before = (once_mid us o).0; not_after = none } in
        let i = entry_in (last_of (us ++ u ∷ [])) l in
        let c : length (s.before ++ u ∷ []) ≡ i =
        length-append s.before (u ∷ []) ∙ sym (ap₂ {C = ℕ} entry_in (last_snoc us u k) s.cut ∙ entry_after u s.before s.after k s.not_before ∙ omega arith) in
        record {
          before = s.before ++ u ∷ [];
          after = s.after;
          cut = ap (put_in i r) (s.cut ∙ sym (append_assoc s.before (u ∷ []) s.after)) ∙ put_at i r (s.before ++ u ∷ []) s.after c;
          count = c;
          round = ap (λ x. x ++ u ∷ []) s.round ∙ append_assoc s.after s.before (u ∷ []);
        }

-- the same others round from r, with r at t of one list and at j of another: so one is the other turned
pub turned_to : (n j t r : ℕ) (xs ys before after : List ℕ) → length xs ≡ j → length before ≡ t → ys ++ xs ≡ after ++ before → length (before ++ r ∷ after) ≡ n
    → xs ++ r ∷ ys ≡ turned_by (wrap n (n + t - j)) (before ++ r ∷ after)
unfolding turned_by
turned_to n j t r xs ys before after e f w l =
    let m = before ++ r ∷ after in
    let z = xs ++ r ∷ ys in
    let lz = length-append xs (r ∷ ys) in
    let lm = length-append before (r ∷ after) in
    let lw = sym (length-append ys xs) ∙ ap length w ∙ length-append after before in
    let a : turn t m ≡ r ∷ (after ++ before) = rw (← f) (turn_append before (r ∷ after)) in
    let b : turn j z ≡ r ∷ (ys ++ xs) = rw (← e) (turn_append xs (r ∷ ys)) in
    let k : n + t - j ≡ t + (n - j) = omega arith in
    sym (turn_back n j z (omega arith) (omega arith)) ∙ ap (turn (n - j)) (b ∙ ap (λ q. r ∷ q) w ∙ sym a) ∙ sym (turn_add t (n - j) m) ∙ ap (λ q. turn q m) (sym k)
    ∙ sym (turn_wrap n (n + t - j) m l) ∙ turn_split (wrap n (n + t - j)) m (omega (arith, wrap_under n (n + t - j) (omega arith)))

-- so the two lists are one order round
pub turned_in : (r : ℕ) (xs ys before after : List ℕ) → ys ++ xs ≡ after ++ before → Turned (xs ++ r ∷ ys) (before ++ r ∷ after)
turned_in r xs ys before after w = turned_trans (turned_swap xs (r ∷ ys)) (rw w (turned_swap (r ∷ after) before))
