-- Legal moves of the map: the test and what it says, lists of them, the steps they draw, and what a move changes.
use Rattle.std.specs.Prelude.{◌≡◌, refl, ◌≢◌, Bool, true, false, List, [], ◌∷◌, ◌++◌, ℕ, ◌<◌, length, get_or, set, T, eqb}
use Rattle.std.proofs.Common.{ap, arith, length-set, get_or-set_same, get_or-set_other, eqb→eq, T_not}
use Rattle.std.proofs.Math.Decide.{ℕ_discrete}
use Rattle.std.proofs.Math.Dec.{not_T}
use Rattle.spec.specs.Layout.{Map, joined, zone_of}
use Rattle.spec.specs.Arrangement.{Move}
use Rattle.spec.specs.State.{State, robot_on, moved, moved_all, legal, legal_all, Step, step_of, drawn_steps}
use Rattle.theory.specs.Basics.Tests.{eqb_true, eqb_false, true_of, of_true, eq→eqb, and_both, and_left, and_right}

-- ---- legal moves

-- the move goes along an edge, its robot is there and to is empty
pub record Legal (m : Map) (s : State) (x : Move) : Type 0 where
  pub near : T (joined m x.from x.to)
  pub robot : x.robot ≢ 255
  pub there : robot_on s x.from ≡ x.robot
  pub free : robot_on s x.to ≡ 255

-- the test says so
pub is_legal : (m : Map) (s : State) (x : Move) → T (legal m s x) → Legal m s x
unfolding legal
is_legal m s x t = record {
  near = and_left _ _ t;
  robot = λ e. T_not (eqb x.robot 255) (and_left _ _ (and_right _ _ t)) (eq→eqb _ _ e);
  there = eqb→eq _ _ (and_left _ _ (and_right _ _ (and_right _ _ t)));
  free = eqb→eq _ _ (and_right _ _ (and_right _ _ (and_right _ _ t)));
}

-- and such a move passes it
pub legal_is : (m : Map) (s : State) (x : Move) → Legal m s x → T (legal m s x)
unfolding legal
legal_is m s x l = and_both _ _ l.near (and_both _ _ (not_T (eqb x.robot 255) (λ t. l.robot (eqb→eq _ _ t))) (and_both _ _ (eq→eqb _ _ l.there) (eq→eqb _ _ l.free)))

-- legal moves one after the other
pub data Legals (m : Map) : State → List Move → Type 0 where
  stay : {s : State} → Legals m s []
  go : {s : State} {x : Move} {xs : List Move} → Legal m s x → Legals m (moved s x) xs → Legals m s (x ∷ xs)

-- a list that passes the test is legal move by move
pub are_legal : (m : Map) (s : State) (xs : List Move) → T (legal_all m s xs) → Legals m s xs
unfolding legal_all
are_legal m s [] t = stay
are_legal m s (x ∷ xs) t = case (legal m s x) refl t (are_legal m (moved s x) xs)
  where
    case : (b : Bool) → legal m s x ≡ b → T (elim b [ true ↦ legal_all m (moved s x) xs | false ↦ false ]) → (T (legal_all m (moved s x) xs) → Legals m (moved s x) xs) → Legals m s (x ∷ xs)
    case true e t ih = go (is_legal m s x (of_true e)) (ih t)
    case false e t ih = absurd t

-- and such a list passes it
pub legal_all_lem : {m : Map} {s : State} {xs : List Move} → Legals m s xs → T (legal_all m s xs)
unfolding legal_all
legal_all_lem stay = tt
legal_all_lem {m} (go {s} {x} {xs} l r) = rw (true_of {b = legal m s x} (legal_is m s x l), legal_all) (legal_all_lem r)

-- lists one after the other are made one after the other
pub moved_append : (s : State) (xs ys : List Move) → moved_all s (xs ++ ys) ≡ moved_all (moved_all s xs) ys
unfolding moved_all
moved_append s [] ys = refl
moved_append s (x ∷ xs) ys = moved_append (moved s x) xs ys

-- legal lists one after the other are legal
pub legals_append : {m : Map} {s : State} {xs : List Move} (ys : List Move) → Legals m s xs → Legals m (moved_all s xs) ys → Legals m s (xs ++ ys)
unfolding moved_all
legals_append ys stay r = r
legals_append ys (go l k) r = go l (legals_append ys k r)

-- a move inside a zone draws no step
pub silent_move : (m : Map) (s : State) (x : Move) (xs : List Move) → zone_of m x.from ≡ zone_of m x.to → drawn_steps m s (x ∷ xs) ≡ drawn_steps m (moved s x) xs
unfolding drawn_steps
silent_move m s x xs e = rw (eqb_true {m = zone_of m x.from} {n = zone_of m x.to} e, drawn_steps)

-- a move between zones draws one
pub crossing_move : (m : Map) (s : State) (x : Move) (xs : List Move) → zone_of m x.from ≢ zone_of m x.to → drawn_steps m s (x ∷ xs) ≡ step_of m s x ∷ drawn_steps m (moved s x) xs
unfolding drawn_steps
crossing_move m s x xs e = rw (eqb_false {m = zone_of m x.from} {n = zone_of m x.to} e, drawn_steps)

-- lists one after the other draw the steps of one, then of the other
pub drawn_append : (m : Map) (s : State) (xs ys : List Move) → drawn_steps m s (xs ++ ys) ≡ drawn_steps m s xs ++ drawn_steps m (moved_all s xs) ys
unfolding drawn_steps moved_all
drawn_append m s [] ys = refl
drawn_append m s (x ∷ xs) ys = case (eqb (zone_of m x.from) (zone_of m x.to)) (drawn_append m (moved s x) xs ys)
  where
    case : (b : Bool) → drawn_steps m (moved s x) (xs ++ ys) ≡ drawn_steps m (moved s x) xs ++ drawn_steps m (moved_all (moved s x) xs) ys
        → ◌≡◌ {A = List Step} (elim b [ true ↦ drawn_steps m (moved s x) (xs ++ ys) | false ↦ step_of m s x ∷ drawn_steps m (moved s x) (xs ++ ys) ])
        (elim b [ true ↦ drawn_steps m (moved s x) xs | false ↦ step_of m s x ∷ drawn_steps m (moved s x) xs ] ++ drawn_steps m (moved_all (moved s x) xs) ys)
    case true e = e
    case false e = ap (λ r. step_of m s x ∷ r) e

-- what stands on v after a move
pub data After (s : State) (x : Move) (v : ℕ) : ℕ → Type 0 where
  at_to : v ≡ x.to → After s x v x.robot
  at_from : v ≡ x.from → After s x v 255
  at_rest : v ≢ x.from → v ≢ x.to → After s x v (robot_on s v)

-- a move changes two vertices
pub after : (s : State) (x : Move) (v : ℕ) → x.from < length s.robots → x.to < length s.robots → After s x v (robot_on (moved s x) v)
unfolding moved
after s x v f t = case (ℕ_discrete v x.to) (ℕ_discrete v x.from)
  where
    case : Dec (v ≡ x.to) → Dec (v ≡ x.from) → After s x v (get_or (set (set s.robots x.from 255) x.to x.robot) v 255)
    case (yes e) w = rw (e, get_or-set_same (set s.robots x.from 255) x.to x.robot 255 (omega (arith, length-set s.robots x.from 255))) (at_to refl)
    case (no e) (yes w) = rw (get_or-set_other (set s.robots x.from 255) x.to v x.robot 255 e, w, get_or-set_same s.robots x.from 255 255 f) (at_from refl)
    case (no e) (no w) = rw (get_or-set_other (set s.robots x.from 255) x.to v x.robot 255 e, get_or-set_other s.robots x.from v 255 255 w) (at_rest w e)
