-- Placings: what one that is read says.
use Rattle.std.specs.Prelude.{◌≡◌, refl, not, List, [], ◌∷◌, ◌++◌, ℕ, zero, suc, ◌+◌, ◌≤◌, ◌<◌, length, ltb}
use Rattle.std.proofs.Common.{sym, ap, ◌∙◌, append-nil, append_assoc, leb→le, ltb→lt, T_not}
use Rattle.spec.specs.Outcome.{Outcome, ok, check, ◌and◌, member, ◌>>◌, ◌>>=◌}
use Rattle.spec.specs.Layout.{byte_at, Map, Placing, read_robots, placing_of}
use Rattle.theory.specs.Basics.Tests.{and_left, and_right}
use Rattle.theory.specs.Basics.Lists.{In}
use Rattle.theory.specs.Basics.Outcomes.{ok_injective, passed, bound}
use Rattle.theory.specs.Maps.Listing.{Fresh, none, more}

-- ---- an accepted placing

-- as many starts as goals, at most 64, and none twice in either
pub record Placed (n : ℕ) (pl : Placing) : Type 0 where
  pub same : length pl.starts ≡ length pl.goals
  pub few : length pl.starts ≤ 64
  pub starts : Fresh n [] pl.starts
  pub goals : Fresh n [] pl.goals

-- the starts and goals read after ss and gs
pub record Robots (n todo : ℕ) (ss gs : List ℕ) (pl : Placing) : Type 0 where
  pub starts : List ℕ
  pub goals : List ℕ
  pub all_starts : pl.starts ≡ ss ++ starts
  pub all_goals : pl.goals ≡ gs ++ goals
  pub fresh_starts : Fresh n ss starts
  pub fresh_goals : Fresh n gs goals
  pub one : length starts ≡ todo
  pub two : length goals ≡ todo

-- readRobots' body, for what follows a robot
robot_of : ℕ → List ℕ → ℕ → List ℕ → List ℕ → (List ℕ → List ℕ → Outcome Placing) → Outcome Placing
robot_of n p o ss gs rest = do
  s ← byte_at 25 p o
  check (ltb s n and not (member s ss)) 27 o
  g ← byte_at 25 p (o + 1)
  check (ltb g n and not (member g gs)) 28 (o + 1)
  rest (ss ++ (s ∷ [])) (gs ++ (g ∷ []))

-- it is that
robot_of_lem : (n : ℕ) (p : List ℕ) (todo o : ℕ) (ss gs : List ℕ) → read_robots n p (suc todo) o ss gs ≡ robot_of n p o ss gs (read_robots n p todo (o + 2))
unfolding read_robots robot_of
robot_of_lem n p todo o ss gs = refl

-- a robot that is read has a start and a goal that were not given before
robot_read : (n : ℕ) (p : List ℕ) (o : ℕ) (ss gs : List ℕ) (rest : List ℕ → List ℕ → Outcome Placing) (pl : Placing) → robot_of n p o ss gs rest ≡ ok pl
    → (s : ℕ) × (g : ℕ) × (s < n) × (In s ss → ⊥) × (g < n) × (In g gs → ⊥) × (rest (ss ++ (s ∷ [])) (gs ++ (g ∷ [])) ≡ ok pl)
unfolding robot_of
robot_read n p o ss gs rest pl e =
    let s = bound _ _ _ e in
    let a = passed _ _ _ _ _ s.2 in
    let g = bound _ _ _ a.1 in
    let b = passed _ _ _ _ _ g.2 in (
      s.0,
      g.0,
      ltb→lt _ _ (and_left _ _ a.0),
      T_not (member s.0 ss) (and_right _ _ a.0),
      ltb→lt _ _ (and_left _ _ b.0),
      T_not (member g.0 gs) (and_right _ _ b.0),
      b.1,
    )

-- none to read
no_robots : (n : ℕ) (p : List ℕ) (o : ℕ) (ss gs : List ℕ) → ok (record { starts = ss; goals = gs }) ≡ read_robots n p 0 o ss gs
unfolding read_robots
no_robots n p o ss gs = refl

-- robots that are read have fresh starts and goals
read_robots_lem : (n : ℕ) (p : List ℕ) (todo o : ℕ) (ss gs : List ℕ) (pl : Placing) → read_robots n p todo o ss gs ≡ ok pl → Robots n todo ss gs pl
read_robots_lem n p zero o ss gs pl e =
    let q = ok_injective (no_robots n p o ss gs ∙ e) in
    record { starts = []; goals = []; all_starts = ap (λ r. r.starts) (sym q) ∙ sym (append-nil ss); all_goals = ap (λ r. r.goals) (sym q) ∙ sym (append-nil gs); fresh_starts = none; fresh_goals = none; one = refl; two = refl }
read_robots_lem n p (suc todo) o ss gs pl e =
    let w = robot_read n p o ss gs (read_robots n p todo (o + 2)) pl (sym (robot_of_lem n p todo o ss gs) ∙ e) in
    let s = w.0 in
    let g = w.1 in
    let ih = read_robots_lem n p todo (o + 2) (ss ++ (s ∷ [])) (gs ++ (g ∷ [])) pl w.6 in
    record {
      starts = s ∷ ih.starts;
      goals = g ∷ ih.goals;
      all_starts = ih.all_starts ∙ append_assoc ss (s ∷ []) ih.starts;
      all_goals = ih.all_goals ∙ append_assoc gs (g ∷ []) ih.goals;
      fresh_starts = more w.2 w.3 ih.fresh_starts;
      fresh_goals = more w.4 w.5 ih.fresh_goals;
      one = ap suc ih.one;
      two = ap suc ih.two;
    }

-- a placing that is read is so
pub placing_accepted : (m : Map) (p : List ℕ) (pl : Placing) → placing_of m p ≡ ok pl → Placed m.size pl
unfolding placing_of
placing_accepted m p pl e =
    let k = bound _ _ _ e in
    let a = passed _ _ _ _ _ k.2 in
    let r = bound _ _ _ a.1 in
    let b = passed _ _ _ _ _ r.2 in
    let l : k.0 ≤ 64 = leb→le _ _ (and_left _ _ a.0) in
    let w : Robots m.size k.0 [] [] r.0 = read_robots_lem m.size p k.0 1 [] [] r.0 r.1 in
    rw (← ok_injective b.1) (record { same = ap length w.all_starts ∙ w.one ∙ sym w.two ∙ sym (ap length w.all_goals); few = rw (w.all_starts, w.one) l; starts = rw w.all_starts w.fresh_starts; goals = rw w.all_goals w.fresh_goals })
