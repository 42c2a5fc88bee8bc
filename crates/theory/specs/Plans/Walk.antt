-- Walks: steps that pass one after the other. Their moves are legal and draw them, and they are what is read from a plan's bytes.
use Rattle.std.specs.Prelude.{◌≡◌, ℕ, zero, suc, ◌+◌, length, drop}
use Rattle.std.proofs.Math.Path.{refl, ap}
use Rattle.std.proofs.Common.{sym, ap₂, ◌∙◌, add-zero, arith, length-append}
use mathlib.Core.List.{List, [], ◌∷◌, ◌++◌, append_assoc}
use Rattle.spec.specs.Outcome.{ok}
use Rattle.spec.specs.Layout.{Map}
use Rattle.spec.specs.Arrangement.{Move}
use Rattle.spec.specs.State.{State, moved_all, Step, drawn_steps, step_bytes}
use Rattle.spec.specs.Run.{Ran, step_at, steps_from}
use Rattle.theory.specs.Basics.Outcomes.{ok_injective, bound, bind}
use Rattle.theory.specs.Maps.Moves.{Legals, moved_append}
use Rattle.theory.specs.Plans.Taken.{Taken, TakenAt, taken_at, takes_at, ran_of, moves_of, step_with}

-- the steps ss pass one after the other from s, and their moves are xs
pub data Walk (m : Map) (k : ℕ) : State → List Step → List Move → Type 0 where
  halt : {s : State} → Walk m k s [] []
  walk : {s : State} {r u v behind : ℕ} {list : List ℕ} {ss : List Step} {xs : List Move} → Taken m k s r u v behind list
      → Walk m k (moved_all s (moves_of m s r u v behind list)) ss xs → Walk m k s (step_with r u v behind list ∷ ss) (moves_of m s r u v behind list ++ xs)

-- the moves are legal and draw the steps
pub record Walked (m : Map) (s : State) (ss : List Step) (xs : List Move) : Type 0 where
  pub legals : Legals m s xs
  pub drawn : drawn_steps m s xs ≡ ss

-- ---- steps as bytes

-- the steps read from offset o on: a walk, and the bytes of its steps
pub record Reads (m : Map) (k : ℕ) (p : List ℕ) (todo o : ℕ) (s : State) (ran : Ran) : Type 0 where
  pub steps : List Step
  pub way : Walk m k s steps ran.moves
  pub state : ran.state ≡ moved_all s ran.moves
  pub bytes : drop o p ≡ step_bytes steps ++ drop ran.next p
  pub count : length steps ≡ todo

-- one step and the rest
reads_more : (m : Map) (k : ℕ) (p : List ℕ) (todo o : ℕ) (s : State) (one rest : Ran) → TakenAt m k p o s one → Reads m k p todo one.next one.state rest
    → Reads m k p (suc todo) o s (record { state = rest.state; moves = one.moves ++ rest.moves; next = rest.next })
unfolding step_bytes
reads_more m k p todo o s one rest t r =
    let e : one.state ≡ moved_all s (moves_of m s t.r t.u t.v t.behind t.list) = t.state ∙ ap (moved_all s) t.moves in
    let w : Walk m k (moved_all s (moves_of m s t.r t.u t.v t.behind t.list)) r.steps rest.moves = rw e at r.way in
    record {
      steps = step_with t.r t.u t.v t.behind t.list ∷ r.steps;
      way = rw t.moves (walk t.taken w);
      state = r.state ∙ ap (λ q. moved_all q rest.moves) t.state ∙ sym (moved_append s one.moves rest.moves);
      bytes = t.bytes ∙ ap (λ q. (t.r ∷ t.u ∷ t.v ∷ t.behind ∷ t.list) ++ q) r.bytes
          ∙ sym (append_assoc (t.r ∷ t.u ∷ t.v ∷ t.behind ∷ t.list) (step_bytes r.steps) (drop rest.next p));
      count = ap suc r.count;
    }

-- steps that are read are a walk
pub steps_read : (m : Map) (k : ℕ) (p : List ℕ) (todo i o : ℕ) (s : State) (ran : Ran) → steps_from m k p todo i o s ≡ ok ran → Reads m k p todo o s ran
unfolding steps_from
steps_read m k p zero i o s ran e =
    rw (← ok_injective e) (record { steps = []; way = halt; state = unfold moved_all in refl; bytes = unfold step_bytes in refl; count = refl })
steps_read m k p (suc todo) i o s ran e =
    let a = bound _ _ _ e in
    let b = bound _ _ _ a.2 in
    rw (← ok_injective b.2) (reads_more m k p todo o s a.0 b.0 (taken_at m k p i o s a.0 a.1) (steps_read m k p todo (i + 1) a.0.next a.0.state b.0 b.1))

-- a step and the rest are read one after the other
steps_cons : (m : Map) (k : ℕ) (p : List ℕ) (todo i o : ℕ) (q : State) (one rest : Ran) → step_at m k p i o q ≡ ok one
    → steps_from m k p todo (i + 1) one.next one.state ≡ ok rest
    → steps_from m k p (suc todo) i o q ≡ ok (record { state = rest.state; moves = one.moves ++ rest.moves; next = rest.next })
unfolding steps_from
steps_cons m k p todo i o q one rest a b = bind _ _ _ a ∙ bind _ _ _ b

-- what reading a walk gives
abbrev pub walk_ran : State → ℕ → List Step → List Move → Ran
walk_ran s o ss xs = record { state = moved_all s xs; moves = xs; next = o + length (step_bytes ss) }

-- a walk is read from the bytes of its steps
pub walk_read : (m : Map) (k : ℕ) {s : State} {ss : List Step} {xs : List Move} → Walk m k s ss xs → (p : List ℕ) (i o : ℕ) (rest : List ℕ) → drop o p ≡ step_bytes ss ++ rest
    → steps_from m k p (length ss) i o s ≡ ok (walk_ran s o ss xs)
walk_read m k (halt {s}) p i o rest e = ended s
  where
    ended : (q : State) → steps_from m k p 0 i o q ≡ ok (walk_ran q o [] [])
    ended q = unfold steps_from step_bytes moved_all in ap (λ n. ok (record { state = q; moves = []; next = n })) (sym (add-zero o))
walk_read m k (walk {s} {r} {u} {v} {behind} {list} {ss} {xs} t w) p i o rest e = further (walk_read m k w p (i + 1) (o + 4 + length list) rest one.1)
  where
    ms : List Move
    ms = moves_of m s r u v behind list

    one : (step_at m k p i o s ≡ ok (ran_of m s o r u v behind list)) × (drop (o + 4 + length list) p ≡ step_bytes ss ++ rest)
    one = takes_at m k p i o s r u v behind list (step_bytes ss ++ rest) t (e ∙ (unfold step_bytes in append_assoc (r ∷ u ∷ v ∷ behind ∷ list) (step_bytes ss) rest))

    ran : State → ℕ → Ran
    ran q n = record { state = q; moves = ms ++ xs; next = n }

    long : o + 4 + length list + length (step_bytes ss) ≡ o + length (step_bytes (step_with r u v behind list ∷ ss))
    long = unfold step_bytes in rw (length-append list (step_bytes ss)) (omega arith)

    further : steps_from m k p (length ss) (i + 1) (o + 4 + length list) (moved_all s ms) ≡ ok (walk_ran (moved_all s ms) (o + 4 + length list) ss xs)
        → steps_from m k p (suc (length ss)) i o s ≡ ok (walk_ran s o (step_with r u v behind list ∷ ss) (ms ++ xs))
    further ih = steps_cons m k p (length ss) i o s (ran_of m s o r u v behind list) (walk_ran (moved_all s ms) (o + 4 + length list) ss xs) one.0 ih
        ∙ ap₂ (λ q n. ok (ran q n)) (sym (moved_append s ms xs)) long
