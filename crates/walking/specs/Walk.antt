-- How far a walk of a plan's steps has come: the moves made so far, in front of those of the steps that are left.
use Rattle.std.specs.Prelude.{◌≡◌, refl, ℕ, suc, ◌+◌, ◌-◌, ◌≤◌, ◌<◌, length}
use Rattle.std.proofs.Common.{sym, ap₂, ◌∙◌}
use Rattle.std.proofs.Math.Path.{ap}
use mathlib.Core.List.{List, [], ◌∷◌, ◌++◌, append_assoc, append-nil}
use native.Mathlib.Omega.{arith}
use Rattle.spec.specs.Outcome.{Outcome, ok, refuse, ◌>>=◌}
use Rattle.spec.specs.Layout.{Map, zone_of, zone_at}
use Rattle.spec.specs.Arrangement.{Move, mv}
use Rattle.spec.specs.State.{State, moved_all}
use Rattle.spec.specs.Run.{Ran, step_at, steps_from}
use Rattle.spec.specs.Terms.{arrangement_in, kind_of, place_of}
use Rattle.theory.specs.Basics.Outcomes.{bind, bound}
use Rattle.theory.specs.Maps.Layout.{Accepted}
use Rattle.theory.specs.Maps.Cells.{arrangement_length}
use Rattle.theory.specs.Maps.Consistent.{Consistent, consistent_all}
use Rattle.theory.specs.Maps.Inside.{act}
use Rattle.theory.proofs.Zones.Kinds.{laws}
use Rattle.theory.specs.Plans.Taken.{Taken, leaving, entering, moves_of}
use Rattle.theory.specs.Plans.Step.{proper}
use Rattle.theory.proofs.Plans.Step.{made}
use Rattle.motion.specs.World.{World, made_all, made_append, made_one, state_is}
use Rattle.motion.specs.World as world
use Rattle.walking.specs.Tests.{step_tests, step_moves, step_ran, step_tests_lem, tests_passed}

-- what steps come to, with moves made before them
unfoldable pub after : List Move → Outcome Ran → Outcome Ran
after ms o = o >>= λ ran. ok (record { state = ran.state; moves = ms ++ ran.moves; next = ran.next })

-- no move before them
after_none : (o : Outcome Ran) → o ≡ after [] o
unfolding after ◌>>=◌
after_none (ok ran) = refl
after_none (refuse n i) = refl

-- moves before moves
after_after : (ms ns : List Move) (o : Outcome Ran) → after ms (after ns o) ≡ after (ms ++ ns) o
unfolding after ◌>>=◌
after_after ms ns (ok ran) = ap (λ (l : List Move). ok (record { state = ran.state; moves = l; next = ran.next })) (sym (append_assoc ms ns ran.moves))
after_after ms ns (refuse n i) = refl

-- one step of the definition, and those after it
steps_next : (m : Map) (k : ℕ) (p : List ℕ) (todo i o : ℕ) (s : State) (e : ℕ) → step_tests m k p i o s ≡ ok e
    → steps_from m k p (suc todo) i o s ≡ after (step_moves m p o e s) (steps_from m k p todo (i + 1) (o + 4 + e) (moved_all s (step_moves m p o e s)))
unfolding steps_from after
steps_next m k p todo i o s e t =
    bind (step_at m k p i o s) (step_ran m p o e s) _ (step_tests_lem m k p i o s ∙ bind (step_tests m k p i o s) e _ t)

-- steps that pass begin with one that does
steps_passed : (m : Map) (k : ℕ) (p : List ℕ) (todo i o : ℕ) (s : State) (ran : Ran) → steps_from m k p (suc todo) i o s ≡ ok ran → (e : ℕ) × (step_tests m k p i o s ≡ ok e)
unfolding steps_from
steps_passed m k p todo i o s ran q =
    let a = bound _ _ _ q in
    let b = bound (step_tests m k p i o s) (λ e. ok (step_ran m p o e s)) _ (sym (step_tests_lem m k p i o s) ∙ a.1) in
    (b.0, b.1)

-- ---- the moves of one step

module _ (m : Map) (g : Accepted m) (k : ℕ) (few : k ≤ 64) (s : State) (h : Consistent m k s) (r u v behind : ℕ) (list : List ℕ) (t : Taken m k s r u v behind list) where
  -- the left zone's moves leave the entered zone as it was
  pub entered_kept : arrangement_in m (moved_all s (leaving m s r u)) (zone_of m v) ≡ arrangement_in m s (zone_of m v)
  entered_kept =
      let z : ℕ = zone_of m u in
      let at_u = g.placed u t.from in
      let at_v = g.placed v t.to in
      let outward = (laws (kind_of m z)).leaves (arrangement_in m s z) r (place_of m u) (proper m g k few s h z at_u.zone).once (rw (arrangement_length s (zone_at m z)) at_u.place) t.leaves in
      (act m g z at_u.zone outward.1 s h.rooms refl).away (zone_of m v) at_v.zone (λ e. t.apart (sym e))

  -- so leaving, entering from there and crossing make the step's moves
  pub step_made : (w a b c : World) → w.state ≡ s → a ≡ made_all w (leaving m s r u) → b ≡ made_all a (entering m a.state v behind list) → c ≡ world.made b (mv r u v)
      → c ≡ made_all w (moves_of m s r u v behind list)
  step_made w a b c es ea eb ec =
      let e : a.state ≡ moved_all s (leaving m s r u) = ap (λ (x : World). x.state) ea ∙ state_is w (leaving m s r u) ∙ ap (λ (x : State). moved_all x (leaving m s r u)) es in
      let f : arrangement_in m a.state (zone_of m v) ≡ arrangement_in m s (zone_of m v) = ap (λ (x : State). arrangement_in m x (zone_of m v)) e ∙ entered_kept in
      let d : entering m a.state v behind list ≡ entering m s v behind list = rw f in
      ec ∙ made_one b (mv r u v)
      ∙ ap (λ (x : World). made_all x (mv r u v ∷ [])) (eb ∙ ap₂ {C = World} (λ x (l : List Move). made_all x l) ea d ∙ sym (made_append w (leaving m s r u) (entering m s v behind list)))
      ∙ sym (made_append w (leaving m s r u ++ entering m s v behind list) (mv r u v ∷ []))

-- ---- the steps

-- how far a walk of n steps from the world w₀ has come: i steps passed, the next stands at offset o, and they led to the world w
pub record Walking (m : Map) (k : ℕ) (p : List ℕ) (n : ℕ) (w₀ : World) (i o : ℕ) (w : World) : Type 0 where
  pub within : i ≤ n
  pub offset : o ≤ length p
  pub moves : List Move
  pub reached : w ≡ made_all w₀ moves
  pub consistent : Consistent m k w.state
  pub all : steps_from m k p n 0 2 w₀.state ≡ after moves (steps_from m k p (n - i) i o w.state)

-- what a walk of n steps that all pass comes to
pub record WalkOf (m : Map) (k : ℕ) (p : List ℕ) (n : ℕ) (w₀ w : World) (next : ℕ) : Type 0 where
  pub moves : List Move
  pub reached : w ≡ made_all w₀ moves
  pub consistent : Consistent m k w.state
  pub answer : steps_from m k p n 0 2 w₀.state ≡ ok (record { state = w.state; moves = moves; next = next })

-- a walk that was given up, since more moves were made than a list holds: they come before all others
pub record OverOf (m : Map) (k : ℕ) (p : List ℕ) (n : ℕ) (w₀ w : World) : Type 0 where
  pub moves : List Move
  pub rest : Outcome Ran
  pub reached : w ≡ made_all w₀ moves
  pub all : steps_from m k p n 0 2 w₀.state ≡ after moves rest
  pub over : 21503 < w.count

module _ (m : Map) (g : Accepted m) (k : ℕ) (few : k ≤ 64) (p : List ℕ) (n : ℕ) (w₀ : World) where
  -- nothing is walked yet
  pub walk_start : 2 ≤ length p → Consistent m k w₀.state → Walking m k p n w₀ 0 2 w₀
  unfolding made_all
  walk_start h c = record {
    within = omega arith;
    offset = h;
    moves = [];
    reached = refl;
    consistent = c;
    all = let e : n - 0 ≡ n = omega arith in rw e (after_none (steps_from m k p n 0 2 w₀.state));
  }

  module _ (i o : ℕ) (w : World) (d : Walking m k p n w₀ i o w) where
    -- what is left begins with step i
    pub walk_left : i < n → steps_from m k p n 0 2 w₀.state ≡ after d.moves (steps_from m k p (suc (n - (i + 1))) i o w.state)
    walk_left h = let e : n - i ≡ suc (n - (i + 1)) = omega arith in d.all ∙ ap (λ (t : ℕ). after d.moves (steps_from m k p t i o w.state)) e

    -- a step that passes
    pub walk_more : (e : ℕ) (u : World) → i < n → step_tests m k p i o w.state ≡ ok e → u ≡ made_all w (step_moves m p o e w.state)
        → Walking m k p n w₀ (i + 1) (o + 4 + e) u
    walk_more e u h t q =
        let ms : List Move = step_moves m p o e w.state in
        let x = tests_passed m k p i o w.state e t in
        let z : u.state ≡ moved_all w.state ms = ap (λ (y : World). y.state) q ∙ state_is w ms in
        record {
          within = omega arith;
          offset = x.long;
          moves = d.moves ++ ms;
          reached = q ∙ ap (λ (y : World). made_all y ms) d.reached ∙ sym (made_append w₀ d.moves ms);
          consistent = rw z (consistent_all m g k d.consistent (made m g k few w.state d.consistent _ _ _ _ _ x.taken).legals);
          all =
              walk_left h
              ∙ ap (after d.moves) (steps_next m k p (n - (i + 1)) i o w.state e t)
              ∙ after_after d.moves ms (steps_from m k p (n - (i + 1)) (i + 1) (o + 4 + e) (moved_all w.state ms))
              ∙ ap (λ (y : State). after (d.moves ++ ms) (steps_from m k p (n - (i + 1)) (i + 1) (o + 4 + e) y)) (sym z);
        }

    -- the next step passes where all do
    pub walk_passes : i < n → (ran : Ran) → steps_from m k p n 0 2 w₀.state ≡ ok ran → (e : ℕ) × (step_tests m k p i o w.state ≡ ok e)
    unfolding after
    walk_passes h ran q =
        let a = bound _ _ _ (sym (walk_left h) ∙ q) in
        steps_passed m k p (n - (i + 1)) i o w.state a.0 a.1

    -- too many moves were made
    pub walk_over : 21503 < w.count → OverOf m k p n w₀ w
    walk_over h = record { moves = d.moves; rest = steps_from m k p (n - i) i o w.state; reached = d.reached; all = d.all; over = h }

    -- all steps passed
    pub walk_end : n ≤ i → WalkOf m k p n w₀ w o
    unfolding steps_from after ◌>>=◌
    walk_end h = record {
      moves = d.moves;
      reached = d.reached;
      consistent = d.consistent;
      answer =
          let e : n - i ≡ 0 = omega arith in
          d.all ∙ ap (λ (t : ℕ). after d.moves (steps_from m k p t i o w.state)) e
          ∙ ap (λ (l : List Move). ok (record { state = w.state; moves = l; next = o })) (append-nil d.moves);
    }
