-- A plan judged on the lists: how far the walk has come, the goals, and the answer.
use Rattle.std.specs.Prelude.{◌≡◌, refl, ℕ, suc, ◌+◌, ◌-◌, ◌*◌, ◌/◌, ◌≤◌, ◌<◌, length, get_or, take, Result, Ok, Err, MatchResult, IsErrAnd}
use Rattle.std.proofs.Common.{sym, ap, ◌∙◌, arith}
use mathlib.Core.List.{List, [], ◌++◌}
use Rattle.spec.specs.Outcome.{ok, refuse, ◌>>=◌, ◌>>◌}
use Rattle.spec.specs.Layout.{Map, Placing, zone_at}
use Rattle.spec.specs.Arrangement.{Move, order}
use Rattle.spec.specs.ZoneKind.{can_end}
use Rattle.spec.specs.State.{State, arrangement_of}
use Rattle.spec.specs.State as meaning
use Rattle.spec.specs.Run.{steps_from, goals_from, endings_from, resolved_moves}
use Rattle.spec.specs.Terms.{zone_count, kind_of, arrangement_in}
use Rattle.theory.specs.Maps.Cells.{arrangement_length}
use Rattle.theory.specs.Maps.Consistent.{Consistent}
use Rattle.theory.specs.Plans.Step.{proper}
use Rattle.wire.specs.Payload.{payload, held_length}
use Rattle.wire.specs.Payload as wire
use Rattle.motion.specs.World.{World, made_all, state_is}
use Rattle.walking.specs.Tables.{vertices_in}
use Rattle.orders.specs.Orders.{end_test}
use Rattle.orders.specs.Tests.{end_is}
use Rattle.testing.specs.declared.PlanFault.{PlanFault}
use Rattle.testing.specs.declared.PlanFault.TheVariants as plan
use Rattle.testing.specs.declared.StepFault.{StepFault}
use Rattle.testing.specs.Fault.{refusal_of, fault_of, refused, outcome_of, outcome_then}
use Rattle.walking.specs.Given.{Given}
use Rattle.walking.specs.Tests.{step_tests, step_moves, step_tests_lem, tests_passed}
use Rattle.walking.specs.Walk.{Walking, after, walk_start, walk_left, walk_more, walk_end}
use Rattle.walking.specs.Left.{fresh, resolved_on, on_none, on_steps, on_refused, on_surplus, on_goals_lem}
use Rattle.testing.specs.Held.{list_in, Held, size_is}
use Rattle.testing.specs.Steps.{Ready}
use Rattle.judge.specs.Making.{Marching, Marched, marching_room}

-- how far a walk of n steps from the state s₀ has come on the lists
pub record Judging (m : Map) (k : ℕ) (p : List ℕ) (n : ℕ) (s₀ : State) (i o : ℕ) (first counts cells : List ℕ) : Type 0 where
  pub world : World
  pub walking : Walking m k p n (fresh s₀ []) i o world
  pub held : Held m first counts cells world.state

-- a refusal stands after any moves
after_refused : (ms : List Move) (n i : ℕ) → after ms (refuse n i) ≡ refuse n i
unfolding after ◌>>=◌
after_refused ms n i = refl

-- a step that fails is the refusal
steps_refused : (m : Map) (k : ℕ) (p : List ℕ) (todo i o : ℕ) (s : State) (n q : ℕ) → step_tests m k p i o s ≡ refuse n q → steps_from m k p (suc todo) i o s ≡ refuse n q
unfolding steps_from ◌>>=◌
steps_refused m k p todo i o s n q t = rw (step_tests_lem m k p i o s, t)

-- what a walk of n steps comes to on the lists: the offset after the steps, or which refusal
pub record JudgedWalk (m : Map) (k : ℕ) (p : List ℕ) (n : ℕ) (s₀ : State) (r : Result ℕ PlanFault) (first counts cells : List ℕ) : Type 0 where
  pub state : State
  pub moves : List Move
  pub consistent : Consistent m k state
  pub answer : outcome_of (λ o. record { state = state; moves = moves; next = o }) r ≡ steps_from m k p n 0 2 s₀
  pub held : Held m first counts cells state

-- the plan is cleared, or which refusal: what resolving it comes to by the definition
pub record JudgedTo (m : Map) (pl : Placing) (p : List ℕ) (r : Result (Unit {0}) PlanFault) : Type 0 where
  pub moves : List Move
  pub answer : outcome_of (λ u. moves) r ≡ resolved_moves m pl p

module _ {m : Map} {n k : ℕ} {kind first size listed zone place : List ℕ} {rows : List (List ℕ)} (d : Given m n k kind first size listed zone place rows)
    (f : List ℕ) (len : ℕ) (most : len ≤ length f / 512 * 504) (count : ℕ) {s₀ : State} where
  -- nothing is walked yet
  pub judging_start : {counts cells : List ℕ} → 2 ≤ len → Consistent m k s₀ → Held m first counts cells s₀ → Judging m k (take len (payload f)) count s₀ 0 2 first counts cells
  judging_start h c x = record {
    world = fresh s₀ [];
    walking = walk_start m d.accepted k d.few (take len (payload f)) count (fresh s₀ []) (omega (arith, held_length f len most)) c;
    held = x;
  }

  module _ {i o : ℕ} {counts cells : List ℕ} (room : length cells ≡ length listed) (many : length counts ≡ 64) (j : Judging m k (take len (payload f)) count s₀ i o first counts cells) where
    -- the next step is in the payload
    pub judging_offset : o ≤ len
    judging_offset = omega (arith, j.walking.offset, held_length f len most)

    -- the lists are those of a state
    pub judging_ready : Ready n k kind first size listed zone place rows counts cells
    judging_ready = record { map = m; given = d; state = j.world.state; consistent = j.walking.consistent; held = j.held; room = room; many = many }

    module _ (e : ℕ) (h : ok e ≡ step_tests m k (take len (payload f)) i o j.world.state) where
      -- a step that passed
      pub judging_step : Marching f o e kind first size listed zone place counts cells
      judging_step = record {
        map = m;
        n = n;
        k = k;
        rows = rows;
        given = d;
        state = j.world.state;
        consistent = j.walking.consistent;
        held = j.held;
        room = room;
        many = many;
        len = len;
        most = most;
        passes = tests_passed m k (take len (payload f)) i o j.world.state e (sym h);
      }

      -- it ends in the file
      pub judging_room : o + 4 + e ≤ length f / 512 * 504
      judging_room = marching_room f o e kind first size listed zone place counts cells judging_step

      -- its robot has crossed
      pub judging_next : i < count → {counts' new : List ℕ} → Marched f o e kind first size listed zone place counts cells judging_step counts' new
          → Judging m k (take len (payload f)) count s₀ (i + 1) (o + (4 + e)) first counts' new
      unfolding judging_step
      judging_next l x =
          let ms : List Move = step_moves m (take len (payload f)) o e j.world.state in
          let q : o + 4 + e ≡ o + (4 + e) = omega arith in
          record {
            world = made_all j.world ms;
            walking = rw q at (walk_more m d.accepted k d.few (take len (payload f)) count (fresh s₀ []) i o j.world j.walking e (made_all j.world ms) l (sym h) refl);
            held = rw (state_is j.world ms) x.held;
          }

    -- a step that did not pass is refused
    pub judging_stop : (t : StepFault) {g : PlanFault} → g ≡ refusal_of i t → refused (refusal_of i t) ≡ step_tests m k (take len (payload f)) i o j.world.state → i < count
        → JudgedWalk m k (take len (payload f)) count s₀ (Err g) first counts cells
    judging_stop t {g} e h l = rw e (record {
      state = j.world.state;
      moves = j.walking.moves;
      consistent = j.walking.consistent;
      answer =
          sym (walk_left m d.accepted k d.few (take len (payload f)) count (fresh s₀ []) i o j.world j.walking l
          ∙ ap (after j.walking.moves) (steps_refused m k (take len (payload f)) (count - (i + 1)) i o j.world.state (fault_of (refusal_of i t)).0 (fault_of (refusal_of i t)).1 (sym h))
          ∙ after_refused j.walking.moves (fault_of (refusal_of i t)).0 (fault_of (refusal_of i t)).1);
      held = j.held;
    })

    -- all steps passed
    pub judging_end : count ≤ i → JudgedWalk m k (take len (payload f)) count s₀ (Ok o) first counts cells
    judging_end h =
        let x = walk_end m d.accepted k d.few (take len (payload f)) count (fresh s₀ []) i o j.world j.walking h in
        record { state = j.world.state; moves = x.moves; consistent = x.consistent; answer = sym x.answer; held = j.held }

-- what is known of a result r, where q is r with another refusal
module _ {A E F : Type 0} (P : E → F → Type 0) (V : A → Type 0) (U : E → Type 0) (r : Result A E) (q : Result A F) where
  pub mapped_ok : (x : A) → MatchResult r (λ y. q ≡ Ok y) (λ e. IsErrAnd q (P e)) → MatchResult r V U → q ≡ Ok x → V x
  mapped_ok x h k e = go r h k
    where
      go : (r : Result A E) → MatchResult r (λ y. q ≡ Ok y) (λ e. IsErrAnd q (P e)) → MatchResult r V U → V x
      go (Ok y) h k = let s : y ≡ x = grind arith in rw s at k
      go (Err y) h k = absurd (rw e at h)

  pub mapped_err : (Q : E → F → Type 0) → ((t : E) (g : F) → P t g → Q t g) → (g : F) → MatchResult r (λ y. q ≡ Ok y) (λ e. IsErrAnd q (P e)) → MatchResult r V U → q ≡ Err g → (t : E) × U t × Q t g
  mapped_err Q w g h k e = go r h k
    where
      go : (r : Result A E) → MatchResult r (λ y. q ≡ Ok y) (λ e. IsErrAnd q (P e)) → MatchResult r V U → (t : E) × U t × Q t g
      go (Ok y) h k = absurd (grind arith)
      go (Err t) h k = (t, k, w t g (rw e at h))

-- ---- the goals

-- the test of zone z's goals, by its list
pub ends_by : (m : Map) (n k : ℕ) (kind first size listed zone place : List ℕ) (rows : List (List ℕ)) → Given m n k kind first size listed zone place rows
    → (s g : State) (counts cells : List ℕ) → Consistent m k s → Held m first counts cells s → (z : ℕ) → z < zone_count m
    → end_test (get_or kind z 0) (get_or size z 0) (list_in first counts cells z) (order (arrangement_of g (vertices_in first size listed z))) ≡ can_end (kind_of m z) (arrangement_in m s z) (arrangement_in m g z)
ends_by m n k kind first size listed zone place rows d s g counts cells hc x z h =
    let e : length (arrangement_in m s z) ≡ get_or size z 0 = arrangement_length s (zone_at m z) ∙ size_is m n k kind first size listed zone place rows d z h in
    let q : can_end (kind_of m z) (arrangement_in m s z) (arrangement_in m g z) ≡ end_test (kind_of m z) (length (arrangement_in m s z)) (list_in first counts cells z) (order (arrangement_in m g z)) =
    end_is (kind_of m z) (list_in first counts cells z) (arrangement_in m s z) (proper m d.accepted k d.few s hc z h) (x.stands z h) (arrangement_in m g z) (arrangement_length s (zone_at m z) ∙ sym (arrangement_length g (zone_at m z))) in
    rw (← d.tables.kinds z h, ← d.tables.vertices z h, ← e) (sym q)

-- ---- the answer

module _ (m : Map) (pl : Placing) (f : List ℕ) (len : ℕ) (most : len ≤ length f / 512 * 504) (k n : ℕ) (starts : List ℕ) (s : State)
    (h : 2 ≤ len) (en : n ≡ wire.word_at f 0) (l : k ≤ length starts) (es : pl.starts ≡ take k starts) (ess : s ≡ meaning.standing (take k starts)) where
  -- the count is read, what is left is the walk
  from : resolved_moves m pl (take len (payload f)) ≡ resolved_on m pl (take len (payload f)) n (steps_from m k (take len (payload f)) n 0 2 s)
  from = on_steps m pl f len most k n starts s h en l es ess

  -- the walk passed, what is left are the surplus and the goals
  walked : {next : ℕ} {first counts cells : List ℕ} (d : JudgedWalk m k (take len (payload f)) n s (Ok next) first counts cells)
      → resolved_moves m pl (take len (payload f)) ≡ resolved_on m pl (take len (payload f)) n (ok (record { state = d.state; moves = d.moves; next = next }))
  walked d = from ∙ ap (resolved_on m pl (take len (payload f)) n) (sym d.answer)

module _ {m : Map} {pl : Placing} (f : List ℕ) (len : ℕ) (most : len ≤ length f / 512 * 504) where
  -- the payload ends before the count does
  pub judged_none : len < 2 → JudgedTo m pl (take len (payload f)) (Err (plan.Short 0))
  judged_none h = record { moves = []; answer = sym (on_none m pl f len most h) }

  module _ {k n : ℕ} (starts : List ℕ) {s : State} (h : 2 ≤ len) (en : n ≡ wire.word_at f 0) (l : k ≤ length starts) (es : pl.starts ≡ take k starts) (ess : s ≡ meaning.standing (take k starts))
      {first counts cells : List ℕ} where
    -- a refusal of the walk stands
    pub judged_refused : {g : PlanFault} → JudgedWalk m k (take len (payload f)) n s (Err g) first counts cells → JudgedTo m pl (take len (payload f)) (Err g)
    judged_refused {g} d = record { moves = []; answer = sym (from m pl f len most k n starts s h en l es ess ∙ on_refused m pl f len most n _ (fault_of g).0 (fault_of g).1 (sym d.answer)) }

    module _ {next : ℕ} (d : JudgedWalk m k (take len (payload f)) n s (Ok next) first counts cells) where
      -- something follows the last step
      pub judged_surplus : (next ≡ len → ⊥) → JudgedTo m pl (take len (payload f)) (Err (plan.Short n))
      judged_surplus z = record { moves = []; answer = sym (walked m pl f len most k n starts s h en l es ess d ∙ on_surplus m pl f len most n (record { state = d.state; moves = d.moves; next = next }) z) }

      -- the goals are tested
      pub judged_goals : {g : State} → g ≡ meaning.standing pl.goals → next ≡ len → (r : Result (Unit {0}) PlanFault) → outcome_of (λ u. u) r ≡ goals_from 0 m.zones d.state g → JudgedTo m pl (take len (payload f)) r
      judged_goals {g} eg z r x = record {
        moves = d.moves ++ endings_from m.zones d.state g;
        answer =
            outcome_then (λ u. u) (d.moves ++ endings_from m.zones d.state g) r (goals_from 0 m.zones d.state g) x
            ∙ sym (walked m pl f len most k n starts s h en l es ess d ∙ on_goals_lem m pl f len most n (record { state = d.state; moves = d.moves; next = next }) z
            ∙ ap (λ (t : State). goals_from 0 m.zones d.state t >> ok (d.moves ++ endings_from m.zones d.state t)) (sym eg));
      }
