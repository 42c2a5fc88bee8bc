-- Plans from the starts to the goals: abstract plans, legal lists and resolved payloads are the same.
-- What it rests on stands in specs/Plans/Resolve.antt.
use Rattle.std.specs.Prelude.{◌≡◌, List, [], ◌∷◌, ◌++◌, ℕ, ◌+◌, ◌*◌, ◌≤◌, ◌<◌, length, get_or, drop}
use Rattle.std.proofs.Math.Path.{sym}
use Rattle.std.proofs.Common.{ap, ap₂, ◌∙◌, append-nil, arith, drop-cons, eqb→eq}
use Rattle.std.proofs.Math.Seq.{drop-length}
use Rattle.spec.specs.Outcome.{ok, u16}
use Rattle.spec.specs.Layout.{Map, Placing}
use Rattle.spec.specs.Arrangement.{Move}
use Rattle.spec.specs.State.{State, standing, moved_all, Step, step_bytes, plan_payload}
use Rattle.spec.specs.Run.{Ran, steps_from, goals_from, endings_from, count_of, resolved_moves}
use Rattle.spec.specs.Terms.{Bytes, Abstract}
use Rattle.theory.specs.Basics.Tests.{eq→eqb}
use Rattle.theory.specs.Basics.Outcomes.{ok_injective, passed, bound, seq_ok, pass, bind, after}
use Rattle.theory.specs.Codec.{u16_word}
use Rattle.theory.specs.Maps.Layout.{Accepted}
use Rattle.theory.specs.Maps.Placing.{Placed}
use Rattle.theory.specs.Maps.Moves.{Legals, moved_append, legals_append, drawn_append}
use Rattle.theory.specs.Maps.Consistent.{consistent_all}
use Rattle.theory.specs.Maps.Tracks.{tracks_all, same_vertices}
use Rattle.theory.specs.Plans.Walk.{Walk, Walked, Reads, steps_read, walk_ran, walk_read}
use Rattle.theory.proofs.Plans.Walk.{walked}
use Rattle.theory.specs.Plans.Endings.{Ended}
use Rattle.theory.proofs.Plans.Endings.{brought, goals_pass}
use Rattle.theory.specs.Plans.Tuple.{tuple_refl}
use Rattle.theory.proofs.Plans.Crossing.{abstract_walk}
use Rattle.theory.specs.Maps.Inside.{arrangements_same}
use Rattle.theory.specs.Plans.Resolve.{count_of_lem, plan_split, plan_length, payload_count, payload_tail, Concrete, Resolved, whole, start_tracks, goal_tracks}

-- ---- the whole

module _ (m : Map) (g : Accepted m) (pl : Placing) (pd : Placed m.size pl) where
  -- a walk that ends where the goals can be reached gives a legal list to the goals that draws its steps
  pub arrives : {ss : List Step} {xs : List Move} → Walk m (length pl.starts) (standing pl.starts) ss xs
      → goals_from 0 m.zones (moved_all (standing pl.starts) xs) (standing pl.goals) ≡ ok tt → Concrete m pl ss (whole m pl xs)
  arrives {ss} {xs} w q = record {
    legals = legals;
    reached = same_vertices m k pd.few _ (standing pl.goals) (tracks_all m g k pd.few (start_tracks m g pl pd) legals) (goal_tracks m g pl pd)
        (arrangements_same m g (moved_all s (xs ++ E)) (standing pl.goals) (λ z h. rw (moved_append s xs E) (en.reached z (omega arith) h)));
    drawn = drawn_append m s xs E ∙ ap₂ {C = List Step} (λ a b. a ++ b) wd.drawn en.silent ∙ append-nil ss;
  }
    where
      k : ℕ
      k = length pl.starts

      s : State
      s = standing pl.starts

      E : List Move
      E = endings_from m.zones (moved_all s xs) (standing pl.goals)

      wd : Walked m s ss xs
      wd = walked m g k pd.few (start_tracks m g pl pd).consistent w

      en : Ended m (standing pl.goals) (moved_all s xs) 0 E
      en = brought m g k pd.few (moved_all s xs) (standing pl.goals) (consistent_all m g k (start_tracks m g pl pd).consistent wd.legals) q

      legals : Legals m s (xs ++ E)
      legals = legals_append E wd.legals en.legals

  -- an abstract plan from the starts to the goals is walked from the starts, and the goals can then be reached
  pub abstract_arrives : {ss : List Step} → Abstract m (standing pl.starts) ss (standing pl.goals)
      → (xs : List Move) × Walk m (length pl.starts) (standing pl.starts) ss xs × (goals_from 0 m.zones (moved_all (standing pl.starts) xs) (standing pl.goals) ≡ ok tt)
  abstract_arrives a =
      let k = length pl.starts in
      let s = standing pl.starts in
      let w = abstract_walk m g k pd.few a s (start_tracks m g pl pd).consistent (tuple_refl m s) in
      let l = (walked m g k pd.few (start_tracks m g pl pd).consistent w.1).legals in
      (w.0, w.1, goals_pass m g k pd.few (moved_all s w.0) (standing pl.goals) (consistent_all m g k (start_tracks m g pl pd).consistent l) w.2)

  -- ---- plans as bytes

  -- a payload is its count and its steps
  plan_bytes : (p : List ℕ) (c : ℕ) (ran : Ran) → Bytes p → 2 ≤ length p → c ≡ get_or p 0 0 * 256 + get_or p 1 0 → (r : Reads m (length pl.starts) p c 2 (standing pl.starts) ran)
      → ran.next ≡ length p → p ≡ plan_payload r.steps
  plan_bytes p c ran b l e r n =
      let D = r.steps in
      let tail : drop 2 p ≡ step_bytes D = r.bytes ∙ ap (λ q. step_bytes D ++ q) (ap (λ q. drop q p) n ∙ drop-length p) ∙ append-nil (step_bytes D) in
      drop-cons p 0 0 (omega arith) ∙ ap (λ q. get_or p 0 0 ∷ q) (drop-cons p 1 0 (omega arith)) ∙ ap (λ q. get_or p 0 0 ∷ get_or p 1 0 ∷ q) tail
      ∙ ap (λ q. q ++ step_bytes D) (sym (u16_word (get_or p 0 0) (get_or p 1 0) (b 0) (b 1))) ∙ ap (λ q. u16 q ++ step_bytes D) (sym (r.count ∙ e)) ∙ sym (plan_split D)

  -- a plan that is resolved is that of a legal list to the goals
  pub resolved_sound : (p : List ℕ) (ms : List Move) → Bytes p → resolved_moves m pl p ≡ ok ms → Resolved m pl p ms
  unfolding resolved_moves
  resolved_sound p ms b e =
      let c = bound _ _ _ e in
      let r = bound _ _ _ c.2 in
      let n = passed _ _ _ _ _ r.2 in
      let q = seq_ok _ _ _ n.1 in
      let f = count_of_lem 35 p c.0 c.1 in
      let w = steps_read m (length pl.starts) p c.0 0 2 (standing pl.starts) r.0 r.1 in
      rw (← ok_injective q.2) (finish c.0 r.0 w (plan_bytes p c.0 r.0 b f.0 f.1 w (eqb→eq _ _ n.0)) q.1)
    where
      finish : (c : ℕ) (ran : Ran) (w : Reads m (length pl.starts) p c 2 (standing pl.starts) ran) → p ≡ plan_payload w.steps
          → goals_from 0 m.zones ran.state (standing pl.goals) ≡ ok tt → Resolved m pl p (ran.moves ++ endings_from m.zones ran.state (standing pl.goals))
      finish c ran w e q = record { steps = w.steps; concrete = rw w.state (arrives w.way (rw w.state at q)); payload = e }

  -- the checks of a walk's payload
  finished : (c : ℕ) (p : List ℕ) (ran : Ran) → count_of 35 p ≡ ok c → steps_from m (length pl.starts) p c 0 2 (standing pl.starts) ≡ ok ran
      → ran.next ≡ length p → goals_from 0 m.zones ran.state (standing pl.goals) ≡ ok tt
      → resolved_moves m pl p ≡ ok (ran.moves ++ endings_from m.zones ran.state (standing pl.goals))
  unfolding resolved_moves
  finished c p ran a r n q = bind _ _ _ a ∙ bind _ _ _ r ∙ pass _ _ _ _ (eq→eqb _ _ n) ∙ after _ _ _ q

  -- every abstract plan from the starts to the goals that can be counted is resolved
  pub resolved_complete : (ss : List Step) → Abstract m (standing pl.starts) ss (standing pl.goals) → length ss < 65536
      → (ms : List Move) × (resolved_moves m pl (plan_payload ss) ≡ ok ms)
  resolved_complete ss a h =
      let k = length pl.starts in
      let s = standing pl.starts in
      let w = abstract_arrives a in (
        whole m pl w.0,
        finished (length ss) (plan_payload ss) (walk_ran s 2 ss w.0) (payload_count ss h)
            (walk_read m k w.1 (plan_payload ss) 0 2 [] (payload_tail ss ∙ sym (append-nil (step_bytes ss)))) (sym (plan_length ss)) w.2,
      )
