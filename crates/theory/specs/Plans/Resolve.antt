-- Plans from the starts to the goals: abstract plans, legal lists and resolved payloads are the same.
use Rattle.std.specs.Prelude.{◌≡◌, refl, List, ◌++◌, ℕ, ◌+◌, ◌*◌, ◌≤◌, ◌<◌, length, get_or, drop, ltb}
use Rattle.std.proofs.Math.Path.{sym}
use Rattle.std.proofs.Common.{ap, ◌∙◌, arith, ltb→lt, lt→ltb}
use Rattle.std.proofs.Math.Decide.{dec_lt}
use Rattle.spec.specs.Outcome.{ok, refuse, u16}
use Rattle.spec.specs.Wire.{word}
use Rattle.spec.specs.Layout.{Map, Placing, word_at}
use Rattle.spec.specs.Arrangement.{Move}
use Rattle.spec.specs.State.{standing, moved_all, Step, drawn_steps, step_bytes, plan_payload}
use Rattle.spec.specs.Run.{endings_from, count_of}
use Rattle.spec.specs.Terms.{Abstract}
use Rattle.theory.specs.Basics.Tests.{true_of, false_of}
use Rattle.theory.specs.Basics.Outcomes.{ok_injective, never}
use Rattle.theory.specs.Codec.{word_u16}
use Rattle.theory.specs.Maps.Layout.{Accepted}
use Rattle.theory.specs.Maps.Placing.{Placed}
use Rattle.theory.specs.Maps.Moves.{Legals}
use Rattle.theory.specs.Maps.Tracks.{Tracks, tracks_all, same_robots_lem}
use Rattle.theory.specs.Maps.Standing.{standing_tracks}
use Rattle.theory.specs.Plans.Tuple.{same_tuple, abstract_to, list_abstract}
use Rattle.theory.specs.Maps.Inside.{same_arrangements}

-- ---- the count

-- a count is read from two bytes
pub of_count : (n : ℕ) (p : List ℕ) (c : ℕ) → 2 ≤ length p → c ≡ get_or p 0 0 * 256 + get_or p 1 0 → count_of n p ≡ ok c
unfolding count_of word_at word
of_count n p c h e = rw (true_of {b = ltb 1 (length p)} (lt→ltb _ _ h), count_of) (ap ok (sym e))

-- a payload too short for a count is refused
no_count : (n : ℕ) (p : List ℕ) → length p < 2 → count_of n p ≡ refuse n 0
unfolding count_of word_at
no_count n p h = rw (false_of {b = ltb 1 (length p)} (λ t. omega (arith, ltb→lt 1 (length p) t)), count_of)

-- a count that is read is those two bytes
pub count_of_lem : (n : ℕ) (p : List ℕ) (c : ℕ) → count_of n p ≡ ok c → (2 ≤ length p) × (c ≡ get_or p 0 0 * 256 + get_or p 1 0)
count_of_lem n p c e = case (dec_lt (length p) 2)
  where
    case : Dec (length p < 2) → (2 ≤ length p) × (c ≡ get_or p 0 0 * 256 + get_or p 1 0)
    case (yes h) = absurd (never (sym (no_count n p h) ∙ e))
    case (no h) = (omega arith, ok_injective (sym e ∙ of_count n p (get_or p 0 0 * 256 + get_or p 1 0) (omega arith) refl))

-- a plan's payload is its count and its steps
pub plan_split : (ss : List Step) → plan_payload ss ≡ u16 (length ss) ++ step_bytes ss
unfolding plan_payload
plan_split ss = refl

-- how long a plan's payload is
pub plan_length : (ss : List Step) → length (plan_payload ss) ≡ 2 + length (step_bytes ss)
unfolding plan_payload u16
plan_length ss = omega arith

-- the count of a plan is read back
pub payload_count : (ss : List Step) → length ss < 65536 → count_of 35 (plan_payload ss) ≡ ok (length ss)
payload_count ss h = of_count 35 (plan_payload ss) (length ss) (omega (arith, plan_length ss)) (unfold plan_payload u16 in sym (word_u16 (length ss) h))

-- and its steps follow
pub payload_tail : (ss : List Step) → drop 2 (plan_payload ss) ≡ step_bytes ss
unfolding plan_payload u16
payload_tail ss = refl

-- ---- the whole

-- a legal list from the starts to the goals that draws the steps ss
pub record Concrete (m : Map) (pl : Placing) (ss : List Step) (ms : List Move) : Type 0 where
  pub legals : Legals m (standing pl.starts) ms
  pub reached : (moved_all (standing pl.starts) ms).vertices ≡ (standing pl.goals).vertices
  pub drawn : drawn_steps m (standing pl.starts) ms ≡ ss

-- the steps of a payload that is resolved, and its moves
pub record Resolved (m : Map) (pl : Placing) (p : List ℕ) (ms : List Move) : Type 0 where
  pub steps : List Step
  pub concrete : Concrete m pl steps ms
  pub payload : p ≡ plan_payload steps

-- the moves of a walk, then those to the goals
abbrev pub whole : Map → Placing → List Move → List Move
whole m pl xs = xs ++ endings_from m.zones (moved_all (standing pl.starts) xs) (standing pl.goals)

module _ (m : Map) (g : Accepted m) (pl : Placing) (pd : Placed m.size pl) where
  -- the starts are a state that tracks
  pub start_tracks : Tracks m (length pl.starts) (standing pl.starts)
  start_tracks = standing_tracks m g pl.starts pd.starts pd.few

  -- the goals likewise
  pub goal_tracks : Tracks m (length pl.starts) (standing pl.goals)
  goal_tracks = rw pd.same (standing_tracks m g pl.goals pd.goals (omega (arith, pd.same, pd.few)))

  -- a legal list to the goals is an abstract plan
  pub concrete_abstract : {xs : List Move} → Legals m (standing pl.starts) xs → (moved_all (standing pl.starts) xs).vertices ≡ (standing pl.goals).vertices
      → Abstract m (standing pl.starts) (drawn_steps m (standing pl.starts) xs) (standing pl.goals)
  concrete_abstract {xs} l e =
      let k = length pl.starts in
      let t = moved_all (standing pl.starts) xs in
      let same = same_arrangements m g t (standing pl.goals) (same_robots_lem m k t (standing pl.goals) (tracks_all m g k pd.few start_tracks l) goal_tracks e) in
      abstract_to m (standing pl.goals) (list_abstract m g k pd.few start_tracks l) (same_tuple m t (standing pl.goals) same)
