-- What is left of resolving a plan once its count is read, and once its steps are walked: the surplus, the goals, the endings.
use Rattle.std.specs.Prelude.{◌≡◌, List, ◌++◌, ℕ, ◌+◌, ◌*◌, ◌/◌, ◌≤◌, ◌<◌, length, take, eqb}
use Rattle.std.proofs.Common.{sym, ap, ◌∙◌, arith, length-take-le, lt-ltb, le-ltb, eq-eqb, ne_eqb}
use Rattle.spec.specs.Outcome.{Outcome, ok, refuse, ◌>>=◌, ◌>>◌, check}
use Rattle.spec.specs.Wire.{word}
use Rattle.spec.specs.Layout.{Map, Placing, word_at}
use Rattle.spec.specs.Arrangement.{Move}
use Rattle.spec.specs.State as meaning
use Rattle.spec.specs.Run.{Ran, count_of, steps_from, goals_from, endings_from, resolved_moves}
use Rattle.theory.specs.Maps.Layout.{Accepted}
use Rattle.theory.specs.Maps.Placing.{Placed}
use Rattle.theory.specs.Maps.Consistent.{Consistent}
use Rattle.theory.specs.Plans.Resolve.{start_tracks}
use Rattle.wire.specs.Payload.{payload, held_length, held_word}
use Rattle.wire.specs.Payload as wire
use Rattle.motion.specs.World.{World}

-- a two-byte number that is not all there
word_short : (a : ℕ) (p : List ℕ) (o : ℕ) → length p ≤ o + 1 → word_at a p o ≡ refuse a o
unfolding word_at
word_short a p o h = rw (le-ltb (o + 1) (length p) h, word_at)

-- one that is
word_there : (a : ℕ) (p : List ℕ) (o : ℕ) → o + 1 < length p → word_at a p o ≡ ok (word p o)
unfolding word_at
word_there a p o h = rw (lt-ltb (o + 1) (length p) h, word_at)

-- a payload that ends before its count does
count_short : (a : ℕ) (p : List ℕ) → length p < 2 → count_of a p ≡ refuse a 0
unfolding count_of
count_short a p h = rw (word_short a p 0 (omega arith), count_of)

-- one that does not
count_there : (a : ℕ) (p : List ℕ) → 2 ≤ length p → count_of a p ≡ ok (word p 0)
unfolding count_of
count_there a p h = rw (word_there a p 0 (omega arith), count_of)

-- what is left of resolving, once the steps are walked
unfoldable pub resolved_on : Map → Placing → List ℕ → ℕ → Outcome Ran → Outcome (List Move)
resolved_on m pl p count steps = do
  ran ← steps
  check (eqb ran.next (length p)) 35 count
  goals_from 0 m.zones ran.state (meaning.standing pl.goals)
  ok (ran.moves ++ endings_from m.zones ran.state (meaning.standing pl.goals))

-- the world before the first move
abbrev pub fresh : meaning.State → List ℕ → World
fresh s o = record { state = s; count = 0; buffer = o }

module _ (m : Map) (pl : Placing) (f : List ℕ) (len : ℕ) (most : len ≤ length f / 512 * 504) where
  -- the payload ends before the count does
  pub on_none : len < 2 → resolved_moves m pl (take len (payload f)) ≡ refuse 35 0
  unfolding resolved_moves ◌>>=◌
  on_none h = rw (count_short 35 (take len (payload f)) (omega (arith, held_length f len most)))

  -- the count is read
  there : 2 ≤ len → resolved_moves m pl (take len (payload f))
      ≡ resolved_on m pl (take len (payload f)) (wire.word_at f 0) (steps_from m (length pl.starts) (take len (payload f)) (wire.word_at f 0) 0 2 (meaning.standing pl.starts))
  unfolding resolved_moves resolved_on ◌>>=◌
  there h = rw (count_there 35 (take len (payload f)) (omega (arith, held_length f len most)), held_word f len most 0 (omega arith))

  -- the same, from the starts that the code holds: what is left is the walk
  pub on_steps : (k n : ℕ) (starts : List ℕ) (s : meaning.State) → 2 ≤ len → n ≡ wire.word_at f 0 → k ≤ length starts → pl.starts ≡ take k starts → s ≡ meaning.standing (take k starts)
      → resolved_moves m pl (take len (payload f)) ≡ resolved_on m pl (take len (payload f)) n (steps_from m k (take len (payload f)) n 0 2 s)
  on_steps k n starts s h en l es ess =
      let ek : length pl.starts ≡ k = ap length es ∙ length-take-le k starts l in
      let e : meaning.standing pl.starts ≡ s = ap meaning.standing es ∙ sym ess in
      there h ∙ rw (← en, ek, e)

  -- a refusal of the walk stands
  pub on_refused : (n : ℕ) (o : Outcome Ran) (a i : ℕ) → o ≡ refuse a i → resolved_on m pl (take len (payload f)) n o ≡ refuse a i
  unfolding resolved_on ◌>>=◌
  on_refused n o a i e = rw e

  module _ (n : ℕ) (ran : Ran) where
    -- something follows the last step
    pub on_surplus : (ran.next ≡ len → ⊥) → resolved_on m pl (take len (payload f)) n (ok ran) ≡ refuse 35 n
    unfolding resolved_on ◌>>=◌ ◌>>◌ check
    on_surplus h = rw (ne_eqb ran.next (length (take len (payload f))) (λ e. h (omega (arith, e, held_length f len most))))

    -- nothing does: what is left are the goals
    pub on_goals_lem : ran.next ≡ len → resolved_on m pl (take len (payload f)) n (ok ran)
        ≡ (goals_from 0 m.zones ran.state (meaning.standing pl.goals) >> ok (ran.moves ++ endings_from m.zones ran.state (meaning.standing pl.goals)))
    unfolding resolved_on ◌>>=◌ ◌>>◌ check
    on_goals_lem h = rw (eq-eqb ran.next (length (take len (payload f))) (omega (arith, held_length f len most)))

-- the starts of an accepted placing are consistent
pub start_consistent : (m : Map) → Accepted m → (pl : Placing) → Placed m.size pl → (k : ℕ) (starts : List ℕ) (s : meaning.State) → k ≤ length starts → pl.starts ≡ take k starts
    → s ≡ meaning.standing (take k starts) → Consistent m k s
start_consistent m g pl pd k starts s l es ess =
    let ek : length pl.starts ≡ k = ap length es ∙ length-take-le k starts l in
    let e : meaning.standing pl.starts ≡ s = ap meaning.standing es ∙ sym ess in
    rw (ek, e) at (start_tracks m g pl pd).consistent
