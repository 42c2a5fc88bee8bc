-- A cleared plan, resolved: the walk, the goals, the endings.
use Rattle.std.specs.Prelude.{◌≡◌, Result, Ok, Err, MatchResult, List, ◌++◌, ℕ, ◌≤◌, ◌<◌, take}
use Rattle.std.proofs.Common.{sym, ◌∙◌, ⊎_elim}
use Rattle.std.proofs.Math.Path.{ap}
use native.Mathlib.Omega.{arith}
use Rattle.std.proofs.Math.ListN.{length, length-append}
use Rattle.spec.specs.Outcome.{Outcome, ok}
use Rattle.spec.specs.Layout.{Map, Placing}
use Rattle.spec.specs.Arrangement.{Move}
use Rattle.spec.specs.State as meaning
use Rattle.spec.specs.State.{move_bytes}
use Rattle.spec.specs.Run.{Ran, steps_from, goals_from, endings_from, resolved_moves}
use Rattle.spec.specs.Terms.{zone_count}
use Rattle.theory.specs.Basics.Outcomes.{bound, seq_ok, never, ok_injective}
use Rattle.theory.specs.Maps.Layout.{Accepted}
use Rattle.theory.specs.Maps.ZoneSize.{zone_size}
use Rattle.theory.specs.Maps.Consistent.{Consistent}
use Rattle.theory.specs.Zones.Lengths as zones
use Rattle.theory.specs.Bounds.{step_most, resolved_few}
use Rattle.wire.specs.Payload.{payload, held_length, lt_or_ge}
use Rattle.wire.specs.Payload as wire
use Rattle.writer.specs.Laid.{laid_all}
use Rattle.motion.specs.World.{World, world, made_all, made_append, count_is, buffer_is, buffer_length, most_moves}
use Rattle.walking.specs.Given.{Started, Cleared}
use Rattle.walking.specs.Walk.{WalkOf, OverOf, after}
use Rattle.walking.specs.Left.{resolved_on, fresh, on_none, on_steps, start_consistent}
use Rattle.resolve.specs.declared.TooManyMoves.{TooManyMoves}

-- what resolving the payload p comes to, from a buffer o₀ to a buffer o: the defined list's length and bytes
pub record ResolvedTo (m : Map) (pl : Placing) (p o₀ o : List ℕ) (count : ℕ) : Type 0 where
  pub moves : List Move
  pub answer : resolved_moves m pl p ≡ ok moves
  pub counted : count ≡ length moves
  pub buffer : o ≡ laid_all o₀ 2 (move_bytes moves)

-- a list of at least c moves, more than one holds
pub record OverTo (m : Map) (pl : Placing) (p : List ℕ) (c : ℕ) : Type 0 where
  pub over : 21503 < c
  pub most : (ms : List Move) → resolved_moves m pl p ≡ ok ms → c ≤ length ms

-- the list resolved, or given up since it is too long in any case
pub record ResolvedOr (m : Map) (pl : Placing) (p o₀ o : List ℕ) (r : Result ℕ TooManyMoves) : Type 0 where
  pub either : MatchResult r (ResolvedTo m pl p o₀ o) (λ e. OverTo m pl p e.made)
  pub long : length o ≡ length o₀

-- what a walk comes to, or that it was given up
abbrev pub WalkedTo : Map → ℕ → List ℕ → ℕ → World → Result ℕ TooManyMoves → meaning.State → List ℕ → Type 0
WalkedTo m k p n w₀ r s o = MatchResult r (λ made. (next : ℕ) × WalkOf m k p n w₀ (world s made o) next) (λ e. OverOf m k p n w₀ (world s e.made o))

-- a resolved list is far below the count's bound
few_moves : (m : Map) → Accepted m → zone_count m ≤ 64 → (pl : Placing) (p : List ℕ) (ms : List Move) → length p ≤ 32256 → resolved_moves m pl p ≡ ok ms → length ms ≤ most_moves
unfolding step_most zones.most_moves
few_moves m g few pl p ms h e =
    let r = resolved_few m 128 (λ z. omega (arith, zone_size g z, g.small)) pl p ms e in
    omega (arith, r.1, r.2)

-- what is left of resolving gives a list only where the steps pass and the goals can be reached; the list is theirs
pub on_ok : (m : Map) (pl : Placing) (p : List ℕ) (n : ℕ) (o : Outcome Ran) (ms : List Move) → resolved_on m pl p n o ≡ ok ms
    → (ran : Ran) × (o ≡ ok ran) × (goals_from 0 m.zones ran.state (meaning.standing pl.goals) ≡ ok tt)
    × (ran.moves ++ endings_from m.zones ran.state (meaning.standing pl.goals) ≡ ms)
unfolding resolved_on
on_ok m pl p n o ms e =
    let a = bound _ _ _ e in
    let c = seq_ok _ _ _ a.2 in
    let x = seq_ok _ _ _ c.2 in
    (a.0, a.1, x.1, ok_injective x.2)

module _ (f : List ℕ) (zones k : ℕ) (kind first size listed zone place starts goals : List ℕ) (x : Cleared f zones k kind first size listed zone place starts goals)
    (n : ℕ) (s : meaning.State) (o₀ : List ℕ) (en : n ≡ wire.word_at f 0) (l : k ≤ length starts) (ess : s ≡ meaning.standing (take k starts)) where
  -- the payload
  abbrev p : List ℕ
  p = take x.len (payload f)

  -- the count is there
  pub cleared_two : 2 ≤ x.len
  cleared_two = ⊎_elim (λ (t : x.len < 2). absurd (never (sym (on_none x.on.map x.on.placing f x.len x.most t) ∙ x.resolved))) (λ (t : 2 ≤ x.len). t) (lt_or_ge x.len 2)

  -- what is left is the walk
  pub cleared_left : resolved_moves x.on.map x.on.placing p ≡ resolved_on x.on.map x.on.placing p n (steps_from x.on.map k p n 0 2 s)
  cleared_left = on_steps x.on.map x.on.placing f x.len x.most k n starts s cleared_two en l x.on.on_starts ess

  -- the starts are consistent
  pub cleared_consistent : Consistent x.on.map k s
  cleared_consistent = start_consistent x.on.map x.on.given.accepted x.on.placing x.on.placed k starts s l x.on.on_starts ess

  -- the steps pass
  unfoldable pub cleared_start : Started f n kind first size listed zone place s
  cleared_start =
      let y = on_ok x.on.map x.on.placing p n (steps_from x.on.map k p n 0 2 s) x.moves (sym cleared_left ∙ x.resolved) in
      record {
        map = x.on.map;
        n = x.n;
        k = k;
        rows = x.rows;
        given = x.on.given;
        consistent = cleared_consistent;
        len = x.len;
        most = x.most;
        two = cleared_two;
        ran = y.0;
        pass = y.1;
      }

  -- the list is not longer than the count goes
  few : (ms : List Move) → resolved_moves x.on.map x.on.placing p ≡ ok ms → length ms ≤ most_moves
  few ms y = few_moves x.on.map x.on.given.accepted x.on.given.tables.few x.on.placing p ms (omega (arith, held_length f x.len x.most, x.few)) y

  -- the moves of a walk that was given up come before the others of any list
  over_most : (rest : Outcome Ran) (moves ms : List Move) → resolved_on x.on.map x.on.placing p n (after moves rest) ≡ ok ms → length moves ≤ length ms
  unfolding after
  over_most rest moves ms e =
      let a = on_ok x.on.map x.on.placing p n _ ms e in
      let b = bound _ _ _ a.1 in
      let q = ok_injective b.2 in
      omega (
        arith,
        ap length a.3,
        length-append a.0.moves (endings_from x.on.map.zones a.0.state (meaning.standing x.on.placing.goals)),
        ap (λ (t : Ran). length t.moves) q,
        length-append moves b.0.moves,
      )

  -- a walk that was given up: any list is too long
  pub cleared_over : (r : TooManyMoves) (t : meaning.State) (o : List ℕ) → OverOf x.on.map k p n (fresh s o₀) (world t r.made o) → ResolvedOr x.on.map x.on.placing p o₀ o (Err r)
  cleared_over r t o d = record {
    either = record { over = d.over; most = long };
    long = ap (λ (y : World). length y.buffer) d.reached ∙ buffer_length (fresh s o₀) d.moves;
  }
    where
      long : (ms : List Move) → resolved_moves x.on.map x.on.placing p ≡ ok ms → r.made ≤ length ms
      long ms y =
          let h : length d.moves ≤ length ms = over_most d.rest d.moves ms (ap (resolved_on x.on.map x.on.placing p n) (sym d.all) ∙ sym cleared_left ∙ y) in
          let b : length ms ≤ most_moves = few ms y in
          omega (arith, ap (λ (y : World). y.count) d.reached, count_is (fresh s o₀) d.moves (omega arith), h)

  module _ (w : World) (next : ℕ) (d : WalkOf x.on.map k p n (fresh s o₀) w next) where
    -- the goals can be reached, and the list is that of the walk with the moves to them
    rest : (goals_from 0 x.on.map.zones w.state (meaning.standing x.on.placing.goals) ≡ ok tt)
        × (d.moves ++ endings_from x.on.map.zones w.state (meaning.standing x.on.placing.goals) ≡ x.moves)
    rest =
        let y = on_ok x.on.map x.on.placing p n _ x.moves (ap (resolved_on x.on.map x.on.placing p n) (sym d.answer) ∙ sym cleared_left ∙ x.resolved) in
        let e : y.0 ≡ record { state = w.state; moves = d.moves; next = next } = sym (ok_injective y.1) in
        (rw e at y.2, rw e at y.3)

    module _ (g : meaning.State) (eg : g ≡ meaning.standing x.on.placing.goals) where
      -- the goals can be reached
      pub cleared_goals : goals_from 0 x.on.map.zones w.state g ≡ ok tt
      cleared_goals = rw eg rest.0

      -- they are made
      pub cleared_end : (count : ℕ) (t : meaning.State) (o : List ℕ) → world t count o ≡ made_all w (endings_from x.on.map.zones w.state g)
          → ResolvedOr x.on.map x.on.placing p o₀ o (Ok count)
      cleared_end count t o y = record {
        either = record {
          moves = x.moves;
          answer = x.resolved;
          counted = ap (λ (u : World). u.count) onto ∙ count_is (fresh s o₀) x.moves (omega (arith, few x.moves x.resolved)) ∙ omega arith;
          buffer = ap (λ (u : World). u.buffer) onto ∙ buffer_is (fresh s o₀) x.moves (omega (arith, few x.moves x.resolved));
        };
        long = ap (λ (u : World). length u.buffer) onto ∙ buffer_length (fresh s o₀) x.moves;
      }
        where
          onto : world t count o ≡ made_all (fresh s o₀) x.moves
          onto =
              y ∙ ap (λ (u : World). made_all u (endings_from x.on.map.zones w.state g)) d.reached
              ∙ sym (made_append (fresh s o₀) d.moves (endings_from x.on.map.zones w.state g))
              ∙ ap (made_all (fresh s o₀)) (ap (λ (u : meaning.State). d.moves ++ endings_from x.on.map.zones w.state u) eg ∙ rest.1)
