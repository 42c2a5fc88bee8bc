-- A plan that is read and judged, or resolved.
use Rattle.std.specs.Prelude.{◌≡◌, ℕ, ◌*◌, ◌/◌, ◌≤◌, ◌<◌, List, length, get_or, take, drop, ◌⊎◌, Result, Ok, Err, MatchResult, ⊤}
use Rattle.std.proofs.Math.Path.{sym, ap}
use Rattle.std.proofs.Common.{◌∙◌, arith, inr}
use Rattle.spec.specs.Outcome.{ok}
use Rattle.spec.specs.Wire.{payload_of}
use Rattle.spec.specs.Layout.{Zone, zone_at}
use Rattle.spec.specs.Arrangement.{Move}
use Rattle.spec.specs.State.{move_bytes}
use Rattle.spec.specs.Run.{resolved_moves}
use Rattle.spec.specs.Services as meaning
use Rattle.spec.specs.Terms.{Bytes, zone_count}
use Rattle.theory.specs.Basics.Outcomes.{bind}
use Rattle.theory.specs.Basics.Lists.{get_d_default}
use Rattle.theory.specs.Codec.Written.{written_bytes}
use Rattle.theory.specs.Services.Places.{small_payload, small_resolved}
use Rattle.layout.specs.declared.MapTables.{MapTables}
use Rattle.placing.specs.declared.PlacingTables.{PlacingTables}
use Rattle.wire.specs.Payload.{payload}
use Rattle.checking.specs.Checked.{Whole}
use Rattle.writer.specs.Laid.{laid_all}
use Rattle.walking.specs.OnMap.{GivenOn, PlacementOn, ClearedOn}
use Rattle.resolve.specs.Whole.{ResolvedTo, OverTo, ResolvedOr}
use Rattle.judge.specs.Judging.{JudgedTo}
use Rattle.testing.specs.declared.PlanFault.{PlanFault}
use Rattle.resolve.specs.declared.TooManyMoves.{TooManyMoves}
use Rattle.answers.specs.declared.Undelivered.TheVariants.{TooLong}
use Rattle.opening.specs.declared.Yard.{Yard}
use Rattle.refusals.specs.declared.Refusal.{Refusal}
use Rattle.refusals.specs.declared.Refusal.TheVariants as refusal
use Rattle.refusals.specs.Refusals.{refused}
use Rattle.opening.specs.Opened.{refused_bind, small_at, RefusedAs, YardRead}

-- what resolving the three files comes to: the list, counted and laid in the buffer
pub record Moves (a b c o₀ : List ℕ) (count : ℕ) (o : List ℕ) : Type 0 where
  pub moves : List Move
  pub resolved : meaning.plan_moves a b c ≡ ok moves
  pub counted : count ≡ length moves
  pub laid : o ≡ laid_all o₀ 2 (move_bytes moves)

-- a list of more moves than one holds
pub record Over (a b c : List ℕ) : Type 0 where
  pub moves : List Move
  pub resolved : meaning.plan_moves a b c ≡ ok moves
  pub over : 21503 < length moves

-- the list, or why there is none: one of the files is refused, or the list is too long
abbrev pub Resolved : (a b c o₀ : List ℕ) → Result ℕ Refusal → List ℕ → Type 0
Resolved a b c o₀ (Ok count) o = Moves a b c o₀ count o
Resolved a b c o₀ (Err e) o = RefusedAs (meaning.plan_moves a b c) e ⊎ ((e ≡ refusal.Answer TooLong) × Over a b c)

pub record PlannedIs (a b c o₀ : List ℕ) (r : Result ℕ Refusal) (o : List ℕ) : Type 0 where
  pub resolved : Resolved a b c o₀ r o
  pub long : length o ≡ length o₀

-- what judging the three files comes to: there is a list, or one of the files is refused
abbrev pub JudgedIs : (a b c : List ℕ) → Result ⊤ Refusal → Type 0
JudgedIs a b c (Ok u) = (ms : List Move) × (meaning.plan_moves a b c ≡ ok ms)
JudgedIs a b c (Err e) = RefusedAs (meaning.plan_moves a b c) e

-- a map and a placing on which the plan is cleared, as the code holds them
pub record YardCleared (a b c : List ℕ) (t : MapTables 128) (pl : PlacingTables) : Type 0 where
  pub rows : List (List ℕ)
  pub yard : YardRead a b t pl rows
  pub len : ℕ
  pub most : len ≤ length c / 512 * 504
  pub few : len ≤ 32256
  pub read : payload_of 30 3 64 c ≡ ok (take len (payload c))
  pub moves : List Move
  pub resolved : resolved_moves yard.it.graph yard.it.placing (take len (payload c)) ≡ ok moves

-- the plan is cleared, or one of the files is refused
abbrev pub ClearedIs : (a b c : List ℕ) → Result Yard Refusal → Type 0
ClearedIs a b c (Ok y) = YardCleared a b c y.map y.placing
ClearedIs a b c (Err e) = RefusedAs (meaning.plan_moves a b c) e

-- ---- the tables that the judge and the resolver are given

module _ (a b : List ℕ) (t : MapTables 128) (pl : PlacingTables) (rows : List (List ℕ)) (d : YardRead a b t pl rows) where
  zone_is : (z : ℕ) → z < zone_count d.it.graph → zone_at d.it.graph z ≡ record { kind = get_or t.kind z 0; vertices = take (get_or t.size z 0) (drop (get_or t.first z 0) t.listed) }
  zone_is z h = d.held.zone_at_lem z (omega (arith, d.held.count))

  pub yard_given : GivenOn d.it.graph pl.robots t rows
  yard_given = record {
    accepted = d.accepted;
    vertices = sym d.held.size;
    few = d.robots.few;
    tables = record {
      few = omega (arith, d.held.few, d.held.count);
      fits = λ z h. omega (arith, d.held.inside z (omega (arith, d.held.count)), d.held.long_listed);
      kinds = λ z h. ap (λ (y : Zone). y.kind) (zone_is z h);
      vertices = λ z h. ap (λ (y : Zone). y.vertices) (zone_is z h);
      zones = λ v h. get_d_default t.zone v 0 255 (omega (arith, d.held.long_zone, d.held.size, d.held.small)) ∙ d.held.zone_of_lem v;
      places = λ v h. d.held.place_of_lem v;
    };
    edges = d.shown;
  }

  unfoldable pub yard_placement : PlacementOn t pl.robots rows pl.starts pl.goals
  yard_placement = record {
    map = d.it.graph;
    placing = d.it.placing;
    given = yard_given;
    count = sym d.held.count;
    placed = d.placed;
    on_starts = sym d.robots.starts;
    on_goals_lem = sym d.robots.goals;
  }

-- ---- the stages

module _ (a b c : List ℕ) where
  -- map or placing is refused
  pub cleared_yard : (e : Refusal) → RefusedAs (meaning.instance_of a b) e → RefusedAs (meaning.plan_moves a b c) e
  unfolding meaning.plan_moves
  cleared_yard e w = record { answer = refused_bind _ _ _ _ w.answer; small = w.small }

  module _ (t : MapTables 128) (pl : PlacingTables) (rows : List (List ℕ)) (d : YardRead a b t pl rows) where
    -- the plan's file is refused
    pub cleared_file : (e : Refusal) → payload_of 30 3 64 c ≡ refused e → RefusedAs (meaning.plan_moves a b c) e
    unfolding meaning.plan_moves
    cleared_file e w = record {
      answer = bind _ _ _ d.instance ∙ refused_bind _ _ _ _ w;
      small = small_at 65536 _ _ (payload_of 30 3 64 c) (small_payload 65536 30 3 64 c (omega arith) (omega arith)) w;
    }

    module _ (len : ℕ) (read : payload_of 30 3 64 c ≡ ok (take len (payload c))) where
      -- what is left is to resolve the plan
      plan_on : meaning.plan_moves a b c ≡ resolved_moves d.it.graph d.it.placing (take len (payload c))
      unfolding meaning.plan_moves
      plan_on = bind _ _ _ d.instance ∙ bind _ _ _ read

      -- it is refused at a step, a surplus or the goals
      pub cleared_plan : Bytes c → (e : PlanFault) → JudgedTo d.it.graph d.it.placing (take len (payload c)) (Err e) → RefusedAs (meaning.plan_moves a b c) (refusal.Plan e)
      cleared_plan hc e j =
          let x : resolved_moves d.it.graph d.it.placing (take len (payload c)) ≡ refused (refusal.Plan e) = sym j.answer in
          record {
            answer = plan_on ∙ x;
            small = small_at 65536 _ _ (resolved_moves d.it.graph d.it.placing (take len (payload c)))
                (small_resolved d.it.graph d.it.placing (take len (payload c)) (written_bytes 30 3 64 c (take len (payload c)) hc read) (omega (arith, d.held.few, d.held.count))) x;
          }

      -- it is cleared
      pub cleared_all : Whole 64 c len → JudgedTo d.it.graph d.it.placing (take len (payload c)) (Ok tt) → YardCleared a b c t pl
      cleared_all w j = record {
        rows = rows;
        yard = d;
        len = len;
        most = w.most;
        few = omega (arith, w.most, w.limited);
        read = read;
        moves = j.moves;
        resolved = sym j.answer;
      }

  module _ (t : MapTables 128) (pl : PlacingTables) (y : YardCleared a b c t pl) where
    -- there is a list
    pub judged_moves : meaning.plan_moves a b c ≡ ok y.moves
    judged_moves = plan_on t pl y.rows y.yard y.len y.read ∙ y.resolved

    unfoldable pub yard_cleared : ClearedOn c t pl.robots pl.starts pl.goals
    unfolding yard_placement
    yard_cleared = record {
      n = t.vertices;
      rows = y.rows;
      on = yard_placement a b t pl y.rows y.yard;
      len = y.len;
      most = y.most;
      few = y.few;
      moves = y.moves;
      resolved = y.resolved;
    }

    -- it is resolved as far as a list goes
    pub planned : (o₀ o : List ℕ) (r : Result ℕ TooManyMoves) (s : Result ℕ Refusal) → ResolvedOr y.yard.it.graph y.yard.it.placing (take y.len (payload c)) o₀ o r
        → MatchResult r (λ n. s ≡ Ok n) (λ f. s ≡ Err (refusal.Answer TooLong)) → PlannedIs a b c o₀ s o
    planned o₀ o r s w h = record { resolved = go r s w.either h; long = w.long }
      where
        go : (r : Result ℕ TooManyMoves) (s : Result ℕ Refusal)
            → MatchResult r (ResolvedTo y.yard.it.graph y.yard.it.placing (take y.len (payload c)) o₀ o) (λ f. OverTo y.yard.it.graph y.yard.it.placing (take y.len (payload c)) f.made)
            → MatchResult r (λ n. s ≡ Ok n) (λ f. s ≡ Err (refusal.Answer TooLong)) → Resolved a b c o₀ s o
        go (Ok n) (Ok n') w h =
            let e : n' ≡ n = cc in
            record { moves = w.moves; resolved = plan_on t pl y.rows y.yard y.len y.read ∙ w.answer; counted = e ∙ w.counted; laid = w.buffer }
        go (Ok n) (Err e) w h = cc
        go (Err f) (Ok n) w h = cc
        go (Err f) (Err e) w h = let x : e ≡ refusal.Answer TooLong = cc in inr (x, record { moves = y.moves; resolved = judged_moves; over = omega (arith, w.over, w.most y.moves y.resolved) })
