-- A crossing from another state of the same tuple: its step passes there and leads to the same tuple. So every abstract plan can be walked.
-- What it rests on stands in specs/Plans/Crossing.antt.
use Rattle.std.specs.Prelude.{◌≡◌, ◌≢◌, List, [], ◌∷◌, ◌++◌, ℕ, suc, ◌≤◌, ◌<◌, length, set}
use Rattle.std.proofs.Math.Path.{refl, sym}
use Rattle.std.proofs.Common.{◌∙◌, arith}
use Rattle.std.proofs.Math.Decide.{ℕ_discrete}
use Rattle.spec.specs.Layout.{Map, zone_of, zone_at}
use Rattle.spec.specs.Arrangement.{Move, cell}
use Rattle.spec.specs.ZoneKind.{behind_of}
use Rattle.spec.specs.State.{State, moved, moved_all, Step, step_of}
use Rattle.spec.specs.Terms.{Reachable, SameTuple, Abstract, ends, makes, IsState, vertex_at, arrangement_in, zone_count, kind_of, place_of, Stands}
use Rattle.theory.specs.Maps.Layout.{Accepted}
use Rattle.theory.specs.Maps.Cells.{arrangement_length}
use Rattle.theory.specs.Maps.Moves.{Legal, is_legal, moved_append}
use Rattle.theory.specs.Maps.Consistent.{Consistent, consistent_all}
use Rattle.theory.specs.Maps.Inside.{arrangement_away, arrangement_leave, arrangement_enter}
use Rattle.theory.specs.Zones.Moves.{reach_trans, reach_sym}
use Rattle.theory.proofs.Zones.Kinds.{laws}
use Rattle.theory.specs.Zones.Crossing.{kept, reach_proper, Absent, reach_absent, not_full, extra_of, list_for, list_length, list_filled}
use Rattle.theory.proofs.Zones.Crossing.{can_enter_lem, entered_same}
use Rattle.theory.specs.Plans.Taken.{Taken, moves_of, step_with}
use Rattle.theory.specs.Plans.Step.{Made, proper, robot_at, absent, drawn_step}
use Rattle.theory.proofs.Plans.Step.{made}
use Rattle.theory.specs.Plans.Tuple.{tuple, tuple_at, tuple_trans}
use Rattle.theory.specs.Plans.Walk.{Walk, halt, walk}
use Rattle.theory.specs.Plans.Crossing.{on_cell, off_cell}

-- ---- a crossing from a state of the same tuple

module _ (m : Map) (g : Accepted m) (k : ℕ) (few : k ≤ 64) (q : State) (hq : Consistent m k q) (t : State) (qt : SameTuple m q t) (x : Move) (l : Legal m t x)
    (i : IsState t) (n : zone_of m x.from ≢ zone_of m x.to) where
  -- the two ends of the move are vertices of the map
  crossed : (x.from < m.size) × (x.to < m.size) × (x.from ≢ x.to)
  crossed = g.ends x.from x.to l.near

  -- where its start stands
  pu : Stands m x.from (zone_of m x.from) (place_of m x.from)
  pu = g.placed x.from crossed.0

  -- where its end stands
  pv : Stands m x.to (zone_of m x.to) (place_of m x.to)
  pv = g.placed x.to crossed.1

  -- in t its robot is at from
  cell_u : cell (arrangement_in m t (zone_of m x.from)) (place_of m x.from) ≡ suc x.robot
  cell_u = on_cell m g t x.from x.robot crossed.0 l.robot l.there

  -- and to is empty
  cell_v : cell (arrangement_in m t (zone_of m x.to)) (place_of m x.to) ≡ 0
  cell_v = off_cell m g t x.to crossed.1 l.free

  -- the left zone is in the same configuration in q and in t
  reach_u : Reachable (kind_of m (zone_of m x.from)) (arrangement_in m q (zone_of m x.from)) (arrangement_in m t (zone_of m x.from))
  reach_u = tuple_at m q t qt (zone_of m x.from) pu.zone

  -- so is the entered one
  reach_v : Reachable (kind_of m (zone_of m x.to)) (arrangement_in m q (zone_of m x.to)) (arrangement_in m t (zone_of m x.to))
  reach_v = tuple_at m q t qt (zone_of m x.to) pv.zone

  -- so the robot is in the left zone in q
  stood : (j : ℕ) × (cell (arrangement_in m q (zone_of m x.from)) j ≡ suc x.robot)
  stood = (kept reach_u).robots.back (place_of m x.from) x.robot cell_u

  -- and is numbered below k
  robot_known : x.robot < k
  robot_known =
      let a = robot_at m q (zone_of m x.from) stood.0 x.robot stood.1 in
      rw a.1 at (hq.known (vertex_at m (zone_of m x.from) stood.0) (g.inside (zone_of m x.from) stood.0 pu.zone a.0).0 (λ e. a.2 (sym a.1 ∙ e)))

  -- and is not in the entered zone
  absent_v : Absent (arrangement_in m q (zone_of m x.to)) x.robot
  absent_v = absent m g k q hq (zone_of m x.to) (zone_of m x.from) pv.zone pu.zone (λ e. n (sym e)) stood.0 x.robot stood.1

  -- the neighbour that the step names
  behind : ℕ
  behind = behind_of (kind_of m (zone_of m x.to)) (arrangement_in m t (zone_of m x.to)) (place_of m x.to)

  -- and its follow list
  list : List ℕ
  list = list_for (kind_of m (zone_of m x.to)) (arrangement_in m t (zone_of m x.to)) (place_of m x.to) x.robot

  -- the list is as long as the step asks
  listed : length list ≡ extra_of (kind_of m (zone_of m x.to)) (arrangement_in m q (zone_of m x.to))
  unfolding list
  listed = list_length (kind_of m (zone_of m x.to)) (arrangement_in m q (zone_of m x.to)) (arrangement_in m t (zone_of m x.to)) (place_of m x.to) x.robot
      (kept reach_v).long (kept reach_v).as_last

  -- in q every check of the step passes
  crossing_taken : Taken m k q x.robot x.from x.to behind list
  crossing_taken = record {
    robot = robot_known;
    from = crossed.0;
    to = crossed.1;
    near = l.near;
    apart = n;
    leaves = (laws (kind_of m (zone_of m x.from))).can_leave_lem (arrangement_in m q (zone_of m x.from)) (arrangement_in m t (zone_of m x.from)) x.robot (place_of m x.from)
        (proper m g k few q hq (zone_of m x.from) pu.zone).once reach_u cell_u;
    room = rw (kept reach_v).as_full
        (not_full (arrangement_in m t (zone_of m x.to)) (place_of m x.to) (rw (arrangement_length t (zone_at m (zone_of m x.to))) pv.place) cell_v);
    listed = listed;
    enters = unfold behind list in can_enter_lem (kind_of m (zone_of m x.to)) (arrangement_in m q (zone_of m x.to)) (proper m g k few q hq (zone_of m x.to) pv.zone) x.robot (place_of m x.to)
        (rw (arrangement_length q (zone_at m (zone_of m x.to))) pv.place) (arrangement_in m t (zone_of m x.to)) list reach_v cell_v
        (list_filled (kind_of m (zone_of m x.to)) (arrangement_in m t (zone_of m x.to)) (place_of m x.to) x.robot);
  }

  -- the step drawn in t has these parts
  step_is : step_of m t x ≡ step_with x.robot x.from x.to behind list
  unfolding behind list
  step_is = drawn_step m t x.robot x.from x.to behind list refl refl

  -- what its moves do in q
  step_made : Made m q x.robot x.from x.to behind list (moved_all q (moves_of m q x.robot x.from x.to behind list))
  step_made = made m g k few q hq x.robot x.from x.to behind list crossing_taken

  -- after it the left zone is in the same configuration from q and from t
  same_u : Reachable (kind_of m (zone_of m x.from)) (set step_made.b (place_of m x.from) 0) (set (arrangement_in m t (zone_of m x.from)) (place_of m x.from) 0)
  same_u =
      (laws (kind_of m (zone_of m x.from))).left_same step_made.b (arrangement_in m t (zone_of m x.from)) (place_of m x.from) x.robot
      ((kept step_made.out).distinct (proper m g k few q hq (zone_of m x.from) pu.zone).once) (reach_trans (reach_sym step_made.out) reach_u) step_made.there cell_u

  -- so is the entered zone
  same_v : Reachable (kind_of m (zone_of m x.to)) (set step_made.c (place_of m x.to) (suc x.robot)) (set (arrangement_in m t (zone_of m x.to)) (place_of m x.to) (suc x.robot))
  unfolding behind list
  same_v =
      let kd = kind_of m (zone_of m x.to) in
      let ct = reach_trans (reach_sym step_made.into) reach_v in
      entered_same kd step_made.c (reach_proper step_made.into (proper m g k few q hq (zone_of m x.to) pv.zone)) x.robot (place_of m x.to)
      (rw (← (kept step_made.into).long) (rw (arrangement_length q (zone_at m (zone_of m x.to))) pv.place)) (arrangement_in m t (zone_of m x.to))
      (reach_absent step_made.into absent_v) ct step_made.free cell_v step_made.named
      (λ f. sym (step_made.filled f) ∙ list_filled kd (arrangement_in m t (zone_of m x.to)) (place_of m x.to) x.robot (rw (kept ct).as_last at f))

  -- and so is every zone
  step_tuple : SameTuple m (moved_all q (moves_of m q x.robot x.from x.to behind list)) (moved t x)
  step_tuple = tuple m _ (moved t x) (λ y hy. case y hy (ℕ_discrete y (zone_of m x.from)) (ℕ_discrete y (zone_of m x.to)))
    where
      q' : State
      q' = moved_all q (moves_of m q x.robot x.from x.to behind list)

      case : (y : ℕ) → y < zone_count m → Dec (y ≡ zone_of m x.from) → Dec (y ≡ zone_of m x.to) → Reachable (kind_of m y) (arrangement_in m q' y) (arrangement_in m (moved t x) y)
      case y hy (yes e) w = rw (e, step_made.gone, arrangement_leave m g t x (zone_of m x.from) (place_of m x.from) (omega (arith, i.robots, g.small, crossed.0)) pu.zone pu.place (sym pu.vertex) (λ e. n (sym e))) same_u
      case y hy (no d) (yes e) = rw (e, step_made.come, arrangement_enter m g t x (zone_of m x.to) (place_of m x.to) (omega (arith, i.robots, g.small, crossed.1)) pv.zone pv.place (sym pv.vertex) n l.robot) same_v
      case y hy (no d) (no e) = rw (step_made.away y hy d e, arrangement_away m g t x y hy (λ p. d (sym p)) (λ p. e (sym p))) (tuple_at m q t qt y hy)

-- ---- every abstract plan can be walked

module _ (m : Map) (g : Accepted m) (k : ℕ) (few : k ≤ 64) where
  -- from any consistent state of the first tuple the steps of an abstract plan pass one after the other, and end in the goal's tuple
  pub abstract_walk : {s goal : State} {ss : List Step} → Abstract m s ss goal → (q : State) → Consistent m k q → SameTuple m q s
      → (xs : List Move) × Walk m k q ss xs × SameTuple m (moved_all q xs) goal
  abstract_walk (ends {s} {g = goal} p) q hq qs = ([], halt, unfold moved_all in tuple_trans m q s goal qs p)
  abstract_walk (makes {s} {g = goal} {ss} t x is p l n a) q hq qs = onward (abstract_walk a (moved_all q ms) (consistent_all m g k hq (step_made m g k few q hq t qt x lg is n).legals) (step_tuple m g k few q hq t qt x lg is n))
    where
      lg : Legal m t x
      lg = is_legal m t x l

      qt : SameTuple m q t
      qt = tuple_trans m q s t qs p

      b : ℕ
      b = behind m g k few q hq t qt x lg is n

      f : List ℕ
      f = list m g k few q hq t qt x lg is n

      ms : List Move
      ms = moves_of m q x.robot x.from x.to b f

      onward : (xs : List Move) × Walk m k (moved_all q ms) ss xs × SameTuple m (moved_all (moved_all q ms) xs) goal → (xs : List Move) × Walk m k q (step_of m t x ∷ ss) xs × SameTuple m (moved_all q xs) goal
      onward (xs, w, r) = (ms ++ xs, rw (step_is m g k few q hq t qt x lg is n) (walk (crossing_taken m g k few q hq t qt x lg is n) w), rw (moved_append q ms xs) r)
