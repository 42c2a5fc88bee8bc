-- A step by the tables and by the bytes of the file: what its moves need.
use Rattle.std.specs.Prelude.{◌≡◌, refl, Bool, true, false, List, [], ◌∷◌, ℕ, ◌+◌, ◌*◌, ◌/◌, ◌<◌, ◌≤◌, length, get_or, take, drop, eqb}
use Rattle.std.proofs.Common.{sym, ap, ◌∙◌, arith, eqb→eq}
use Rattle.spec.specs.Outcome.{ok, ◌and◌}
use Rattle.spec.specs.Layout.{zone_of, zone_at}
use Rattle.spec.specs.Arrangement.{mv, last_free}
use Rattle.spec.specs.State.{State, arrangement_of, across, moved_all}
use Rattle.spec.specs.ZoneKind.{can_leave, can_enter}
use Rattle.spec.specs.Terms.{kind_of, place_of, arrangement_in}
use Rattle.theory.specs.Basics.Tests.{of_true, true_of, and_left, and_right}
use Rattle.theory.specs.Zones.Crossing.{Proper, extra_of}
use Rattle.theory.specs.Plans.Taken.{Taken, leaving}
use Rattle.theory.specs.Plans.Step.{proper}
use Rattle.wire.specs.Payload.{payload, FourAt, held_length}
use Rattle.wire.specs.declared.Four.{Four}
use Rattle.motion.specs.World.{World, made_all, state_is}
use Rattle.motion.specs.World as world
use Rattle.clique.specs.Entering.{Numbered, numbered_none, entered_numbered}
use Rattle.walking.specs.Kinds.{leave_moves, enter_moves, clique_can_enter_lem}
use Rattle.walking.specs.Tests.{tests_passed, step_tests, step_moves, Passes}
use Rattle.walking.specs.Given.{Started, Stepping, HasVertex, kind_at, vertices_at, has_vertex, kind_is, vertices_is, place_is}
use Rattle.walking.specs.Held.{byte_is, held_part, held_same, extra_most}
use Rattle.walking.specs.Walk.{entered_kept, step_made, Walking, walk_more, walk_passes}

-- the follow list is as long in the same zone
pub extra_same : (s : State) (kind k : ℕ) (vs us : List ℕ) → kind ≡ k → vs ≡ us → extra_of kind (arrangement_of s vs) ≡ extra_of k (arrangement_of s us)
extra_same s kind k vs us e d = rw (e, d)

-- an empty list names nobody
numbered_empty : (list : List ℕ) (j : ℕ) → length list ≡ 0 → Numbered list j
numbered_empty [] j h = numbered_none j
numbered_empty (x ∷ list) j h = absurd (omega arith)

-- a follow list that is met names robots
met_numbered : (kind : ℕ) (s : State) (vs : List ℕ) (r j behind : ℕ) (list : List ℕ) → can_enter kind (arrangement_of s vs) r j behind list ≡ true
    → length list ≡ extra_of kind (arrangement_of s vs) → Numbered list j
met_numbered kind s vs r j behind list c h = go (eqb kind 3 and last_free (arrangement_of s vs)) refl h
  where
    go : (b : Bool) → (eqb kind 3 and last_free (arrangement_of s vs)) ≡ b → length list ≡ elim b [ true ↦ length (arrangement_of s vs) | false ↦ 0 ] → Numbered list j
    go true e h =
        let t = of_true e in
        entered_numbered s vs r j behind list (clique_can_enter_lem kind (eqb→eq kind 3 (and_left _ _ t)) (arrangement_of s vs) r j behind list ∙ c) (true_of (and_right _ _ t))
    go false e h = numbered_empty list j h

module _ (f : List ℕ) (o e : ℕ) (kind first size listed zone place : List ℕ) (s : State) (st : Stepping f o e kind first size listed zone place s) where
  -- the follow list is in the file
  pub stepping_room : o + 4 + e ≤ length f / 512 * 504
  stepping_room = omega (arith, st.passes.long, held_length f st.len st.most, st.most)

  -- the step is in the payload
  within : o + 4 + e ≤ st.len
  within = omega (arith, st.passes.long, held_length f st.len st.most)

  module _ (t : Four) (x : FourAt f o t) where
    -- the robot, in the payload
    robot_is : t.first ≡ get_or (take st.len (payload f)) o 0
    robot_is = byte_is f st.len o t.first st.most (omega (arith, within)) x.first

    -- from
    from_is : t.second ≡ get_or (take st.len (payload f)) (o + 1) 0
    from_is = byte_is f st.len (o + 1) t.second st.most (omega (arith, within)) x.second

    -- to
    to_is : t.third ≡ get_or (take st.len (payload f)) (o + 2) 0
    to_is = byte_is f st.len (o + 2) t.third st.most (omega (arith, within)) x.third

    -- the robot behind it
    behind_is : t.fourth ≡ get_or (take st.len (payload f)) (o + 3) 0
    behind_is = byte_is f st.len (o + 3) t.fourth st.most (omega (arith, within)) x.fourth

    -- it passed, by the bytes that the code read
    taken : Taken st.map st.k s t.first t.second t.third t.fourth (take e (drop (o + 4) (take st.len (payload f))))
    taken = rw (robot_is, from_is, to_is, behind_is) st.passes.taken

    -- from is a vertex
    small_u : t.second < st.n
    small_u = omega (arith, taken.from, st.given.vertices)

    -- to is a vertex
    small_v : t.third < st.n
    small_v = omega (arith, taken.to, st.given.vertices)

    -- the kind of the zone that is left
    kind_u : kind_at kind zone t.second ≡ kind_of st.map (zone_of st.map t.second)
    kind_u = kind_is st.map st.n st.k kind first size listed zone place st.rows st.given t.second small_u

    -- its vertices
    vertices_u : vertices_at first size listed zone t.second ≡ (zone_at st.map (zone_of st.map t.second)).vertices
    vertices_u = vertices_is st.map st.n st.k kind first size listed zone place st.rows st.given t.second small_u

    -- the place of from
    place_u : get_or place t.second 0 ≡ place_of st.map t.second
    place_u = place_is st.map st.n st.k kind first size listed zone place st.rows st.given t.second small_u

    -- the kind of the zone that is entered
    kind_v : kind_at kind zone t.third ≡ kind_of st.map (zone_of st.map t.third)
    kind_v = kind_is st.map st.n st.k kind first size listed zone place st.rows st.given t.third small_v

    -- its vertices
    vertices_v : vertices_at first size listed zone t.third ≡ (zone_at st.map (zone_of st.map t.third)).vertices
    vertices_v = vertices_is st.map st.n st.k kind first size listed zone place st.rows st.given t.third small_v

    -- the place of to
    place_v : get_or place t.third 0 ≡ place_of st.map t.third
    place_v = place_is st.map st.n st.k kind first size listed zone place st.rows st.given t.third small_v

    -- from is in the tables
    pub stepping_from : HasVertex first size listed zone place t.second
    stepping_from = has_vertex st.map st.n st.k kind first size listed zone place st.rows st.given t.second small_u

    -- to as well
    pub stepping_to : HasVertex first size listed zone place t.third
    stepping_to = has_vertex st.map st.n st.k kind first size listed zone place st.rows st.given t.third small_v

    -- the robot can leave
    pub stepping_leaves : can_leave (kind_at kind zone t.second) (arrangement_of s (vertices_at first size listed zone t.second)) t.first (get_or place t.second 0) ≡ true
    stepping_leaves = rw (kind_u, vertices_u, place_u) (true_of taken.leaves)

    -- the zone that is left is in a proper arrangement
    pub stepping_proper : Proper (arrangement_of s (vertices_at first size listed zone t.second))
    stepping_proper = rw vertices_u (proper st.map st.given.accepted st.k st.given.few s st.consistent (zone_of st.map t.second) (st.given.accepted.placed t.second taken.from).zone)

    -- the length of the follow list
    extra : e ≡ extra_of (kind_of st.map (zone_of st.map t.third)) (arrangement_in st.map s (zone_of st.map t.third))
    extra = rw to_is st.passes.extra

    -- the follow list is no longer than a zone
    pub stepping_short : e ≤ 128
    stepping_short = omega (
      arith,
      extra,
      extra_most (kind_of st.map (zone_of st.map t.third)) s (zone_at st.map (zone_of st.map t.third)).vertices,
      ap length vertices_v,
      stepping_to.here.long,
    )

    -- and names robots
    pub stepping_named : Numbered (held_part f (o + 4 + e) (o + 4) e) (get_or place t.third 0)
    stepping_named =
        rw (held_same f st.len (o + 4) e st.most within, place_v)
        (met_numbered (kind_of st.map (zone_of st.map t.third)) s (zone_at st.map (zone_of st.map t.third)).vertices t.first (place_of st.map t.third) t.fourth _ (true_of taken.enters) taken.listed)

    -- leaving leads from one world to another
    module _ (w a : World) (es : w.state ≡ s)
        (ea : a ≡ made_all w (across (vertices_at first size listed zone t.second) (leave_moves (kind_at kind zone t.second) (arrangement_of s (vertices_at first size listed zone t.second)) t.first (get_or place t.second 0)))) where
      -- the same, by the map
      left_is : a ≡ made_all w (leaving st.map s t.first t.second)
      left_is = rw (kind_u, vertices_u, place_u) at ea

      -- the zone that is entered is still as it was
      still : arrangement_in st.map a.state (zone_of st.map t.third) ≡ arrangement_in st.map s (zone_of st.map t.third)
      still =
          ap (λ (y : World). arrangement_in st.map y.state (zone_of st.map t.third)) left_is
          ∙ ap (λ (y : State). arrangement_in st.map y (zone_of st.map t.third)) (state_is w (leaving st.map s t.first t.second) ∙ ap (λ (y : State). moved_all y (leaving st.map s t.first t.second)) es)
          ∙ entered_kept st.map st.given.accepted st.k st.given.few s st.consistent t.first t.second t.third t.fourth _ taken

      -- so it is in a proper arrangement
      pub stepping_room_proper : Proper (arrangement_of a.state (vertices_at first size listed zone t.third))
      stepping_room_proper = rw (vertices_v, still) (proper st.map st.given.accepted st.k st.given.few s st.consistent (zone_of st.map t.third) (st.given.accepted.placed t.third taken.to).zone)

      -- and the follow list is as long as it says
      pub stepping_extra : e ≡ extra_of (kind_at kind zone t.third) (arrangement_of a.state (vertices_at first size listed zone t.third))
      stepping_extra = rw (kind_v, vertices_v, still) extra

      -- leaving, entering and crossing are the step's moves
      pub stepping_made : (b c : World)
          → b ≡ made_all a (across (vertices_at first size listed zone t.third) (enter_moves (kind_at kind zone t.third) (arrangement_of a.state (vertices_at first size listed zone t.third)) (get_or place t.third 0) t.fourth (held_part f (o + 4 + e) (o + 4) e)))
          → c ≡ world.made b (mv t.first t.second t.third)
          → c ≡ made_all w (step_moves st.map (take st.len (payload f)) o e s)
      stepping_made b c eb ec =
          let hs = held_same f st.len (o + 4) e st.most within in
          rw (← robot_is, ← from_is, ← to_is, ← behind_is)
          (step_made st.map st.given.accepted st.k st.given.few s st.consistent t.first t.second t.third t.fourth _ taken w a b c es left_is (rw (kind_v, vertices_v, place_v, hs) at eb) ec)

-- ---- a walk's steps

module _ (f : List ℕ) (count : ℕ) (kind first size listed zone place : List ℕ) (w₀ : World) (x : Started f count kind first size listed zone place w₀.state) (i o : ℕ) (w : World)
    (g : Walking x.map x.k (take x.len (payload f)) count w₀ i o w) (h : i < count) where
  -- the next step passes, with a follow list of some length
  next_passes : (e : ℕ) × (step_tests x.map x.k (take x.len (payload f)) i o w.state ≡ ok e)
  next_passes = walk_passes x.map x.given.accepted x.k x.given.few (take x.len (payload f)) count w₀ i o w g h x.ran x.pass

  -- what that says
  next_passed : Passes x.map x.k (take x.len (payload f)) o w.state next_passes.0
  next_passed = tests_passed x.map x.k (take x.len (payload f)) i o w.state next_passes.0 next_passes.1

  -- its four bytes are in the payload
  four : o + 4 ≤ x.len
  four = omega (arith, next_passed.long, held_length f x.len x.most)

  -- and in the file
  pub next_room : o + 4 ≤ length f / 512 * 504
  next_room = omega (arith, four, x.most)

  module _ (b : Four) (r : FourAt f o b) where
    -- its target
    target : b.third ≡ get_or (take x.len (payload f)) (o + 2) 0
    target = byte_is f x.len (o + 2) b.third x.most (omega (arith, four)) r.third

    -- is one of the map's vertices
    target_small : b.third < x.n
    target_small = omega (arith, next_passed.taken.to, x.given.vertices, target)

    -- and in the tables
    pub next_to : HasVertex first size listed zone place b.third
    next_to = has_vertex x.map x.n x.k kind first size listed zone place x.rows x.given b.third target_small

    module _ (e : ℕ) (q : e ≡ extra_of (kind_at kind zone b.third) (arrangement_of w.state (vertices_at first size listed zone b.third))) where
      -- the length of its follow list is the one by the tables
      same : next_passes.0 ≡ e
      same =
          let k1 = kind_is x.map x.n x.k kind first size listed zone place x.rows x.given b.third target_small in
          let v1 = vertices_is x.map x.n x.k kind first size listed zone place x.rows x.given b.third target_small in
          next_passed.extra ∙ sym (rw (k1, v1, target) at q)

      -- so it passes with that
      tests : step_tests x.map x.k (take x.len (payload f)) i o w.state ≡ ok e
      tests = next_passes.1 ∙ ap (λ (t : ℕ). ok t) same

      -- with the facts that its moves need
      pub next_is : Passes x.map x.k (take x.len (payload f)) o w.state e
      next_is = tests_passed x.map x.k (take x.len (payload f)) i o w.state e tests

      -- which are those of the code that makes them
      pub next_step : Stepping f o e kind first size listed zone place w.state
      next_step = record {
        map = x.map;
        n = x.n;
        k = x.k;
        rows = x.rows;
        given = x.given;
        consistent = g.consistent;
        len = x.len;
        most = x.most;
        passes = next_is;
      }

      -- its bytes end in the file
      pub next_end : o + 4 + e ≤ length f / 512 * 504
      next_end = stepping_room f o e kind first size listed zone place w.state next_step

      -- its moves are made
      pub next_made : (u : World) → u ≡ made_all w (step_moves x.map (take x.len (payload f)) o e w.state) → Walking x.map x.k (take x.len (payload f)) count w₀ (i + 1) (o + 4 + e) u
      next_made u z = walk_more x.map x.given.accepted x.k x.given.few (take x.len (payload f)) count w₀ i o w g e u h tests z
