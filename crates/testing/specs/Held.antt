-- The lists of all zones in one row of bytes: zone z's stands from first[z] on and has counts[z] robots.
use Rattle.std.specs.Prelude.{◌≡◌, ◌≢◌, ◌⊎◌, List, ◌++◌, ℕ, suc, ◌+◌, ◌-◌, ◌≤◌, ◌<◌, length, get_or, set, take, drop}
use Rattle.std.proofs.Common.{sym, ap, ◌∙◌, inl, inr, arith, length-set, length-drop}
use borrow.Rule.Slice.PartMut.{put_mid, same_len_mid}
use Rattle.std.proofs.Math.Decide.{ℕ_discrete, dec_le}
use lib.Seq.{length-take-le, get_or-take, get_or-drop, get_or-set_same, get_or-set_other, ext_get_or, take_all, drop_at}
use Rattle.std.proofs.lemmas.List.{take-append-le, length-take}
use Rattle.spec.specs.Layout.{Map, zone_of, zone_at}
use Rattle.spec.specs.State.{State, moved_all}
use Rattle.spec.specs.Outcome.{index_of}
use Rattle.spec.specs.Arrangement.{cell}
use Rattle.theory.specs.Zones.Crossing.{kept, Absent}
use Rattle.spec.specs.Terms.{zone_count, kind_of, size_of, vertex_at, place_of, arrangement_in}
use Rattle.theory.specs.Maps.Cells.{arrangement_length}
use Rattle.theory.specs.Maps.Consistent.{Consistent}
use Rattle.theory.specs.Plans.Taken.{Taken, moves_of}
use Rattle.theory.specs.Plans.Step.{Made, proper, absent}
use Rattle.theory.proofs.Plans.Step.{made}
use Rattle.orders.specs.Orders.{Holds, without, entered}
use Rattle.orders.specs.Leaving.{left}
use Rattle.orders.specs.Entering.{entered_holds}
use Rattle.walking.specs.Given.{Given}
use Rattle.rosters.specs.Lists.{append_left, append_right}

-- the list of zone z
abbrev pub list_in : List ℕ → List ℕ → List ℕ → ℕ → List ℕ
list_in first counts cells z = take (get_or counts z 0) (drop (get_or first z 0) cells)

-- every zone's list stands for its configuration in state s
pub record Held (m : Map) (first counts cells : List ℕ) (s : State) : Type 0 where
  pub stands : (z : ℕ) → z < zone_count m → Holds (kind_of m z) (list_in first counts cells z) (arrangement_in m s z)
  pub few : (z : ℕ) → z < zone_count m → get_or counts z 0 ≤ size_of m z

-- ---- one list changed

-- from element a on the list l is written, within n elements
pub record Changed (cells : List ℕ) (a n : ℕ) (l : List ℕ) (new : List ℕ) : Type 0 where
  pub long : length new ≡ length cells
  pub here : take (length l) (drop a new) ≡ l
  pub before : (k : ℕ) → k < a → get_or new k 0 ≡ get_or cells k 0
  pub after : (k : ℕ) → a + n ≤ k → get_or new k 0 ≡ get_or cells k 0

-- by c elements from there on
pub changed_mid : (cells : List ℕ) (a n c : ℕ) (l part : List ℕ) → a + c ≤ length cells → c ≤ n → length part ≡ c → take (length l) part ≡ l → Changed cells a n l (put_mid a c cells part)
changed_mid cells a n c l part h m e w =
    let q : length (take a cells) ≡ a = length-take-le a cells (omega arith) in
    let back : List ℕ = drop c (drop a cells) in
    record {
      long = same_len_mid a c cells part (e ∙ sym (length-take-le c (drop a cells) (omega (arith, length-drop a cells))));
      here = ap (take (length l)) (drop_at (take a cells) (part ++ back) a q) ∙ first w;
      before = λ k b. append_left (take a cells) (part ++ back) a k q b ∙ get_or-take a cells k 0 b;
      after = λ k b.
          let f : a + (c + (k - a - c)) ≡ k = omega arith in
          append_right (take a cells) (part ++ back) a k q (omega arith) ∙ append_right part back c (k - a) e (omega arith)
          ∙ get_or-drop c (drop a cells) (k - a - c) 0 ∙ get_or-drop a cells (c + (k - a - c)) 0 ∙ ap (λ (x : ℕ). get_or cells x 0) f;
    }
  where
    first : take (length l) part ≡ l → take (length l) (part ++ drop c (drop a cells)) ≡ l
    first w = take-append-le (length l) part (drop c (drop a cells)) (omega (arith, ap length (sym w), length-take (length l) part)) ∙ w

-- by a part that is the list l
pub changed_part : (cells : List ℕ) (a n c : ℕ) (l part : List ℕ) → a + c ≤ length cells → c ≤ n → length l ≡ c → part ≡ l → Changed cells a n l (put_mid a c cells part)
changed_part cells a n c l part h m e w = changed_mid cells a n c l part h m (ap length w ∙ e) (ap (take (length l)) w ∙ take_all (length l) l (omega arith))

-- elements that are all the same are the same part
same_part : (xs ys : List ℕ) (f c : ℕ) → length ys ≡ length xs → f + c ≤ length xs → ((k : ℕ) → f ≤ k → k < f + c → get_or ys k 0 ≡ get_or xs k 0) → take c (drop f ys) ≡ take c (drop f xs)
same_part xs ys f c e h s =
    let p : length (take c (drop f ys)) ≡ c = length-take-le c (drop f ys) (omega (arith, length-drop f ys)) in
    let q : length (take c (drop f xs)) ≡ c = length-take-le c (drop f xs) (omega (arith, length-drop f xs)) in
    ext_get_or 0 _ _ (p ∙ sym q) (λ k b. get_or-take c (drop f ys) k 0 (omega (arith, p)) ∙ get_or-drop f ys k 0 ∙ s (f + k) (omega arith) (omega (arith, p)) ∙ sym (get_or-take c (drop f xs) k 0 (omega (arith, p)) ∙ get_or-drop f xs k 0))

module _ (m : Map) (n k : ℕ) (kind first size listed zone place : List ℕ) (rows : List (List ℕ)) (d : Given m n k kind first size listed zone place rows) where
  -- a zone's size by the tables
  pub size_is : (z : ℕ) → z < zone_count m → size_of m z ≡ get_or size z 0
  size_is z h = ap length (d.tables.vertices z h) ∙ length-take-le (get_or size z 0) (drop (get_or first z 0) listed) (omega (arith, length-drop (get_or first z 0) listed, d.tables.fits z h))

  -- a vertex of a zone by the tables
  vertex_is : (z i : ℕ) → z < zone_count m → i < size_of m z → vertex_at m z i ≡ get_or listed (get_or first z 0 + i) 0
  vertex_is z i h l = ap (λ (x : List ℕ). get_or x i 0) (d.tables.vertices z h) ∙ get_or-take (get_or size z 0) (drop (get_or first z 0) listed) i 0 (omega (arith, size_is z h)) ∙ get_or-drop (get_or first z 0) listed i 0

  -- a vertex that is listed for two zones is in one zone
  one_zone : (y z i j : ℕ) → y < zone_count m → z < zone_count m → i < size_of m y → j < size_of m z → get_or first y 0 + i ≡ get_or first z 0 + j → y ≡ z
  one_zone y z i j hy hz li lj e =
      sym (d.accepted.inside y i hy li).1 ∙ ap (zone_of m) (vertex_is y i hy li ∙ ap (λ (x : ℕ). get_or listed x 0) e ∙ sym (vertex_is z j hz lj)) ∙ (d.accepted.inside z j hz lj).1

  -- two zones are listed apart
  pub apart : (y z : ℕ) → y < zone_count m → z < zone_count m → y ≢ z → 0 < size_of m y → 0 < size_of m z
      → (get_or first y 0 + size_of m y ≤ get_or first z 0) ⊎ (get_or first z 0 + size_of m z ≤ get_or first y 0)
  apart y z hy hz ne py pz = pick (dec_le (get_or first y 0 + size_of m y) (get_or first z 0)) (dec_le (get_or first z 0 + size_of m z) (get_or first y 0)) (dec_le (get_or first y 0) (get_or first z 0))
    where
      pick : Dec (get_or first y 0 + size_of m y ≤ get_or first z 0) → Dec (get_or first z 0 + size_of m z ≤ get_or first y 0) → Dec (get_or first y 0 ≤ get_or first z 0)
          → (get_or first y 0 + size_of m y ≤ get_or first z 0) ⊎ (get_or first z 0 + size_of m z ≤ get_or first y 0)
      pick (yes a) b c = inl a
      pick (no a) (yes b) c = inr b
      pick (no a) (no b) (yes c) = absurd (ne (one_zone y z (get_or first z 0 - get_or first y 0) 0 hy hz (omega arith) pz (omega arith)))
      pick (no a) (no b) (no c) = absurd (ne (one_zone y z 0 (get_or first y 0 - get_or first z 0) hy hz py (omega arith) (omega arith)))

  module _ (counts cells : List ℕ) (room : length cells ≡ length listed) (many : length counts ≡ 64) (few : (z : ℕ) → z < zone_count m → get_or counts z 0 ≤ size_of m z) where
    -- a zone's part stands in the row
    pub part_fits : (z : ℕ) → z < zone_count m → get_or first z 0 + size_of m z ≤ length cells
    part_fits z h = omega (arith, room, d.tables.fits z h, size_is z h)

    -- a list is as long as it is counted
    pub list_length : (z : ℕ) → z < zone_count m → length (list_in first counts cells z) ≡ get_or counts z 0
    list_length z h = length-take-le (get_or counts z 0) (drop (get_or first z 0) cells) (omega (arith, length-drop (get_or first z 0) cells, part_fits z h, few z h))

    module _ (z : ℕ) (h : z < zone_count m) (pos : 0 < size_of m z) (l new : List ℕ) (c : Changed cells (get_or first z 0) (size_of m z) l new) (short : length l ≤ size_of m z)
        (counts' : List ℕ) (e : counts' ≡ set counts z (length l)) where
      -- the count of the changed list
      count_here : get_or counts' z 0 ≡ length l
      count_here = ap (λ (x : List ℕ). get_or x z 0) e ∙ get_or-set_same counts z (length l) 0 (omega (arith, many, d.tables.few))

      -- the counts of the others
      count_away : (y : ℕ) → y ≢ z → get_or counts' y 0 ≡ get_or counts y 0
      count_away y ne = ap (λ (x : List ℕ). get_or x y 0) e ∙ get_or-set_other counts z y (length l) 0 ne

      -- the changed list
      pub list_here : list_in first counts' new z ≡ l
      list_here = ap (λ (x : ℕ). take x (drop (get_or first z 0) new)) count_here ∙ c.here

      -- the other lists
      pub list_away : (y : ℕ) → y < zone_count m → y ≢ z → list_in first counts' new y ≡ list_in first counts cells y
      list_away y hy ne = ap (λ (x : ℕ). take x (drop (get_or first y 0) new)) (count_away y ne) ∙ pick (ℕ_discrete (get_or counts y 0) 0)
        where
          pick : Dec (get_or counts y 0 ≡ 0) → take (get_or counts y 0) (drop (get_or first y 0) new) ≡ take (get_or counts y 0) (drop (get_or first y 0) cells)
          pick (yes q) = rw q
          pick (no q) = side (apart y z hy h ne (omega (arith, few y hy)) pos)
            where
              side : (get_or first y 0 + size_of m y ≤ get_or first z 0) ⊎ (get_or first z 0 + size_of m z ≤ get_or first y 0) → take (get_or counts y 0) (drop (get_or first y 0) new) ≡ take (get_or counts y 0) (drop (get_or first y 0) cells)
              side (inl w) = same_part cells new (get_or first y 0) (get_or counts y 0) c.long (omega (arith, part_fits y hy, few y hy)) (λ x a b. c.before x (omega (arith, few y hy)))
              side (inr w) = same_part cells new (get_or first y 0) (get_or counts y 0) c.long (omega (arith, part_fits y hy, few y hy)) (λ x a b. c.after x (omega arith))

      -- no list is too long
      pub still_few : (y : ℕ) → y < zone_count m → get_or counts' y 0 ≤ size_of m y
      still_few y hy = pick (ℕ_discrete y z)
        where
          pick : Dec (y ≡ z) → get_or counts' y 0 ≤ size_of m y
          pick (yes q) = rw q (omega (arith, count_here))
          pick (no q) = omega (arith, count_away y q, few y hy)

      -- as many counts
      pub still_many : length counts' ≡ 64
      still_many = ap length e ∙ length-set counts z (length l) ∙ many

  -- ---- a step

  module _ (s : State) (hc : Consistent m k s) (counts cells : List ℕ) (room : length cells ≡ length listed) (many : length counts ≡ 64) (held : Held m first counts cells s)
      (r u v behind : ℕ) (list : List ℕ) (t : Taken m k s r u v behind list) where
    -- the state after the step
    abbrev after : State
    after = moved_all s (moves_of m s r u v behind list)

    -- what its moves do
    done : Made m s r u v behind list after
    done = made m d.accepted k d.few s hc r u v behind list t

    -- the lists of the zone that is left and of the one that is entered
    abbrev left_list : List ℕ
    left_list = list_in first counts cells (zone_of m u)

    abbrev entered_list : List ℕ
    entered_list = list_in first counts cells (zone_of m v)

    -- the two zones
    zone_u : zone_of m u < zone_count m
    zone_u = (d.accepted.placed u t.from).zone

    zone_v : zone_of m v < zone_count m
    zone_v = (d.accepted.placed v t.to).zone

    -- the robot stands in the zone that it leaves
    pub stood : (i : ℕ) × (cell (arrangement_in m s (zone_of m u)) i ≡ suc r)
    stood = (kept done.out).robots.back (place_of m u) r done.there

    -- so in no other
    elsewhere : Absent (arrangement_in m s (zone_of m v)) r
    elsewhere = absent m d.accepted k s hc (zone_of m v) (zone_of m u) zone_v zone_u (λ e. t.apart (sym e)) stood.0 r stood.1

    -- the list of the zone that is left, after the step
    left_holds : Holds (kind_of m (zone_of m u)) (without (index_of r left_list) left_list) (arrangement_in m after (zone_of m u))
    left_holds = rw done.gone (left (kind_of m (zone_of m u)) left_list (arrangement_in m s (zone_of m u)) done.b r (place_of m u) (proper m d.accepted k d.few s hc (zone_of m u) zone_u)
        (held.stands (zone_of m u) zone_u) done.out done.there)

    -- the list of the zone that is entered, after the step
    come_holds : Holds (kind_of m (zone_of m v)) (entered (kind_of m (zone_of m v)) (size_of m (zone_of m v)) entered_list r (place_of m v) behind list) (arrangement_in m after (zone_of m v))
    come_holds =
        let e : length (arrangement_in m s (zone_of m v)) ≡ size_of m (zone_of m v) = arrangement_length s (zone_at m (zone_of m v)) in
        rw done.come (rw e at (entered_holds (kind_of m (zone_of m v)) entered_list (arrangement_in m s (zone_of m v)) done.c r (place_of m v) behind list
        (proper m d.accepted k d.few s hc (zone_of m v) zone_v) (held.stands (zone_of m v) zone_v) elsewhere (omega (arith, t.robot, d.few)) (rw e (d.accepted.placed v t.to).place) done.into done.free done.named done.filled))

    -- a list that stands for a zone is no longer than the zone
    holds_short : (z : ℕ) (l : List ℕ) (q : State) → Holds (kind_of m z) l (arrangement_in m q z) → length l ≤ size_of m z
    holds_short z l q h = omega (arith, h.fits, arrangement_length q (zone_at m z))

    -- the robot is taken out of one list and put into the other
    module _ (cells₁ counts₁ : List ℕ)
        (c₁ : Changed cells (get_or first (zone_of m u) 0) (size_of m (zone_of m u)) (without (index_of r left_list) left_list) cells₁)
        (e₁ : counts₁ ≡ set counts (zone_of m u) (length (without (index_of r left_list) left_list))) where
      -- after the first change
      pos_u : 0 < size_of m (zone_of m u)
      pos_u = omega (arith, (d.accepted.placed u t.from).place)

      pos_v : 0 < size_of m (zone_of m v)
      pos_v = omega (arith, (d.accepted.placed v t.to).place)

      short_u : length (without (index_of r left_list) left_list) ≤ size_of m (zone_of m u)
      short_u = holds_short (zone_of m u) (without (index_of r left_list) left_list) after left_holds

      few₁ : (y : ℕ) → y < zone_count m → get_or counts₁ y 0 ≤ size_of m y
      few₁ = still_few counts cells room many held.few (zone_of m u) zone_u pos_u (without (index_of r left_list) left_list) cells₁ c₁ short_u counts₁ e₁

      many₁ : length counts₁ ≡ 64
      many₁ = still_many counts cells room many held.few (zone_of m u) zone_u pos_u (without (index_of r left_list) left_list) cells₁ c₁ short_u counts₁ e₁

      room₁ : length cells₁ ≡ length listed
      room₁ = c₁.long ∙ room

      away₁ : (y : ℕ) → y < zone_count m → y ≢ zone_of m u → list_in first counts₁ cells₁ y ≡ list_in first counts cells y
      away₁ = list_away counts cells room many held.few (zone_of m u) zone_u pos_u (without (index_of r left_list) left_list) cells₁ c₁ short_u counts₁ e₁

      here₁ : list_in first counts₁ cells₁ (zone_of m u) ≡ without (index_of r left_list) left_list
      here₁ = list_here counts cells room many held.few (zone_of m u) zone_u pos_u (without (index_of r left_list) left_list) cells₁ c₁ short_u counts₁ e₁

      -- the entered zone's list is the same still
      pub still : list_in first counts₁ cells₁ (zone_of m v) ≡ entered_list
      still = away₁ (zone_of m v) zone_v (λ e. t.apart (sym e))

      module _ (cells₂ counts₂ : List ℕ)
          (c₂ : Changed cells₁ (get_or first (zone_of m v) 0) (size_of m (zone_of m v)) (entered (kind_of m (zone_of m v)) (size_of m (zone_of m v)) (list_in first counts₁ cells₁ (zone_of m v)) r (place_of m v) behind list) cells₂)
          (e₂ : counts₂ ≡ set counts₁ (zone_of m v) (length (entered (kind_of m (zone_of m v)) (size_of m (zone_of m v)) (list_in first counts₁ cells₁ (zone_of m v)) r (place_of m v) behind list))) where
        -- the new list
        abbrev new_list : List ℕ
        new_list = entered (kind_of m (zone_of m v)) (size_of m (zone_of m v)) (list_in first counts₁ cells₁ (zone_of m v)) r (place_of m v) behind list

        new_holds : Holds (kind_of m (zone_of m v)) new_list (arrangement_in m after (zone_of m v))
        new_holds = rw still come_holds

        short_v : length new_list ≤ size_of m (zone_of m v)
        short_v = holds_short (zone_of m v) new_list after new_holds

        -- every list stands for its zone after the step
        pub step_held : Held m first counts₂ cells₂ after
        step_held = record {
          stands = λ z h. pick z h (ℕ_discrete z (zone_of m v)) (ℕ_discrete z (zone_of m u));
          few = still_few counts₁ cells₁ room₁ many₁ few₁ (zone_of m v) zone_v pos_v new_list cells₂ c₂ short_v counts₂ e₂;
        }
          where
            here₂ : list_in first counts₂ cells₂ (zone_of m v) ≡ new_list
            here₂ = list_here counts₁ cells₁ room₁ many₁ few₁ (zone_of m v) zone_v pos_v new_list cells₂ c₂ short_v counts₂ e₂

            away₂ : (y : ℕ) → y < zone_count m → y ≢ zone_of m v → list_in first counts₂ cells₂ y ≡ list_in first counts₁ cells₁ y
            away₂ = list_away counts₁ cells₁ room₁ many₁ few₁ (zone_of m v) zone_v pos_v new_list cells₂ c₂ short_v counts₂ e₂

            pick : (z : ℕ) → z < zone_count m → Dec (z ≡ zone_of m v) → Dec (z ≡ zone_of m u) → Holds (kind_of m z) (list_in first counts₂ cells₂ z) (arrangement_in m after z)
            pick z h (yes q) b = rw q (rw here₂ new_holds)
            pick z h (no q) (yes b) = rw (away₂ z h q) (rw b (rw here₁ left_holds))
            pick z h (no q) (no b) = rw (away₂ z h q, away₁ z h b, done.away z h b q) (held.stands z h)

        -- as many counts, and as long a row
        pub step_many : length counts₂ ≡ 64
        step_many = still_many counts₁ cells₁ room₁ many₁ few₁ (zone_of m v) zone_v pos_v new_list cells₂ c₂ short_v counts₂ e₂

        pub step_room : length cells₂ ≡ length listed
        step_room = c₂.long ∙ room₁
