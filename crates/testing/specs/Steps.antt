-- A step on the lists: its tests are those on the state, and the lists after it stand for the state after it.
use Rattle.std.specs.Prelude.{◌≡◌, refl, Bool, List, ℕ, suc, ◌+◌, ◌≤◌, ◌<◌, ◌*◌, ◌/◌, length, get_or, take, drop, Result, MatchResult}
use Rattle.std.proofs.Common.{sym, ap, ◌∙◌, arith, eq-eqb, ne_eqb, length-take-le, length-drop}
use Rattle.std.proofs.Math.Path.{ap₂}
use Rattle.std.proofs.Math.Bool.{true, false}
use Rattle.std.proofs.Math.Dec.{eqb}
use Rattle.std.proofs.Math.Decide.{ℕ_discrete}
use Rattle.spec.specs.Outcome.{Outcome, ok, refuse, index_of, ◌and◌}
use Rattle.spec.specs.Layout.{Map, zone_of, zone_at}
use Rattle.spec.specs.Arrangement.{Arrangement, full}
use Rattle.spec.specs.ZoneKind.{can_leave, can_enter}
use Rattle.spec.specs.State.{State, arrangement_of}
use Rattle.spec.specs.Terms.{zone_count}
use Rattle.theory.specs.Maps.Cells.{arrangement_length}
use Rattle.theory.specs.Maps.Consistent.{Consistent}
use Rattle.theory.specs.Zones.Crossing.{Proper, extra_of}
use Rattle.theory.specs.Plans.Step.{proper}
use Rattle.orders.specs.Orders.{Holds, leave_test, enter_test, clique_enters}
use Rattle.orders.specs.Tests.{full_is, last_is, leave_is, enter_is}
use Rattle.walking.specs.Tables as zones
use Rattle.walking.specs.Given.{Given, kind_at, vertices_at, zone_is, kind_is, vertices_is, place_is}
use Rattle.wire.specs.Payload.{payload, held_length, FourAt}
use Rattle.wire.specs.declared.Four.{Four}
use Rattle.walking.specs.Tests.{numbered, crosses, entry_tests, step_tests}
use Rattle.testing.specs.declared.StepFault.{StepFault}
use Rattle.testing.specs.declared.Step.{Step}
use Rattle.testing.specs.declared.steps.Entry.{Entry}
use Rattle.testing.specs.Fault.{refusal_of, refused}
use Rattle.configurations.specs.Entering.{entry_on, clique_enters_lem}
use Rattle.testing.specs.Held.{list_in, Held, size_is, part_fits, list_length}
use Rattle.testing.specs.Testing.{entry_full, entry_short, entry_unmet, entry_met, tests_short, step_number, step_edge, step_leave, step_enter, numbers_below}
use Rattle.walking.specs.Held.{held_part}

-- the lists of an accepted map's zones in a state of its robots
pub record Ready (n k : ℕ) (kind first size listed zone place : List ℕ) (rows : List (List ℕ)) (counts cells : List ℕ) : Type 0 where
  pub map : Map
  pub given : Given map n k kind first size listed zone place rows
  pub state : State
  pub consistent : Consistent map k state
  pub held : Held map first counts cells state
  pub room : length cells ≡ length listed
  pub many : length counts ≡ 64

-- zone z has its list in the row of cells
pub record HasList (first size counts cells : List ℕ) (z : ℕ) : Type 0 where
  pub below : z < 64
  pub room : get_or first z 0 + get_or size z 0 ≤ length cells
  pub small : get_or size z 0 ≤ 128
  pub few : get_or counts z 0 ≤ get_or size z 0

-- vertex u is in such a zone
pub record Fits (first size zone place counts cells : List ℕ) (u : ℕ) : Type 0 where
  pub below : u < 128
  pub inside : get_or place u 0 < get_or size (get_or zone u 0) 0
  pub here : HasList first size counts cells (get_or zone u 0)

module _ (m : Map) (n k : ℕ) (kind first size listed zone place : List ℕ) (rows : List (List ℕ)) (d : Given m n k kind first size listed zone place rows)
    (s : State) (hc : Consistent m k s) (counts cells : List ℕ) (held : Held m first counts cells s) (room : length cells ≡ length listed) (many : length counts ≡ 64) where
  -- every zone has its list
  pub has_list : (z : ℕ) → z < zone_count m → HasList first size counts cells z
  has_list z h =
      let e = size_is m n k kind first size listed zone place rows d z h in
      record {
        below = omega (arith, d.tables.few);
        room = omega (arith, e, part_fits m n k kind first size listed zone place rows d counts cells room many held.few z h);
        small = omega (arith, e, zones.zone_small m d.accepted z);
        few = omega (arith, e, held.few z h);
      }

  -- a list is as long as it is counted
  pub counted : (z : ℕ) → z < zone_count m → length (list_in first counts cells z) ≡ get_or counts z 0
  counted = list_length m n k kind first size listed zone place rows d counts cells room many held.few

  module _ (u : ℕ) (h : u < n) where
    -- it is one of the map's
    small : u < m.size
    small = rw d.vertices h

    -- its zone is one of the map's
    pub in_range : zone_of m u < zone_count m
    in_range = (d.accepted.placed u small).zone

    -- where it stands, by the tables
    pub fits : Fits first size zone place counts cells u
    fits =
        let z = zone_is m n k kind first size listed zone place rows d u h in
        record {
          below = omega (arith, d.accepted.small, small);
          inside = rw (z, place_is m n k kind first size listed zone place rows d u h) (rw (size_is m n k kind first size listed zone place rows d (zone_of m u) in_range) at (d.accepted.placed u small).place);
          here = rw z (has_list (zone_of m u) in_range);
        }

    -- the size of its zone
    pub zone_long : length (arrangement_of s (vertices_at first size listed zone u)) ≡ get_or size (get_or zone u 0) 0
    zone_long =
        let z = zone_is m n k kind first size listed zone place rows d u h in
        rw (vertices_is m n k kind first size listed zone place rows d u h, z) (arrangement_length s (zone_at m (zone_of m u)) ∙ size_is m n k kind first size listed zone place rows d (zone_of m u) in_range)

    -- its arrangement is proper
    pub zone_proper : Proper (arrangement_of s (vertices_at first size listed zone u))
    zone_proper = rw (vertices_is m n k kind first size listed zone place rows d u h) (proper m d.accepted k d.few s hc (zone_of m u) in_range)

    -- and the list stands for it
    pub zone_holds : Holds (kind_at kind zone u) (list_in first counts cells (get_or zone u 0)) (arrangement_of s (vertices_at first size listed zone u))
    zone_holds = rw (kind_is m n k kind first size listed zone place rows d u h, vertices_is m n k kind first size listed zone place rows d u h, zone_is m n k kind first size listed zone place rows d u h) (held.stands (zone_of m u) in_range)

    -- whether a robot can leave there, by the list
    pub leaves_by : (r : ℕ) → leave_test (kind_at kind zone u) (get_or size (get_or zone u 0) 0) (list_in first counts cells (get_or zone u 0)) r (get_or place u 0)
        ≡ can_leave (kind_at kind zone u) (arrangement_of s (vertices_at first size listed zone u)) r (get_or place u 0)
    leaves_by r = sym (leave_is (kind_at kind zone u) (list_in first counts cells (get_or zone u 0)) (arrangement_of s (vertices_at first size listed zone u)) zone_proper zone_holds r (get_or place u 0) (rw zone_long fits.inside)
        ∙ ap (λ (x : ℕ). leave_test (kind_at kind zone u) x (list_in first counts cells (get_or zone u 0)) r (get_or place u 0)) zone_long)

-- ---- the entry

-- how many bytes the follow list has of a step into a zone of `size` places with n robots
unfoldable pub extra_on : ℕ → ℕ → ℕ → ℕ
extra_on kind size n = elim (eqb kind 3 and eqb (suc n) size) [ true ↦ size | false ↦ 0 ]

-- none but in a clique
pub extra_other : (kind size n : ℕ) → (kind ≡ 3 → ⊥) → 0 ≡ extra_on kind size n
unfolding extra_on ◌and◌
extra_other kind size n h = rw (ne_eqb kind 3 h, extra_on)

-- one for each place where the robot fills it
pub extra_filled : (kind size n : ℕ) → kind ≡ 3 → suc n ≡ size → size ≡ extra_on kind size n
unfolding extra_on ◌and◌
extra_filled kind size n h e = rw (eq-eqb kind 3 h, eq-eqb (suc n) size e, extra_on)

-- none where it does not
pub extra_free : (kind size n : ℕ) → (suc n ≡ size → ⊥) → 0 ≡ extra_on kind size n
unfolding extra_on ◌and◌
extra_free kind size n h = go (eqb kind 3)
  where
    go : (b : Bool) → ◌≡◌ {A = ℕ} 0 (elim (b and eqb (suc n) size) [ true ↦ size | false ↦ 0 ])
    go true = rw (ne_eqb (suc n) size h)
    go false = refl

-- where the clique is filled the list has a byte for each place
pub extra_all : (kind size n e : ℕ) → e ≡ extra_on kind size n → kind ≡ 3 → suc n ≡ size → e ≡ size
extra_all kind size n e q h l = q ∙ sym (extra_filled kind size n h l)

-- it is no longer than the zone
pub extra_most : (kind size n : ℕ) → extra_on kind size n ≤ size
unfolding extra_on
extra_most kind size n = go (eqb kind 3 and eqb (suc n) size)
  where
    go : (b : Bool) → elim b [ true ↦ size | false ↦ 0 ] ≤ size
    go true = omega arith
    go false = omega arith

module _ (kind : ℕ) (l : List ℕ) (b : Arrangement) (p : Proper b) (h : Holds kind l b) (size n : ℕ) (e : length b ≡ size) (c : length l ≡ n) where
  -- the zone is full
  pub is_full : n ≡ size → full b ≡ true
  is_full q = full_is kind l b p h ∙ eq-eqb (length l) (length b) (c ∙ q ∙ sym e)

  -- it is not
  pub not_full : (n ≡ size → ⊥) → full b ≡ false
  not_full q = full_is kind l b p h ∙ ne_eqb (length l) (length b) (λ x. q (sym c ∙ x ∙ e))

  -- the length of the follow list
  pub extra_is : extra_on kind size n ≡ extra_of kind b
  unfolding extra_on
  extra_is = ap₂ {C = ℕ} (λ (q : Bool) (x : ℕ). elim (eqb kind 3 and q) [ true ↦ x | false ↦ 0 ]) (sym (last_is kind l b p h ∙ ap₂ {C = Bool} (λ (x y : ℕ). eqb (suc x) y) c e)) (sym e)

  -- behind and follow list, by the list
  pub enters_by : (r j behind : ℕ) (list : List ℕ) → j < size → (n ≡ size → ⊥) → length list ≡ extra_on kind size n
      → enter_test kind size l r j behind list ≡ can_enter kind b r j behind list
  enters_by r j behind list x q y =
      sym (enter_is kind l b p h r j behind list (rw e x) (rw (not_full q) tt) (y ∙ extra_is) ∙ ap (λ (z : ℕ). enter_test kind z l r j behind list) e)

-- no bytes: no clique is filled
pub extra_zero : (kind size n e : ℕ) → e ≡ extra_on kind size n → e ≡ 0 → kind ≡ 3 → suc n ≡ size → ⊥
extra_zero kind size n e q z k l = omega (arith, extra_filled kind size n k l)

-- some: one is, with a byte for each place
pub extra_some : (kind size n e : ℕ) → e ≡ extra_on kind size n → (e ≡ 0 → ⊥) → (kind ≡ 3) × (suc n ≡ size) × (e ≡ size)
extra_some kind size n e q z = go (ℕ_discrete kind 3) (ℕ_discrete (suc n) size)
  where
    go : Dec (kind ≡ 3) → Dec (suc n ≡ size) → (kind ≡ 3) × (suc n ≡ size) × (e ≡ size)
    go (yes k) (yes l) = (k, l, q ∙ sym (extra_filled kind size n k l))
    go (yes k) (no l) = absurd (z (q ∙ sym (extra_free kind size n l)))
    go (no k) l = absurd (z (q ∙ sym (extra_other kind size n k)))

-- ---- what the code finds

-- what is said of the entry of robot r at place j of a zone with the n robots l comes to its tests
abbrev pub EntryIs : List ℕ → ℕ → ℕ → ℕ → List ℕ → ℕ → ℕ → ℕ → ℕ → (ℕ → Outcome ℕ) → Type 0
EntryIs f len o kind l size r j behind y = (b : Arrangement) → Proper b → Holds kind l b → length b ≡ size → (i : ℕ) → y i ≡ entry_tests kind b (take len (payload f)) i o r j behind

-- it passed
pub record EntryPassed (f : List ℕ) (len o kind n : ℕ) (l : List ℕ) (size r j behind : ℕ) (x : Entry) : Type 0 where
  pub tests : EntryIs f len o kind l size r j behind (λ i. ok x.list)
  pub index : x.list ≡ 0 → (x.into ≤ n) × (x.into ≡ entry_on kind behind l)

-- its tests
abbrev pub EntryTested : List ℕ → ℕ → ℕ → ℕ → ℕ → List ℕ → ℕ → ℕ → ℕ → ℕ → Result Entry StepFault → Type 0
EntryTested f len o kind n l size r j behind q = MatchResult q (EntryPassed f len o kind n l size r j behind) (λ t. EntryIs f len o kind l size r j behind (λ i. refused (refusal_of i t)))

-- the step x at offset o: its robot stands at index x.out of the list that it leaves, and comes in at index x.into of the other
pub record Chosen (f : List ℕ) (o : ℕ) (kind first zone counts cells : List ℕ) (x : Step) : Type 0 where
  pub read : FourAt f o x.bytes
  pub stood : x.out ≡ index_of x.bytes.first (list_in first counts cells (get_or zone x.bytes.second 0))
  pub comes : x.list ≡ 0 → (x.into ≤ get_or counts (get_or zone x.bytes.third 0) 0) × (x.into ≡ entry_on (kind_at kind zone x.bytes.third) x.bytes.fourth (list_in first counts cells (get_or zone x.bytes.third 0)))

-- what is said of the step at offset o comes to its tests
abbrev pub StepIs : List ℕ → ℕ → ℕ → ℕ → ℕ → List ℕ → List ℕ → List ℕ → List ℕ → List ℕ → List ℕ → List (List ℕ) → List ℕ → List ℕ → (ℕ → Outcome ℕ) → Type 0
StepIs f len o n k kind first size listed zone place rows counts cells y = (m : Map) → Given m n k kind first size listed zone place rows → (s : State) → Consistent m k s → Held m first counts cells s
    → (i : ℕ) → y i ≡ step_tests m k (take len (payload f)) i o s

-- it passed
pub record StepPassed (f : List ℕ) (len o n k : ℕ) (kind first size listed zone place : List ℕ) (rows : List (List ℕ)) (counts cells : List ℕ) (x : Step) : Type 0 where
  pub tests : StepIs f len o n k kind first size listed zone place rows counts cells (λ i. ok x.list)
  pub chosen : Chosen f o kind first zone counts cells x

-- its tests
abbrev pub StepTested : List ℕ → ℕ → ℕ → ℕ → ℕ → List ℕ → List ℕ → List ℕ → List ℕ → List ℕ → List ℕ → List (List ℕ) → List ℕ → List ℕ → Result Step StepFault → Type 0
StepTested f len o n k kind first size listed zone place rows counts cells q = MatchResult q (StepPassed f len o n k kind first size listed zone place rows counts cells)
    (λ t. StepIs f len o n k kind first size listed zone place rows counts cells (λ i. refused (refusal_of i t)))

-- ---- the entry, by what the code finds

module _ (f : List ℕ) (len o kind n : ℕ) (robots : List ℕ) (size r j behind : ℕ) (most : len ≤ length f / 512 * 504) (within : o + 4 ≤ len) (counts : length robots ≡ n) where
  -- the zone is full
  pub entry_none : n ≡ size → EntryIs f len o kind robots size r j behind (λ i. refuse 39 i)
  entry_none q b p h l i = entry_full kind b _ i o r j behind (is_full kind _ b p h size n l counts q)

  module _ (free : n ≡ size → ⊥) (e : ℕ) (x : e ≡ extra_on kind size n) where
    -- the follow list is not all there
    pub entry_cut : len < o + 4 + e → EntryIs f len o kind robots size r j behind (λ i. refuse 35 i)
    entry_cut q b p h l i = entry_short kind b _ i o r j behind (not_full kind _ b p h size n l counts free) e (x ∙ extra_is kind _ b p h size n l counts) (omega (arith, held_length f len most))

    module _ (all : o + 4 + e ≤ len) (inside : j < size) where
      -- the follow list is as long as it is to be
      listed : length (held_part f len (o + 4) e) ≡ e
      listed = length-take-le e (drop (o + 4) (take len (payload f))) (omega (arith, length-drop (o + 4) (take len (payload f)), held_length f len most))

      -- what the test of behind and the follow list says, by the list
      said : (b : Arrangement) → Proper b → Holds kind robots b → length b ≡ size → (y : Bool) → enter_test kind size robots r j behind (held_part f len (o + 4) e) ≡ y
          → can_enter kind b r j behind (held_part f len (o + 4) e) ≡ y
      said b p h l y q = sym (enters_by kind _ b p h size n l counts r j behind (held_part f len (o + 4) e) inside free (listed ∙ x)) ∙ q

      -- it is unmet
      pub entry_off : enter_test kind size robots r j behind (held_part f len (o + 4) e) ≡ false → EntryIs f len o kind robots size r j behind (λ i. refuse 39 i)
      entry_off q b p h l i = entry_unmet kind b _ i o r j behind (not_full kind _ b p h size n l counts free) e (x ∙ extra_is kind _ b p h size n l counts) (omega (arith, held_length f len most)) (said b p h l false q)

      -- it is met
      pub entry_on_lem : enter_test kind size robots r j behind (held_part f len (o + 4) e) ≡ true → EntryIs f len o kind robots size r j behind (λ i. ok e)
      entry_on_lem q b p h l i = entry_met kind b _ i o r j behind (not_full kind _ b p h size n l counts free) e (x ∙ extra_is kind _ b p h size n l counts) (omega (arith, held_length f len most)) (said b p h l true q)

      -- the test where a clique is filled
      pub entry_fills : (e ≡ 0 → ⊥) → (y : Bool) → y ≡ clique_enters size robots r j behind (held_part f len (o + 4) size) → enter_test kind size robots r j behind (held_part f len (o + 4) e) ≡ y
      entry_fills z y q =
          let w = extra_some kind size n e x z in
          sym (clique_enters_lem kind w.0 size robots r j behind (held_part f len (o + 4) e)) ∙ ap (λ (g : ℕ). clique_enters size robots r j behind (held_part f len (o + 4) g)) w.2 ∙ sym q

-- ---- the step, by what the code finds

-- a vertex of the map is in a zone that has its list
pub ready_fits : {n k : ℕ} {kind first size listed zone place : List ℕ} {rows : List (List ℕ)} {counts cells : List ℕ} → Ready n k kind first size listed zone place rows counts cells → (u : ℕ) → u < n → Fits first size zone place counts cells u
ready_fits {n} {k} {kind} {first} {size} {listed} {zone} {place} {rows} {counts} {cells} q = fits q.map n k kind first size listed zone place rows q.given q.state q.consistent counts cells q.held q.room q.many

-- the vertices of a step are the map's
pub numbers_in : (n k r u v : ℕ) → numbered n k r u v ≡ true → (u < n) × (v < n)
numbers_in n k r u v e = let x = numbers_below n k r u v e in (x.1, x.2)

module _ (f : List ℕ) (len o n k : ℕ) (kind first size listed zone place : List ℕ) (rows : List (List ℕ)) (counts cells : List ℕ) (most : len ≤ length f / 512 * 504) where
  -- the four bytes are not all there
  pub step_cut : len < o + 4 → StepIs f len o n k kind first size listed zone place rows counts cells (λ i. refuse 35 i)
  step_cut h m d s hc x i = tests_short m k (take len (payload f)) i o s (omega (arith, held_length f len most))

  module _ (within : o + 4 ≤ len) (b : Four) (read : FourAt f o b) where
    -- a number is too large
    pub number_off : numbered n k b.first b.second b.third ≡ false → StepIs f len o n k kind first size listed zone place rows counts cells (λ i. refuse 36 i)
    number_off e m d s hc x i = step_number m n k kind first size listed zone place rows d f len most i o within s b.first b.second b.third b.fourth read.first read.second read.third read.fourth (sym e)

    module _ (numbers : numbered n k b.first b.second b.third ≡ true) where
      -- no edge, or the same zone
      pub edge_off : ((m : Map) → Given m n k kind first size listed zone place rows → crosses m b.second b.third ≡ false) → StepIs f len o n k kind first size listed zone place rows counts cells (λ i. refuse 37 i)
      edge_off e m d s hc x i = step_edge m n k kind first size listed zone place rows d f len most i o within s b.first b.second b.third b.fourth read.first read.second read.third read.fourth (sym numbers) (sym (e m d))

      module _ (ready : Ready n k kind first size listed zone place rows counts cells) where
        module _ (edge : (m : Map) → Given m n k kind first size listed zone place rows → crosses m b.second b.third ≡ true) where
          -- the test of leaving, by the list
          abbrev pub leaves : Bool
          leaves = leave_test (kind_at kind zone b.second) (get_or size (get_or zone b.second 0) 0) (list_in first counts cells (get_or zone b.second 0)) b.first (get_or place b.second 0)

          -- what it says
          left : (y : Bool) → leaves ≡ y → (m : Map) (d : Given m n k kind first size listed zone place rows) (s : State) (hc : Consistent m k s) (x : Held m first counts cells s)
              → y ≡ can_leave (kind_at kind zone b.second) (arrangement_of s (vertices_at first size listed zone b.second)) b.first (get_or place b.second 0)
          left y e m d s hc x = sym e ∙ leaves_by m n k kind first size listed zone place rows d s hc counts cells x ready.room ready.many b.second (numbers_below n k b.first b.second b.third numbers).1 b.first

          -- the robot can't leave there
          pub leave_off : leaves ≡ false → StepIs f len o n k kind first size listed zone place rows counts cells (λ i. refuse 38 i)
          leave_off e m d s hc x i =
              step_leave m n k kind first size listed zone place rows d f len most i o within s b.first b.second b.third b.fourth read.first read.second read.third read.fourth (sym numbers) (sym (edge m d)) (left false e m d s hc x)

          -- what is left is the entry
          pub entry_left : leaves ≡ true → (y : ℕ → Outcome ℕ)
              → EntryIs f len o (kind_at kind zone b.third) (list_in first counts cells (get_or zone b.third 0)) (get_or size (get_or zone b.third 0) 0) b.first (get_or place b.third 0) b.fourth y
              → StepIs f len o n k kind first size listed zone place rows counts cells y
          entry_left e y w m d s hc x i =
              step_enter m n k kind first size listed zone place rows d f len most i o within s b.first b.second b.third b.fourth read.first read.second read.third read.fourth (sym numbers) (sym (edge m d)) (y i) (left true e m d s hc x)
              (w _ (zone_proper m n k kind first size listed zone place rows d s hc counts cells x ready.room ready.many b.third (numbers_below n k b.first b.second b.third numbers).2) (zone_holds m n k kind first size listed zone place rows d s hc counts cells x ready.room ready.many b.third (numbers_below n k b.first b.second b.third numbers).2) (zone_long m n k kind first size listed zone place rows d s hc counts cells x ready.room ready.many b.third (numbers_below n k b.first b.second b.third numbers).2) i)
