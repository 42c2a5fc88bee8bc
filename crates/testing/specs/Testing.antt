-- The tests of a step, one by one: "In a step: four bytes, 36, 37, 38, full target, follow list present, 39."
use Rattle.std.specs.Prelude.{◌≡◌, true, false, List, ℕ, ◌+◌, ◌*◌, ◌/◌, ◌≤◌, ◌<◌, length, get_or, take, drop, ltb, eqb}
use Rattle.std.proofs.Math.Path.{sym}
use Rattle.std.proofs.Common.{ap, ◌∙◌, arith}
use Rattle.std.proofs.Math.Bool.{not}
use Rattle.std.proofs.Math.Dec.{ltb→lt}
use borrow.Author.Tests.{le-leb, lt-leb, le-ltb, lt-ltb}
use Rattle.spec.specs.Outcome.{Outcome, ok, refuse, ◌>>◌, check, ◌and◌}
use Rattle.spec.specs.Layout.{Map, joined, zone_of}
use Rattle.spec.specs.Arrangement.{Arrangement, full}
use Rattle.spec.specs.ZoneKind.{can_leave, can_enter}
use Rattle.spec.specs.State.{State, arrangement_of}
use Rattle.spec.specs.Terms.{arrangement_in, kind_of, place_of}
use Rattle.theory.specs.Basics.Tests.{of_true, and_left, and_right}
use Rattle.theory.specs.Zones.Crossing.{extra_of}
use Rattle.adjacency.specs.Rows.{bit_at, shows_joined}
use Rattle.wire.specs.Payload.{payload, held_length}
use Rattle.wire.specs.Payload as wire
use Rattle.walking.specs.Tests.{numbered, crosses, entry_tests, step_tests}
use Rattle.walking.specs.Given.{Given, kind_at, vertices_at, zone_is, kind_is, vertices_is, place_is}
use Rattle.walking.specs.Held.{byte_is}

-- ---- the numbers of a step

module _ (n k r u v : ℕ) where
  -- the robot is none of k
  pub numbered_robot : k ≤ r → false ≡ numbered n k r u v
  unfolding numbered ◌and◌
  numbered_robot h = rw (le-ltb r k h)

  -- it is, and from is none of the vertices
  pub numbered_from : r < k → ltb u n ≡ false → false ≡ numbered n k r u v
  unfolding numbered ◌and◌
  numbered_from h e = rw (lt-ltb r k h, e)

  -- from is, and to decides
  pub numbered_to : r < k → ltb u n ≡ true → ltb v n ≡ numbered n k r u v
  unfolding numbered ◌and◌
  numbered_to h e = rw (lt-ltb r k h, e)

  -- what that says
  pub numbers_below : numbered n k r u v ≡ true → (r < k) × (u < n) × (v < n)
  unfolding numbered
  numbers_below e =
      let t = of_true e in
      (ltb→lt _ _ (and_left _ _ t), ltb→lt _ _ (and_left _ _ (and_right _ _ t)), ltb→lt _ _ (and_right _ _ (and_right _ _ t)))

-- ---- the crossing

module _ (m : Map) (n k : ℕ) (kind first size listed zone place : List ℕ) (rows : List (List ℕ)) (d : Given m n k kind first size listed zone place rows) where
  -- the rows say which vertices are joined
  joined_is : (u v : ℕ) → joined m u v ≡ bit_at rows u v
  unfolding joined
  joined_is u v = sym (shows_joined rows m.edges d.edges u v)

  -- there is no edge
  pub crosses_none : (u v : ℕ) → bit_at rows u v ≡ false → false ≡ crosses m u v
  unfolding crosses ◌and◌
  crosses_none u v e = rw (joined_is u v, e)

  -- there is one, and the zones decide
  pub crosses_zones : (u v : ℕ) → u < n → v < n → bit_at rows u v ≡ true → not (eqb (get_or zone u 0) (get_or zone v 0)) ≡ crosses m u v
  unfolding crosses ◌and◌
  crosses_zones u v hu hv e = rw (joined_is u v, e, ← zone_is m n k kind first size listed zone place rows d u hu, ← zone_is m n k kind first size listed zone place rows d v hv)

-- ---- test by test

module _ (m : Map) (k : ℕ) (p : List ℕ) (i o : ℕ) (s : State) (r u v behind : ℕ) (er : r ≡ get_or p o 0) (eu : u ≡ get_or p (o + 1) 0) (ev : v ≡ get_or p (o + 2) 0) (eb : behind ≡ get_or p (o + 3) 0) where
  -- the rest of the tests, once the four bytes are there
  rest : Outcome ℕ
  rest =
      check (numbered m.size k r u v) 36 i
      >> (check (crosses m u v) 37 i
      >> (check (can_leave (kind_of m (zone_of m u)) (arrangement_in m s (zone_of m u)) r (place_of m u)) 38 i
      >> entry_tests (kind_of m (zone_of m v)) (arrangement_in m s (zone_of m v)) p i o r (place_of m v) behind))

  -- they are the tests of the step
  whole : o + 4 ≤ length p → step_tests m k p i o s ≡ rest
  unfolding step_tests rest check ◌>>◌
  whole h = rw (er, eu, ev, eb, le-leb _ _ h)

  module _ (h : o + 4 ≤ length p) where
    -- a number is too large
    pub tests_number : numbered m.size k r u v ≡ false → refuse 36 i ≡ step_tests m k p i o s
    unfolding rest check ◌>>◌
    tests_number e = sym (whole h ∙ rw e)

    -- no edge, or the same zone
    pub tests_edge : numbered m.size k r u v ≡ true → crosses m u v ≡ false → refuse 37 i ≡ step_tests m k p i o s
    unfolding rest check ◌>>◌
    tests_edge e f = sym (whole h ∙ rw (e, f))

    -- the robot can't leave there
    pub tests_leave : numbered m.size k r u v ≡ true → crosses m u v ≡ true
        → can_leave (kind_of m (zone_of m u)) (arrangement_in m s (zone_of m u)) r (place_of m u) ≡ false → refuse 38 i ≡ step_tests m k p i o s
    unfolding rest check ◌>>◌
    tests_leave e f g = sym (whole h ∙ rw (e, f, g))

    -- what is left is the entry
    pub tests_enter : numbered m.size k r u v ≡ true → crosses m u v ≡ true
        → can_leave (kind_of m (zone_of m u)) (arrangement_in m s (zone_of m u)) r (place_of m u) ≡ true
        → entry_tests (kind_of m (zone_of m v)) (arrangement_in m s (zone_of m v)) p i o r (place_of m v) behind ≡ step_tests m k p i o s
    unfolding rest check ◌>>◌
    tests_enter e f g = sym (whole h ∙ rw (e, f, g))

-- the four bytes are not all there
pub tests_short : (m : Map) (k : ℕ) (p : List ℕ) (i o : ℕ) (s : State) → length p < o + 4 → refuse 35 i ≡ step_tests m k p i o s
unfolding step_tests check ◌>>◌
tests_short m k p i o s h = rw (lt-leb _ _ h)

-- ---- the entry, test by test

module _ (kind : ℕ) (b : Arrangement) (p : List ℕ) (i o r j behind : ℕ) where
  -- the target zone is full
  pub entry_full : full b ≡ true → refuse 39 i ≡ entry_tests kind b p i o r j behind
  unfolding entry_tests check ◌>>◌
  entry_full e = rw e

  module _ (f : full b ≡ false) (e : ℕ) (x : e ≡ extra_of kind b) where
    -- the follow list is not all there
    pub entry_short : length p < o + 4 + e → refuse 35 i ≡ entry_tests kind b p i o r j behind
    unfolding entry_tests check ◌>>◌
    entry_short h = rw (f, ← x, lt-leb _ _ h)

    -- behind or the follow list is unmet
    pub entry_unmet : o + 4 + e ≤ length p → can_enter kind b r j behind (take e (drop (o + 4) p)) ≡ false → refuse 39 i ≡ entry_tests kind b p i o r j behind
    unfolding entry_tests check ◌>>◌
    entry_unmet h c = rw (f, ← x, le-leb _ _ h, c)

    -- all is met
    pub entry_met : o + 4 + e ≤ length p → can_enter kind b r j behind (take e (drop (o + 4) p)) ≡ true → ok e ≡ entry_tests kind b p i o r j behind
    unfolding entry_tests check ◌>>◌
    entry_met h c = rw (f, ← x, le-leb _ _ h, c)

-- ---- by the tables and by the bytes of the file

module _ (m : Map) (n k : ℕ) (kind first size listed zone place : List ℕ) (rows : List (List ℕ)) (d : Given m n k kind first size listed zone place rows)
    (f : List ℕ) (len : ℕ) (most : len ≤ length f / 512 * 504) (i o : ℕ) (h : o + 4 ≤ len) (s : State) (r u v behind : ℕ)
    (er : r ≡ get_or f (wire.place_of o) 0) (eu : u ≡ get_or f (wire.place_of (o + 1)) 0) (ev : v ≡ get_or f (wire.place_of (o + 2)) 0) (eb : behind ≡ get_or f (wire.place_of (o + 3)) 0) where
  -- the four bytes are there
  long : o + 4 ≤ length (take len (payload f))
  long = omega (arith, held_length f len most)

  -- the numbers are below those of the map
  sized : numbered n k r u v ≡ numbered m.size k r u v
  sized = ap (λ (x : ℕ). numbered x k r u v) (sym d.vertices)

  -- a number is too large
  pub step_number : false ≡ numbered n k r u v → refuse 36 i ≡ step_tests m k (take len (payload f)) i o s
  step_number e = tests_number m k (take len (payload f)) i o s r u v behind (byte_is f len o r most (omega arith) er) (byte_is f len (o + 1) u most (omega arith) eu)
      (byte_is f len (o + 2) v most (omega arith) ev) (byte_is f len (o + 3) behind most (omega arith) eb) long (sym (e ∙ sized))

  module _ (a : true ≡ numbered n k r u v) where
    -- no edge, or the same zone
    pub step_edge : false ≡ crosses m u v → refuse 37 i ≡ step_tests m k (take len (payload f)) i o s
    step_edge e = tests_edge m k (take len (payload f)) i o s r u v behind (byte_is f len o r most (omega arith) er) (byte_is f len (o + 1) u most (omega arith) eu)
        (byte_is f len (o + 2) v most (omega arith) ev) (byte_is f len (o + 3) behind most (omega arith) eb) long (sym (a ∙ sized)) (sym e)

    module _ (b : true ≡ crosses m u v) where
      -- leaving, by the tables
      left : can_leave (kind_at kind zone u) (arrangement_of s (vertices_at first size listed zone u)) r (get_or place u 0)
          ≡ can_leave (kind_of m (zone_of m u)) (arrangement_in m s (zone_of m u)) r (place_of m u)
      left =
          let x = numbers_below n k r u v (sym a) in
          rw (kind_is m n k kind first size listed zone place rows d u x.1, vertices_is m n k kind first size listed zone place rows d u x.1, place_is m n k kind first size listed zone place rows d u x.1)

      -- entering, by the tables
      entered : (i o r behind : ℕ) → entry_tests (kind_at kind zone v) (arrangement_of s (vertices_at first size listed zone v)) (take len (payload f)) i o r (get_or place v 0) behind
          ≡ entry_tests (kind_of m (zone_of m v)) (arrangement_in m s (zone_of m v)) (take len (payload f)) i o r (place_of m v) behind
      entered i o r behind =
          let x = numbers_below n k _ u v (sym a) in
          rw (kind_is m n k kind first size listed zone place rows d v x.2, vertices_is m n k kind first size listed zone place rows d v x.2, place_is m n k kind first size listed zone place rows d v x.2)

      -- the robot can't leave there
      pub step_leave : false ≡ can_leave (kind_at kind zone u) (arrangement_of s (vertices_at first size listed zone u)) r (get_or place u 0) → refuse 38 i ≡ step_tests m k (take len (payload f)) i o s
      step_leave e = tests_leave m k (take len (payload f)) i o s r u v behind (byte_is f len o r most (omega arith) er) (byte_is f len (o + 1) u most (omega arith) eu)
          (byte_is f len (o + 2) v most (omega arith) ev) (byte_is f len (o + 3) behind most (omega arith) eb) long (sym (a ∙ sized)) (sym b) (sym (e ∙ left))

      -- what is left is the entry
      pub step_enter : (x : Outcome ℕ) → true ≡ can_leave (kind_at kind zone u) (arrangement_of s (vertices_at first size listed zone u)) r (get_or place u 0)
          → x ≡ entry_tests (kind_at kind zone v) (arrangement_of s (vertices_at first size listed zone v)) (take len (payload f)) i o r (get_or place v 0) behind → x ≡ step_tests m k (take len (payload f)) i o s
      step_enter x e t = t ∙ entered i o r behind
          ∙ tests_enter m k (take len (payload f)) i o s r u v behind (byte_is f len o r most (omega arith) er) (byte_is f len (o + 1) u most (omega arith) eu)
          (byte_is f len (o + 2) v most (omega arith) ev) (byte_is f len (o + 3) behind most (omega arith) eb) long (sym (a ∙ sized)) (sym b) (sym (e ∙ left))
