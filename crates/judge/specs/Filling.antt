-- The lists as a state has them: each zone's is the order of its arrangement.
use Rattle.std.specs.Prelude.{◌≡◌, Bool, List, ℕ, ◌+◌, ◌≤◌, ◌<◌, length, get_or, set, take, drop, eqb}
use Rattle.std.proofs.Common.{sym, ap, ◌∙◌, length-drop, length-take-le}
use Rattle.std.proofs.Math.Bool.{true, false}
use native.Mathlib.Omega.{arith}
use Rattle.std.proofs.Math.Decide.{ℕ_discrete}
use borrow.Rule.Slice.PartMut.{put_mid}
use Rattle.spec.specs.Layout.{Map, least_size, zone_at}
use Rattle.spec.specs.Arrangement.{order}
use Rattle.spec.specs.State.{State, arrangement_of}
use Rattle.spec.specs.Terms.{zone_count, kind_of, size_of, arrangement_in}
use Rattle.theory.specs.Maps.Cells as maps
use Rattle.theory.specs.Zones.Arrangements.{order_short}
use Rattle.motion.specs.Across.{arrangement_length}
use Rattle.walking.specs.Tables.{vertices_in}
use Rattle.lineup.specs.Line.{Lined}
use Rattle.orders.specs.Packed.{holds_order}
use Rattle.walking.specs.Given.{Given, HasZone}
use Rattle.testing.specs.Held.{list_in, Held, Changed, changed_part, size_is, list_here, list_away, still_few}
use Rattle.judge.specs.Making.{Listed}

-- ---- one zone's list

module _ (first size listed : List ℕ) (z : ℕ) (has : HasZone first size listed z) (s : State) (n : ℕ) (vs rs ps : List ℕ) (mine : vs ≡ vertices_in first size listed z) (lined : Lined (arrangement_of s vs) n rs ps) where
  -- the zone's robots in order, by the tables
  abbrev robots : List ℕ
  robots = order (arrangement_of s (vertices_in first size listed z))

  -- what the code collected
  pub lined_order : take n rs ≡ robots
  lined_order = lined.robots ∙ ap (λ (vs : List ℕ). order (arrangement_of s vs)) mine

  -- the zone's size, by the tables
  long : length (vertices_in first size listed z) ≡ get_or size z 0
  long = length-take-le (get_or size z 0) (drop (get_or first z 0) listed) (omega (arith, length-drop (get_or first z 0) listed, has.fits))

  -- there are no more than places
  lined_few : n ≤ get_or size z 0
  lined_few = omega (arith, lined.short, arrangement_length s vs, ap length mine, long)

  -- nor than 128
  pub lined_small : n ≤ 128
  lined_small = omega (arith, lined_few, has.long, long)

  module _ (cells : List ℕ) (room : length cells ≡ length listed) where
    -- they fit into the row of cells
    pub lined_fits : get_or first z 0 + n ≤ length cells
    lined_fits = omega (arith, lined_few, room, has.fits)

    -- the zone's list is written there
    pub filled_zone : n ≤ length rs → (counts part : List ℕ) (k : ℕ) → k ≡ n → part ≡ take n rs → Listed first size counts cells z robots (set counts z n) (put_mid (get_or first z 0) k cells part)
    filled_zone fits counts part k i e =
        let c : length (take n rs) ≡ n = length-take-le n rs fits in
        rw (← lined_order) (record {
          change = changed_part cells (get_or first z 0) (get_or size z 0) k (take n rs) part (omega (arith, lined_fits, i)) (omega (arith, lined_few, i)) (c ∙ sym i) e;
          count = ap (set counts z) (sym c);
        })

-- ---- every zone's list

-- the lists of the zones below i are the orders, and no list is too long
pub record Filled (m : Map) (first counts cells : List ℕ) (s : State) (i : ℕ) : Type 0 where
  pub lists : (y : ℕ) → y < i → y < zone_count m → list_in first counts cells y ≡ order (arrangement_in m s y)
  pub few : (y : ℕ) → y < zone_count m → get_or counts y 0 ≤ size_of m y

module _ (m : Map) (n k : ℕ) (kind first size listed zone place : List ℕ) (rows : List (List ℕ)) (d : Given m n k kind first size listed zone place rows)
    (s : State) (counts cells counts' new : List ℕ) (i : ℕ) (room : length cells ≡ length listed) (many : length counts ≡ 64) (h : i < zone_count m) (f : Filled m first counts cells s i)
    (c : Listed first size counts cells i (order (arrangement_of s (vertices_in first size listed i))) counts' new) where
  -- the list of zone i, by the map
  abbrev mine : List ℕ
  mine = order (arrangement_in m s i)

  -- it is the one that was written
  named : order (arrangement_of s (vertices_in first size listed i)) ≡ mine
  named = ap (λ (vs : List ℕ). order (arrangement_of s vs)) (sym (d.tables.vertices i h))

  -- in its part of the row
  change : Changed cells (get_or first i 0) (size_of m i) mine new
  change = rw (size_is m n k kind first size listed zone place rows d i h) (rw named at c.change)

  -- with its number of robots
  count : counts' ≡ set counts i (length mine)
  count = rw named at c.count

  -- no longer than the zone
  short : length mine ≤ size_of m i
  short = omega (arith, order_short (arrangement_in m s i), maps.arrangement_length s (zone_at m i))

  -- the zone has a place
  pos : 0 < size_of m i
  unfolding least_size
  pos = go (eqb (kind_of m i) 4) (d.accepted.kinds i h).2
    where
      go : (b : Bool) → elim b [ true ↦ 3 | false ↦ 1 ] ≤ size_of m i → 0 < size_of m i
      go true l = omega arith
      go false l = omega arith

  -- one more
  pub filled_more : Filled m first counts' new s (i + 1)
  filled_more = record {
    lists = λ y l b. pick y l b (ℕ_discrete y i);
    few = still_few m n k kind first size listed zone place rows d counts cells room many f.few i h pos mine new change short counts' count;
  }
    where
      pick : (y : ℕ) → y < i + 1 → y < zone_count m → Dec (y ≡ i) → list_in first counts' new y ≡ order (arrangement_in m s y)
      pick y l b (yes q) = rw q (list_here m n k kind first size listed zone place rows d counts cells room many f.few i h pos mine new change short counts' count)
      pick y l b (no q) = list_away m n k kind first size listed zone place rows d counts cells room many f.few i h pos mine new change short counts' count y b q ∙ f.lists y (omega arith) b

-- all are
pub filled_all : (m : Map) (first counts cells : List ℕ) (s : State) (i : ℕ) → zone_count m ≤ i → Filled m first counts cells s i → Held m first counts cells s
filled_all m first counts cells s i h f = record {
  stands = λ z b. holds_order (kind_of m z) (list_in first counts cells z) (arrangement_in m s z) (sym (f.lists z (omega arith) b));
  few = f.few;
}
