-- Halls: the targets of leaving and entering rise where there is room.
use Rattle.std.specs.Prelude.{◌≡◌, refl, List, [], ◌∷◌, ◌++◌, ℕ, ◌+◌, ◌-◌, ◌≤◌, suc, ◌<◌, min, max, length, T, leb, ltb}
use Rattle.std.proofs.Common.{ap, arith, leb→le, ltb→lt, le→leb, lt→ltb}
use Rattle.spec.specs.Hall.{below, above, room}
use Rattle.theory.specs.Basics.Tests.{and_left, and_right, and_both}
use Rattle.theory.specs.Zones.Hall.Places.{rising_cut, Rising, rest, rise, end, ◌◃◌}

-- the targets below j rise where there is room below it
rising_below : {lo u hi : ℕ} (j : ℕ) {ps : List ℕ} → Rising u hi ps → lo ≤ u → lo + length ps ≤ j → Rising lo j (below j ps)
unfolding below
rising_below j (rest h) k f = end (omega arith)
rising_below {lo} j (rise {p = p} {ps = ps} h r) k f = omega arith ◃ rising_below {lo = suc (min p (j - suc (length ps)))} j r (omega arith) (omega arith)

-- so do those of the first of the places
pub rising_lower : {m : ℕ} (j : ℕ) (ps qs : List ℕ) → Rising 0 m (ps ++ qs) → length ps ≤ j → Rising 0 j (below j ps)
rising_lower j ps qs r h = rising_below {lo = 0} j (rising_cut ps r).0 (omega arith) (omega arith)

-- the targets above j rise where there is room above it
pub rising_above : {lo u m : ℕ} (j : ℕ) {qs : List ℕ} → Rising u m qs → lo ≤ max u (suc j) → j + length qs < m → Rising lo m (above j qs)
unfolding above
rising_above j (rest h) k f = end (omega arith)
rising_above {lo} j (rise {p = p} h r) k f = omega arith ◃ rising_above {lo = suc (max p (suc j))} (suc j) r (omega arith) (omega arith)

-- there is a target for each robot below
pub length_below : (j : ℕ) (ps : List ℕ) → length (below j ps) ≡ length ps
unfolding below
length_below j [] = refl
length_below j (p ∷ ps) = ap suc (length_below j ps)

-- and for each robot above
pub length_above : (j : ℕ) (qs : List ℕ) → length (above j qs) ≡ length qs
unfolding above
length_above j [] = refl
length_above j (q ∷ qs) = ap suc (length_above (suc j) qs)

-- there is room for t robots below place j and u above it
pub record Fits (m j t u : ℕ) : Type 0 where
  pub under : t ≤ j
  pub over : j + u < m

-- the test says that there is room
pub fits : (m j t u : ℕ) → T (room m j t u) → Fits m j t u
unfolding room
fits m j t u h = record { under = leb→le t j (and_left (leb t j) (ltb (j + u) m) h); over = ltb→lt (j + u) m (and_right (leb t j) (ltb (j + u) m) h) }

-- and where there is room it holds
pub has_room : (m j t u : ℕ) → t ≤ j → j + u < m → T (room m j t u)
unfolding room
has_room m j t u h k = and_both (leb t j) (ltb (j + u) m) (le→leb t j h) (lt→ltb (j + u) m k)
