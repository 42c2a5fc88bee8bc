-- Halls: the test and moves of leaving are right.
-- What it rests on stands in specs/Zones/Hall/Leaving.antt.
use Rattle.std.specs.Prelude.{◌≡◌, refl, List, ◌∷◌, ◌++◌, [], ℕ, suc, ◌-◌, length, T}
use Rattle.std.proofs.Common.{ap, ◌∙◌, sym, arith, length-append, take_at}
use Rattle.spec.specs.Outcome.{member, index_of}
use Rattle.spec.specs.Arrangement.{Arrangement, cell, order, places}
use Rattle.spec.specs.Hall.{hall_moves, trips, below, above, to_places, hall_leave, room, hall_can_leave}
use Rattle.spec.specs.Terms.{Distinct, Runs}
use Rattle.theory.specs.Basics.Lists.{index_at, drop_past}
use Rattle.theory.specs.Basics.Tests.{and_left, and_right}
use Rattle.theory.specs.Zones.Hall.Places.{rising_join, rising_cut, cell_of_lem, Rising, rise, cells, rising_under, length_places, cells_order, rising_places}
use Rattle.theory.specs.Zones.Hall.Walks.{run_trips}
use Rattle.theory.specs.Zones.Hall.Room.{rising_lower, rising_above, length_below, length_above, Fits, fits}
use Rattle.theory.specs.Zones.Hall.Leaving.{Among, among, among_index, among_count}

-- ---- the moves

-- a list as long as xs ++ x ∷ ys is split where that is
split_like : (xs : List ℕ) (x : ℕ) (ys l : List ℕ) → length l ≡ length (xs ++ x ∷ ys)
    → (ps : List ℕ) × (p : ℕ) × (qs : List ℕ) × (l ≡ ps ++ p ∷ qs) × (length ps ≡ length xs) × (length qs ≡ length ys)
split_like [] x ys [] h = absurd (omega arith)
split_like [] x ys (p ∷ l) h = ([], p, l, refl, refl, omega arith)
split_like (y ∷ xs) x ys [] h = absurd (omega arith)
split_like (y ∷ xs) x ys (p ∷ l) h = let s = split_like xs x ys l (omega arith) in (p ∷ s.0, s.1, s.2, ap (λ r. p ∷ r) s.3, ap suc s.4, s.5)

module _ (m j c : ℕ) (xs ys ps : List ℕ) (p : ℕ) (qs : List ℕ) (r : Rising 0 m (ps ++ p ∷ qs)) (h : length ps ≡ length xs) (k : length qs ≡ length ys) (f : Fits m j (length xs) (length ys)) where
  -- the written moves lead to the targets
  run_cleared : {kind : ℕ} → Runs kind (hall_moves (trips (xs ++ c ∷ ys) (ps ++ p ∷ qs) (below j ps ++ j ∷ above j qs))) (cells m (xs ++ c ∷ ys) (ps ++ p ∷ qs)) (cells m (xs ++ c ∷ ys) (below j ps ++ j ∷ above j qs))
  run_cleared = run_trips (xs ++ c ∷ ys) (ps ++ p ∷ qs) (below j ps ++ j ∷ above j qs)
      (simp length-append (omega arith)) (simp (length-append, length_below, length_above) (omega arith)) r (rising_join (rising_lower j ps (p ∷ qs) r (omega arith)) (rising_above j (high (rising_cut ps r).1) (omega arith) (omega arith)))
    where
      high : Rising 0 m (p ∷ qs) → Rising (suc p) m qs
      high (rise h r) = r

  -- they bring the leaver to j
  cell_cleared : cell (cells m (xs ++ c ∷ ys) (below j ps ++ j ∷ above j qs)) j ≡ suc c
  cell_cleared = cell_of_lem m j c xs (below j ps) ys (above j qs) (length_below j ps ∙ h) (omega arith) (rising_under (rising_lower j ps (p ∷ qs) r (omega arith)))

-- the written moves, by the parts of the order and of the places
leave_is : (a : Arrangement) (r j : ℕ) (xs ps : List ℕ) (p : ℕ) (qs : List ℕ) → order a ≡ xs → index_of r xs ≡ length ps → places 0 a ≡ ps ++ p ∷ qs
    → hall_leave a r j ≡ hall_moves (trips xs (ps ++ p ∷ qs) (below j ps ++ j ∷ above j qs))
unfolding hall_leave to_places
leave_is a r j xs ps p qs e i s = rw (e, i, s, take_at ps (p ∷ qs) (length ps) refl, drop_past ps p qs)

-- a robot that may leave comes to j by the written moves
pub hall_leave_lem : {kind : ℕ} (a : Arrangement) (r j : ℕ) → Distinct a → T (hall_can_leave a r j) → (b : Arrangement) × Runs kind (hall_leave a r j) a b × (cell b j ≡ suc r)
unfolding hall_can_leave
hall_leave_lem {kind} a r j d h = go (split_like w.lower r w.higher (places 0 a) (length_places 0 a ∙ ap length w.cut))
  where
    t : ℕ
    t = index_of r (order a)

    w : Among a r
    w = among a r d (and_left (member r (order a)) (room (length a) j t (length (order a) - suc t)) h)

    f : Fits (length a) j (length w.lower) (length w.higher)
    f = let g = fits (length a) j t (length (order a) - suc t) (and_right (member r (order a)) (room (length a) j t (length (order a) - suc t)) h) in
        record { under = omega (arith, g.under, among_index w); over = omega (arith, g.over, among_index w, among_count w) }

    go : (ps : List ℕ) × (p : ℕ) × (qs : List ℕ) × (places 0 a ≡ ps ++ p ∷ qs) × (length ps ≡ length w.lower) × (length qs ≡ length w.higher)
        → (b : Arrangement) × Runs kind (hall_leave a r j) a b × (cell b j ≡ suc r)
    go (ps, p, qs, s, h, k) =
        let u : Rising 0 (length a) (ps ++ p ∷ qs) = rw s at (rising_places a) in
        let i : index_of r (w.lower ++ r ∷ w.higher) ≡ length ps = index_at w.lower w.higher w.not_lower ∙ sym h in
        let at : cells (length a) (w.lower ++ r ∷ w.higher) (ps ++ p ∷ qs) ≡ a = rw (w.cut, s) at (cells_order a) in
        let z = rw at at (run_cleared (length a) j r w.lower w.higher ps p qs u h k f {kind = kind}) in
        (_, rw (← (leave_is a r j (w.lower ++ r ∷ w.higher) ps p qs w.cut i s)) at z, cell_cleared (length a) j r w.lower w.higher ps p qs u h k f)
