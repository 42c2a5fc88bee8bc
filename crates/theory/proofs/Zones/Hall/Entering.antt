-- Halls: the test and moves of entering are right.
-- What it rests on stands in specs/Zones/Hall/Entering.antt.
use Rattle.std.specs.Prelude.{◌≡◌, refl, Bool, true, false, List, ◌++◌, [], ◌∷◌, ℕ, suc, ◌+◌, ◌-◌, length, take, drop, T}
use Rattle.std.proofs.Common.{sym, ◌∙◌, ap, append_assoc, arith, length-append, length-take, length-drop, take-append-drop}
use Rattle.spec.specs.Outcome.{member, index_of}
use Rattle.spec.specs.Arrangement.{Arrangement, order, cell, last_named, places}
use Rattle.spec.specs.Hall.{lower_than, hall_moves, trips, below, above, to_places, hall_enter, room, hall_can_enter}
use Rattle.spec.specs.Terms.{Distinct, Runs}
use Rattle.theory.specs.Basics.Lists.{last_of, last_snoc, each_append, each_map}
use Rattle.theory.specs.Basics.Tests.{Eqb, same, other, eqb?, and_left, and_right}
use Rattle.theory.specs.Zones.Arrangements.{last_order}
use Rattle.theory.specs.Zones.Hall.Places.{rising_append, rising_cut, take_cells, order_cells, Rising, cells, cell_cells, rising_least, rising_under, length_places, cells_order, rising_places}
use Rattle.theory.specs.Zones.Hall.Walks.{run_trips}
use Rattle.theory.specs.Zones.Hall.Room.{rising_lower, rising_above, length_below, length_above, Fits, fits}
use Rattle.theory.specs.Zones.Hall.Leaving.{among, among_index}
use Rattle.theory.specs.Zones.Hall.Entering.{Cut, behind_ok}

-- a robot that is named cuts the order behind itself
cut_of : (a : Arrangement) (named : ℕ) → Distinct a → T (behind_ok a named) → Cut a named
unfolding behind_ok lower_than last_of
cut_of a named d h = go (eqb? named 255) h refl
  where
    go : {b : Bool} → Eqb named 255 b → T (elim b [ true ↦ true | false ↦ member named (order a) ])
        → lower_than named a ≡ elim b [ true ↦ 0 | false ↦ suc (index_of named (order a)) ] → Cut a named
    go (same e) h c = record { lower = []; higher = order a; cut = refl; last = sym e; count = c }
    go (other n) h c =
        let w = among a named d h in
        record {
          lower = w.lower ++ named ∷ [];
          higher = w.higher;
          cut = w.cut ∙ sym (append_assoc w.lower (named ∷ []) w.higher);
          last = last_snoc w.lower named n;
          count = c ∙ omega (arith, among_index w, length-append w.lower (named ∷ []));
        }

-- ---- the moves

module _ (m j : ℕ) (xs ys ps qs : List ℕ) (r : Rising 0 m (ps ++ qs)) (h : length ps ≡ length xs) (k : length qs ≡ length ys) (f : Fits m j (length xs) (length ys)) where
  -- the targets below j rise
  low_side : Rising 0 j (below j ps)
  low_side = rising_lower j ps qs r (omega arith)

  -- the targets above j rise
  high_side : Rising (suc j) m (above j qs)
  high_side = rising_above j (rising_cut ps r).1 (omega arith) (omega arith)

  -- the written moves lead to the targets
  run_parted : {kind : ℕ} → Runs kind (hall_moves (trips (xs ++ ys) (ps ++ qs) (below j ps ++ above j qs))) (cells m (xs ++ ys) (ps ++ qs)) (cells m (xs ++ ys) (below j ps ++ above j qs))
  run_parted = run_trips (xs ++ ys) (ps ++ qs) (below j ps ++ above j qs)
      (simp length-append (omega arith)) (simp (length-append, length_below, length_above) (omega arith)) r (rising_append low_side high_side)

  -- they leave j empty
  cell_parted : cell (cells m (xs ++ ys) (below j ps ++ above j qs)) j ≡ 0
  cell_parted = cell_cells m (xs ++ ys) (below j ps ++ above j qs) j (each_append (each_map (λ p z. omega arith) (rising_under low_side)) (each_map (λ p z. omega arith) (rising_least high_side)))

  -- and the last of those below behind it
  last_parted : last_named (take j (cells m (xs ++ ys) (below j ps ++ above j qs))) ≡ last_of xs
  last_parted =
      ap last_named (take_cells j m xs (below j ps) ys (above j qs) (omega arith) (length_below j ps ∙ h) (rising_under low_side) (each_map (λ q z. omega arith) (rising_least high_side)))
      ∙ last_order (cells j xs (below j ps)) ∙ ap last_of (order_cells xs low_side (length_below j ps ∙ h))

-- the written moves, by the parts of the order and of the places
enter_is : (a : Arrangement) (j named t : ℕ) (xs ps qs : List ℕ) → order a ≡ xs → lower_than named a ≡ t → take t (places 0 a) ≡ ps → drop t (places 0 a) ≡ qs → places 0 a ≡ ps ++ qs
    → hall_enter a j named ≡ hall_moves (trips xs (ps ++ qs) (below j ps ++ above j qs))
unfolding hall_enter to_places
enter_is a j named t xs ps qs e i p q s = rw (e, i, p, q, s)

-- where a robot may enter the written moves empty j, with the named robot behind it
pub hall_enter_lem : {kind : ℕ} (a : Arrangement) (j named : ℕ) → Distinct a → T (hall_can_enter a j named)
    → (b : Arrangement) × Runs kind (hall_enter a j named) a b × (cell b j ≡ 0) × (last_named (take j b) ≡ named)
unfolding hall_can_enter behind_ok
hall_enter_lem {kind} a j named d h =
    let z = rw at at (run_parted (length a) j w.lower w.higher ps qs u l k f {kind = kind}) in (
      _,
      rw (← (enter_is a j named t (w.lower ++ w.higher) ps qs w.cut refl refl refl (sym s))) at z,
      cell_parted (length a) j w.lower w.higher ps qs u l k f,
      last_parted (length a) j w.lower w.higher ps qs u l k f ∙ w.last,
    )
  where
    t : ℕ
    t = lower_than named a

    w : Cut a named
    w = cut_of a named d (and_left (behind_ok a named) (room (length a) j t (length (order a) - t)) h)

    f : Fits (length a) j (length w.lower) (length w.higher)
    f = let g = fits (length a) j t (length (order a) - t) (and_right (behind_ok a named) (room (length a) j t (length (order a) - t)) h) in
        let n = ap length w.cut ∙ length-append w.lower w.higher in
        record { under = omega (arith, g.under, w.count); over = omega (arith, g.over, w.count) }

    ps : List ℕ
    ps = take t (places 0 a)

    qs : List ℕ
    qs = drop t (places 0 a)

    s : ps ++ qs ≡ places 0 a
    s = take-append-drop t (places 0 a)

    u : Rising 0 (length a) (ps ++ qs)
    u = rw s (rising_places a)

    n : length (places 0 a) ≡ length w.lower + length w.higher
    n = length_places 0 a ∙ ap length w.cut ∙ length-append w.lower w.higher

    l : length ps ≡ length w.lower
    l = length-take t (places 0 a) ∙ omega (arith, n, w.count)

    k : length qs ≡ length w.higher
    k = length-drop t (places 0 a) ∙ omega (arith, n, w.count)

    at : cells (length a) (w.lower ++ w.higher) (ps ++ qs) ≡ a
    at = rw (s, ← w.cut) (cells_order a)
