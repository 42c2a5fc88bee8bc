-- Leaving a clique: one law for each way through the code.
use Rattle.std.specs.Prelude.{◌≡◌, ◌≢◌, true, false, ℕ, suc, ◌-◌, List, [], ◌∷◌, ◌++◌, length, eqb, ltb}
use Rattle.std.proofs.Common.{sym, ◌∙◌, arith, eq-eqb, ne_eqb}
use Rattle.spec.specs.Arrangement.{Arrangement, Move, mv, seek, cell, full}
use Rattle.spec.specs.Clique.{make_room, clique_can_leave, clique_leave}
use Rattle.spec.specs.State.{cell_of, across, across_move}
use Rattle.theory.specs.Maps.Cells.{cell_of_lem, cell_none}
use Rattle.motion.specs.World.{World, made, made_all}
use Rattle.cells.specs.Reading.{member_seek}

-- one move
pub made_single : (w u : World) (vs : List ℕ) (m : Move) (ms : List Move) → u ≡ made w (across_move vs m) → ms ≡ m ∷ [] → u ≡ made_all w (across vs ms)
unfolding made_all across
made_single w u vs m ms e d = rw (d, e)

-- nobody stands there
pub room_none : (a : Arrangement) (j x : ℕ) → cell_of x ≡ cell a j → x ≡ 255 → make_room a j ≡ []
unfolding make_room
room_none a j x e n = rw (eq-eqb _ _ (sym e ∙ cell_none n), make_room)

-- whoever stands there goes to the earliest empty place
pub room_made : (a : Arrangement) (j x : ℕ) → cell_of x ≡ cell a j → x ≢ 255 → make_room a j ≡ mv x j (seek 0 a) ∷ []
unfolding make_room
room_made a j x e n =
    let q : cell a j ≡ suc x = sym e ∙ cell_of_lem n in
    let d : cell a j - 1 ≡ x = omega arith in
    let z : (cell a j ≡ 0 → ⊥) = λ y. omega arith in
    rw (ne_eqb _ _ z, make_room, d)

-- the leaver stands there already
pub leave_stays : (a : Arrangement) (r j : ℕ) → true ≡ eqb (cell a j) (suc r) → clique_leave a r j ≡ []
unfolding clique_leave
leave_stays a r j e = rw (← e, clique_leave)

-- room is made, then the leaver goes there
pub leave_goes : (a : Arrangement) (r j : ℕ) → false ≡ eqb (cell a j) (suc r) → clique_leave a r j ≡ make_room a j ++ (mv r (seek (suc r) a) j ∷ [])
unfolding clique_leave
leave_goes a r j e = rw (← e, clique_leave)

-- in a full clique the leaver has to stand there
pub can_leave_full : (a : Arrangement) (r j : ℕ) → true ≡ full a → eqb (cell a j) (suc r) ≡ clique_can_leave a r j
unfolding clique_can_leave
can_leave_full a r j e = rw (← e, clique_can_leave)

-- in any other it has to be there
pub can_leave_other : (a : Arrangement) (r j n : ℕ) → false ≡ full a → n ≡ length a → ltb (seek (suc r) a) n ≡ clique_can_leave a r j
unfolding clique_can_leave
can_leave_other a r j n e d = rw (← e, clique_can_leave, d) (member_seek r a)
