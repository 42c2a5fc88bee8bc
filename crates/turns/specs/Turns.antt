-- Entering a ring: pushes until the named robot is behind the place and the place is empty.
use Rattle.std.specs.Prelude.{◌≡◌, refl, ◌≢◌, Bool, true, false, ℕ, zero, suc, ◌+◌, ◌*◌, ◌<◌, List, [], ◌∷◌, ◌++◌, map, length, get_or, take, drop, eqb}
use Rattle.std.proofs.Common.{ap, ap₂, sym, ◌∙◌, arith, take-append-drop, eq-eqb, ne_eqb}
use Rattle.std.proofs.Math.Decide.{ℕ_discrete, dec_lt}
use Rattle.std.proofs.Math.ListN.{get_or-eq_default}
use Rattle.spec.specs.Outcome.{◌and◌}
use Rattle.spec.specs.Arrangement.{Arrangement, Move, cell, order, seek, apply_all}
use Rattle.spec.specs.Ring.{wrap, frame, in_ring, run, shove, push, opened, ring_behind, entry_open, turn_place, turn_for, ring_enter}
use Rattle.spec.specs.State.{State, cell_of, robot_on, arrangement_of, across}
use Rattle.theory.specs.Maps.Cells.{cell_of_lem, cell_none}
use Rattle.theory.specs.Zones.Arrangements.{order_append, member→cell, cell_inside}
use Rattle.theory.specs.Basics.Searches.{seek_ok}
use Rattle.theory.specs.Zones.Ring.Opened.{length_opened}
use Rattle.motion.specs.World.{World, made_all, made_none}
use Rattle.motion.specs.Across.{made_both, across_nil, arrangement_length, arrangement_at}
use Rattle.motion.specs.Coupling.{Listed, arranged}
use Rattle.circle.specs.Pushes.{inside_push}
use Rattle.cells.specs.Reading.{seek_nobody}
use Rattle.circle.specs.Reading.{never_256}
use Rattle.turns.specs.Entry.{frame_opened, opened_at, last_stands, last_none}

-- where the next push begins; the size where none is needed
unfoldable pub turn_at : Arrangement → ℕ → ℕ → ℕ
unfolding entry_open turn_place
turn_at a j named = elim (entry_open a j named) [ true ↦ length a | false ↦ turn_place a j ]

-- the place is taken: its robot is pushed
pub turn_taken : (a : Arrangement) (j named r : ℕ) → cell a j ≡ suc r → (entry_open a j named ≡ false) × (turn_place a j ≡ j)
unfolding entry_open turn_place ◌and◌
turn_taken a j named r e =
    let d : eqb (cell a j) 0 ≡ false = ne_eqb (cell a j) 0 (λ q. omega arith) in
    (ap (λ b. b and eqb (ring_behind a j) named) d, ap (λ (b : Bool). elim b as (λ b. ℕ) [ true ↦ seek (suc (ring_behind a j)) a | false ↦ j ]) d)

-- the place is empty: the robot behind it decides
pub turn_free : (a : Arrangement) (j named : ℕ) → cell a j ≡ 0 → (entry_open a j named ≡ eqb (ring_behind a j) named) × (turn_place a j ≡ seek (suc (ring_behind a j)) a)
unfolding entry_open turn_place ◌and◌
turn_free a j named e =
    let d : eqb (cell a j) 0 ≡ true = eq-eqb (cell a j) 0 e in
    (ap (λ b. b and eqb (ring_behind a j) named) d, ap (λ (b : Bool). elim b as (λ b. ℕ) [ true ↦ seek (suc (ring_behind a j)) a | false ↦ j ]) d)

-- no push where the place is ready
pub turn_open : (a : Arrangement) (j named : ℕ) → entry_open a j named ≡ true → turn_at a j named ≡ length a
unfolding turn_at
turn_open a j named e = rw (e, turn_at)

-- else the push begins at its place
pub turn_shut : (a : Arrangement) (j named : ℕ) → entry_open a j named ≡ false → turn_at a j named ≡ turn_place a j
unfolding turn_at
turn_shut a j named e = rw (e, turn_at)

-- ---- where nobody stands

-- nobody stands in a part
none_left : (xs ys : List ℕ) → xs ++ ys ≡ [] → xs ≡ []
none_left [] ys e = refl
none_left (x ∷ xs) ys e = absurd (let d : suc (length (xs ++ ys)) ≡ 0 = ap length e in omega arith)

-- and none in the other part
none_right : (xs ys : List ℕ) → xs ++ ys ≡ [] → ys ≡ []
none_right [] ys e = e
none_right (x ∷ xs) ys e = absurd (let d : suc (length (xs ++ ys)) ≡ 0 = ap length e in omega arith)

-- reading from another place on shows nobody either
none_frame : (a : Arrangement) (p : ℕ) → order a ≡ [] → order (frame p a) ≡ []
unfolding frame
none_frame a p e =
    let d : order (take p a) ++ order (drop p a) ≡ [] = sym (order_append (take p a) (drop p a)) ∙ ap order (take-append-drop p a) ∙ e in
    order_append (drop p a) (take p a) ∙ ap₂ (λ (x y : List ℕ). x ++ y) (none_right (order (take p a)) (order (drop p a)) d) (none_left (order (take p a)) (order (drop p a)) d)

-- and the other way
frame_none : (a : Arrangement) (p : ℕ) → order (frame p a) ≡ [] → order a ≡ []
unfolding frame
frame_none a p e =
    let d : order (drop p a) ++ order (take p a) ≡ [] = sym (order_append (drop p a) (take p a)) ∙ e in
    ap order (sym (take-append-drop p a)) ∙ order_append (take p a) (drop p a)
    ∙ ap₂ (λ (x y : List ℕ). x ++ y) (none_right (order (drop p a)) (order (take p a)) d) (none_left (order (drop p a)) (order (take p a)) d)

-- there is no run there
none_run : (f : Arrangement) → order f ≡ [] → run f ≡ []
unfolding run order
none_run [] e = refl
none_run (zero ∷ f) e = refl
none_run (suc r ∷ f) e = absurd (let d : suc (length (order f)) ≡ 0 = ap length e in omega arith)

-- nobody is pushed
push_vacant : (a : Arrangement) (p : ℕ) → order a ≡ [] → push a p ≡ []
unfolding push shove
push_vacant a p e = ap (λ (rs : List ℕ). map (λ v. in_ring (length a) p v) (shove 0 rs)) (none_run (frame p a) (none_frame a p e))

-- however often
turn_vacant : (n : ℕ) (a : Arrangement) (j named : ℕ) → order a ≡ [] → turn_for n a j named ≡ []
unfolding turn_for apply_all
turn_vacant zero a j named e = refl
turn_vacant (suc n) a j named e = go (entry_open a j named) refl (turn_vacant n a j named e)
  where
    go : (b : Bool) → entry_open a j named ≡ b → turn_for n a j named ≡ [] → turn_for (suc n) a j named ≡ []
    go true d ih = rw (d, turn_for)
    go false d ih = rw (d, turn_for) (ap (λ (ms : List Move). ms ++ turn_for n (apply_all a ms) j named) (push_vacant a (turn_place a j) e) ∙ ih)

-- a robot behind stands in the ring
behind_stands : (a : Arrangement) (j : ℕ) → j < length a → ring_behind a j ≢ 255 → seek (suc (ring_behind a j)) a < length a
unfolding ring_behind
behind_stands a j h n =
    let w = member→cell (opened j a) (ring_behind a j) (last_stands (opened j a) n) in
    let l : w.0 + 1 < length a = omega (arith, cell_inside (opened j a) w.0 (ring_behind a j) w.1, length_opened j a h) in
    let e : cell a (wrap (length a) (j + (w.0 + 1))) ≡ suc (ring_behind a j) = sym (opened_at j a w.0 h l) ∙ w.1 in
    (seek_ok (suc (ring_behind a j)) a (wrap (length a) (j + (w.0 + 1))) (cell_inside a _ (ring_behind a j) e) e).1

-- no robot is 255
pub no_255 : (s : State) (vs : List ℕ) (i : ℕ) → cell (arrangement_of s vs) i ≢ 256
no_255 s vs i e = go (dec_lt i (length vs))
  where
    go : Dec (i < length vs) → ⊥
    go (yes h) = never_256 (robot_on s (get_or vs i 0)) (sym (arrangement_at s vs i h) ∙ e)
    go (no h) = omega (arith, e, get_or-eq_default (arrangement_of s vs) 0 {n = i} (omega (arith, arrangement_length s vs)))

-- where nobody is behind an empty place, nobody stands in the ring
behind_nobody : (a : Arrangement) (j : ℕ) → j < length a → ((i : ℕ) → cell a i ≢ 256) → cell a j ≡ 0 → ring_behind a j ≡ 255 → order a ≡ []
unfolding ring_behind order
behind_nobody a j h n e b =
    frame_none a j (ap order (frame_opened j a h ∙ ap (λ (x : ℕ). x ∷ opened j a) e) ∙ last_none (opened j a) named b)
  where
    named : (i : ℕ) → cell (opened j a) i ≢ 256
    named i q =
        let l : i + 1 < length a = omega (arith, cell_inside (opened j a) i 255 q, length_opened j a h) in
        n (wrap (length a) (j + (i + 1))) (sym (opened_at j a i h l) ∙ q)

-- ---- the turns

-- no push is needed: none is made
pub turn_done : (n : ℕ) (a : Arrangement) (j named : ℕ) → j < length a → ((i : ℕ) → cell a i ≢ 256) → turn_at a j named ≡ length a → turn_for n a j named ≡ []
unfolding turn_for
turn_done zero a j named h m e = refl
turn_done (suc n) a j named h m e = go (entry_open a j named) refl
  where
    free : (b : ℕ) → cell a j ≡ b → entry_open a j named ≡ false → turn_for (suc n) a j named ≡ []
    free zero z d = behind (ℕ_discrete (ring_behind a j) 255)
      where
        behind : Dec (ring_behind a j ≡ 255) → turn_for (suc n) a j named ≡ []
        behind (yes q) = turn_vacant (suc n) a j named (behind_nobody a j h m z q)
        behind (no q) = absurd (omega (arith, behind_stands a j h q, sym e ∙ turn_shut a j named d ∙ (turn_free a j named z).1))
    free (suc r) z d = absurd (omega (arith, sym e ∙ turn_shut a j named d ∙ (turn_taken a j named r z).1))

    go : (b : Bool) → entry_open a j named ≡ b → turn_for (suc n) a j named ≡ []
    go true d = rw (d, turn_for)
    go false d = free (cell a j) refl d

-- a push is needed: it is made first
turn_more : (n k : ℕ) (a b : Arrangement) (j named p : ℕ) → n ≡ suc k → p ≡ turn_at a j named → p ≢ length a → b ≡ apply_all a (push a p)
    → turn_for n a j named ≡ push a p ++ turn_for k b j named
unfolding turn_for
turn_more n k a b j named p h e q d = go (entry_open a j named) refl
  where
    go : (t : Bool) → entry_open a j named ≡ t → turn_for n a j named ≡ push a p ++ turn_for k b j named
    go true f = absurd (q (e ∙ turn_open a j named f))
    go false f = let g : turn_place a j ≡ p = sym (e ∙ turn_shut a j named f) in rw (h, f, turn_for) (rw (d, g))

-- one push, then the rest
pub turn_step : (w u : World) (vs : List ℕ) (j named p n k : ℕ) → Listed (length w.state.robots) vs → p < length vs → n ≡ suc k
    → p ≡ turn_at (arrangement_of w.state vs) j named → u ≡ made_all w (across vs (push (arrangement_of w.state vs) p))
    → made_all u (across vs (turn_for k (arrangement_of u.state vs) j named))
    ≡ made_all w (across vs (turn_for n (arrangement_of w.state vs) j named))
unfolding arrangement_of
turn_step w u vs j named p n k M h z d e =
    made_both w u vs (push (arrangement_of w.state vs) p) (turn_for k (arrangement_of u.state vs) j named) e
    ∙ ap (λ (ms : List Move). made_all w (across vs ms))
    (sym (turn_more n k (arrangement_of w.state vs) (arrangement_of u.state vs) j named p z d (λ q. omega (arith, q, arrangement_length w.state vs))
    (arranged w u vs (push (arrangement_of w.state vs) p) M (inside_push w.state vs p h) e)))

-- no push is left
pub turn_over : (w : World) (vs : List ℕ) (a : Arrangement) (j named n : ℕ) → n ≡ 0 → w ≡ made_all w (across vs (turn_for n a j named))
unfolding turn_for
turn_over w vs a j named n e = made_none w (across vs (turn_for n a j named)) (ap (λ (k : ℕ). across vs (turn_for k a j named)) e ∙ across_nil vs)

-- no push is needed
pub turn_rest : (w : World) (s : State) (vs : List ℕ) (j named n : ℕ) → j < length vs → length vs ≡ turn_at (arrangement_of s vs) j named
    → w ≡ made_all w (across vs (turn_for n (arrangement_of s vs) j named))
turn_rest w s vs j named n h e =
    made_none w (across vs (turn_for n (arrangement_of s vs) j named))
    (ap (across vs) (turn_done n (arrangement_of s vs) j named (omega (arith, arrangement_length s vs)) (no_255 s vs)
    (sym e ∙ sym (arrangement_length s vs))) ∙ across_nil vs)

-- ---- where the push begins, as the code finds it

module _ (s : State) (vs : List ℕ) (j named : ℕ) where
  -- at the place itself, where it is taken
  pub begins_taken : (x : ℕ) → cell_of x ≡ cell (arrangement_of s vs) j → x ≢ 255 → j ≡ turn_at (arrangement_of s vs) j named
  begins_taken x e n =
      let t = turn_taken (arrangement_of s vs) j named x (sym e ∙ cell_of_lem n) in
      sym (turn_shut (arrangement_of s vs) j named t.0 ∙ t.1)

  -- nowhere, where it is empty and the named robot behind it
  pub begins_nowhere : (x b : ℕ) → cell_of x ≡ cell (arrangement_of s vs) j → x ≡ 255 → b ≡ ring_behind (arrangement_of s vs) j → b ≡ named
      → length vs ≡ turn_at (arrangement_of s vs) j named
  begins_nowhere x b e n d q =
      let t = turn_free (arrangement_of s vs) j named (sym e ∙ cell_none n) in
      sym (turn_open (arrangement_of s vs) j named (t.0 ∙ eq-eqb _ _ (sym d ∙ q)) ∙ arrangement_length s vs)

  -- at the robot behind, where it is another one
  pub begins_behind : (x b : ℕ) → cell_of x ≡ cell (arrangement_of s vs) j → x ≡ 255 → b ≡ ring_behind (arrangement_of s vs) j → b ≢ named
      → seek (suc b) (arrangement_of s vs) ≡ turn_at (arrangement_of s vs) j named
  begins_behind x b e n d q =
      let t = turn_free (arrangement_of s vs) j named (sym e ∙ cell_none n) in
      ap (λ (y : ℕ). seek (suc y) (arrangement_of s vs)) d
      ∙ sym (turn_shut (arrangement_of s vs) j named (t.0 ∙ ne_eqb _ _ (λ z. q (d ∙ z))) ∙ t.1)

  -- nowhere, where nobody stands
  pub begins_never : (x : ℕ) → cell_of x ≡ cell (arrangement_of s vs) j → x ≡ 255 → ring_behind (arrangement_of s vs) j ≡ 255
      → turn_at (arrangement_of s vs) j named ≡ length vs
  begins_never x e n d = at (ℕ_discrete 255 named)
    where
      at : Dec (255 ≡ named) → turn_at (arrangement_of s vs) j named ≡ length vs
      at (yes q) = sym (begins_nowhere x 255 e n (sym d) q)
      at (no q) = sym (seek_nobody s vs 255 refl ∙ begins_behind x 255 e n (sym d) q)

-- ---- entering

-- size * size pushes at the most
pub turns_enter : (a : Arrangement) (j named n : ℕ) → n ≡ length a * length a → turn_for n a j named ≡ ring_enter a j named
unfolding ring_enter
turns_enter a j named n e = rw e
