-- A robot that has an empty place in front of it is pushed alone: it goes one place forward.
use Rattle.std.specs.Prelude.{◌≡◌, refl, ◌≢◌, Bool, true, false, ℕ, zero, suc, ◌+◌, ◌-◌, ◌<◌, List, [], ◌∷◌, map, length, get_or, set, eqb}
use Rattle.std.proofs.Common.{ap, ap₂, sym, ◌∙◌, ⊎_elim, true≢false, add-one, arith, not-suc-le-zero, length-set, ext_get_or, get_or-set_same, get_or-set_other, eq-eqb, ne_eqb, eqb-true}
use Rattle.std.proofs.Math.Decide.{ℕ_discrete, dec_lt}
use Rattle.std.proofs.lemmas.Bool.{eqb-false}
use Rattle.spec.specs.Arrangement.{Arrangement, Move, mv, cell, seek, apply_all, last_named}
use Rattle.spec.specs.Ring.{wrap, frame, in_ring, run, shove, push, opened, ring_behind, entry_open}
use Rattle.spec.specs.State.{State, cell_of, robot_on, arrangement_of, across_move, across}
use Rattle.theory.specs.Maps.Cells.{cell_of_lem, cell_none, cell_empty}
use Rattle.theory.specs.Zones.Ring.Opened.{length_opened}
use Rattle.motion.specs.World.{World, made, made_all, made_one}
use Rattle.motion.specs.Across.{across_cons, across_nil, across_move_lem, arrangement_length, arrangement_at}
use Rattle.cells.specs.Cells.{seek_same, seek_other}
use Rattle.motion.specs.Coupling.{Listed, arranged}
use Rattle.circle.specs.Places.{next_place, wrap_is, wrap_other, wrap_next, next_under}
use Rattle.circle.specs.Runs.{frame_at, frame_length, run_taken, run_free}
use Rattle.circle.specs.Pushes.{inside_push}
use Rattle.circle.specs.Reading.{seek_finds}
use Rattle.turns.specs.Entry.{opened_at}
use Rattle.turns.specs.Turns.{turn_at, turn_taken, turn_free, turn_open, turn_shut}

-- robot r gone from place p to place q
abbrev stepped : Arrangement → ℕ → ℕ → ℕ → Arrangement
stepped a r p q = set (set a p 0) q (suc r)

-- a push of a robot with an empty place in front of it is one move
pub push_alone : (a : Arrangement) (p r : ℕ) → p < length a → cell a p ≡ suc r → cell a (next_place (length a) p) ≡ 0
    → push a p ≡ mv r p (next_place (length a) p) ∷ []
unfolding push in_ring shove
push_alone a p r h e d =
    ap (λ (rs : List ℕ). map (λ v. in_ring (length a) p v) (shove 0 rs)) alone
    ∙ ap₂ (λ (x y : ℕ). mv r x y ∷ []) here there
  where
    two : 1 < length a
    two = more (ℕ_discrete (next_place (length a) p) p)
      where
        more : Dec (next_place (length a) p ≡ p) → 1 < length a
        more (yes q) = absurd (omega (arith, ap (cell a) q, e, d))
        more (no q) = omega (arith, q, next_under (length a) p h)

    here : wrap (length a) (p + 0) ≡ p
    here = ⊎_elim (λ w. omega arith) (λ w. omega arith) (wrap_is (length a) (p + 0))

    there : wrap (length a) (p + 1) ≡ next_place (length a) p
    there = ap (wrap (length a)) (add-one p)

    alone : run (frame p a) ≡ r ∷ []
    alone =
        run_taken (frame p a) 0 r (omega (arith, frame_length a p h)) (frame_at a p 0 h (omega arith) ∙ ap (cell a) here ∙ e)
        ∙ ap (λ (rs : List ℕ). r ∷ rs) (run_free (frame p a) 1 (omega (arith, two, frame_length a p h)) (frame_at a p 1 h two ∙ ap (cell a) there ∙ d))

-- the robot on place p has an empty place in front of it
pub record Alone (a : Arrangement) (p : ℕ) : Type 0 where
  pub taken : cell a p ≢ 0
  pub front : cell a (next_place (length a) p) ≡ 0

-- its one move is its push
pub step_made : (w u : World) (s : State) (vs : List ℕ) (p r v t : ℕ) → p < length vs → Alone (arrangement_of s vs) p → v ≡ get_or vs p 0
    → t ≡ get_or vs (next_place (length vs) p) 0 → r ≡ robot_on s v → u ≡ made w (mv r v t) → u ≡ made_all w (across vs (push (arrangement_of s vs) p))
step_made w u s vs p r v t h A ev et er e =
    e ∙ ap (made w) (across_move_lem vs r r p (next_place (length a) p) v t refl ev (et ∙ ap (λ (m : ℕ). get_or vs (next_place m p) 0) (sym long)))
    ∙ made_one w (across_move vs (mv r p (next_place (length a) p)))
    ∙ ap (made_all w) (ap (λ (ms : List Move). across_move vs (mv r p (next_place (length a) p)) ∷ ms) (sym (across_nil vs)) ∙ sym (across_cons vs (mv r p (next_place (length a) p)) []))
    ∙ ap (λ (ms : List Move). made_all w (across vs ms)) (sym (push_alone a p r (omega (arith, long)) there A.front))
  where
    a : Arrangement
    a = arrangement_of s vs

    long : length a ≡ length vs
    long = arrangement_length s vs

    who : cell a p ≡ cell_of r
    who = arrangement_at s vs p h ∙ ap cell_of (sym (er ∙ ap (robot_on s) ev))

    there : cell a p ≡ suc r
    there = who ∙ cell_of_lem (λ q. A.taken (who ∙ cell_none q))

-- ---- who is behind a place, after a step elsewhere

-- the last robot stays the last when a robot goes one place on
last_on : (f : Arrangement) (u r : ℕ) → cell f u ≡ suc r → cell f (suc u) ≡ 0 → suc u < length f → last_named (stepped f r u (suc u)) ≡ last_named f
unfolding last_named
last_on [] u r e d h = absurd (not-suc-le-zero h)
last_on (x ∷ []) zero r e d h = absurd (omega arith)
last_on (x ∷ y ∷ f) zero r e d h = sym (ap₂ (λ (v w : ℕ). last_named (v ∷ w ∷ f)) e d)
last_on (zero ∷ f) (suc u) r e d h = last_on f u r e d (omega arith)
last_on (suc s ∷ f) (suc u) r e d h = ap (λ (q : ℕ). elim (eqb q 255) as (λ b. ℕ) [ true ↦ s | false ↦ q ]) (last_on f u r e d (omega arith))

-- a place but j is one of the opened ring
opened_place : (m j p : ℕ) → j < m → p < m → p ≢ j → (u : ℕ) × (u + 1 < m) × (p ≡ wrap m (j + (u + 1)))
opened_place m j p h l n = go (dec_lt j p)
  where
    go : Dec (j < p) → (u : ℕ) × (u + 1 < m) × (p ≡ wrap m (j + (u + 1)))
    go (yes q) = (p - j - 1, omega arith, ⊎_elim (λ w. omega arith) (λ w. omega arith) (wrap_is m (j + (p - j - 1 + 1))))
    go (no q) = (m - j + p - 1, omega (arith, n), ⊎_elim (λ w. omega (arith, n)) (λ w. omega (arith, n)) (wrap_is m (j + (m - j + p - 1 + 1))))

-- what is put on a place of the ring is put on that place of the opened ring
opened_put : (a : Arrangement) (j u x i : ℕ) → j < length a → u + 1 < length a → i ≡ wrap (length a) (j + (u + 1)) → opened j (set a i x) ≡ set (opened j a) u x
opened_put a j u x i h l e =
    ext_get_or 0 (opened j (set a i x)) (set (opened j a) u x) (omega (arith, size, length_opened j a h, length-set (opened j a) u x))
    (λ k q. at k (omega (arith, size)) (ℕ_discrete k u))
  where
    long : length (set a i x) ≡ length a
    long = length-set a i x

    size : suc (length (opened j (set a i x))) ≡ length a
    size = length_opened j (set a i x) (omega (arith, long)) ∙ long

    inside : i < length a
    inside = ⊎_elim (λ w. omega arith) (λ w. omega arith) (wrap_is (length a) (j + (u + 1)))

    read : (k : ℕ) → k + 1 < length a → cell (opened j (set a i x)) k ≡ cell (set a i x) (wrap (length a) (j + (k + 1)))
    read k q =
        opened_at j (set a i x) k (omega (arith, long)) (omega (arith, long))
        ∙ ap (λ (n : ℕ). cell (set a i x) (wrap n (j + (k + 1)))) long

    away : (k : ℕ) → k + 1 < length a → k ≢ u → wrap (length a) (j + (k + 1)) ≢ i
    away k q n z = go (dec_lt k u)
      where
        go : Dec (k < u) → ⊥
        go (yes b) = wrap_other (length a) j (k + 1) (u + 1) h (omega arith) (omega arith) (omega arith) (z ∙ e)
        go (no b) = wrap_other (length a) j (u + 1) (k + 1) h (omega arith) (omega (arith, n)) (omega arith) (sym (z ∙ e))

    at : (k : ℕ) → k + 1 < length a → Dec (k ≡ u) → cell (opened j (set a i x)) k ≡ cell (set (opened j a) u x) k
    at k q (yes d) =
        read k q ∙ ap (cell (set a i x)) (ap (λ (n : ℕ). wrap (length a) (j + (n + 1))) d ∙ sym e) ∙ get_or-set_same a i x 0 inside
        ∙ sym (ap (cell (set (opened j a) u x)) d ∙ get_or-set_same (opened j a) u x 0 (omega (arith, length_opened j a h)))
    at k q (no d) =
        read k q ∙ get_or-set_other a i (wrap (length a) (j + (k + 1))) x 0 (away k q d) ∙ sym (opened_at j a k h q)
        ∙ sym (get_or-set_other (opened j a) u k x 0 d)

-- the robot behind place j stays behind it when a robot goes one place on, neither from j nor to j
behind_on : (a : Arrangement) (j p r : ℕ) → j < length a → p < length a → p ≢ j → next_place (length a) p ≢ j → cell a p ≡ suc r → cell a (next_place (length a) p) ≡ 0
    → ring_behind (stepped a r p (next_place (length a) p)) j ≡ ring_behind a j
unfolding ring_behind
behind_on a j p r h l n o e d = ap last_named both ∙ last_on (opened j a) u r there front (omega (arith, length_opened j a h, far))
  where
    m : ℕ
    m = length a

    q : ℕ
    q = next_place m p

    found : (u : ℕ) × (u + 1 < m) × (p ≡ wrap m (j + (u + 1)))
    found = opened_place m j p h l n

    u : ℕ
    u = found.0

    after : q ≡ wrap m (j + (suc u + 1))
    after = ap (next_place m) found.2 ∙ wrap_next m j (u + 1) h found.1 ∙ ap (λ (i : ℕ). wrap m (j + i)) (omega arith)

    far : suc u + 1 < m
    far = pick (ℕ_discrete (suc u + 1) m)
      where
        pick : Dec (suc u + 1 ≡ m) → suc u + 1 < m
        pick (yes z) = absurd (o (after ∙ ⊎_elim (λ w. omega arith) (λ w. omega arith) (wrap_is m (j + (suc u + 1)))))
        pick (no z) = omega (arith, z, found.1)

    there : cell (opened j a) u ≡ suc r
    there = opened_at j a u h found.1 ∙ ap (cell a) (sym found.2) ∙ e

    front : cell (opened j a) (suc u) ≡ 0
    front = opened_at j a (suc u) h far ∙ ap (cell a) (sym after) ∙ d

    long : length (set a p 0) ≡ m
    long = length-set a p 0

    both : opened j (stepped a r p q) ≡ stepped (opened j a) r u (suc u)
    both =
        opened_put (set a p 0) j (suc u) (suc r) q (omega (arith, long)) (omega (arith, long, far)) (after ∙ ap (λ (i : ℕ). wrap i (j + (suc u + 1))) (sym long))
        ∙ ap (λ (f : Arrangement). set f (suc u) (suc r)) (opened_put a j u 0 p h found.1 found.2)

-- ---- where a robot is found, after its step

-- what is put on the first place is found there
seek_put : (x : ℕ) (a : Arrangement) → 0 < length a → seek x (set a 0 x) ≡ 0
seek_put x [] h = absurd (not-suc-le-zero h)
seek_put x (y ∷ a) h = seek_same x x a refl

-- what goes one place on from where it is found first is found first there
seek_on : (x : ℕ) (a : Arrangement) (p : ℕ) → x ≢ 0 → p ≡ seek x a → suc p < length a → seek x (set (set a p 0) (suc p) x) ≡ suc p
seek_on x [] p n e h = absurd (not-suc-le-zero h)
seek_on x (y ∷ a) zero n e h = seek_other x 0 (set a 0 x) n ∙ ap suc (seek_put x a (omega arith))
seek_on x (y ∷ a) (suc p) n e h = at (ℕ_discrete x y) (λ i. seek_on x a p n i (omega arith))
  where
    at : Dec (x ≡ y) → (p ≡ seek x a → seek x (set (set a p 0) (suc p) x) ≡ suc p) → seek x (set (set (y ∷ a) (suc p) 0) (suc (suc p)) x) ≡ suc (suc p)
    at (yes q) f = absurd (omega (arith, e, seek_same x y a q))
    at (no q) f = seek_other x y (set (set a p 0) (suc p) x) q ∙ ap suc (f (omega (arith, e, seek_other x y a q)))

-- a robot that goes one place on is found there
seek_step : (a : Arrangement) (p r : ℕ) → p < length a → p ≡ seek (suc r) a → seek (suc r) (stepped a r p (next_place (length a) p)) ≡ next_place (length a) p
seek_step a p r h e =
    ⊎_elim
    (λ w. ap (λ (q : ℕ). seek (suc r) (stepped a r p q)) w.1 ∙ seek_on (suc r) a p (λ z. omega arith) e w.0 ∙ sym w.1)
    (λ w.
    let z : next_place (length a) p ≡ 0 = omega arith in
    ap (λ (q : ℕ). seek (suc r) (stepped a r p q)) z ∙ seek_put (suc r) (set a p 0) (omega (arith, length-set a p 0)) ∙ sym z)
    (wrap_is (length a) (suc p))

-- ---- the next push of entering

-- where a push of entering begins elsewhere than on place j, that place is empty and the robot behind it stands where the push begins
pub record Follows (a : Arrangement) (j named p : ℕ) : Type 0 where
  pub free : cell a j ≡ 0
  pub other : ring_behind a j ≢ named
  pub place : p ≡ seek (suc (ring_behind a j)) a
  pub stands : cell a p ≡ suc (ring_behind a j)

pub follows : (a : Arrangement) (j named p : ℕ) → p < length a → p ≢ j → p ≡ turn_at a j named → Follows a j named p
follows a j named p l n e = free (cell a j) refl
  where
    free : (c : ℕ) → cell a j ≡ c → Follows a j named p
    free (suc r) z = let t = turn_taken a j named r z in absurd (n (e ∙ turn_shut a j named t.0 ∙ t.1))
    free zero z = go (entry_open a j named) refl
      where
        go : (b : Bool) → entry_open a j named ≡ b → Follows a j named p
        go true d = absurd (omega (arith, l, e ∙ turn_open a j named d))
        go false d =
            let t = turn_free a j named z in
            let s : p ≡ seek (suc (ring_behind a j)) a = e ∙ turn_shut a j named d ∙ t.1 in
            record {
              free = z;
              other = eqb-false _ _ (sym t.0 ∙ d);
              place = s;
              stands = ap (cell a) s ∙ seek_finds (suc (ring_behind a j)) a (omega (arith, l, s));
            }

-- a robot pushed alone elsewhere than from place j: the next push begins where it went
turn_on : (a : Arrangement) (j named p : ℕ) → j < length a → p < length a → p ≢ j → p ≡ turn_at a j named → cell a (next_place (length a) p) ≡ 0
    → next_place (length a) p ≡ turn_at (apply_all a (push a p)) j named
unfolding apply_all
turn_on a j named p h l n e d =
    next (ℕ_discrete q j) ∙ ap (λ (ms : List Move). turn_at (apply_all a ms) j named) (sym (push_alone a p b l F.stands d))
  where
    F : Follows a j named p
    F = follows a j named p l n e

    b : ℕ
    b = ring_behind a j

    q : ℕ
    q = next_place (length a) p

    long : length (set a p 0) ≡ length a
    long = length-set a p 0

    next : Dec (q ≡ j) → q ≡ turn_at (stepped a b p q) j named
    next (yes z) =
        let c : cell (stepped a b p q) j ≡ suc b = ap (cell (stepped a b p q)) (sym z) ∙ get_or-set_same (set a p 0) q (suc b) 0 (omega (arith, long, next_under (length a) p l)) in
        let t = turn_taken (stepped a b p q) j named b c in
        z ∙ sym (turn_shut (stepped a b p q) j named t.0 ∙ t.1)
    next (no z) =
        let c : cell (stepped a b p q) j ≡ 0 = get_or-set_other (set a p 0) q j (suc b) 0 (λ y. z (sym y)) ∙ get_or-set_other a p j 0 0 (λ y. n (sym y)) ∙ F.free in
        let t = turn_free (stepped a b p q) j named c in
        let k : ring_behind (stepped a b p q) j ≡ b = behind_on a j p b h l n z F.stands d in
        sym
        (turn_shut (stepped a b p q) j named (t.0 ∙ ne_eqb _ _ (λ y. F.other (sym k ∙ y))) ∙ t.1
        ∙ ap (λ (y : ℕ). seek (suc y) (stepped a b p q)) k ∙ seek_step a p b l F.place)

-- is a push from place p, not place j, that of a robot alone
unfoldable pub goes_on : Arrangement → ℕ → ℕ → Bool
goes_on a j p = elim (eqb p j) [ true ↦ false | false ↦ eqb (cell a (next_place (length a) p)) 0 ]

-- not from place j
pub goes_not : (a : Arrangement) (j p : ℕ) → p ≡ j → false ≡ goes_on a j p
unfolding goes_on
goes_not a j p e = sym (ap (λ (b : Bool). elim b as (λ b. Bool) [ true ↦ false | false ↦ eqb (cell a (next_place (length a) p)) 0 ]) (eq-eqb p j e))

-- else where nobody stands on the place after it
goes_front : (a : Arrangement) (j p : ℕ) → p ≢ j → goes_on a j p ≡ eqb (cell a (next_place (length a) p)) 0
unfolding goes_on
goes_front a j p n = ap (λ (b : Bool). elim b as (λ b. Bool) [ true ↦ false | false ↦ eqb (cell a (next_place (length a) p)) 0 ]) (ne_eqb p j n)

-- nobody is the robot 255
pub goes_on_lem : (s : State) (vs : List ℕ) (j p x : ℕ) → p ≢ j → cell_of x ≡ cell (arrangement_of s vs) (next_place (length vs) p) → eqb x 255 ≡ goes_on (arrangement_of s vs) j p
goes_on_lem s vs j p x n e =
    nobody (ℕ_discrete x 255)
    ∙ ap (λ (y : ℕ). eqb y 0) (e ∙ ap (λ (m : ℕ). cell (arrangement_of s vs) (next_place m p)) (sym (arrangement_length s vs)))
    ∙ sym (goes_front (arrangement_of s vs) j p n)
  where
    nobody : Dec (x ≡ 255) → eqb x 255 ≡ eqb (cell_of x) 0
    nobody (yes q) = eq-eqb _ _ q ∙ sym (eq-eqb _ _ (cell_none q))
    nobody (no q) = ne_eqb _ _ q ∙ sym (ne_eqb _ _ (λ z. q (cell_empty x z)))

module _ (a : Arrangement) (j named p : ℕ) (l : p < length a) (e : p ≡ turn_at a j named) (g : goes_on a j p ≡ true) where
  -- it is not from place j
  away : p ≢ j
  away z = true≢false (sym g ∙ sym (goes_not a j p z))

  -- a robot that goes on is alone
  pub goes_alone : Alone a p
  goes_alone =
      record {
        taken = λ z. omega (arith, z, (follows a j named p l away e).stands);
        front = eqb-true _ _ (sym (goes_front a j p away) ∙ g);
      }

  -- the next push begins where it went
  pub goes_next : j < length a → next_place (length a) p ≡ turn_at (apply_all a (push a p)) j named
  goes_next h = turn_on a j named p h l away e goes_alone.front

-- the same for the robots of a ring
pub turn_next : (w u : World) (vs : List ℕ) (j named p q : ℕ) → Listed (length w.state.robots) vs → j < length vs → p < length vs
    → p ≡ turn_at (arrangement_of w.state vs) j named → goes_on (arrangement_of w.state vs) j p ≡ true
    → q ≡ next_place (length vs) p → u ≡ made_all w (across vs (push (arrangement_of w.state vs) p))
    → q ≡ turn_at (arrangement_of u.state vs) j named
unfolding arrangement_of
turn_next w u vs j named p q L h l e g d k =
    let s : State = w.state in
    d ∙ ap (λ (m : ℕ). next_place m p) (sym (arrangement_length s vs))
    ∙ goes_next (arrangement_of s vs) j named p (omega (arith, arrangement_length s vs)) e g (omega (arith, arrangement_length s vs))
    ∙ ap (λ (a : Arrangement). turn_at a j named) (sym (arranged w u vs (push (arrangement_of s vs) p) L (inside_push s vs p l) k))
