-- One step of a plan as it is read: it is resolved exactly where every check passes.
use Rattle.std.specs.Prelude.{◌≡◌, refl, ◌≢◌, not, List, [], ◌∷◌, ◌++◌, ℕ, suc, ◌+◌, ◌-◌, ◌≤◌, ◌<◌, length, get_or, take, drop, T, eqb, ltb, leb}
use Rattle.std.proofs.Common.{sym, ap, ◌∙◌, add-zero, add-one, arith, length-drop, take-append-drop, length-append, drop-cons, drop-drop, length-take-le, drop_at, take_at, get_or-drop, leb→le, ltb→lt, eqb→eq, T_not, le→leb, lt→ltb}
use Rattle.std.proofs.Math.Dec.{not_T}
use Rattle.spec.specs.Outcome.{Outcome, ok, check, ◌and◌, ◌>>◌}
use Rattle.spec.specs.Layout.{Map, joined, zone_of, zone_at}
use Rattle.spec.specs.Arrangement.{Move, mv, full}
use Rattle.spec.specs.ZoneKind.{can_leave, leave, can_enter, enter}
use Rattle.spec.specs.State.{State, moved_all, across, Step}
use Rattle.spec.specs.Run.{Ran, step_at}
use Rattle.spec.specs.Terms.{arrangement_in, kind_of, place_of}
use Rattle.theory.specs.Basics.Tests.{eq→eqb, and_both, and_left, and_right}
use Rattle.theory.specs.Basics.Outcomes.{ok_injective, pass, passed}
use Rattle.theory.specs.Zones.Crossing.{extra_of}

-- how long the follow list of a step to vertex v is
abbrev pub extra_at : Map → State → ℕ → ℕ
extra_at m s v = extra_of (kind_of m (zone_of m v)) (arrangement_in m s (zone_of m v))

-- every check of the step passes
pub record Taken (m : Map) (k : ℕ) (s : State) (r u v behind : ℕ) (list : List ℕ) : Type 0 where
  pub robot : r < k
  pub from : u < m.size
  pub to : v < m.size
  pub near : T (joined m u v)
  pub apart : zone_of m u ≢ zone_of m v
  pub leaves : T (can_leave (kind_of m (zone_of m u)) (arrangement_in m s (zone_of m u)) r (place_of m u))
  pub room : T (not (full (arrangement_in m s (zone_of m v))))
  pub listed : length list ≡ extra_at m s v
  pub enters : T (can_enter (kind_of m (zone_of m v)) (arrangement_in m s (zone_of m v)) r (place_of m v) behind list)

-- the moves in the zone that is left
abbrev pub leaving : Map → State → ℕ → ℕ → List Move
leaving m s r u = across (zone_at m (zone_of m u)).vertices (leave (kind_of m (zone_of m u)) (arrangement_in m s (zone_of m u)) r (place_of m u))

-- the moves in the zone that is entered
abbrev pub entering : Map → State → ℕ → ℕ → List ℕ → List Move
entering m s v behind list = across (zone_at m (zone_of m v)).vertices (enter (kind_of m (zone_of m v)) (arrangement_in m s (zone_of m v)) (place_of m v) behind list)

-- the moves of a step
abbrev pub moves_of : Map → State → ℕ → ℕ → ℕ → ℕ → List ℕ → List Move
moves_of m s r u v behind list = leaving m s r u ++ entering m s v behind list ++ (mv r u v ∷ [])

-- a step that is read and passes, with its bytes and its moves
pub record TakenAt (m : Map) (k : ℕ) (p : List ℕ) (o : ℕ) (s : State) (ran : Ran) : Type 0 where
  pub r : ℕ
  pub u : ℕ
  pub v : ℕ
  pub behind : ℕ
  pub list : List ℕ
  pub taken : Taken m k s r u v behind list
  pub bytes : drop o p ≡ (r ∷ u ∷ v ∷ behind ∷ list) ++ drop ran.next p
  pub moves : ran.moves ≡ moves_of m s r u v behind list
  pub state : ran.state ≡ moved_all s ran.moves

-- four bytes, those of the list, and the rest
drop_four : (p : List ℕ) (o e : ℕ) → o + 4 + e ≤ length p
    → drop o p ≡ (get_or p o 0 ∷ get_or p (o + 1) 0 ∷ get_or p (o + 2) 0 ∷ get_or p (o + 3) 0 ∷ take e (drop (o + 4) p)) ++ drop (o + 4 + e) p
drop_four p o e h =
    step o (omega arith) ∙ ap (λ t. get_or p o 0 ∷ t) (step (o + 1) (omega arith) ∙ ap (λ t. get_or p (o + 1) 0 ∷ t) (rw (one 1 2) (step (o + 2) (omega arith)
    ∙ ap (λ t. get_or p (o + 2) 0 ∷ t) (rw (one 2 3) (step (o + 3) (omega arith) ∙ ap (λ t. get_or p (o + 3) 0 ∷ t) (rw (one 3 4)
    (sym (take-append-drop e (drop (o + 4) p)) ∙ ap (λ t. take e (drop (o + 4) p) ++ t) (drop-drop e (o + 4) p))))))))
  where
    step : (o : ℕ) → o < length p → drop o p ≡ get_or p o 0 ∷ drop (o + 1) p
    step o h = rw (add-one o) (drop-cons p o 0 h)

    one : (a b : ℕ) → o + a + 1 ≡ o + (a + 1)
    one a b = omega arith

-- stepAt's body, for the four bytes and what follows them
step_on : Map → ℕ → ℕ → ℕ → State → ℕ → ℕ → ℕ → ℕ → ℕ → List ℕ → Outcome Ran
step_on m k i o s len r u v behind tail = do
  check (leb (o + 4) len) 35 i
  check (ltb r k and ltb u m.size and ltb v m.size) 36 i
  check (joined m u v and not (eqb (zone_of m u) (zone_of m v))) 37 i
  check (can_leave (kind_of m (zone_of m u)) (arrangement_in m s (zone_of m u)) r (place_of m u)) 38 i
  check (not (full (arrangement_in m s (zone_of m v)))) 39 i
  check (leb (o + 4 + extra_at m s v) len) 35 i
  check (can_enter (kind_of m (zone_of m v)) (arrangement_in m s (zone_of m v)) r (place_of m v) behind (take (extra_at m s v) tail)) 39 i
  ok (record {
    state = moved_all s (moves_of m s r u v behind (take (extra_at m s v) tail));
    moves = moves_of m s r u v behind (take (extra_at m s v) tail);
    next = o + 4 + extra_at m s v;
  })

-- stepAt is its body
step_on_lem : (m : Map) (k : ℕ) (p : List ℕ) (i o : ℕ) (s : State)
    → step_at m k p i o s ≡ step_on m k i o s (length p) (get_or p o 0) (get_or p (o + 1) 0) (get_or p (o + 2) 0) (get_or p (o + 3) 0) (drop (o + 4) p)
unfolding step_at step_on
step_on_lem m k p i o s = refl

-- what a step gives
abbrev pub ran_of : Map → State → ℕ → ℕ → ℕ → ℕ → ℕ → List ℕ → Ran
ran_of m s o r u v behind list = record { state = moved_all s (moves_of m s r u v behind list); moves = moves_of m s r u v behind list; next = o + 4 + length list }

-- what a step that goes through the body says
record On (m : Map) (k o : ℕ) (s : State) (len r u v behind : ℕ) (tail : List ℕ) (ran : Ran) : Type 0 where
  pub long : o + 4 + extra_at m s v ≤ len
  pub taken : length (take (extra_at m s v) tail) ≡ extra_at m s v → Taken m k s r u v behind (take (extra_at m s v) tail)
  pub moves : ran.moves ≡ moves_of m s r u v behind (take (extra_at m s v) tail)
  pub state : ran.state ≡ moved_all s ran.moves
  pub next : ran.next ≡ o + 4 + extra_at m s v

-- it passes every check
taken_on : (m : Map) (k i o : ℕ) (s : State) (len r u v behind : ℕ) (tail : List ℕ) (ran : Ran) → step_on m k i o s len r u v behind tail ≡ ok ran → On m k o s len r u v behind tail ran
unfolding step_on
taken_on m k i o s len r u v behind tail ran e =
    let a = passed _ _ _ _ _ e in
    let b = passed _ _ _ _ _ a.1 in
    let c = passed _ _ _ _ _ b.1 in
    let d = passed _ _ _ _ _ c.1 in
    let f = passed _ _ _ _ _ d.1 in
    let h = passed _ _ _ _ _ f.1 in
    let j = passed _ _ _ _ _ h.1 in
    let is = ok_injective j.1 in
    record {
      long = leb→le _ _ h.0;
      taken = λ l. record {
        robot = ltb→lt _ _ (and_left _ _ b.0);
        from = ltb→lt _ _ (and_left _ _ (and_right _ _ b.0));
        to = ltb→lt _ _ (and_right _ _ (and_right _ _ b.0));
        near = and_left _ _ c.0;
        apart = λ q. T_not (eqb (zone_of m u) (zone_of m v)) (and_right _ _ c.0) (eq→eqb _ _ q);
        leaves = d.0;
        room = f.0;
        listed = l;
        enters = j.0;
      };
      moves = ap (λ (q : Ran). q.moves) (sym is);
      state = ap (λ (q : Ran). q.state) (sym is) ∙ ap (λ (q : Ran). moved_all s q.moves) is;
      next = ap (λ (q : Ran). q.next) (sym is);
    }

-- a step that is resolved passes every check
pub taken_at : (m : Map) (k : ℕ) (p : List ℕ) (i o : ℕ) (s : State) (ran : Ran) → step_at m k p i o s ≡ ok ran → TakenAt m k p o s ran
taken_at m k p i o s ran e =
    let v = get_or p (o + 2) 0 in
    let t = taken_on m k i o s (length p) (get_or p o 0) (get_or p (o + 1) 0) v (get_or p (o + 3) 0) (drop (o + 4) p) ran (sym (step_on_lem m k p i o s) ∙ e) in
    let l : extra_at m s v ≤ length (drop (o + 4) p) = omega (arith, length-drop (o + 4) p, t.long) in
    record {
      r = get_or p o 0;
      u = get_or p (o + 1) 0;
      v = v;
      behind = get_or p (o + 3) 0;
      list = take (extra_at m s v) (drop (o + 4) p);
      taken = t.taken (length-take-le (extra_at m s v) (drop (o + 4) p) l);
      bytes = rw t.next (drop_four p o (extra_at m s v) t.long);
      moves = t.moves;
      state = t.state;
    }

-- a step that passes every check goes through the body
takes_on : (m : Map) (k i o : ℕ) (s : State) (len r u v behind : ℕ) (list tail : List ℕ) → Taken m k s r u v behind list → o + 4 + length list ≤ len
    → take (length list) tail ≡ list → step_on m k i o s len r u v behind tail ≡ ok (ran_of m s o r u v behind list)
unfolding step_on
takes_on m k i o s len r u v behind list tail t h e =
    let four : o + 4 ≤ len = omega arith in
    rw (← t.listed, e)
    (pass _ _ _ _ (le→leb _ _ four)
    ∙ pass _ _ _ _ (and_both _ _ (lt→ltb _ _ t.robot) (and_both _ _ (lt→ltb _ _ t.from) (lt→ltb _ _ t.to)))
    ∙ pass _ _ _ _ (and_both _ _ t.near (not_T (eqb (zone_of m u) (zone_of m v)) (λ q. t.apart (eqb→eq _ _ q))))
    ∙ pass _ _ _ _ t.leaves ∙ pass _ _ _ _ t.room ∙ pass _ _ _ _ (le→leb _ _ h) ∙ pass _ _ _ _ t.enters)

-- a step that passes every check is resolved
pub takes_at : (m : Map) (k : ℕ) (p : List ℕ) (i o : ℕ) (s : State) (r u v behind : ℕ) (list rest : List ℕ) → Taken m k s r u v behind list
    → drop o p ≡ (r ∷ u ∷ v ∷ behind ∷ list) ++ rest → (step_at m k p i o s ≡ ok (ran_of m s o r u v behind list)) × (drop (o + 4 + length list) p ≡ rest)
takes_at m k p i o s r u v behind list rest t e = (
  step_on_lem m k p i o s ∙ rw (zero_at, byte 1, byte 2, byte 3) (takes_on m k i o s (length p) r u v behind list (drop (o + 4) p) t long (rw follow (take_at list rest (length list) refl))),
  sym (drop-drop (length list) (o + 4) p) ∙ rw follow (drop_at list rest (length list) refl),
)
  where
    byte : (n : ℕ) → get_or p (o + n) 0 ≡ get_or ((r ∷ u ∷ v ∷ behind ∷ list) ++ rest) n 0
    byte n = sym (get_or-drop o p n 0) ∙ ap (λ l. get_or l n 0) e

    zero_at : get_or p o 0 ≡ r
    zero_at = rw (add-zero o) at (byte 0)

    follow : drop (o + 4) p ≡ list ++ rest
    follow = sym (drop-drop 4 o p) ∙ ap (drop 4) e

    long : o + 4 + length list ≤ length p
    long = let q : length p - o ≡ suc (suc (suc (suc (length list + length rest)))) = sym (length-drop o p) ∙ ap length e ∙ rw (length-append list rest) in omega arith

-- a step of these parts
abbrev pub step_with : ℕ → ℕ → ℕ → ℕ → List ℕ → Step
step_with r u v behind list = record { robot = r; from = u; to = v; behind = behind; list = list }
