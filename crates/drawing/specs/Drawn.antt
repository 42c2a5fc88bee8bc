-- How far the drawing of a plan has come: the steps of the moves that passed are laid, what is left laid from here is the whole.
use Rattle.std.specs.Prelude.{◌≡◌, refl, ℕ, ◌+◌, ◌-◌, ◌≤◌, ◌<◌, Bool, true, false, get_or, drop, eqb}
use Rattle.std.proofs.Math.Path.{sym}
use Rattle.std.proofs.Common.{ap, ap₂, ◌∙◌, length-take, eq-eqb, ne_eqb}
use native.Mathlib.Omega.{arith}
use Rattle.std.proofs.Math.Decide.{ℕ_discrete}
use mathlib.Core.List.{List, ◌∷◌}
use Rattle.std.proofs.Math.ListN.{length, length-append}
use Rattle.spec.specs.Outcome.{◌and◌, index_of}
use Rattle.spec.specs.Layout.{Map, Zone, zone_of, zone_at}
use Rattle.spec.specs.Arrangement.{Move, mv, last_free}
use Rattle.spec.specs.ZoneKind.{behind_of}
use Rattle.spec.specs.State.{State, Step, moved, arrangement_of, step_of, drawn_steps, step_bytes}
use Rattle.spec.specs.Terms.{Stands}
use Rattle.theory.specs.Maps.Layout.{Accepted}
use Rattle.layout.specs.declared.MapTables.{MapTables}
use Rattle.layout.specs.Map.{MapHeld}
use Rattle.layout.specs.Lists.{HasPart, part_of}
use Rattle.writer.specs.Laid.{laid_all, laid_append}
use Rattle.drawing.specs.declared.Drawn.{Drawn}
use Rattle.noting.specs.Follow.{followed, step_from}
use Rattle.noting.proofs.Follow.{follow_length}
use Rattle.replay.specs.Moves.{move_by, moves_by, moves_next, moves_done}

-- the bytes of one step
abbrev pub one_step : Step → List ℕ
one_step x = x.robot ∷ x.from ∷ x.to ∷ x.behind ∷ x.list

-- the steps that the moves from move i on draw in state s
abbrev pub left : Map → (ℕ → ℕ) → ℕ → ℕ → State → List Step
left m byte n i s = drawn_steps m s (moves_by byte i (n - i))

-- a move inside a zone draws no step
left_inside : (m : Map) (byte : ℕ → ℕ) (n i : ℕ) (s : State) → i < n → zone_of m (move_by byte i).from ≡ zone_of m (move_by byte i).to
    → left m byte n i s ≡ left m byte n (i + 1) (moved s (move_by byte i))
unfolding drawn_steps
left_inside m byte n i s h e = rw (moves_next byte i n h, eq-eqb (zone_of m (move_by byte i).from) (zone_of m (move_by byte i).to) e, drawn_steps)

-- a move between zones draws one
left_crossing : (m : Map) (byte : ℕ → ℕ) (n i : ℕ) (s : State) → i < n → (zone_of m (move_by byte i).from ≡ zone_of m (move_by byte i).to → ⊥)
    → left m byte n i s ≡ step_of m s (move_by byte i) ∷ left m byte n (i + 1) (moved s (move_by byte i))
unfolding drawn_steps
left_crossing m byte n i s h e = rw (moves_next byte i n h, ne_eqb (zone_of m (move_by byte i).from) (zone_of m (move_by byte i).to) e, drawn_steps)

-- the steps of n moves from state s₀ laid in o₀: i moves are done, in state s, and their steps end before payload offset off
pub record Drawing (m : Map) (byte : ℕ → ℕ) (n : ℕ) (s₀ : State) (o₀ : List ℕ) (i : ℕ) (s : State) (steps off : ℕ) (o : List ℕ) : Type 0 where
  pub count : steps + length (left m byte n i s) ≡ length (left m byte n 0 s₀)
  pub size : off + length (step_bytes (left m byte n i s)) ≡ 2 + length (step_bytes (left m byte n 0 s₀))
  pub buffer : laid_all o off (step_bytes (left m byte n i s)) ≡ laid_all o₀ 2 (step_bytes (left m byte n 0 s₀))

module _ (m : Map) (byte : ℕ → ℕ) (n : ℕ) (s₀ : State) (o₀ : List ℕ) where
  module _ (i : ℕ) (s : State) (steps off : ℕ) (o : List ℕ) (d : Drawing m byte n s₀ o₀ i s steps off o) (h : i < n) where
    -- a move inside a zone
    pub drawing_inside : (x : Move) → x ≡ move_by byte i → zone_of m x.from ≡ zone_of m x.to → Drawing m byte n s₀ o₀ (i + 1) (moved s x) steps off o
    drawing_inside x ex e =
        let l = left_inside m byte n i s h (rw ex at e) in
        rw ex (record { count = rw (← l) d.count; size = rw (← l) d.size; buffer = rw (← l) d.buffer })

    -- a move between zones, whose step is laid
    pub drawing_crossing : (x : Move) (t : State) (off' : ℕ) (o' : List ℕ) → x ≡ move_by byte i → t ≡ moved s x → (zone_of m x.from ≡ zone_of m x.to → ⊥)
        → o' ≡ laid_all o off (one_step (step_of m s x)) → off' ≡ off + length (one_step (step_of m s x)) → Drawing m byte n s₀ o₀ (i + 1) t (steps + 1) off' o'
    unfolding step_bytes
    drawing_crossing x t off' o' ex et e eo ef =
        let l = left_crossing m byte n i s h (λ q. e (rw ex q)) in
        let st : Step = step_of m s (move_by byte i) in
        let rest : List Step = left m byte n (i + 1) (moved s (move_by byte i)) in
        let ln : length (step_bytes (st ∷ rest)) ≡ length (one_step st) + length (step_bytes rest) = length-append (one_step st) (step_bytes rest) in
        rw (et, eo, ef, ex) (record {
          count = let c = rw l at d.count in omega arith;
          size = let z = rw l at d.size in omega arith;
          buffer = sym (laid_append o off (one_step st) (step_bytes rest)) ∙ (rw l at d.buffer);
        })

  -- all moves are done
  pub drawing_end : (i : ℕ) (s : State) (steps off : ℕ) (o : List ℕ) → Drawing m byte n s₀ o₀ i s steps off o → n ≤ i
      → (steps ≡ length (left m byte n 0 s₀)) × (off ≡ 2 + length (step_bytes (left m byte n 0 s₀))) × (o ≡ laid_all o₀ 2 (step_bytes (left m byte n 0 s₀)))
  unfolding drawn_steps step_bytes
  drawing_end i s steps off o d h =
      let e = moves_done byte i n h in
      (let c = rw e at d.count in omega arith, let c = rw e at d.size in omega arith, rw e at d.buffer)

-- ---- one move

-- what a move does to the drawing: nothing inside a zone, else its step is laid
pub record MoveDrawn (m : Map) (s : State) (x : Move) (d : Drawn) (o : List ℕ) (q : Drawn) (o' : List ℕ) : Type 0 where
  pub inside : zone_of m x.from ≡ zone_of m x.to → (q.steps ≡ d.steps) × (q.bytes ≡ d.bytes) × (o' ≡ o)
  pub crossing : (zone_of m x.from ≡ zone_of m x.to → ⊥)
      → (q.steps ≡ d.steps + 1) × (q.bytes ≡ d.bytes + length (one_step (step_of m s x))) × (o' ≡ laid_all o d.bytes (one_step (step_of m s x)))

-- the bytes of a step into a zone
abbrev step_into : State → ℕ → ℕ → ℕ → Zone → List ℕ
step_into s r u v z =
    step_from s z.vertices (index_of v z.vertices) r u v (behind_of z.kind (arrangement_of s z.vertices) (index_of v z.vertices))
    (eqb z.kind 3 and last_free (arrangement_of s z.vertices))

step_into_lem : (m : Map) (s : State) (r u v : ℕ) → step_into s r u v (zone_at m (zone_of m v)) ≡ one_step (step_of m s (mv r u v))
unfolding step_from step_of followed
step_into_lem m s r u v = refl

-- the bytes that are laid are the step's
step_is : (m : Map) (s : State) (r u v kind j behind : ℕ) (vs : List ℕ) (filled : Bool) → zone_at m (zone_of m v) ≡ record { kind = kind; vertices = vs }
    → j ≡ index_of v vs → behind ≡ behind_of kind (arrangement_of s vs) j → filled ≡ (eqb kind 3 and last_free (arrangement_of s vs))
    → step_from s vs j r u v behind filled ≡ one_step (step_of m s (mv r u v))
step_is m s r u v kind j behind vs filled ez ej eb ef =
    ap₂ (λ (b : ℕ) (f : Bool). step_from s vs j r u v b f) eb ef
    ∙ ap (λ (i : ℕ). step_from s vs i r u v (behind_of kind (arrangement_of s vs) i) (eqb kind 3 and last_free (arrangement_of s vs))) ej
    ∙ sym (ap (step_into s r u v) ez) ∙ step_into_lem m s r u v

module _ (map : MapTables 128) (m : Map) (h : MapHeld map m) (g : Accepted m) (u v : ℕ) (hv : v < m.size) where
  at : Stands m v (zone_of m v) (index_of v (zone_at m (zone_of m v)).vertices)
  at = g.placed v hv

  low : zone_of m v < map.zones
  low = omega (arith, at.zone, h.count)

  module _ (x y : ℕ) (ex : x ≡ get_or map.zone u 255) (ey : y ≡ get_or map.zone v 255) where
    to_zone : y ≡ zone_of m v
    to_zone = ey ∙ h.zone_of_lem v

    -- a move inside a zone
    pub drawn_inside : (s : State) (r : ℕ) (d : Drawn) (o : List ℕ) → x ≡ y → MoveDrawn m s (mv r u v) d o d o
    drawn_inside s r d o e = record { inside = λ z. (refl, refl, refl); crossing = λ n. absurd (n (sym (ex ∙ h.zone_of_lem u) ∙ e ∙ to_zone)) }

    -- the zone that is entered is a part of the listing
    pub part_held : HasPart map y
    part_held = rw to_zone (record { below = omega (arith, low, h.few); inside = omega (arith, h.inside (zone_of m v) low, h.long_listed) })

    module _ (kind j : ℕ) (vs : List ℕ) (ek : kind ≡ get_or map.kind y 0) (ej : j ≡ get_or map.place v 0) (ev : vs ≡ part_of map y) where
      zone_is : zone_at m (zone_of m v) ≡ record { kind = kind; vertices = vs }
      zone_is = rw (ek, ev, to_zone) (h.zone_at_lem (zone_of m v) low)

      to_place_lem : j ≡ index_of v vs
      to_place_lem = ej ∙ h.place_of_lem v ∙ ap (λ (z : Zone). index_of v z.vertices) zone_is

      -- and `to` has a place there
      pub place_low : j < length vs
      place_low = omega (arith, at.place, to_place_lem, ap (λ (z : Zone). index_of v z.vertices) zone_is, ap (λ (z : Zone). length z.vertices) zone_is)

      -- a move between zones, whose step is laid
      pub drawn_crossing : (s : State) (r : ℕ) (d : Drawn) (o : List ℕ) → (x ≡ y → ⊥) → (behind : ℕ) (filled : Bool) (bytes : ℕ) (o' : List ℕ)
          → behind ≡ behind_of kind (arrangement_of s vs) j → filled ≡ (eqb kind 3 and last_free (arrangement_of s vs))
          → bytes ≡ d.bytes + length (step_from s vs j r u v behind filled) → o' ≡ laid_all o d.bytes (step_from s vs j r u v behind filled)
          → MoveDrawn m s (mv r u v) d o (record { steps = d.steps + 1; bytes = bytes }) o'
      drawn_crossing s r d o ne behind filled bytes o' eb ef eby eo =
          let w = step_is m s r u v kind j behind vs filled zone_is to_place_lem eb ef in
          record {
            inside = λ z. absurd (ne (ex ∙ h.zone_of_lem u ∙ z ∙ sym to_zone));
            crossing = λ z. (refl, eby ∙ ap (λ (l : List ℕ). d.bytes + length l) w, eo ∙ ap (laid_all o d.bytes) w);
          }

-- a zone has at most 128 vertices
pub part_short : (map : MapTables 128) (y : ℕ) (vs : List ℕ) → get_or map.first y 0 + get_or map.size y 0 ≤ 128 → vs ≡ part_of map y → length vs ≤ 128
part_short map y vs h e = omega (arith, h, ap length e, length-take (get_or map.size y 0) (drop (get_or map.first y 0) map.listed))

step_most_lem : (s : State) (vs : List ℕ) (j r u v behind : ℕ) (filled : Bool) → length (step_from s vs j r u v behind filled) ≤ 4 + length vs
unfolding step_from
step_most_lem s vs j r u v behind true = omega (arith, follow_length s vs j r)
step_most_lem s vs j r u v behind false = omega arith

-- a step takes at most four bytes and one a place
pub step_near : (s : State) (vs : List ℕ) (j r u v behind : ℕ) (filled : Bool) (bytes off : ℕ) → bytes ≡ off + length (step_from s vs j r u v behind filled) → length vs ≤ 128
    → bytes ≤ off + 132
step_near s vs j r u v behind filled bytes off e h = omega (arith, step_most_lem s vs j r u v behind filled)

-- ---- the whole list

-- the moves end on vertices of the map
abbrev pub EndsOn : Map → (ℕ → ℕ) → ℕ → Type 0
EndsOn m byte n = (i : ℕ) → i < n → (move_by byte i).to < m.size

-- a move's drawing takes the whole one step on
pub drawing_next : (m : Map) (byte : ℕ → ℕ) (n : ℕ) (s₀ : State) (o₀ : List ℕ) (i : ℕ) (s t : State) (d q : Drawn) (o o' : List ℕ) (x : Move)
    → Drawing m byte n s₀ o₀ i s d.steps d.bytes o → i < n → x ≡ move_by byte i → t ≡ moved s x → MoveDrawn m s x d o q o'
    → Drawing m byte n s₀ o₀ (i + 1) t q.steps q.bytes o'
drawing_next m byte n s₀ o₀ i s t d q o o' x w h ex et y = case (ℕ_discrete (zone_of m x.from) (zone_of m x.to))
  where
    case : Dec (zone_of m x.from ≡ zone_of m x.to) → Drawing m byte n s₀ o₀ (i + 1) t q.steps q.bytes o'
    case (yes e) =
        let z = y.inside e in
        rw (et, z.0, z.1, z.2) (drawing_inside m byte n s₀ o₀ i s d.steps d.bytes o w h x ex e)
    case (no e) =
        let z = y.crossing e in
        rw z.0 (drawing_crossing m byte n s₀ o₀ i s d.steps d.bytes o w h x t q.bytes o' ex et e z.2 z.1)

-- what is drawn of n moves from state s: the count of steps, the offset after them, and the buffer
pub record AllDrawn (m : Map) (byte : ℕ → ℕ) (n : ℕ) (s : State) (o : List ℕ) (q : Drawn) (o' : List ℕ) : Type 0 where
  pub count : q.steps ≡ length (drawn_steps m s (moves_by byte 0 n))
  pub size : q.bytes ≡ 2 + length (step_bytes (drawn_steps m s (moves_by byte 0 n)))
  pub buffer : o' ≡ laid_all o 2 (step_bytes (drawn_steps m s (moves_by byte 0 n)))

pub all_drawn : (m : Map) (byte : ℕ → ℕ) (n : ℕ) (s₀ : State) (o₀ : List ℕ) (i : ℕ) (s : State) (q : Drawn) (o : List ℕ)
    → Drawing m byte n s₀ o₀ i s q.steps q.bytes o → n ≤ i → AllDrawn m byte n s₀ o₀ q o
all_drawn m byte n s₀ o₀ i s q o w h =
    let z = drawing_end m byte n s₀ o₀ i s q.steps q.bytes o w h in
    let e : n - 0 ≡ n = omega arith in
    record { count = rw e at z.0; size = rw e at z.1; buffer = rw e at z.2 }
