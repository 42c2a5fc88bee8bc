-- Nothing is made in a zone that is ready for a step, and one move where the leaver stands beside its place.
use Rattle.std.specs.Prelude.{◌≡◌, refl, true, List, [], ℕ, suc, ◌<◌, length, get_or}
use Rattle.std.proofs.Common.{sym, ap, ◌∙◌, arith}
use Rattle.spec.specs.Arrangement.{Move, mv, cell}
use Rattle.spec.specs.State.{State, cell_of, robot_on, arrangement_of, across}
use Rattle.spec.specs.ZoneKind.{behind_of, can_leave}
use Rattle.theory.specs.Basics.Tests.{of_true}
use Rattle.theory.specs.Maps.Cells.{cell_of_lem}
use Rattle.theory.specs.Zones.Robots.{runs_named}
use Rattle.theory.proofs.Zones.Kinds.{laws}
use Rattle.theory.specs.Zones.Crossing.{Proper, extra_of}
use Rattle.motion.specs.World.{World, made, made_all}
use Rattle.motion.specs.Across.{arrangement_length, across_move_lem, made_nothing, made_last}
use Rattle.cells.specs.Reading.{robot_here, empty_here}
use Rattle.walking.specs.Kinds.{leave_moves, enter_moves}
use Rattle.zones.specs.Ready.{leave_ready, enter_ready}
use Rattle.zones.specs.Near.{near_place, leave_near}
use Rattle.layout.specs.Lists.{MapLists, part_of}
use Rattle.walking.specs.OnMap.{kind_on, vertices_on, place_on}

module _ (kind : ℕ) (s : State) (vs : List ℕ) (p : Proper (arrangement_of s vs)) (j : ℕ) (h : j < length vs) where
  -- a place of the zone is one of its arrangement
  placed : j < length (arrangement_of s vs)
  placed = rw (arrangement_length s vs) h

  -- who can leave is numbered below 255, which names none
  leaver_small : (r : ℕ) → can_leave kind (arrangement_of s vs) r j ≡ true → r < 255
  leaver_small r e = let x = (laws kind).leaves (arrangement_of s vs) r j p.once placed (of_true e) in runs_named x.1 p.names j r x.2

  -- nothing is made where the leaver stands on its place already
  pub left_ready : (r u : ℕ) (w : World) → get_or vs j 0 ≡ u → can_leave kind (arrangement_of s vs) r j ≡ true → r ≡ robot_on s u
      → w ≡ made_all w (across vs (leave_moves kind (arrangement_of s vs) r j))
  left_ready r u w e l q =
      let c : cell (arrangement_of s vs) j ≡ suc r = sym (robot_here s vs j r h (q ∙ ap (robot_on s) (sym e))) ∙ cell_of_lem {r = r} (λ x. omega (arith, leaver_small r l)) in
      made_nothing w vs _ (leave_ready kind (arrangement_of s vs) r j p c)

  -- one move is made where the leaver stands beside its place, on which nobody stands
  pub left_near : (r u i x v : ℕ) (w q : World) → get_or vs j 0 ≡ u → can_leave kind (arrangement_of s vs) r j ≡ true → 255 ≡ robot_on s u → i ≡ near_place kind (length vs) j
      → cell_of x ≡ cell (arrangement_of s vs) i → x ≡ r → v ≡ get_or vs i 0 → q ≡ made w (mv r v u) → q ≡ made_all w (across vs (leave_moves kind (arrangement_of s vs) r j))
  left_near r u i x v w q e l f n c g y z =
      let b : cell (arrangement_of s vs) j ≡ 0 = empty_here s vs j 255 h (f ∙ ap (robot_on s) (sym e)) refl in
      let d : cell (arrangement_of s vs) i ≡ suc r = sym c ∙ ap cell_of g ∙ cell_of_lem {r = r} (λ k. omega (arith, leaver_small r l)) in
      let m = leave_near kind (arrangement_of s vs) r j i p.once (n ∙ ap (λ (k : ℕ). near_place kind k j) (sym (arrangement_length s vs))) d b placed in
      made_last w w q vs (mv r i j) [] (made_nothing w vs [] refl) (z ∙ ap (made w) (across_move_lem vs r r i j v u refl y (sym e)))
      ∙ ap (λ (ms : List Move). made_all w (across vs ms)) (sym m)

  -- nothing is made where the place to enter is empty with the named robot behind it
  pub entered_ready : (v behind : ℕ) (list : List ℕ) (w : World) → get_or vs j 0 ≡ v → extra_of kind (arrangement_of s vs) ≡ 0 → 255 ≡ robot_on s v → behind_of kind (arrangement_of s vs) j ≡ behind
      → w ≡ made_all w (across vs (enter_moves kind (arrangement_of s vs) j behind list))
  entered_ready v behind list w e x q b =
      let c : cell (arrangement_of s vs) j ≡ 0 = empty_here s vs j 255 h (q ∙ ap (robot_on s) (sym e)) refl in
      made_nothing w vs _ (enter_ready kind (arrangement_of s vs) j behind list p placed c b x)

-- ---- the same zone, by the map's tables

-- what was looked up is the zone of a vertex by the tables
pub record Looked (t : MapLists) (v z kind place : ℕ) (vs : List ℕ) : Type 0 where
  pub kinds : kind ≡ kind_on t v
  pub places : place ≡ place_on t v
  pub vertices : vs ≡ vertices_on t v

pub looked : (t : MapLists) (v z kind place : ℕ) (vs : List ℕ) → z ≡ get_or t.zone v 0 → kind ≡ get_or t.kind z 0 → place ≡ place_on t v → vs ≡ part_of t z → Looked t v z kind place vs
looked t v z kind place vs e k p q = record { kinds = k ∙ ap (λ (x : ℕ). get_or t.kind x 0) e; places = p; vertices = q ∙ ap (part_of t) e }

module _ (w : World) (s : State) (t : MapLists) (v z kind place : ℕ) (vs : List ℕ) (l : Looked t v z kind place vs) where
  pub leave_looked : (r : ℕ) → made_all w (across vs (leave_moves kind (arrangement_of s vs) r place)) ≡ made_all w (across (vertices_on t v) (leave_moves (kind_on t v) (arrangement_of s (vertices_on t v)) r (place_on t v)))
  leave_looked r = rw (l.kinds, l.places, l.vertices)

  pub enter_looked : (behind : ℕ) (list other : List ℕ) → list ≡ other
      → made_all w (across vs (enter_moves kind (arrangement_of s vs) place behind list)) ≡ made_all w (across (vertices_on t v) (enter_moves (kind_on t v) (arrangement_of s (vertices_on t v)) (place_on t v) behind other))
  enter_looked behind list other e = rw (l.kinds, l.places, l.vertices, e)
