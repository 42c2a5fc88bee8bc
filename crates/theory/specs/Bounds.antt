-- How long a resolved list is: bounds for a step, for the steps, for the endings and for the whole list, so that a count of moves cannot overflow.
use Rattle.std.specs.Prelude.{◌≡◌, List, [], ◌∷◌, get_or}
use Rattle.std.proofs.Common.{ap, ◌∙◌, length-drop, eqb→eq}
use Prim.Native.Nat.{ℕ, zero, suc, ◌+◌, ◌*◌, ◌^◌, ◌≤◌, ◌<◌}
use Rattle.std.proofs.Math.Nat.{suc-mul}
use native.Mathlib.Omega.{arith}
use Rattle.std.proofs.Math.ListN.{length, length-append}
use Rattle.std.proofs.lemmas.List.{length-map}
use Rattle.spec.specs.Outcome.{ok, index_of}
use Rattle.spec.specs.Layout.{Map, Zone, Placing, map_of, zone_of, zone_at}
use Rattle.spec.specs.Arrangement.{Move}
use Rattle.spec.specs.ZoneKind.{leave, enter, end}
use Rattle.spec.specs.State.{State, arrangement_of, across_move, across, standing}
use Rattle.spec.specs.Services.{instance_of, plan_moves}
use Rattle.spec.specs.Run.{Ran, step_at, steps_from, endings_from, resolved_moves}
use Rattle.theory.specs.Basics.Outcomes.{ok_injective, passed, bound, seq_ok}
use Rattle.theory.specs.Basics.Lists.{Each, none, ◌&&&◌, ◌&◌}
use Rattle.theory.specs.Basics.Searches.{index_le}
use Rattle.theory.specs.Codec.{payload_most}
use Rattle.theory.specs.Zones.Lengths.{most_moves, most_mono, leave_length, enter_length, end_length}
use Rattle.theory.specs.Maps.Layout.{map_accepted}
use Rattle.theory.specs.Maps.Cells.{arrangement_length}
use Rattle.theory.specs.Maps.ZoneSize.{zone_size, map_zones}
use Rattle.theory.specs.Plans.Taken.{taken_at}

-- the most moves of a step between zones of at most n vertices: those of leaving, those of entering, and the crossing
unfoldable pub step_most : ℕ → ℕ
step_most n = 2 * most_moves n + 1

-- moves between places and between vertices are as many
across_length : (vs : List ℕ) (ms : List Move) → length (across vs ms) ≡ length ms
unfolding across
across_length vs ms = length-map ms (λ m. across_move vs m)

module _ (n : ℕ) (y : Zone) (h : length y.vertices ≤ n) (s : State) where
  -- moves of a zone of at most n vertices that are within the zone's bound are within that of n
  few : (ms : List Move) → length ms ≤ most_moves (length (arrangement_of s y.vertices)) → length (across y.vertices ms) ≤ most_moves n
  few ms k =
      let a = arrangement_of s y.vertices in
      omega (arith, across_length y.vertices ms, most_mono (length a) n (omega (arith, arrangement_length s y)))

  -- leaving such a zone
  pub leave_few : (r v : ℕ) → length (across y.vertices (leave y.kind (arrangement_of s y.vertices) r (index_of v y.vertices))) ≤ most_moves n
  leave_few r v = few _ (leave_length y.kind (arrangement_of s y.vertices) r (index_of v y.vertices) (omega (arith, arrangement_length s y, index_le v y.vertices)))

  -- entering such a zone
  pub enter_few : (v behind : ℕ) (list : List ℕ) → length (across y.vertices (enter y.kind (arrangement_of s y.vertices) (index_of v y.vertices) behind list)) ≤ most_moves n
  enter_few v behind list = few _ (enter_length y.kind (arrangement_of s y.vertices) (index_of v y.vertices) behind list (omega (arith, arrangement_length s y, index_le v y.vertices)))

  -- ending in such a zone
  pub end_few : (g : State) → length (across y.vertices (end y.kind (arrangement_of s y.vertices) (arrangement_of g y.vertices))) ≤ most_moves n
  end_few g = few _ (end_length y.kind (arrangement_of s y.vertices) (arrangement_of g y.vertices) (omega (arith, arrangement_length s y, arrangement_length g y)))

module _ (m : Map) (n : ℕ) (small : (z : ℕ) → length (zone_at m z).vertices ≤ n) where
  -- a step has at most that many moves, and takes four bytes or more
  pub step_few : (k : ℕ) (p : List ℕ) (i o : ℕ) (s : State) (one : Ran) → step_at m k p i o s ≡ ok one → (length one.moves ≤ step_most n) × (o + 4 ≤ one.next)
  unfolding step_most
  step_few k p i o s one e =
      let t = taken_at m k p i o s one e in
      let l = simp length-append at (ap length t.moves) in
      let b = simp (length-append, length-drop) at (ap length t.bytes) in
      let from = zone_at m (zone_of m t.u) in
      let to = zone_at m (zone_of m t.v) in
      (omega (arith, l, leave_few n from (small (zone_of m t.u)) s t.r t.u, enter_few n to (small (zone_of m t.v)) s t.v t.behind t.list), omega (arith, b))

  -- steps have at most that many moves each, and take four bytes or more each
  pub steps_few : (k : ℕ) (p : List ℕ) (todo i o : ℕ) (s : State) (r : Ran) → steps_from m k p todo i o s ≡ ok r → (length r.moves ≤ todo * step_most n) × (o + todo * 4 ≤ r.next)
  unfolding steps_from
  steps_few k p zero i o s r e = rw (← ok_injective e) (omega arith, omega arith)
  steps_few k p (suc todo) i o s r e =
      let one = bound _ _ _ e in
      let more = bound _ _ _ one.2 in
      let f = step_few k p i o s one.0 one.1 in
      let g = steps_few k p todo (i + 1) one.0.next one.0.state more.0 more.1 in
      rw (← ok_injective more.2) (omega (arith, f.0, g.0, length-append one.0.moves more.0.moves, suc-mul todo (step_most n)), omega (arith, f.1, g.1))

-- endings have at most as many moves as a zone may take, for each zone
pub endings_few : (n : ℕ) (zs : List Zone) (s g : State) → Each (λ y. length y.vertices ≤ n) zs → length (endings_from zs s g) ≤ length zs * most_moves n
unfolding endings_from
endings_few n [] s g none = omega arith
endings_few n (y ∷ zs) s g (◌&&&◌ h hs) =
    let ms = across y.vertices (end y.kind (arrangement_of s y.vertices) (arrangement_of g y.vertices)) in
    omega (arith, endings_few n zs s g hs, end_few n y h s g, length-append ms (endings_from zs s g), suc-mul (length zs) (most_moves n))

-- a bound for the zone of every number is one for each zone of the list
each_zone : {n : ℕ} (zs : List Zone) → ((z : ℕ) → length (get_or zs z (record { kind = 0; vertices = [] })).vertices ≤ n) → Each (λ y. length y.vertices ≤ n) zs
each_zone [] h = none
each_zone (y ∷ zs) h = h 0 & each_zone zs (λ z. h (suc z))

-- a resolved list: c steps of four bytes or more, and the endings
pub resolved_few : (m : Map) (n : ℕ) → ((z : ℕ) → length (zone_at m z).vertices ≤ n) → (pl : Placing) (p : List ℕ) (ms : List Move) → resolved_moves m pl p ≡ ok ms
    → (c : ℕ) × (2 + c * 4 ≤ length p) × (length ms ≤ c * step_most n + length m.zones * most_moves n)
unfolding resolved_moves zone_at
resolved_few m n small pl p ms e =
    let c = bound _ _ _ e in
    let r = bound _ _ _ c.2 in
    let t = passed _ _ _ _ _ r.2 in
    let k = seq_ok _ _ _ t.1 in
    let f = steps_few m n small (length pl.starts) p c.0 0 2 (standing pl.starts) r.0 r.1 in
    let es = endings_from m.zones r.0.state (standing pl.goals) in
    let g = endings_few n m.zones r.0.state (standing pl.goals) (each_zone m.zones small) in
    (c.0, omega (arith, f.1, eqb→eq r.0.next (length p) t.0), omega (arith, f.0, g, length-append r.0.moves es, ap length (ok_injective k.2)))

-- over an accepted map a plan of 64 blocks has fewer than 2 ^ 36 moves
pub resolved_bound : (q : List ℕ) (m : Map) (pl : Placing) (p : List ℕ) (ms : List Move) → map_of q ≡ ok m → length p ≤ 64 * 504 → resolved_moves m pl p ≡ ok ms → length ms < 2 ^ 36
unfolding step_most most_moves
resolved_bound q m pl p ms a h e =
    let g = map_accepted q m a in
    let r = resolved_few m 128 (λ z. omega (arith, zone_size g z, g.small)) pl p ms e in
    omega (arith, r.1, r.2, map_zones q m a)

-- and so has any plan that is resolved, whatever the files hold
pub plan_bound : (a b c : List ℕ) (ms : List Move) → plan_moves a b c ≡ ok ms → length ms < 2 ^ 36
unfolding plan_moves instance_of
plan_bound a b c ms e =
    let i = bound _ _ _ e in
    let p = bound _ _ _ i.2 in
    let mp = bound _ _ _ i.1 in
    let m = bound _ _ _ mp.2 in
    let pp = bound _ _ _ m.2 in
    let pl = bound _ _ _ pp.2 in
    let g : map_of mp.0 ≡ ok i.0.graph = m.1 ∙ ap (λ it. ok it.graph) (ok_injective pl.2) in
    resolved_bound mp.0 i.0.graph i.0.placing p.0 ms g (omega (arith, payload_most 30 3 64 c p.0 p.1)) p.2
