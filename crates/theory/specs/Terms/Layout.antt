-- What is claimed of accepted maps and the states reached from the starts.
use Rattle.std.specs.Prelude.{◌≡◌, refl, List, ℕ, length}
use Rattle.std.proofs.Common.{sym, ap, ap₂, ◌∙◌, arith}
use Rattle.spec.specs.Outcome.{ok, index_of}
use Rattle.spec.specs.Layout.{Map, zone_of, zone_at}
use Rattle.spec.specs.Arrangement.{Move}
use Rattle.spec.specs.State.{State, moved_all}
use Rattle.spec.specs.Services.{Instance, instance_of}
use Rattle.spec.specs.Terms.{Agrees, Zoned, Partition, Consistency, GoalState, InsideZones, Crossings, start, place_of}
use Rattle.theory.specs.Maps.Layout.{Accepted}
use Rattle.theory.specs.Maps.Instance.{instance_accepted}
use Rattle.theory.specs.Maps.Moves.{Legals, is_legal, are_legal, legal_all_lem}
use Rattle.theory.specs.Maps.Inside.{act, arrangement_away, arrangement_leave, arrangement_enter}
use Rattle.theory.specs.Maps.Tracks.{Tracks, tracks_all}
use Rattle.theory.specs.Plans.Resolve.{start_tracks, goal_tracks}

-- an accepted map is zoned
zoned : (m : Map) → Accepted m → Zoned m
zoned m g = record {
  placed = λ v h. (zone_of m v, place_of m v, g.placed v h);
  once = λ v y i z j p q.
      let a = g.inside y i p.zone p.place in
      let b = g.inside z j q.zone q.place in
      let e : y ≡ z = sym a.1 ∙ ap (zone_of m) (p.vertex ∙ sym q.vertex) ∙ b.1 in
      (e, sym a.2 ∙ ap₂ {C = ℕ} (λ w x. index_of w (zone_at m x).vertices) (p.vertex ∙ sym q.vertex) e ∙ b.2);
  inside = λ v z i p. rw p.vertex at (g.inside z i p.zone p.place).0;
  kinds = g.kinds;
  joins = g.near;
  stacks = g.stacks;
}

-- each vertex is in exactly one zone and place, and zones are joined as their kinds say
pub partition : Partition
unfolding Partition
partition a b it i = zoned it.graph (instance_accepted a b it i).accepted

-- a state that a legal list reaches from the starts tracks
reached_tracks : (a b : List ℕ) (it : Instance) (xs : List Move) → instance_of a b ≡ ok it → Legals it.graph (start it) xs
    → Tracks it.graph (length it.placing.starts) (moved_all (start it) xs)
reached_tracks a b it xs i l =
    let s = instance_accepted a b it i in
    tracks_all it.graph s.accepted (length it.placing.starts) s.placed.few (start_tracks it.graph s.accepted it.placing s.placed) l

-- in a state that tracks robots and vertices agree, and no robot stands twice
agrees : {m : Map} {k : ℕ} {s : State} → Tracks m k s → Agrees m.size k s
agrees t = record {
  robots = t.consistent.rooms;
  vertices = t.places;
  up = λ v h n. (t.consistent.known v h n, t.up v h n);
  down = t.down;
  once = t.consistent.once;
}

-- so in every state that is reached
pub consistency : Consistency
unfolding Consistency
consistency a b it xs i l = agrees (reached_tracks a b it xs i (are_legal it.graph (start it) xs l))

-- and in the goals' state
pub goal_state : GoalState
unfolding GoalState
goal_state a b it i = let s = instance_accepted a b it i in agrees (goal_tracks it.graph s.accepted it.placing s.placed)

-- moves inside a zone are legal on the map and touch no other zone
pub inside_zones : InsideZones
unfolding InsideZones
inside_zones a b it xs i l z ys c h r =
    let s = instance_accepted a b it i in
    let t = reached_tracks a b it xs i (are_legal it.graph (start it) xs l) in
    let w = act it.graph s.accepted z h r (moved_all (start it) xs) t.consistent.rooms refl in
    record { legals = legal_all_lem w.legals; here = w.here; others = w.away; silent = w.silent }

-- a crossing changes two zones
pub crossings : Crossings
unfolding Crossings
crossings a b it xs x i l lx n =
    let g = (instance_accepted a b it i).accepted in
    let t = reached_tracks a b it xs i (are_legal it.graph (start it) xs l) in
    let y = is_legal it.graph (moved_all (start it) xs) x lx in
    let e = g.ends x.from x.to y.near in
    let u = g.placed x.from e.0 in
    let v = g.placed x.to e.1 in
    record {
      left = arrangement_leave it.graph g (moved_all (start it) xs) x _ _ (omega (arith, t.consistent.rooms, g.small)) u.zone u.place (sym u.vertex) (λ q. n (sym q));
      entered = arrangement_enter it.graph g (moved_all (start it) xs) x _ _ (omega (arith, t.consistent.rooms, g.small)) v.zone v.place (sym v.vertex) n y.robot;
      others = λ y h p q. arrangement_away it.graph g (moved_all (start it) xs) x y h (λ r. p (sym r)) (λ r. q (sym r));
    }
