-- A robot enters: the list with it put in, turned where a ring is filled, or the follow list where a clique is, stands for the zone.
use Rattle.std.specs.Prelude.{◌≡◌, ◌≢◌, Bool, ℕ, suc, ◌+◌, ◌-◌, ◌<◌, take, drop, replicate}
use Rattle.std.proofs.Math.Path.{sym, ap₂}
use Rattle.std.proofs.Common.{ap, ◌∙◌, arith, length-append, length-take, length-drop, get_or-set_same, get_or-set_other}
use Rattle.std.proofs.Math.Bool.{true, false}
use mathlib.Core.List.{List, [], ◌∷◌, ◌++◌, map}
use Rattle.std.proofs.Math.Decide.{ℕ_discrete}
use Rattle.std.proofs.Math.ListN.{length, set, length-set}
use Rattle.std.proofs.lemmas.List.{length-map, set_at}
use Rattle.std.proofs.Math.Seq.{take-length, drop-length}
use Rattle.std.proofs.Math.Dec.{eqb→eq}
use Rattle.spec.specs.Outcome.{◌and◌}
use Rattle.spec.specs.Arrangement.{Arrangement, cell, order, full, last_free, last_named}
use Rattle.spec.specs.Clique.{named}
use Rattle.spec.specs.Ring.{wrap, opened, ring_behind}
use Rattle.spec.specs.ZoneKind.{behind_of}
use Rattle.spec.specs.State.{robots_of}
use Rattle.spec.specs.Terms.{Reachable}
use Rattle.theory.specs.Basics.Tests.{Eqb, same, other, eqb?, eq→eqb}
use Rattle.theory.specs.Zones.Arrangements.{count_put, free_count, order_short, order_append, order_put, order_gap, once_order, none_255, last_order}
use Rattle.theory.specs.Zones.Robots.{SameRobots, distinct_put, runs_robots}
use Rattle.theory.specs.Zones.Hall.Order.{runs_order}
use Rattle.theory.specs.Zones.Hall.Places.{order_none}
use Rattle.theory.proofs.Zones.Clique.Rule.{clique_reach}
use Rattle.theory.specs.Zones.Clique.Entering.{named_robots}
use Rattle.theory.specs.Zones.Ring.Turning.{Turned, turned_swap, turned_trans, once_turned}
use Rattle.theory.specs.Zones.Ring.Order.{runs_turned}
use Rattle.theory.specs.Zones.Ring.Opened.{order_opened, none_opened}
use Rattle.theory.specs.Zones.Kinds.{KindOf, clique, ring, hall, kind?, as_hall}
use Rattle.theory.proofs.Zones.Configurations.{ring_configuration}
use Rattle.theory.specs.Zones.Crossing.{Proper, Absent, Filled, kept, reach_proper, reach_absent}
use Rattle.orders.specs.Orders.{packed, Holds, put_in, entry_in, turned_by, ring_entered, clique_entered, entered}
use Rattle.orders.specs.Packed.{packed_length, packed_order, packed_free, order_map, holds_order, holds_from, holds_moved, holds_count}
use Rattle.orders.specs.Lengths.{put_length}
use Rattle.orders.specs.Putting.{put_behind, Put, put_round, turned_to, turned_in}

-- ---- the same robot put into two arrangements

-- whoever is there where a robot was put into one is there where it was put into the other, at another place
into_put : (a b : Arrangement) (j k r : ℕ) → j < length a → k < length b → cell b k ≡ 0 → ((i c : ℕ) → cell a i ≡ suc c → (q : ℕ) × (cell b q ≡ suc c))
    → (i c : ℕ) → cell (set a j (suc r)) i ≡ suc c → (q : ℕ) × (cell (set b k (suc r)) q ≡ suc c)
into_put a b j k r ha hb f h i c g = go (ℕ_discrete i j)
  where
    go : Dec (i ≡ j) → (q : ℕ) × (cell (set b k (suc r)) q ≡ suc c)
    go (yes z) = (k, get_or-set_same b k (suc r) 0 hb ∙ sym (get_or-set_same a j (suc r) 0 ha) ∙ ap (cell (set a j (suc r))) (sym z) ∙ g)
    go (no z) = let t = h i c (sym (get_or-set_other a j i (suc r) 0 z) ∙ g) in (t.0, get_or-set_other b k t.0 (suc r) 0 (λ w. omega (arith, rw w at t.1)) ∙ t.1)

-- the same robots are there
same_put : (a b : Arrangement) (j k r : ℕ) → j < length a → k < length b → cell a j ≡ 0 → cell b k ≡ 0 → SameRobots a b → SameRobots (set a j (suc r)) (set b k (suc r))
same_put a b j k r ha hb e f s = record {
  count = omega (arith, s.count, count_put a j r e ha, count_put b k r f hb);
  into = into_put a b j k r ha hb f s.into;
  back = into_put b a k j r hb ha e s.back;
}

-- a robot put behind those of a packed arrangement is the last of the order
packed_put : (n : ℕ) (l : List ℕ) (r : ℕ) → length l < n → order (set (packed n l) (length l) (suc r)) ≡ l ++ r ∷ []
unfolding packed order
packed_put n l r h =
    let m = n - suc (length l) in
    let e : n - length l ≡ suc m = omega arith in
    rw (e, set_at (map suc l) 0 (replicate m 0) (suc r) (length l) (length-map l suc))
    (order_append (map suc l) (suc r ∷ replicate m 0) ∙ ap₂ {C = List ℕ} (λ x y. x ++ r ∷ y) (order_map l) (order_none m))

-- ---- robot r comes to place j of an arrangement c, which list l stands for

module _ (l : List ℕ) (c : Arrangement) (r j : ℕ) (p : Proper c) (n : Absent c r) (h : j < length c) (e : cell c j ≡ 0) where
  -- the robots below place j
  abbrev under : List ℕ
  under = order (take j c)

  -- and those above it
  abbrev over : List ℕ
  over = order (drop (suc j) c)

  -- where r does not fill the zone it is not full then
  not_filled : length (order c) ≡ length l → suc (length l) ≢ length c → length (order (set c j (suc r))) < length (set c j (suc r))
  not_filled k f = omega (arith, count_put c j r e h, length-set c j (suc r), free_count c j h e)

  -- in a hall
  hall_in : {kind : ℕ} → order c ≡ l → Holds kind (put_in (entry_in (last_named (take j c)) l) r l) (set c j (suc r))
  hall_in {kind} o =
      let g : l ≡ under ++ over = sym o ∙ order_gap c j e in
      holds_order kind (put_in (entry_in (last_named (take j c)) l) r l) (set c j (suc r))
      (order_put c j h r ∙ sym (rw (g, last_order (take j c)) (put_behind r under over (rw (order_gap c j e) at (once_order c p.once)) (rw (order_gap c j e) at (none_255 c p.names)))))

  -- the others, from behind place j round to it, are the list turned
  opened_turned : Turned (order c) l → Turned (order (opened j c)) l
  opened_turned t = turned_trans (rw (order_opened j c, order_gap c j e) (turned_swap over under)) t

  -- r is put in so that the order round is right
  ring_put : Turned (order c) l → Put r (order (opened j c)) l (entry_in (ring_behind c j) l)
  unfolding ring_behind
  ring_put t = rw (last_order (opened j c))
      (put_round r (order (opened j c)) l (once_turned (rw (order_opened j c, order_gap c j e) (turned_swap under over)) (once_order c p.once)) (none_opened c j p.names) (opened_turned t))

  -- a ring that r fills
  ring_fills : Put r (order (opened j c)) l (entry_in (ring_behind c j) l) → length (order c) ≡ length l → suc (length l) ≡ length c
      → Holds 4 (turned_by (wrap (length c) (length c + entry_in (ring_behind c j) l - j)) (put_in (entry_in (ring_behind c j) l) r l)) (set c j (suc r))
  ring_fills u k f =
      let i = entry_in (ring_behind c j) l in
      let w = wrap (length c) (length c + i - j) in
      let g = ap length (order_gap c j e) ∙ length-append under over in
      let b = simp length-take at (order_short (take j c)) in
      let t = simp length-drop at (order_short (drop (suc j) c)) in
      holds_order 4 (turned_by w (put_in i r l)) (set c j (suc r))
      (order_put c j h r
      ∙ turned_to (length c) j i r under over u.before u.after (omega arith) u.count (sym (order_opened j c) ∙ u.round) (sym (ap length u.cut) ∙ put_length i r l ∙ f)
      ∙ ap (turned_by w) (sym u.cut))

  -- a ring that r does not fill
  ring_joins : Put r (order (opened j c)) l (entry_in (ring_behind c j) l) → length (order c) ≡ length l → suc (length l) ≢ length c
      → Holds 4 (put_in (entry_in (ring_behind c j) l) r l) (set c j (suc r))
  unfolding full
  ring_joins u k f =
      let i = entry_in (ring_behind c j) l in
      let m = put_in i r l in
      let o = packed_order (length c) m in
      let t : Turned (order (set c j (suc r))) (order (packed (length c) m)) =
      rw (order_put c j h r, o, u.cut) (turned_in r under over u.before u.after (sym (order_opened j c) ∙ u.round)) in
      holds_from 4 m (set c j (suc r)) (packed (length c) m)
      ((ring_configuration (set c j (suc r)) (packed (length c) m) (distinct_put c j r p.once n)).1 (
        length-set c j (suc r) ∙ sym (packed_length (length c) m (omega (arith, put_length i r l, free_count c j h e))),
        t,
        λ q. absurd (omega (arith, eqb→eq (length (order (set c j (suc r)))) (length (set c j (suc r))) q, not_filled k f)),
      ))
      o

  -- in a ring
  ring_in : Turned (order c) l → length (order c) ≡ length l → Holds 4 (ring_entered (length c) l r j (ring_behind c j)) (set c j (suc r))
  unfolding ring_entered
  ring_in t k = go (eqb? (suc (length l)) (length c))
    where
      go : {q : Bool} → Eqb (suc (length l)) (length c) q
          → Holds 4 (elim q [ true ↦ turned_by (wrap (length c) (length c + entry_in (ring_behind c j) l - j)) (put_in (entry_in (ring_behind c j) l) r l) | false ↦ put_in (entry_in (ring_behind c j) l) r l ]) (set c j (suc r))
      go (same f) = ring_fills (ring_put t) k f
      go (other f) = ring_joins (ring_put t) k f

  -- a clique that r fills
  clique_fills : (list : List ℕ) → Filled 3 c j r list → length (order c) ≡ length l → suc (length l) ≡ length c → Holds 3 list (set c j (suc r))
  unfolding last_free ◌and◌ named
  clique_fills list q k f =
      let x = set c j (suc r) in
      let y = named_robots x (omega (arith, count_put c j r e h, length-set c j (suc r))) in
      holds_order 3 list x (ap order (sym y) ∙ order_map (robots_of x) ∙ sym (q (eq→eqb (suc (length (order c))) (length c) (omega arith))))

  -- a clique that r does not fill: r stands behind the others of the list
  clique_joins : Reachable 3 c (packed (length c) l) → length (order c) ≡ length l → suc (length l) ≢ length c → Holds 3 (put_in (length l) r l) (set c j (suc r))
  unfolding put_in
  clique_joins s k f =
      let b = packed (length c) l in
      let g : length l < length c = omega (arith, free_count c j h e) in
      let m = packed_length (length c) l (omega arith) in
      holds_from 3 (put_in (length l) r l) (set c j (suc r)) (set b (length l) (suc r))
      (clique_reach (set c j (suc r)) (set b (length l) (suc r)) (distinct_put c j r p.once n) (length-set c j (suc r) ∙ sym m ∙ sym (length-set b (length l) (suc r)))
      (not_filled k f) (same_put c b j (length l) r h (omega arith) e (packed_free (length c) l) (runs_robots s.1)))
      (packed_put (length c) l r g ∙ ap₂ {C = List ℕ} (λ x y. x ++ r ∷ y) (sym (take-length l)) (sym (drop-length l)))

  -- in a clique
  clique_in : (list : List ℕ) → Filled 3 c j r list → Reachable 3 c (packed (length c) l) → length (order c) ≡ length l → Holds 3 (clique_entered (length c) l r list) (set c j (suc r))
  unfolding clique_entered
  clique_in list q s k = go (eqb? (suc (length l)) (length c))
    where
      go : {b : Bool} → Eqb (suc (length l)) (length c) b → Holds 3 (elim b [ true ↦ list | false ↦ put_in (length l) r l ]) (set c j (suc r))
      go (same f) = clique_fills list q k f
      go (other f) = clique_joins s k f

-- ---- the list

-- the same for any kind, of an arrangement that the list stands for
comes_in : {kind : ℕ} → KindOf kind → (l : List ℕ) (c : Arrangement) (r j : ℕ) (list : List ℕ) → Proper c → Absent c r → j < length c → cell c j ≡ 0
    → Filled kind c j r list → Holds kind l c → Holds kind (entered kind (length c) l r j (behind_of kind c j) list) (set c j (suc r))
unfolding entered behind_of
comes_in clique l c r j list p n h e q w = clique_in l c r j p n h e list q w.reach (holds_count 3 l c w)
comes_in ring l c r j list p n h e q w = ring_in l c r j p n h e (rw (packed_order (length c) l) at (runs_turned w.reach.1)) (holds_count 4 l c w)
comes_in {kind} (hall i) l c r j list p n h e q w =
    let k = as_hall i 255 (ring_behind c j) (last_named (take j c)) in
    rw (k, as_hall i (clique_entered (length c) l r list) (ring_entered (length c) l r j (last_named (take j c))) (put_in (entry_in (last_named (take j c)) l) r l))
    (hall_in l c r j p n h e {kind = kind} (runs_order i w.reach.1 ∙ packed_order (length c) l))

-- after robot r entered at place j, the list with it stands for the zone
pub entered_holds : (kind : ℕ) (l : List ℕ) (a c : Arrangement) (r j behind : ℕ) (list : List ℕ) → Proper a → Holds kind l a → Absent a r → r < 255 → j < length a
    → Reachable kind a c → cell c j ≡ 0 → behind_of kind c j ≡ behind → Filled kind c j r list → Holds kind (entered kind (length a) l r j behind list) (set c j (suc r))
entered_holds kind l a c r j behind list p w n _ h s e k q =
    let m = (kept s).long in
    rw (m, ← k) (comes_in (kind? kind) l c r j list (reach_proper s p) (reach_absent s n) (omega arith) e q (holds_moved s w))
