-- The tests of a step, read off the list: each is the test of document 01 on any arrangement that the list stands for.
use Rattle.std.proofs.Math.Path.{◌≡◌, refl, sym, ap, ap₂}
use Rattle.std.proofs.Common.{◌∙◌, arith}
use Rattle.std.specs.Prelude.{Bool, not, List, [], ◌∷◌, map, length, get_or, set, T}
use Rattle.std.proofs.Math.Bool.{true, false}
use Prim.Native.Nat.{ℕ, zero, suc, ◌≤◌, ◌<◌}
use Rattle.std.proofs.Math.Dec.{eqb, eqb-suc-suc}
use Rattle.spec.specs.Outcome.{◌and◌, member, same_list}
use Rattle.spec.specs.Arrangement.{Arrangement, cell, order, full, last_free}
use Rattle.spec.specs.Hall.{lower_than, hall_can_leave, hall_can_enter, hall_can_end}
use Rattle.spec.specs.Clique.{same_robots, named, clique_can_leave, clique_can_enter, clique_can_end}
use Rattle.spec.specs.Ring.{turned, ring_can_leave, ring_can_enter, ring_can_end}
use Rattle.spec.specs.ZoneKind.{can_leave, can_enter, can_end}
use Rattle.spec.specs.Terms.{Reachable, fills}
use Rattle.theory.specs.Basics.Lists.{get_d_map}
use Rattle.theory.specs.Basics.Tests.{Eqb, same, other, eqb?, eqb_true, eq→eqb, and_both, if_true, true_of, of_true, false_of, same→eq, eq→same}
use Rattle.theory.specs.Zones.Moves.{reach_sym, reach_trans, runs_full}
use Rattle.theory.specs.Zones.Hall.Ending.{hall_reach}
use Rattle.theory.specs.Zones.Kinds.{KindOf, clique, ring, hall, kind?, as_hall}
use Rattle.theory.proofs.Zones.Configurations.{leaving, entering, ending}
use Rattle.theory.specs.Zones.Crossing.{Proper, kept, reach_proper, extra_of}
use Rattle.orders.specs.Orders.{packed, Holds, without, entry_in, pinned, hall_leaves, leave_test, same_members, list_met, clique_enters, ring_enters, hall_enters, enter_test, end_test}
use Rattle.orders.specs.Packed.{packed_length, packed_order, packed_full, packed_last, packed_cell, order_map}

-- tests that follow from one another are one
both_ways : {b c : Bool} → (T b → T c) → (T c → T b) → b ≡ c
both_ways {b = true} f g = sym (true_of (f tt))
both_ways {b = false} f g = sym (false_of g)

-- ---- on arrangements that reach each other the tests are the same

module _ {kind : ℕ} {a b : Arrangement} (p : Proper a) (s : Reachable kind a b) where
  -- leaving
  same_leave : (r j : ℕ) → j < length a → can_leave kind a r j ≡ can_leave kind b r j
  same_leave r j h =
      let to = leaving kind a r j p.once h in
      let back = leaving kind b r j (reach_proper s p).once (omega (arith, (kept s).long)) in
      both_ways (λ t. let w = to.0 t in back.1 (w.0, reach_trans (reach_sym s) w.1, w.2)) (λ t. let w = back.0 t in to.1 (w.0, reach_trans s w.1, w.2))

  -- entering
  same_enter : (r j behind : ℕ) (list : List ℕ) → j < length a → T (not (full a)) → can_enter kind a r j behind list ≡ can_enter kind b r j behind list
  same_enter r j behind list h f =
      let k = kept s in
      let q = reach_proper s p in
      let to = entering kind a r j behind list p.once p.names h f in
      let back = entering kind b r j behind list q.once q.names (omega (arith, k.long)) (rw k.as_full at f) in
      both_ways (λ t. let w = to.0 t in back.1 (w.0, reach_trans (reach_sym s) w.1, w.2, w.3, λ u. w.4 (rw k.as_last u)))
      (λ t. let w = back.0 t in to.1 (w.0, reach_trans s w.1, w.2, w.3, λ u. w.4 (rw k.as_last at u)))

  -- ending
  same_end : (g : Arrangement) → length a ≡ length g → can_end kind a g ≡ can_end kind b g
  same_end g l =
      let to = ending kind a g p.once l in
      let back = ending kind b g (reach_proper s p).once (sym (kept s).long ∙ l) in
      both_ways (λ t. back.1 (reach_trans (reach_sym s) (to.0 t))) (λ t. to.1 (reach_trans s (back.0 t)))

-- ---- on a packed arrangement they are the tests on the list

-- the order of a follow list's arrangement with a place cleared
order_unset : (j : ℕ) (list : List ℕ) → j < length list → order (set (map suc list) j 0) ≡ without j list
unfolding order without
order_unset j [] h = absurd (omega arith)
order_unset zero (r ∷ list) h = order_map list
order_unset (suc j) (r ∷ list) h = ap (λ x. r ∷ x) (order_unset j list (omega arith))

module _ (n : ℕ) (l : List ℕ) (h : length l ≤ n) where
  -- leaving a clique or a ring: r stands at place j where all is full, and is inside where not
  packed_pinned : (r j : ℕ) → j < n → ◌≡◌ {A = Bool} (elim (full (packed n l)) [ true ↦ eqb (cell (packed n l) j) (suc r) | false ↦ member r (order (packed n l)) ]) (pinned n l r j)
  unfolding pinned
  packed_pinned r j k = rw (packed_full n l h) (go (eqb? (length l) n))
    where
      go : {q : Bool} → Eqb (length l) n q → ◌≡◌ {A = Bool} (elim q [ true ↦ eqb (cell (packed n l) j) (suc r) | false ↦ member r (order (packed n l)) ]) (elim q [ true ↦ eqb (get_or l j 0) r | false ↦ member r l ])
      go (same e) = ap {B = Bool} (λ x. eqb x (suc r)) (packed_cell n l j (omega arith)) ∙ eqb-suc-suc (get_or l j 0) r
      go (other e) = ap (member r) (packed_order n l)

  -- leaving a hall
  hall_leave_lem : (r j : ℕ) → hall_can_leave (packed n l) r j ≡ hall_leaves n l r j
  unfolding hall_can_leave hall_leaves
  hall_leave_lem r j = ap₂ {C = Bool} (λ x m. hall_leaves m x r j) (packed_order n l) (packed_length n l h)

  -- leaving a zone of any kind
  packed_leave : {kind : ℕ} → KindOf kind → (r j : ℕ) → j < n → can_leave kind (packed n l) r j ≡ leave_test kind n l r j
  unfolding can_leave leave_test clique_can_leave ring_can_leave
  packed_leave clique r j k = packed_pinned r j k
  packed_leave ring r j k = packed_pinned r j k
  packed_leave (hall i) r j k =
      as_hall i (clique_can_leave (packed n l) r j) (ring_can_leave (packed n l) r j) (hall_can_leave (packed n l) r j) ∙ hall_leave_lem r j ∙ sym (as_hall i (pinned n l r j) (pinned n l r j) (hall_leaves n l r j))

  -- entering a hall
  hall_enter_lem : (j behind : ℕ) → hall_can_enter (packed n l) j behind ≡ hall_enters n l j behind
  unfolding hall_can_enter hall_enters lower_than entry_in
  hall_enter_lem j behind = ap₂ {C = Bool} (λ x m. hall_enters m x j behind) (packed_order n l) (packed_length n l h)

  -- entering a ring
  ring_enter_lem : (j behind : ℕ) → ring_can_enter (packed n l) j behind ≡ ring_enters l behind
  unfolding ring_can_enter ring_enters
  ring_enter_lem j behind = ap (λ x. ring_enters x behind) (packed_order n l)

  -- the same robots
  same_members_lem : (g : Arrangement) → same_robots (packed n l) g ≡ same_members l (order g)
  unfolding same_robots same_members
  same_members_lem g = ap (λ x. same_members x (order g)) (packed_order n l)

  -- entering a clique, where a follow list that fills it is as long as the clique
  clique_enter_lem : (r j behind : ℕ) (list : List ℕ) → j < n → (suc (length l) ≡ n → length list ≡ n) → clique_can_enter (packed n l) r j behind list ≡ clique_enters n l r j behind list
  unfolding clique_can_enter clique_enters list_met named
  clique_enter_lem r j behind list k f = rw (packed_last n l h) (ap (λ b. eqb behind 255 and b) (go (eqb? (suc (length l)) n)))
    where
      go : {q : Bool} → Eqb (suc (length l)) n q
          → ◌≡◌ {A = Bool} (elim q [ true ↦ eqb (cell (map suc list) j) (suc r) and same_robots (packed n l) (set (map suc list) j 0) | false ↦ true ]) (elim q [ true ↦ eqb (get_or list j 0) r and same_members l (without j list) | false ↦ true ])
      go (same e) =
          let m = f e in
          ap₂ {C = Bool} (λ x y. x and y) (ap {B = Bool} (λ x. eqb x (suc r)) (get_d_map suc list j (omega arith)) ∙ eqb-suc-suc (get_or list j 0) r)
          (same_members_lem (set (map suc list) j 0) ∙ ap (same_members l) (order_unset j list (omega arith)))
      go (other e) = refl

  -- entering a zone of any kind
  packed_enter : {kind : ℕ} → KindOf kind → (r j behind : ℕ) (list : List ℕ) → j < n → (kind ≡ 3 → suc (length l) ≡ n → length list ≡ n)
      → can_enter kind (packed n l) r j behind list ≡ enter_test kind n l r j behind list
  unfolding can_enter enter_test
  packed_enter clique r j behind list k f = clique_enter_lem r j behind list k (f refl)
  packed_enter ring r j behind list k f = ring_enter_lem j behind
  packed_enter (hall i) r j behind list k f =
      as_hall i (clique_can_enter (packed n l) r j behind list) (ring_can_enter (packed n l) j behind) (hall_can_enter (packed n l) j behind) ∙ hall_enter_lem j behind
      ∙ sym (as_hall i (clique_enters n l r j behind list) (ring_enters l behind) (hall_enters n l j behind))

  -- where all is full the goals are the arrangement if they are so in order
  full_end : (g : Arrangement) → n ≡ length g → length l ≡ n → same_list (packed n l) g ≡ same_list l (order g)
  full_end g e f =
      let o = packed_order n l in
      let m = packed_length n l h in
      both_ways (λ t. eq→same l (order g) (sym o ∙ ap order (same→eq (packed n l) g t)))
      (λ t. eq→same (packed n l) g (runs_full (hall_reach {kind = 2} (packed n l) g (m ∙ e) (o ∙ same→eq l (order g) t)).1 (ap length o ∙ f ∙ sym m)))

  -- ending in a clique or a ring, whatever is asked where it is not full
  loose_end : (g : Arrangement) (x y : Bool) → n ≡ length g → x ≡ y → ◌≡◌ {A = Bool} (elim (full (packed n l)) [ true ↦ same_list (packed n l) g | false ↦ x ]) (elim (eqb (length l) n) [ true ↦ same_list l (order g) | false ↦ y ])
  loose_end g x y e z = rw (packed_full n l h) (go (eqb? (length l) n))
    where
      go : {q : Bool} → Eqb (length l) n q → ◌≡◌ {A = Bool} (elim q [ true ↦ same_list (packed n l) g | false ↦ x ]) (elim q [ true ↦ same_list l (order g) | false ↦ y ])
      go (same f) = full_end g e f
      go (other f) = z

  -- ending in a zone of any kind
  packed_end : {kind : ℕ} → KindOf kind → (g : Arrangement) → n ≡ length g → can_end kind (packed n l) g ≡ end_test kind n l (order g)
  unfolding can_end end_test clique_can_end ring_can_end hall_can_end
  packed_end clique g e = loose_end g (same_robots (packed n l) g) (same_members l (order g)) e (same_members_lem g)
  packed_end ring g e = loose_end g (turned (order (packed n l)) (order g)) (turned l (order g)) e (ap (λ x. turned x (order g)) (packed_order n l))
  packed_end (hall i) g e =
      as_hall i (clique_can_end (packed n l) g) (ring_can_end (packed n l) g) (same_list (order (packed n l)) (order g)) ∙ ap (λ x. same_list x (order g)) (packed_order n l)
      ∙ sym (as_hall i (elim (eqb (length l) n) [ true ↦ same_list l (order g) | false ↦ same_members l (order g) ]) (elim (eqb (length l) n) [ true ↦ same_list l (order g) | false ↦ turned l (order g) ]) (same_list l (order g)))

-- ---- on any arrangement that the list stands for

module _ (kind : ℕ) (l : List ℕ) (a : Arrangement) (p : Proper a) (h : Holds kind l a) where
  -- a robot on every place
  pub full_is : full a ≡ eqb (length l) (length a)
  full_is = (kept h.reach).as_full ∙ packed_full (length a) l h.fits

  -- on every place but one
  pub last_is : last_free a ≡ eqb (suc (length l)) (length a)
  last_is = (kept h.reach).as_last ∙ packed_last (length a) l h.fits

  -- can robot r leave at place j
  pub leave_is : (r j : ℕ) → j < length a → can_leave kind a r j ≡ leave_test kind (length a) l r j
  leave_is r j k = same_leave p h.reach r j k ∙ packed_leave (length a) l h.fits (kind? kind) r j k

  -- the follow list of a step that fills a clique is as long as the clique
  list_long : (list : List ℕ) → length list ≡ extra_of kind a → kind ≡ 3 → suc (length l) ≡ length a → length list ≡ length a
  list_long list e k f = e ∙ if_true (fills kind a) (length a) 0 (and_both (eqb kind 3) (last_free a) (eq→eqb kind 3 k) (of_true (last_is ∙ eqb_true f)))

  -- can robot r enter at place j
  pub enter_is : (r j behind : ℕ) (list : List ℕ) → j < length a → T (not (full a)) → length list ≡ extra_of kind a → can_enter kind a r j behind list ≡ enter_test kind (length a) l r j behind list
  enter_is r j behind list k f e = same_enter p h.reach r j behind list k f ∙ packed_enter (length a) l h.fits (kind? kind) r j behind list k (list_long list e)

  -- are the goals in the configuration
  pub end_is : (g : Arrangement) → length a ≡ length g → can_end kind a g ≡ end_test kind (length a) l (order g)
  end_is g e = same_end p h.reach g e ∙ packed_end (length a) l h.fits (kind? kind) g e
