-- Who can enter a zone that is not full, by the list of its robots, and the list afterwards: one law for each way through the code.
use Rattle.std.specs.Prelude.{◌≡◌, refl, Bool, List, ℕ, suc, ◌+◌, ◌-◌, ◌≤◌, ◌<◌, get_or, eqb, Option, Some, None, MatchOption}
use Rattle.std.specs.Bool.{then_some}
use Rattle.std.proofs.Math.Path.{sym}
use Rattle.std.proofs.Common.{ap, ap₂, ◌∙◌}
use Rattle.std.proofs.Math.Bool.{true, false}
use native.Mathlib.Omega.{arith}
use Rattle.std.proofs.Math.Decide.{ℕ_discrete}
use Rattle.std.proofs.Math.ListN.{length}
use borrow.Author.Tests.{eq-eqb, ne_eqb, lt-ltb, le-ltb}
use Rattle.spec.specs.Outcome.{◌and◌, member, index_of}
use Rattle.spec.specs.Hall.{room}
use Rattle.spec.specs.Ring.{wrap}
use Rattle.spec.specs.ZoneKind.{by_kind}
use Rattle.theory.specs.Zones.Hall.Order.{IsHall}
use Rattle.theory.specs.Zones.Kinds.{KindOf, clique, ring, hall, kind?, as_hall}
use Rattle.reaching.specs.Reach.{member_index}
use Rattle.orders.specs.Orders.{without, put_in, entry_in, turned_by, ring_entered, clique_entered, entered}
use Rattle.orders.specs.Orders.{same_members, list_met, clique_enters, ring_enters, hall_enters, enter_test}

-- where a robot comes into the list, where it fills no clique
unfoldable pub entry_on : ℕ → ℕ → List ℕ → ℕ
entry_on kind behind l = by_kind kind (length l) (entry_in behind l) (entry_in behind l)

-- what the search for the named one gives: where a robot comes into the list l after it, where that one is inside
abbrev pub EntryIndex : List ℕ → ℕ → Option ℕ → Type 0
EntryIndex l behind found = MatchOption found (length l < entry_in behind l) (λ t. (t ≤ length l) × (t ≡ entry_in behind l))

-- what the search for the index `at` at which a robot comes into n finds: that index where the test lets it in
abbrev pub EntryFound : Bool → ℕ → ℕ → Option ℕ → Type 0
EntryFound test n at found = MatchOption found (test ≡ false) (λ q. (test ≡ true) × (q ≤ n) × (q ≡ at))

-- found by equal tests
pub found_as : {x y : Bool} {n m a b : ℕ} (q : Option ℕ) → x ≡ y → n ≡ m → a ≡ b → EntryFound x n a q → EntryFound y m b q
found_as q e h d f = rw (← e, ← h, ← d) f

-- found where the test lets it in
pub found_if : {x y : Bool} {o : Option ℕ} (n a q : ℕ) → y ≡ x → q ≡ a → q ≤ n → o ≡ then_some y q → EntryFound x n a o
found_if {x} {y} n a q e d h s = rw s (go y e)
  where
    go : (y : Bool) → y ≡ x → EntryFound x n a (then_some y q)
    go true e = (sym e, h, d)
    go false e = sym e

-- ---- by kind

module _ (kind : ℕ) (e : kind ≡ 3) where
  -- a clique
  pub clique_enters_lem : (n : ℕ) (l : List ℕ) (r j behind : ℕ) (list : List ℕ) → clique_enters n l r j behind list ≡ enter_test kind n l r j behind list
  unfolding enter_test
  clique_enters_lem n l r j behind list = rw e

  pub clique_last : (behind : ℕ) (l : List ℕ) → length l ≡ entry_on kind behind l
  unfolding entry_on
  clique_last behind l = rw e

  pub clique_entered_lem : (n : ℕ) (l : List ℕ) (r j behind : ℕ) (list : List ℕ) → clique_entered n l r list ≡ entered kind n l r j behind list
  unfolding entered
  clique_entered_lem n l r j behind list = rw e

module _ (kind : ℕ) (e : kind ≡ 4) where
  -- a ring
  pub ring_index : (behind : ℕ) (l : List ℕ) → entry_in behind l ≡ entry_on kind behind l
  unfolding entry_on
  ring_index behind l = rw e

  pub ring_enters_lem : (n : ℕ) (l : List ℕ) (r j behind : ℕ) (list : List ℕ) → ring_enters l behind ≡ enter_test kind n l r j behind list
  unfolding enter_test
  ring_enters_lem n l r j behind list = rw e

  pub ring_entered_lem : (n : ℕ) (l : List ℕ) (r j behind : ℕ) (list : List ℕ) → ring_entered n l r j behind ≡ entered kind n l r j behind list
  unfolding entered
  ring_entered_lem n l r j behind list = rw e

module _ (kind : ℕ) (i : IsHall kind) where
  -- a hall
  pub hall_index : (behind : ℕ) (l : List ℕ) → entry_in behind l ≡ entry_on kind behind l
  unfolding entry_on
  hall_index behind l = sym (as_hall i (length l) (entry_in behind l) (entry_in behind l))

  pub hall_enters_lem : (n : ℕ) (l : List ℕ) (r j behind : ℕ) (list : List ℕ) → hall_enters n l j behind ≡ enter_test kind n l r j behind list
  unfolding enter_test
  hall_enters_lem n l r j behind list = sym (as_hall i (clique_enters n l r j behind list) (ring_enters l behind) (hall_enters n l j behind))

  pub hall_entered : (n : ℕ) (l : List ℕ) (r j behind : ℕ) (list : List ℕ) → put_in (entry_in behind l) r l ≡ entered kind n l r j behind list
  unfolding entered
  hall_entered n l r j behind list = sym (as_hall i (clique_entered n l r list) (ring_entered n l r j behind) (put_in (entry_in behind l) r l))

-- ---- on the list

module _ (l : List ℕ) (behind : ℕ) where
  -- the named one is inside a hall, or none is named
  pub hall_named : (size j t : ℕ) → t ≡ entry_in behind l → t ≤ length l → room size j t (length l - t) ≡ hall_enters size l j behind
  unfolding hall_enters entry_in ◌and◌
  hall_named size j t i h = at (ℕ_discrete behind 255)
    where
      same : room size j t (length l - t) ≡ room size j (entry_in behind l) (length l - entry_in behind l)
      same = rw (← i)

      at : Dec (behind ≡ 255) → room size j t (length l - t) ≡ hall_enters size l j behind
      at (yes d) = same ∙ rw (eq-eqb _ _ d, hall_enters, entry_in, ◌and◌)
      at (no d) =
          let k : index_of behind l < length l = omega (arith, rw (ne_eqb _ _ d, entry_in) at i) in
          same ∙ rw (ne_eqb _ _ d, member_index behind l ∙ lt-ltb (index_of behind l) (length l) k, hall_enters, entry_in, ◌and◌)

  -- the named one is not inside
  pub hall_unnamed : (size j : ℕ) → length l < entry_in behind l → hall_enters size l j behind ≡ false
  unfolding hall_enters entry_in ◌and◌
  hall_unnamed size j h = at (ℕ_discrete behind 255)
    where
      at : Dec (behind ≡ 255) → hall_enters size l j behind ≡ false
      at (yes d) = absurd (omega (arith, rw (eq-eqb _ _ d, entry_in) at h))
      at (no d) =
          let k : length l ≤ index_of behind l = omega (arith, rw (ne_eqb _ _ d, entry_in) at h) in
          rw (ne_eqb _ _ d, member_index behind l ∙ le-ltb (index_of behind l) (length l) k, hall_enters, entry_in, ◌and◌)

  -- none is named in a ring that has robots, and not that one
  pub ring_none : (length l ≡ 0 → ⊥) → member behind l ≡ false → ring_enters l behind ≡ false
  unfolding ring_enters
  ring_none z m = rw (ne_eqb (length l) 0 z, ring_enters) m

  -- else it is as in a hall
  pub ring_found : (o : Option ℕ) → (behind ≡ 255 → (length l ≡ 0 → ⊥) → member behind l ≡ true) → EntryIndex l behind o → EntryFound (ring_enters l behind) (length l) (entry_in behind l) o
  unfolding ring_enters entry_in
  ring_found None m h = let k = named h in at (ℕ_discrete (length l) 0)
    where
      named : length l < entry_in behind l → (behind ≡ 255 → ⊥) × (length l ≤ index_of behind l)
      named h = go (ℕ_discrete behind 255)
        where
          go : Dec (behind ≡ 255) → (behind ≡ 255 → ⊥) × (length l ≤ index_of behind l)
          go (yes d) = absurd (omega (arith, rw (eq-eqb _ _ d, entry_in) at h))
          go (no d) = (d, omega (arith, rw (ne_eqb _ _ d, entry_in) at h))

      at : Dec (length l ≡ 0) → ring_enters l behind ≡ false
      at (yes z) = rw (eq-eqb (length l) 0 z, ring_enters) (ne_eqb _ _ (named h).0)
      at (no z) = rw (ne_eqb (length l) 0 z, ring_enters) (member_index behind l ∙ le-ltb (index_of behind l) (length l) (named h).1)
  ring_found (Some t) m h = (at (ℕ_discrete (length l) 0) (ℕ_discrete behind 255), h.0, h.1)
    where
      at : Dec (length l ≡ 0) → Dec (behind ≡ 255) → ring_enters l behind ≡ true
      at (yes z) (yes d) = rw (eq-eqb (length l) 0 z, ring_enters) (eq-eqb _ _ d)
      at (yes z) (no d) = absurd (omega (arith, rw (ne_eqb _ _ d, entry_in) at h.1, h.0))
      at (no z) (yes d) = rw (ne_eqb (length l) 0 z, ring_enters) (m d z)
      at (no z) (no d) = rw (ne_eqb (length l) 0 z, ring_enters) (member_index behind l ∙ lt-ltb (index_of behind l) (length l) (omega (arith, rw (ne_eqb _ _ d, entry_in) at h.1, h.0)))

-- ---- filling a clique

module _ (l : List ℕ) (r j : ℕ) (list : List ℕ) where
  -- the follow list has another at place j
  pub list_other : (get_or list j 0 ≡ r → ⊥) → false ≡ list_met l r j list
  unfolding list_met ◌and◌
  list_other h = sym (rw (ne_eqb _ _ h, list_met, ◌and◌))

  -- it has r there, and the others decide
  pub list_rest : (o : List ℕ) → get_or list j 0 ≡ r → o ≡ without j list → same_members l o ≡ list_met l r j list
  unfolding list_met ◌and◌
  list_rest o h d = sym (rw (eq-eqb _ _ h, list_met, ◌and◌, d))

  -- a robot is named
  pub clique_named : (n behind : ℕ) → (behind ≡ 255 → ⊥) → false ≡ clique_enters n l r j behind list
  unfolding clique_enters ◌and◌
  clique_named n behind h = sym (rw (ne_eqb _ _ h, clique_enters, ◌and◌))

  -- none is, and the clique is filled
  pub clique_fills : (n behind : ℕ) → behind ≡ 255 → length l + 1 ≡ n → list_met l r j list ≡ clique_enters n l r j behind list
  unfolding clique_enters ◌and◌
  clique_fills n behind h e = sym (rw (eq-eqb _ _ h, clique_enters, ◌and◌, eq-eqb (suc (length l)) n (omega arith)))

  -- none is, and it is not filled
  pub clique_free : (n behind : ℕ) → behind ≡ 255 → (length l + 1 ≡ n → ⊥) → true ≡ clique_enters n l r j behind list
  unfolding clique_enters ◌and◌
  clique_free n behind h e = sym (rw (eq-eqb _ _ h, clique_enters, ◌and◌, ne_eqb (suc (length l)) n (λ z. e (omega arith))))

-- where a clique is not filled
pub clique_open : (n : ℕ) (l : List ℕ) (r j behind : ℕ) (list : List ℕ) → (suc (length l) ≡ n → ⊥) → eqb behind 255 ≡ clique_enters n l r j behind list
clique_open n l r j behind list h = at (ℕ_discrete behind 255)
  where
    at : Dec (behind ≡ 255) → eqb behind 255 ≡ clique_enters n l r j behind list
    at (yes d) = eq-eqb _ _ d ∙ clique_free l r j list n behind d (λ z. h (omega arith))
    at (no d) = ne_eqb _ _ d ∙ clique_named l r j list n behind d

-- ---- the list after an entry

-- where a robot comes in: first, or after the named one; at most one past the end
pub entry_first : (behind : ℕ) (l : List ℕ) → behind ≡ 255 → 0 ≡ entry_in behind l
unfolding entry_in
entry_first behind l h = sym (rw (eq-eqb _ _ h, entry_in))

pub entry_after : (behind t : ℕ) (l : List ℕ) → (behind ≡ 255 → ⊥) → t ≡ index_of behind l → t + 1 ≡ entry_in behind l
unfolding entry_in
entry_after behind t l h i = sym (rw (ne_eqb _ _ h, entry_in) (omega arith))

pub entry_none : (behind : ℕ) (l : List ℕ) → (behind ≡ 255 → ⊥) → length l ≡ index_of behind l → length l < entry_in behind l
unfolding entry_in
entry_none behind l h i = rw (ne_eqb _ _ h, entry_in) (omega arith)

-- how far a filled ring is turned: past its end, or not
pub turn_past : (n t j : ℕ) → j < n → t < j → n - (j - t) ≡ wrap n (n + t - j)
unfolding wrap
turn_past n t j h b = sym (rw (lt-ltb (n + t - j) n (omega arith), wrap) (omega arith))

pub turn_within : (n t j : ℕ) → j < n → j ≤ t → t - j ≡ wrap n (n + t - j)
unfolding wrap
turn_within n t j h b = sym (rw (le-ltb (n + t - j) n (omega arith), wrap) (omega arith))

module _ (l : List ℕ) (n r : ℕ) where
  -- a ring that is not filled
  pub ring_free : (j behind t : ℕ) → (suc (length l) ≡ n → ⊥) → t ≡ entry_in behind l → put_in t r l ≡ ring_entered n l r j behind
  unfolding ring_entered
  ring_free j behind t h i = sym (rw (ne_eqb (suc (length l)) n h, ring_entered, i))

  -- one that is filled
  pub ring_full : (j behind t q : ℕ) → suc (length l) ≡ n → t ≡ entry_in behind l → q ≡ wrap n (n + t - j) → turned_by q (put_in t r l) ≡ ring_entered n l r j behind
  unfolding ring_entered
  ring_full j behind t q h i w =
      sym (rw (eq-eqb (suc (length l)) n h, ring_entered) (ap₂ (λ (x y : ℕ). turned_by x (put_in y r l)) (ap (λ (k : ℕ). wrap n (n + k - j)) (sym i) ∙ sym w) (sym i)))

  -- a clique that is filled, and one that is not
  pub clique_full : (list : List ℕ) → suc (length l) ≡ n → list ≡ clique_entered n l r list
  unfolding clique_entered
  clique_full list h = sym (rw (eq-eqb (suc (length l)) n h, clique_entered))

  pub clique_more : (list : List ℕ) → (suc (length l) ≡ n → ⊥) → put_in (length l) r l ≡ clique_entered n l r list
  unfolding clique_entered
  clique_more list h = sym (rw (ne_eqb (suc (length l)) n h, clique_entered))

-- a robot put in where it fills no clique
pub inserted : (kind size : ℕ) (l : List ℕ) (r j behind : ℕ) (list : List ℕ) (t : ℕ) → (kind ≡ 4 → ⊥) → (kind ≡ 3 → suc (length l) ≡ size → ⊥) → t ≡ entry_on kind behind l
    → put_in t r l ≡ entered kind size l r j behind list
unfolding entry_on entered
inserted kind size l r j behind list t h g e = go (kind? kind) h g e
  where
    go : {k : ℕ} → KindOf k → (k ≡ 4 → ⊥) → (k ≡ 3 → suc (length l) ≡ size → ⊥) → t ≡ entry_on k behind l → put_in t r l ≡ entered k size l r j behind list
    go clique h g e = ap (λ (x : ℕ). put_in x r l) e ∙ clique_more l size r list (g refl)
    go ring h g e = absurd (h refl)
    go (hall i) h g e =
        ap (λ (x : ℕ). put_in x r l) (e ∙ as_hall i (length l) (entry_in behind l) (entry_in behind l))
        ∙ sym (as_hall i (clique_entered size l r list) (ring_entered size l r j behind) (put_in (entry_in behind l) r l))

-- a clique that is filled
pub filled : (kind size : ℕ) (l : List ℕ) (r j behind : ℕ) (list : List ℕ) → kind ≡ 3 → suc (length l) ≡ size → list ≡ entered kind size l r j behind list
filled kind size l r j behind list e h = clique_full l size r list h ∙ clique_entered_lem kind e size l r j behind list
