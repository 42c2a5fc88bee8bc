-- Who can leave a zone, by the list of its robots: one law for each way through the code.
use Rattle.std.specs.Prelude.{◌≡◌, refl, Bool, true, List, [], ◌∷◌, get_or, take, eqb, position, Option, Some, None, MatchOption}
use Rattle.std.specs.Bool.{then_some}
use Rattle.std.proofs.Math.Path.{sym, ap₂}
use Rattle.std.proofs.Common.{◌∙◌, length-take-le, get_or-take}
use Rattle.std.proofs.Math.Bool.{false}
use Prim.Native.Nat.{ℕ, zero, suc, ◌-◌, ◌≤◌, ◌<◌}
use native.Mathlib.Omega.{arith}
use Rattle.std.proofs.Math.Decide.{ℕ_discrete}
use Rattle.std.proofs.Math.ListN.{length}
use borrow.Author.Tests.{eq-eqb, ne_eqb, lt-ltb, le-ltb}
use Rattle.spec.specs.Outcome.{◌and◌, index_of}
use Rattle.spec.specs.Hall.{room}
use Rattle.spec.specs.ZoneKind.{by_kind}
use Rattle.theory.specs.Basics.Tests.{of_true, of_false}
use Rattle.theory.specs.Zones.Kinds.{KindOf, clique, ring, hall, kind?, as_hall}
use Rattle.reaching.specs.Reach.{member_index}
use Rattle.rosters.specs.Finding.{index_found, index_missing}
use Rattle.orders.specs.Orders.{pinned, hall_leaves, leave_test}

-- what the search for a leaver, robot r of the n robots l, finds: its index where the test lets it out
abbrev pub LeaveFound : Bool → ℕ → ℕ → List ℕ → Option ℕ → Type 0
LeaveFound test r n l found = MatchOption found (test ≡ false) (λ q. (test ≡ true) × (q < n) × (q ≡ index_of r l))

-- ---- the test, in the code's order

-- a clique or ring of `size` places with n robots lets one of them, r, out at the place where x is listed: a full one only where x is r
unfoldable pub lets_out : ℕ → ℕ → ℕ → ℕ → Bool
lets_out n size x r = elim (eqb n size) [ true ↦ eqb x r | false ↦ true ]

-- robot r, at index t of n, can leave at place j, where x is listed
unfoldable pub goes : ℕ → ℕ → ℕ → ℕ → ℕ → ℕ → ℕ → Bool
goes kind n size x r t j = by_kind kind (lets_out n size x r) (lets_out n size x r) (room size j t (n - t - 1))

module _ (n size x r : ℕ) where
  -- a zone that is not full, and a full one
  pub lets_any : (n ≡ size → ⊥) → true ≡ lets_out n size x r
  unfolding lets_out
  lets_any h = sym (rw (ne_eqb _ _ h, lets_out))

  pub lets_one : n ≡ size → eqb x r ≡ lets_out n size x r
  unfolding lets_out
  lets_one h = sym (rw (eq-eqb _ _ h, lets_out))

-- ---- by kind

-- a clique's or ring's answer is chosen where the zone is pinned
pub chosen_pinned : {kind : ℕ} {b : Bool} → KindOf kind → (x z : Bool) → b ≡ true → b ≡ by_kind kind true true false → x ≡ by_kind kind x x z
chosen_pinned clique x z h e = refl
chosen_pinned ring x z h e = refl
chosen_pinned (hall i) x z h e = absurd (of_false (as_hall i true true false) (of_true (sym e ∙ h)))

-- and a hall's where it is not
pub chosen_hall : {kind : ℕ} {b : Bool} → KindOf kind → (x z : Bool) → b ≡ false → b ≡ by_kind kind true true false → z ≡ by_kind kind x x z
chosen_hall clique x z h e = absurd (of_false h (of_true e))
chosen_hall ring x z h e = absurd (of_false h (of_true e))
chosen_hall (hall i) x z h e = sym (as_hall i x x z)

-- whatever is chosen of what is false is false
chosen_none : {kind : ℕ} → KindOf kind → by_kind kind false false false ≡ false
chosen_none clique = refl
chosen_none ring = refl
chosen_none (hall i) = as_hall i false false false

-- ---- on the list

-- the search ends at the first that stands for it
index_early : (r : ℕ) (l : List ℕ) (j : ℕ) → j < length l → r ≡ get_or l j 0 → index_of r l ≤ j
unfolding index_of
index_early r [] j h e = absurd (omega arith)
index_early r (x ∷ l) zero h e = rw (eq-eqb r x e, index_of) (omega arith)
index_early r (x ∷ l) (suc j) h e = at (ℕ_discrete r x) (index_early r l j (omega arith) e)
  where
    at : Dec (r ≡ x) → index_of r l ≤ j → index_of r (x ∷ l) ≤ suc j
    at (yes d) k = rw (eq-eqb _ _ d, index_of) (omega arith)
    at (no d) k = rw (ne_eqb _ _ d, index_of) (omega arith)

module _ (l : List ℕ) (n size r j t : ℕ) (e : length l ≡ n) (i : t ≡ index_of r l) where
  -- r is not in a clique or ring
  pinned_none : n ≤ t → j < size → pinned size l r j ≡ false
  unfolding pinned
  pinned_none k h = go (ℕ_discrete (length l) size)
    where
      go : Dec (length l ≡ size) → pinned size l r j ≡ false
      go (yes f) = rw (eq-eqb (length l) size f, pinned) (ne_eqb (get_or l j 0) r (λ z. omega (arith, index_early r l j (omega arith) (sym z))))
      go (no f) = rw (ne_eqb (length l) size f, pinned) (member_index r l ∙ le-ltb (index_of r l) (length l) (omega arith))

  -- it is, and where the zone is full x stands at place j
  pinned_some : (x : ℕ) → t < n → (n ≡ size → x ≡ get_or l j 0) → lets_out n size x r ≡ pinned size l r j
  unfolding lets_out pinned
  pinned_some x k at = go (ℕ_discrete n size)
    where
      go : Dec (n ≡ size) → lets_out n size x r ≡ pinned size l r j
      go (yes f) = rw (eq-eqb n size f, eq-eqb (length l) size (e ∙ f), lets_out, pinned, at f)
      go (no f) = rw (ne_eqb n size f, ne_eqb (length l) size (λ z. f (sym e ∙ z)), lets_out, pinned) (sym (member_index r l ∙ lt-ltb (index_of r l) (length l) (omega arith)))

  -- r is not in a hall
  hall_none : n ≤ t → hall_leaves size l r j ≡ false
  unfolding hall_leaves ◌and◌
  hall_none k = rw (member_index r l ∙ le-ltb (index_of r l) (length l) (omega arith), hall_leaves, ◌and◌)

  -- it is, and the room decides
  hall_some : t < n → room size j t (n - t - 1) ≡ hall_leaves size l r j
  unfolding hall_leaves ◌and◌
  hall_some k =
      let u : n - t - 1 ≡ length l - suc (index_of r l) = omega arith in
      rw (member_index r l ∙ lt-ltb (index_of r l) (length l) (omega arith), hall_leaves, ◌and◌, u, i)

-- ---- on the first n of a part

module _ (kind : ℕ) (p : List ℕ) (n size r j : ℕ) (fits : n ≤ length p) (b : j < size) where
  -- they are n
  long : length (take n p) ≡ n
  long = length-take-le n p fits

  -- r is not in the zone
  none_test_lem : n ≤ index_of r (take n p) → leave_test kind size (take n p) r j ≡ false
  unfolding leave_test
  none_test_lem k = ap₂ (λ (x z : Bool). by_kind kind x x z) (pinned_none (take n p) n size r j _ long refl k b) (hall_none (take n p) n size r j _ long refl k) ∙ chosen_none (kind? kind)

  pub leaver_none : {o f : Option ℕ} → o ≡ position (eqb r) (take n p) → o ≡ None → f ≡ None → LeaveFound (leave_test kind size (take n p) r j) r n (take n p) f
  leaver_none e m d = rw d (none_test_lem (omega (arith, index_missing r (take n p) e m, long)))

  -- it is, and can leave or not
  goes_test : (t : ℕ) → t ≡ index_of r (take n p) → t < n → goes kind n size (get_or p j 0) r t j ≡ leave_test kind size (take n p) r j
  unfolding goes leave_test
  goes_test t i k = ap₂ (λ (x z : Bool). by_kind kind x x z) (pinned_some (take n p) n size r j t long i (get_or p j 0) k (λ f. sym (get_or-take n p j 0 (omega arith)))) (hall_some (take n p) n size r j t long i k)

  pub leaver_at : {o f : Option ℕ} {x : Bool} (t : ℕ) → o ≡ position (eqb r) (take n p) → o ≡ Some t → x ≡ goes kind n size (get_or p j 0) r t j → f ≡ then_some x t → LeaveFound (leave_test kind size (take n p) r j) r n (take n p) f
  leaver_at {x} t e s g d = rw d (found x (g ∙ goes_test t i.1 k))
    where
      i : (t < length (take n p)) × (t ≡ index_of r (take n p))
      i = index_found r (take n p) e t s

      k : t < n
      k = omega (arith, i.0, long)

      found : (x : Bool) → x ≡ leave_test kind size (take n p) r j → LeaveFound (leave_test kind size (take n p) r j) r n (take n p) (then_some x t)
      found true y = (sym y, k, i.1)
      found false y = sym y
