-- A zone's goals, by the list of its robots: one law for each way through the code.
use Rattle.std.specs.Prelude.{◌≡◌, refl, Bool, true, false, List, [], ◌∷◌, ◌++◌, ℕ, suc, ◌+◌, ◌-◌, ◌<◌, length, take, drop, get_or, eqb}
use Rattle.std.proofs.Common.{sym, ap, ap₂, ◌∙◌, arith, take_all, drop_of_length-le, eq-eqb, ne_eqb, length-append, length-take, length-drop, length-take-le}
use Rattle.std.proofs.lemmas.List.{take-append-drop}
use Rattle.std.proofs.Math.Decide.{ℕ_discrete}
use Rattle.spec.specs.Outcome.{◌and◌, index_of, same_list}
use Rattle.spec.specs.Ring.{turned}
use Rattle.theory.specs.Zones.Hall.Order.{IsHall}
use Rattle.theory.specs.Zones.Kinds.{KindOf, clique, ring, hall, kind?, as_hall}
use Rattle.orders.specs.Orders.{same_members, end_test}

-- ---- by kind

module _ (n : ℕ) (l o : List ℕ) where
  -- a hall
  pub hall_ends : (kind : ℕ) → IsHall kind → same_list l o ≡ end_test kind n l o
  unfolding end_test
  hall_ends kind i =
      sym (as_hall i (elim (eqb (length l) n) [ true ↦ same_list l o | false ↦ same_members l o ]) (elim (eqb (length l) n) [ true ↦ same_list l o | false ↦ turned l o ]) (same_list l o))

  -- a full zone
  pub whole_ends : (kind : ℕ) → length l ≡ n → same_list l o ≡ end_test kind n l o
  unfolding end_test
  whole_ends kind h = go (kind? kind)
    where
      go : {k : ℕ} → KindOf k → same_list l o ≡ end_test k n l o
      go clique = sym (rw (eq-eqb _ _ h, end_test))
      go ring = sym (rw (eq-eqb _ _ h, end_test))
      go (hall i) = hall_ends _ i

  -- a clique or ring that is not full
  pub clique_ends : (kind : ℕ) → kind ≡ 3 → (length l ≡ n → ⊥) → same_members l o ≡ end_test kind n l o
  unfolding end_test
  clique_ends kind e h = sym (rw (e, ne_eqb _ _ h, end_test))

  pub ring_ends : (kind : ℕ) → kind ≡ 4 → (length l ≡ n → ⊥) → turned l o ≡ end_test kind n l o
  unfolding end_test
  ring_ends kind e h = sym (rw (e, ne_eqb _ _ h, end_test))

-- ---- a ring's robots, turned

-- none is only none
pub turned_empty : (l o : List ℕ) → length l ≡ 0 → eqb (length o) 0 ≡ turned l o
unfolding turned same_list
turned_empty [] [] h = refl
turned_empty [] (x ∷ o) h = ne_eqb (suc (length o)) 0 (λ e. omega arith)
turned_empty (x ∷ l) o h = absurd (omega arith)

-- the first of them is none of the goals
pub turned_none : (x : ℕ) (l o : List ℕ) → 0 < length l → x ≡ get_or l 0 0 → length o ≡ index_of x o → false ≡ turned l o
unfolding turned same_list index_of
turned_none x [] o z e h = absurd (omega arith)
turned_none x (y ∷ l) o z e h = sym (ap (same_list (x ∷ l)) same ∙ other o h) ∙ ap (λ (x : ℕ). turned (x ∷ l) o) e
  where
    same : drop (index_of x o) o ++ take (index_of x o) o ≡ o
    same = ap₂ (λ (a b : List ℕ). a ++ b) (drop_of_length-le o {i = index_of x o} (omega arith)) (take_all (index_of x o) o (omega arith))

    other : (o : List ℕ) → length o ≡ index_of x o → same_list (x ∷ l) o ≡ false
    other [] h = refl
    other (y ∷ o) h = at (ℕ_discrete x y)
      where
        at : Dec (x ≡ y) → same_list (x ∷ l) (y ∷ o) ≡ false
        at (yes e) = absurd (omega (arith, rw (eq-eqb x y e, index_of) at h))
        at (no d) = rw (ne_eqb x y d, same_list)

-- lists that are not as long are not the same
same_long : (l o : List ℕ) → (length l ≡ length o → ⊥) → same_list l o ≡ false
unfolding same_list
same_long [] [] h = absurd (h refl)
same_long [] (y ∷ o) h = refl
same_long (x ∷ l) [] h = refl
same_long (x ∷ l) (y ∷ o) h = at (eqb x y) (same_long l o (λ e. h (ap suc e)))
  where
    at : (b : Bool) → same_list l o ≡ false → ◌≡◌ {A = Bool} (elim b [ true ↦ same_list l o | false ↦ false ]) false
    at true r = r
    at false r = refl

-- two parts are compared one after the other
same_parts : (a b x y : List ℕ) → length a ≡ length x → same_list (a ++ b) (x ++ y) ≡ (same_list a x and same_list b y)
unfolding same_list ◌and◌
same_parts [] b [] y h = refl
same_parts [] b (x ∷ xs) y h = absurd (omega (arith, h))
same_parts (a ∷ ls) b [] y h = absurd (omega (arith, h))
same_parts (a ∷ ls) b (x ∷ xs) y h = at (eqb a x) (same_parts ls b xs y (omega (arith, h)))
  where
    at : (t : Bool) → same_list (ls ++ b) (xs ++ y) ≡ (same_list ls xs and same_list b y)
        → ◌≡◌ {A = Bool} (elim t [ true ↦ same_list (ls ++ b) (xs ++ y) | false ↦ false ]) (elim t [ true ↦ same_list ls xs | false ↦ false ] and same_list b y)
    at true r = r
    at false r = refl

-- not as many
pub turned_other : (l o : List ℕ) → (length l ≡ length o → ⊥) → false ≡ turned l o
unfolding turned
turned_other [] o h = sym (same_long [] o h)
turned_other (x ∷ l) o h =
    sym (same_long (x ∷ l) (drop (index_of x o) o ++ take (index_of x o) o) (λ e. h (e ∙ length-append (drop (index_of x o) o) (take (index_of x o) o) ∙ omega (arith, length-drop (index_of x o) o, length-take (index_of x o) o))))

module _ (x : ℕ) (l o : List ℕ) (t : ℕ) (z : 0 < length l) (e : x ≡ get_or l 0 0) (i : t ≡ index_of x o) (m : length l ≡ length o) where
  -- robots are compared with the goals read from the first of them on
  turned_at : same_list l (drop t o ++ take t o) ≡ turned l o
  unfolding turned
  turned_at = go l e z
    where
      go : (l : List ℕ) → x ≡ get_or l 0 0 → 0 < length l → same_list l (drop t o ++ take t o) ≡ turned l o
      go [] e z = absurd (omega (arith, z))
      go (y ∷ l) e z = ap (λ (k : ℕ). same_list (y ∷ l) (drop k o ++ take k o)) (i ∙ ap (λ (x : ℕ). index_of x o) e)

  -- in two parts
  by_parts : (same_list (take (length o - t) l) (drop t o) and same_list (drop (length o - t) l) (take t o)) ≡ turned l o
  by_parts =
      sym (same_parts (take (length o - t) l) (drop (length o - t) l) (drop t o) (take t o) (length-take-le (length o - t) l (omega (arith, m)) ∙ sym (length-drop t o)))
      ∙ ap (λ (k : List ℕ). same_list k (drop t o ++ take t o)) (take-append-drop (length o - t) l) ∙ turned_at

  -- the first are the same, and the others decide; or they are not
  pub turned_then : true ≡ same_list (take (length o - t) l) (drop t o) → same_list (drop (length o - t) l) (take t o) ≡ turned l o
  unfolding ◌and◌
  turned_then h = rw (← h) at by_parts

  pub turned_not : false ≡ same_list (take (length o - t) l) (drop t o) → false ≡ turned l o
  unfolding ◌and◌
  turned_not h = rw (← h) at by_parts
