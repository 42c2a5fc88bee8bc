-- How long the list is after a crossing.
use Rattle.std.specs.Prelude.{◌≡◌, refl, Bool, true, false, List, ◌∷◌, ℕ, suc, ◌+◌, ◌-◌, ◌<◌, length, take, drop, eqb}
use Rattle.std.proofs.Common.{sym, ap, ◌∙◌, arith, length-append, length-take, length-drop}
use Rattle.spec.specs.Ring.{wrap}
use Rattle.theory.specs.Basics.Tests.{Eqb, same, other, eqb?}
use Rattle.theory.specs.Zones.Kinds.{KindOf, clique, ring, hall, kind?, as_hall}
use Rattle.orders.specs.Orders.{without, put_in, entry_in, turned_by, ring_entered, clique_entered, entered}

-- one shorter without an element
pub without_length : (t : ℕ) (l : List ℕ) → t < length l → length (without t l) ≡ length l - 1
unfolding without
without_length t l h = length-append (take t l) (drop (suc t) l) ∙ omega (arith, length-take t l, length-drop (suc t) l)

-- one longer with a robot put in
pub put_length : (t r : ℕ) (l : List ℕ) → length (put_in t r l) ≡ suc (length l)
unfolding put_in
put_length t r l = length-append (take t l) (r ∷ drop t l) ∙ omega (arith, length-take t l, length-drop t l)

-- turning a list keeps its length
turned_length : (q : ℕ) (l : List ℕ) → length (turned_by q l) ≡ length l
unfolding turned_by
turned_length q l = length-append (drop q l) (take q l) ∙ omega (arith, length-drop q l, length-take q l)

-- a ring's is one longer
ring_length : (n : ℕ) (l : List ℕ) (r j behind : ℕ) → length (ring_entered n l r j behind) ≡ suc (length l)
unfolding ring_entered
ring_length n l r j behind = go (eqb (suc (length l)) n)
  where
    go : (b : Bool) → length {A = ℕ} (elim b [ true ↦ turned_by (wrap n (n + entry_in behind l - j)) (put_in (entry_in behind l) r l) | false ↦ put_in (entry_in behind l) r l ]) ≡ suc (length l)
    go true = turned_length (wrap n (n + entry_in behind l - j)) (put_in (entry_in behind l) r l) ∙ put_length (entry_in behind l) r l
    go false = put_length (entry_in behind l) r l

-- so is a clique's, where a follow list that fills it is as long as the clique
clique_length : (n : ℕ) (l : List ℕ) (r : ℕ) (list : List ℕ) → (suc (length l) ≡ n → length list ≡ n) → length (clique_entered n l r list) ≡ suc (length l)
unfolding clique_entered
clique_length n l r list h = go (eqb? (suc (length l)) n)
  where
    go : {b : Bool} → Eqb (suc (length l)) n b → length {A = ℕ} (elim b [ true ↦ list | false ↦ put_in (length l) r l ]) ≡ suc (length l)
    go (same e) = h e ∙ sym e
    go (other e) = put_length (length l) r l

-- and that of any kind
length_by : {kind : ℕ} → KindOf kind → (n : ℕ) (l : List ℕ) (r j behind : ℕ) (list : List ℕ) → (kind ≡ 3 → suc (length l) ≡ n → length list ≡ n)
    → length (entered kind n l r j behind list) ≡ suc (length l)
unfolding entered
length_by clique n l r j behind list h = clique_length n l r list (h refl)
length_by ring n l r j behind list h = ring_length n l r j behind
length_by (hall i) n l r j behind list h =
    ap length (as_hall i (clique_entered n l r list) (ring_entered n l r j behind) (put_in (entry_in behind l) r l)) ∙ put_length (entry_in behind l) r l

-- the list is one longer after an entry, where a follow list that fills a clique is as long as the clique
pub entered_length : (kind n : ℕ) (l : List ℕ) (r j behind : ℕ) (list : List ℕ) → (kind ≡ 3 → suc (length l) ≡ n → length list ≡ n)
    → length (entered kind n l r j behind list) ≡ suc (length l)
entered_length kind n l r j behind list h = length_by (kind? kind) n l r j behind list h
