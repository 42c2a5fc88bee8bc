-- Halls: an arrangement as the list of its robots and the rising list of their places.
use Rattle.std.specs.Prelude.{◌≡◌, refl, ◌≢◌, List, [], ◌∷◌, ◌++◌, ℕ, suc, ◌≤◌, ◌<◌, zero, ◌+◌, set, replicate, length, take}
use Rattle.std.proofs.Common.{◌∙◌, ap, append-nil, suc-add, add-suc, add-zero, zero-add, arith, length-set, get_or-set_other, get_or-set_same}
use Rattle.std.proofs.lemmas.List.{length-replicate, take-set-le, set_at}
use Rattle.std.proofs.Math.Seq.{take-set-lt}
use Rattle.spec.specs.Arrangement.{Arrangement, cell, order, places}
use Rattle.theory.specs.Basics.Lists.{Each, none, ◌&◌, each_map, get_d_uniform, ◌&&&◌}

-- ---- rising places

-- the places rise strictly, from lo on and below hi
pub data Rising : ℕ → ℕ → List ℕ → Type 0 where
  rest : {lo hi : ℕ} → lo ≤ hi → Rising lo hi []
  rise : {lo hi p : ℕ} {ps : List ℕ} → lo ≤ p → Rising (suc p) hi ps → Rising lo hi (p ∷ ps)

-- the constructors as functions, for a tactic in the first place
pub end : {lo hi : ℕ} → lo ≤ hi → Rising lo hi []
end h = rest h

-- the same of the other constructor
infixr 60 ◌◃◌
pub ◌◃◌ : {lo hi p : ℕ} {ps : List ℕ} → lo ≤ p → Rising (suc p) hi ps → Rising lo hi (p ∷ ps)
h ◃ r = rise h r

-- places that rise from a bound rise from any lower one
pub rising_from : {lo lo' hi : ℕ} {ps : List ℕ} → lo ≤ lo' → Rising lo' hi ps → Rising lo hi ps
rising_from h (rest k) = end (omega arith)
rising_from h (rise k r) = omega arith ◃ r

-- they are at least their lower bound
pub rising_least : {lo hi : ℕ} {ps : List ℕ} → Rising lo hi ps → Each (λ p. lo ≤ p) ps
rising_least (rest k) = none
rising_least (rise k r) = k & each_map (λ p h. omega arith) (rising_least r)

-- the lower bound is at most the upper one
pub rising_top : {lo hi : ℕ} {ps : List ℕ} → Rising lo hi ps → lo ≤ hi
rising_top (rest k) = k
rising_top (rise k r) = omega (arith, rising_top r)

-- rising places are below their bound
pub rising_under : {lo hi : ℕ} {ps : List ℕ} → Rising lo hi ps → Each (λ p. p < hi) ps
rising_under (rest h) = none
rising_under (rise h r) = rising_top r & rising_under r

-- rising places, one place, and rising places above it
pub rising_join : {lo p hi : ℕ} {ps qs : List ℕ} → Rising lo p ps → Rising (suc p) hi qs → Rising lo hi (ps ++ p ∷ qs)
rising_join (rest h) s = h ◃ s
rising_join (rise h r) s = h ◃ rising_join r s

-- rising places below a place and rising places above it
pub rising_append : {lo p hi : ℕ} {ps qs : List ℕ} → Rising lo p ps → Rising (suc p) hi qs → Rising lo hi (ps ++ qs)
rising_append (rest h) s = rising_from (omega arith) s
rising_append (rise h r) s = h ◃ rising_append r s

-- both parts of rising places rise
pub rising_cut : {lo hi : ℕ} (ps : List ℕ) {qs : List ℕ} → Rising lo hi (ps ++ qs) → Rising lo hi ps × Rising lo hi qs
rising_cut [] r = (end (rising_top r), r)
rising_cut (x ∷ ps) (rise h r) = let s = rising_cut ps r in (h ◃ s.0, rising_from (omega arith) s.1)

-- ---- robots at places

-- the empty arrangement of m places with the robots cs set at the places ps
unfoldable pub cells : ℕ → List ℕ → List ℕ → Arrangement
cells m [] ps = replicate m 0
cells m (c ∷ cs) [] = replicate m 0
cells m (c ∷ cs) (p ∷ ps) = set (cells m cs ps) p (suc c)

-- it has m places
pub length_cells : (m : ℕ) (cs ps : List ℕ) → length (cells m cs ps) ≡ m
unfolding cells
length_cells m [] ps = length-replicate m 0
length_cells m (c ∷ cs) [] = length-replicate m 0
length_cells m (c ∷ cs) (p ∷ ps) = length-set (cells m cs ps) p (suc c) ∙ length_cells m cs ps

-- a place that is no robot's is empty
pub cell_cells : (m : ℕ) (cs ps : List ℕ) (i : ℕ) → Each (λ p. i ≢ p) ps → cell (cells m cs ps) i ≡ 0
unfolding cells
cell_cells m [] ps i h = get_d_uniform m i 0
cell_cells m (c ∷ cs) [] i none = get_d_uniform m i 0
cell_cells m (c ∷ cs) (p ∷ ps) i (◌&&&◌ h hs) = get_or-set_other (cells m cs ps) p i (suc c) 0 h ∙ cell_cells m cs ps i hs

-- below the first of rising places all is empty
pub rising_empty : {lo hi : ℕ} (m : ℕ) (cs : List ℕ) {ps : List ℕ} → Rising lo hi ps → (i : ℕ) → i < lo → cell (cells m cs ps) i ≡ 0
rising_empty m cs {ps} r i h = cell_cells m cs ps i (each_map (λ p k. omega arith) (rising_least r))

-- the robot is where its place says, if no robot before it in the list has that place
pub cell_of_lem : (m j c : ℕ) (xs ps ys qs : List ℕ) → length ps ≡ length xs → j < m → Each (λ p. p < j) ps → cell (cells m (xs ++ c ∷ ys) (ps ++ j ∷ qs)) j ≡ suc c
unfolding cells
cell_of_lem m j c [] [] ys qs e h none = get_or-set_same (cells m ys qs) j (suc c) 0 (omega (arith, length_cells m ys qs))
cell_of_lem m j c [] (p ∷ ps) ys qs e h k = absurd (omega arith)
cell_of_lem m j c (x ∷ xs) [] ys qs e h k = absurd (omega arith)
cell_of_lem m j c (x ∷ xs) (p ∷ ps) ys qs e h (◌&&&◌ k ks) =
    get_or-set_other (cells m (xs ++ c ∷ ys) (ps ++ j ∷ qs)) p j (suc x) 0 (omega arith) ∙ cell_of_lem m j c xs ps ys qs (omega arith) h ks

-- a robot put before all the others is the first of the order
order_first : (a : Arrangement) (p c : ℕ) → ((i : ℕ) → i ≤ p → cell a i ≡ 0) → p < length a → order (set a p (suc c)) ≡ c ∷ order a
unfolding order
order_first [] p c h k = absurd (omega arith)
order_first (suc x ∷ a) p c h k = absurd (omega (arith, h 0 (omega arith)))
order_first (zero ∷ a) zero c h k = refl
order_first (zero ∷ a) (suc p) c h k = order_first a p c (λ i l. h (suc i) (omega arith)) (omega arith)

-- an empty arrangement has no order
pub order_none : (m : ℕ) → order (replicate m 0) ≡ []
unfolding order
order_none zero = refl
order_none (suc m) = order_none m

-- the order of robots at rising places is the list of them
pub order_cells : {lo m : ℕ} (cs : List ℕ) {ps : List ℕ} → Rising lo m ps → length ps ≡ length cs → order (cells m cs ps) ≡ cs
unfolding cells
order_cells {m} [] (rest h) l = order_none m
order_cells [] (rise h r) l = absurd (omega arith)
order_cells (c ∷ cs) (rest h) l = absurd (omega arith)
order_cells {m} (c ∷ cs) (rise {p} {ps} h r) l =
    order_first (cells m cs ps) p c (λ i k. cell_cells m cs ps i (each_map (λ q z. omega arith) (rising_least r))) (omega (arith, length_cells m cs ps, rising_top r)) ∙ ap (λ s. c ∷ s) (order_cells cs r (omega arith))

-- what stands below place j, where ps are below it and qs are not
take_empty : (j m : ℕ) → j ≤ m → take {A = ℕ} j (replicate m 0) ≡ replicate j 0
take_empty zero m h = refl
take_empty (suc j) zero h = absurd (omega arith)
take_empty (suc j) (suc m) h = ap (λ l. 0 ∷ l) (take_empty j m (omega arith))

-- below all the robots everything is empty
take_over : (j m : ℕ) (ys qs : List ℕ) → j ≤ m → Each (λ q. j ≤ q) qs → take j (cells m ys qs) ≡ replicate j 0
unfolding cells
take_over j m [] qs h k = take_empty j m h
take_over j m (y ∷ ys) [] h none = take_empty j m h
take_over j m (y ∷ ys) (q ∷ qs) h (◌&&&◌ k ks) = take-set-le j (cells m ys qs) q (suc y) k ∙ take_over j m ys qs h ks

-- the places below j hold the robots below j
pub take_cells : (j m : ℕ) (xs ps ys qs : List ℕ) → j ≤ m → length ps ≡ length xs → Each (λ p. p < j) ps → Each (λ q. j ≤ q) qs → take j (cells m (xs ++ ys) (ps ++ qs)) ≡ cells j xs ps
unfolding cells
take_cells j m [] [] ys qs h l k n = take_over j m ys qs h n
take_cells j m [] (p ∷ ps) ys qs h l k n = absurd (omega arith)
take_cells j m (x ∷ xs) [] ys qs h l k n = absurd (omega arith)
take_cells j m (x ∷ xs) (p ∷ ps) ys qs h l (◌&&&◌ k ks) n =
    take-set-lt j (cells m (xs ++ ys) (ps ++ qs)) p (suc x) k ∙ ap (λ b. set b p (suc x)) (take_cells j m xs ps ys qs h (omega arith) ks n)

-- ---- an arrangement is its robots at their places

-- there are as many places as robots
pub length_places : (k : ℕ) (a : Arrangement) → length (places k a) ≡ length (order a)
unfolding places order
length_places k [] = refl
length_places k (zero ∷ a) = length_places (suc k) a
length_places k (suc c ∷ a) = ap suc (length_places (suc k) a)

-- the places of the robots rise, counted from any k
places_rise : (k : ℕ) (a : Arrangement) → Rising k (k + length a) (places k a)
unfolding places
places_rise k [] = end (omega arith)
places_rise k (zero ∷ a) = rising_from {lo' = suc k} (omega arith) (rw (add-suc, ← suc-add) (places_rise (suc k) a))
places_rise k (suc c ∷ a) = omega arith ◃ rw (add-suc, ← suc-add) (places_rise (suc k) a)

-- empty places, one of them put to the places after
pub empty_snoc : (k : ℕ) (a : Arrangement) → replicate (suc k) 0 ++ a ≡ replicate k 0 ++ 0 ∷ a
empty_snoc zero a = refl
empty_snoc (suc k) a = ap (λ r. 0 ∷ r) (empty_snoc k a)

-- an arrangement, behind k empty places, is its robots at their places
cells_places : (k : ℕ) (a : Arrangement) → cells (k + length a) (order a) (places k a) ≡ replicate k 0 ++ a
unfolding cells order places
cells_places k [] = rw (add-zero, append-nil)
cells_places k (zero ∷ a) = rw (add-suc, ← suc-add) (cells_places (suc k) a ∙ empty_snoc k a)
cells_places k (suc c ∷ a) =
    let e : k + length (suc c ∷ a) ≡ suc k + length a = omega arith in
    ap (λ n. cells n (order (suc c ∷ a)) (places k (suc c ∷ a))) e
    ∙ ap (λ (l : Arrangement). set l k (suc c)) (cells_places (suc k) a ∙ empty_snoc k a)
    ∙ set_at (replicate k 0) 0 a (suc c) k (length-replicate k 0)

-- an arrangement is its robots at their places
pub cells_order : (a : Arrangement) → cells (length a) (order a) (places 0 a) ≡ a
cells_order a = rw zero-add at (cells_places 0 a)

-- the places of the robots rise
pub rising_places : (a : Arrangement) → Rising 0 (length a) (places 0 a)
rising_places a = rw zero-add at (places_rise 0 a)
