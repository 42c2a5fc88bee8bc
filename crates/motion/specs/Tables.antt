-- A state made of two tables of any length.
use Rattle.std.specs.Prelude.{◌≡◌, refl, ℕ, zero, suc, ◌+◌, ◌-◌, ◌<◌, ◌≤◌, List, [], ◌∷◌, ◌++◌, length, get_or, set, take, map, replicate, min}
use Rattle.std.proofs.Common.{ap, ap₂, sym, ◌∙◌, arith, length-set, length-take, take_all, ext_get_or, get_or-set_same, get_or-set_other}
use Rattle.std.proofs.Math.Decide.{dec_lt, ℕ_discrete}
use Rattle.std.proofs.Math.ListN.{get_or-append, get_or-eq_default}
use Rattle.std.proofs.Math.Seq.{take-set-lt, take-append_seam}
use Rattle.std.proofs.lemmas.List.{get_or-take, get_or-replicate, get_or-append_right, get_or_default, set-append_left, length-replicate, length-append, map-set, set_past, take-set-le}
use Rattle.spec.specs.Arrangement.{Arrangement, Move}
use Rattle.spec.specs.State as meaning
use Rattle.motion.specs.States.{numbers}
use Rattle.motion.specs.World.{World, world, made, made_all, state_is, robots_length, vertices_length}
use Rattle.motion.specs.Across.{arrangement_length, arrangement_at}
use Rattle.motion.specs.Coupling.{Listed}

-- the first n entries of a table, 255 where it has no more
abbrev pub fitted : ℕ → List ℕ → List ℕ
fitted n l = take n l ++ replicate (n - length l) 255

-- the state of a table of robots and one of vertices, with a place for n vertices and m robots
abbrev pub tabled : ℕ → ℕ → List ℕ → List ℕ → meaning.State
tabled n m robots vertices = record { robots = fitted n robots; vertices = fitted m vertices }

-- ---- a table's entries

pub fitted_length : (n : ℕ) (l : List ℕ) → length (fitted n l) ≡ n
fitted_length n l =
    length-append (take n l) (replicate (n - length l) 255)
    ∙ ap₂ (λ (a b : ℕ). a + b) (length-take n l) (length-replicate (n - length l) 255) ∙ both n (length l)
  where
    both : (n k : ℕ) → min n k + (n - k) ≡ n
    both n k = omega arith

-- there is room for an entry, or none is there either
pub fitted_at : (n : ℕ) (l : List ℕ) (k : ℕ) → k < n → get_or (fitted n l) k 255 ≡ get_or l k 255
fitted_at n l k h = go (dec_lt k (length l))
  where
    go : Dec (k < length l) → get_or (fitted n l) k 255 ≡ get_or l k 255
    go (yes q) = get_or-append (take n l) (replicate (n - length l) 255) 255 k (omega (arith, length-take n l)) ∙ get_or-take n l k 255 h
    go (no q) =
        get_or-append_right (take n l) (replicate (n - length l) 255) (length l) k 255 (omega (arith, length-take n l)) (omega arith)
        ∙ get_or-replicate (n - length l) (k - length l) 255 255 (omega arith)
        ∙ sym (get_or-eq_default l 255 {n = k} (omega arith))

-- none entered yet, one more, and all
pub fitted_none : (A : Type 0) (num : A → ℕ) (x : A) → num x ≡ 255 → (n : ℕ) (l : List ℕ) → map num (replicate n x) ≡ fitted n (take 0 l)
fitted_none A num x e n l = mapped n ∙ ap (λ (k : ℕ). replicate k 255) (all n) ∙ ap (λ (a : List ℕ). a ++ replicate (n - 0) 255) (sym (take_all n [] (omega arith)))
  where
    mapped : (n : ℕ) → map num (replicate n x) ≡ replicate n 255
    mapped zero = refl
    mapped (suc n) = ap₂ (λ (y : ℕ) (ys : List ℕ). y ∷ ys) e (mapped n)

    all : (n : ℕ) → n ≡ n - 0
    all n = omega arith

pub fitted_next : (n i : ℕ) (l : List ℕ) → i < length l → set (fitted n (take i l)) i (get_or l i 0) ≡ fitted n (take (i + 1) l)
fitted_next n i l h =
    ext_get_or 255 _ _ (length-set (fitted n (take i l)) i (get_or l i 0) ∙ fitted_length n (take i l) ∙ sym (fitted_length n (take (i + 1) l)))
    (λ k q. at k (omega (arith, length-set (fitted n (take i l)) i (get_or l i 0), fitted_length n (take i l))) (ℕ_discrete k i) (dec_lt k i))
  where
    at : (k : ℕ) → k < n → Dec (k ≡ i) → Dec (k < i) → get_or (set (fitted n (take i l)) i (get_or l i 0)) k 255 ≡ get_or (fitted n (take (i + 1) l)) k 255
    at k q (yes e) d =
        rw e (get_or-set_same (fitted n (take i l)) i (get_or l i 0) 255 (omega (arith, fitted_length n (take i l)))
        ∙ get_or_default l i 0 255 h ∙ sym (get_or-take (i + 1) l i 255 (omega arith)) ∙ sym (fitted_at n (take (i + 1) l) i (omega arith)))
    at k q (no e) (yes d) =
        get_or-set_other (fitted n (take i l)) i k (get_or l i 0) 255 e ∙ fitted_at n (take i l) k q ∙ get_or-take i l k 255 d
        ∙ sym (get_or-take (i + 1) l k 255 (omega arith)) ∙ sym (fitted_at n (take (i + 1) l) k q)
    at k q (no e) (no d) =
        get_or-set_other (fitted n (take i l)) i k (get_or l i 0) 255 e ∙ fitted_at n (take i l) k q
        ∙ get_or-eq_default (take i l) 255 {n = k} (omega (arith, length-take i l))
        ∙ sym (get_or-eq_default (take (i + 1) l) 255 {n = k} (omega (arith, e, length-take (i + 1) l))) ∙ sym (fitted_at n (take (i + 1) l) k q)

pub fitted_more : (A : Type 0) (num : A → ℕ) (x : A) (before after : List A) (n i : ℕ) (l : List ℕ) → map num before ≡ fitted n (take i l) → i < length l → num x ≡ get_or l i 0
    → after ≡ set before i x → map num after ≡ fitted n (take (i + 1) l)
fitted_more A num x before after n i l e h q d =
    ap (map num) d ∙ map-set num before i x ∙ ap₂ (λ (k : List ℕ) (y : ℕ). set k i y) e q ∙ fitted_next n i l h

pub fitted_all : (n i : ℕ) (l a : List ℕ) → a ≡ fitted n (take i l) → length l ≤ i → a ≡ fitted n l
fitted_all n i l a e h = e ∙ ap (fitted n) (take_all i l h)

-- ---- a state of them

module _ (n m : ℕ) (robots vertices : List ℕ) where
  -- on a vertex for which there is room stands who stands there in the table
  pub tabled_robot : (v : ℕ) → v < n → meaning.robot_on (tabled n m robots vertices) v ≡ meaning.robot_on (numbers robots vertices) v
  tabled_robot v h = fitted_at n robots v h

  -- so that a zone of such vertices is arranged as by the tables
  pub tabled_arranged : (vs : List ℕ) → ((i : ℕ) → i < length vs → get_or vs i 0 < n)
      → meaning.arrangement_of (tabled n m robots vertices) vs ≡ meaning.arrangement_of (numbers robots vertices) vs
  tabled_arranged vs h =
      ext_get_or 0 _ _ (arrangement_length (tabled n m robots vertices) vs ∙ sym (arrangement_length (numbers robots vertices) vs))
      (λ k q.
      let l : k < length vs = omega (arith, arrangement_length (tabled n m robots vertices) vs) in
      arrangement_at (tabled n m robots vertices) vs k l ∙ ap meaning.cell_of (tabled_robot (get_or vs k 0) (h k l))
      ∙ sym (arrangement_at (numbers robots vertices) vs k l))

-- state t is state s, as far as the tables of s go
pub record Reaches (s t : meaning.State) : Type 0 where
  pub robots : take (length s.robots) t.robots ≡ s.robots
  pub vertices : take (length s.vertices) t.vertices ≡ s.vertices

take_set : (k i x : ℕ) (l a : List ℕ) → take k l ≡ a → take k (set l i x) ≡ set a i x
take_set k i x l a e = go (dec_lt i k)
  where
    go : Dec (i < k) → take k (set l i x) ≡ set a i x
    go (yes q) = take-set-lt k l i x q ∙ ap (λ (b : List ℕ). set b i x) e
    go (no q) = take-set-le k l i x (omega arith) ∙ e ∙ sym (set_past a i x (omega (arith, ap length e, length-take k l)))

-- with room for all entries the state is the tables
pub tabled_reaches : (n m : ℕ) (robots vertices : List ℕ) → length robots ≤ n → length vertices ≤ m → Reaches (numbers robots vertices) (tabled n m robots vertices)
tabled_reaches n m robots vertices a b = record { robots = whole n robots a; vertices = whole m vertices b }
  where
    whole : (k : ℕ) (l : List ℕ) → length l ≤ k → take (length l) (fitted k l) ≡ l
    whole k l h = ap (λ (x : List ℕ). take (length l) (x ++ replicate (k - length l) 255)) (take_all k l h) ∙ take-append_seam l (replicate (k - length l) 255)

-- and stays so, whatever moves are made
pub moved_reaches : (s t : meaning.State) (ms : List Move) → Reaches s t → Reaches (meaning.moved_all s ms) (meaning.moved_all t ms)
unfolding meaning.moved_all meaning.moved
moved_reaches s t [] r = r
moved_reaches s t (x ∷ ms) r =
    moved_reaches (meaning.moved s x) (meaning.moved t x) ms
    (record {
      robots = ap (λ (k : ℕ). take k (meaning.moved t x).robots) (length-set (set s.robots x.from 255) x.to x.robot ∙ length-set s.robots x.from 255)
          ∙ take_set (length s.robots) x.to x.robot _ _ (take_set (length s.robots) x.from 255 t.robots s.robots r.robots);
      vertices = ap (λ (k : ℕ). take k (meaning.moved t x).vertices) (length-set s.vertices x.robot x.to)
          ∙ take_set (length s.vertices) x.robot x.to t.vertices s.vertices r.vertices;
    })

-- ---- moves made with it

-- the count and the buffer after moves don't depend on the state
pub made_apart : (s t : meaning.State) (n : ℕ) (o : List ℕ) (ms : List Move)
    → made_all (world s n o) ms ≡ record { state = meaning.moved_all s ms; count = (made_all (world t n o) ms).count; buffer = (made_all (world t n o) ms).buffer }
unfolding made_all made meaning.moved_all
made_apart s t n o [] = refl
made_apart s t n o (m ∷ ms) = made_apart (meaning.moved s m) (meaning.moved t m) (made (world s n o) m).count (made (world s n o) m).buffer ms

module _ (n m : ℕ) (robots vertices : List ℕ) (few : length robots ≤ n) (short : length vertices ≤ m) where
  -- what is made with a state that has room for both tables, as far as these go, is what is made with the tables
  pub made_back : (robots' vertices' : List ℕ) (t : meaning.State) (count k : ℕ) (out after : List ℕ) (ms : List Move)
      → world t k after ≡ made_all (world (tabled n m robots vertices) count out) ms
      → robots' ≡ take (length robots) t.robots → vertices' ≡ take (length vertices) t.vertices
      → world (numbers robots' vertices') k after ≡ made_all (world (numbers robots vertices) count out) ms
  made_back robots' vertices' t count k out after ms e er ev =
      let s : meaning.State = numbers robots vertices in
      let u : meaning.State = tabled n m robots vertices in
      let r : Reaches (meaning.moved_all s ms) (meaning.moved_all u ms) = moved_reaches s u ms (tabled_reaches n m robots vertices few short) in
      let g : t ≡ meaning.moved_all u ms = ap (λ (w : World). w.state) e ∙ state_is (world u count out) ms in
      let hk : k ≡ (made_all (world u count out) ms).count = ap (λ (w : World). w.count) e in
      let ho : after ≡ (made_all (world u count out) ms).buffer = ap (λ (w : World). w.buffer) e in
      let b : robots' ≡ (meaning.moved_all s ms).robots =
      er ∙ ap₂ (λ (i : ℕ) (x : meaning.State). take i x.robots) (sym (robots_length s ms)) g ∙ r.robots in
      let d : vertices' ≡ (meaning.moved_all s ms).vertices =
      ev ∙ ap₂ (λ (i : ℕ) (x : meaning.State). take i x.vertices) (sym (vertices_length s ms)) g ∙ r.vertices in
      ap₂ (λ (x y : List ℕ). world (numbers x y) k after) b d
      ∙ ap₂ (λ (i : ℕ) (o : List ℕ). world (meaning.moved_all s ms) i o) hk ho
      ∙ sym (made_apart s u count out ms)

  -- so of moves f that are told by the zone's arrangement
  pub moved_back : (f : Arrangement → List Move) (vs robots' vertices' : List ℕ) (s t : meaning.State) (count k : ℕ) (out after : List ℕ)
      → ((i : ℕ) → i < length vs → get_or vs i 0 < n) → s ≡ tabled n m robots vertices
      → world t k after ≡ made_all (world s count out) (meaning.across vs (f (meaning.arrangement_of s vs)))
      → robots' ≡ take (length robots) t.robots → vertices' ≡ take (length vertices) t.vertices
      → world (numbers robots' vertices') k after ≡ made_all (world (numbers robots vertices) count out) (meaning.across vs (f (meaning.arrangement_of (numbers robots vertices) vs)))
  moved_back f vs robots' vertices' s t count k out after h es e er ev =
      made_back robots' vertices' t count k out after (meaning.across vs (f (meaning.arrangement_of (numbers robots vertices) vs)))
      (e ∙ ap (λ (x : meaning.State). made_all (world x count out) (meaning.across vs (f (meaning.arrangement_of x vs)))) es
      ∙ ap (λ (a : Arrangement). made_all (world (tabled n m robots vertices) count out) (meaning.across vs (f a))) (tabled_arranged n m robots vertices vs h))
      er ev

-- vertices that are each one of n are each one of more
pub listed_more : (n k : ℕ) (vs : List ℕ) → n ≤ k → Listed n vs → Listed k vs
listed_more n k vs h l = record { under = λ i q. omega (arith, l.under i q); once = l.once }

-- moves between the first entries of tables leave what stands behind them
pub data Under (n k : ℕ) : List Move → Type 0 where
  none : Under n k []
  more : {m : Move} {ms : List Move} → m.from < n → m.to < n → m.robot < k → Under n k ms → Under n k (m ∷ ms)

pub moved_past : (n k : ℕ) (a x b y : List ℕ) (ms : List Move) → length a ≡ n → length b ≡ k → Under n k ms
    → meaning.moved_all (numbers (a ++ x) (b ++ y)) ms
    ≡ numbers ((meaning.moved_all (numbers a b) ms).robots ++ x) ((meaning.moved_all (numbers a b) ms).vertices ++ y)
unfolding meaning.moved_all meaning.moved
moved_past n k a x b y [] p q none = refl
moved_past n k a x b y (m ∷ ms) p q (more f t r u) =
    let e : set (set (a ++ x) m.from 255) m.to m.robot ≡ set (set a m.from 255) m.to m.robot ++ x =
    ap (λ (l : List ℕ). set l m.to m.robot) (set-append_left a x m.from 255 (omega arith))
    ∙ set-append_left (set a m.from 255) x m.to m.robot (omega (arith, length-set a m.from 255)) in
    let d : set (b ++ y) m.robot m.to ≡ set b m.robot m.to ++ y = set-append_left b y m.robot m.to (omega arith) in
    ap₂ (λ (c o : List ℕ). meaning.moved_all (numbers c o) ms) e d
    ∙ moved_past n k (set (set a m.from 255) m.to m.robot) x (set b m.robot m.to) y ms
    (length-set (set a m.from 255) m.to m.robot ∙ length-set a m.from 255 ∙ p) (length-set b m.robot m.to ∙ q) u
