-- The code's state as the meaning's.
use Rattle.std.specs.Prelude.{◌≡◌, refl, ℕ, suc, ◌+◌, ◌-◌, ◌<◌, ◌≤◌, min, List, [], ◌∷◌, ◌++◌, map, length, get_or, set, take, replicate}
use Rattle.std.proofs.Common.{ap, ap₂, sym, ◌∙◌, append_assoc, add-one, arith, length-set, length-take, take-suc, take_all, length-take-le}
use Rattle.std.proofs.Math.Decide.{dec_lt}
use Rattle.std.proofs.lemmas.List.{length-map, map-set, set_at}
use Rattle.std.proofs.Math.Seq.{slice, slice-cons, slice_empty}
use Rattle.spec.specs.Arrangement.{Move, mv}
use Rattle.spec.specs.State as meaning
use Rattle.numbering.specs.declared.Robot.{Robot}
use Rattle.numbering.specs.declared.Vertex.{Vertex}
use Rattle.motion.specs.declared.State.TheInside.{Inside}

-- the numbers of a robot and of a vertex
abbrev pub robot_no : Robot → ℕ
robot_no r = r.0

abbrev pub vertex_no : Vertex → ℕ
vertex_no v = v.0

-- the state's numbers
abbrev pub state_of : {N M : ℕ} → Inside N M → meaning.State
state_of {N} {M} s = record { robots = map robot_no s.robots; vertices = map vertex_no s.vertices }

abbrev pub code_state : {N M : ℕ} → List Robot → List Vertex → Inside N M
code_state {N} {M} a b = record { robots = a; vertices = b }

-- the robots and vertices that have a state's numbers
abbrev pub robot_at : ℕ → Robot
robot_at n = record { 0 = n }

abbrev pub vertex_at : ℕ → Vertex
vertex_at n = record { 0 = n }

abbrev pub held_in : {N M : ℕ} → meaning.State → Inside N M
held_in {N} {M} s = record { robots = map robot_at s.robots; vertices = map vertex_at s.vertices }

robots_again : (l : List Robot) → map robot_at (map robot_no l) ≡ l
robots_again [] = refl
robots_again (r ∷ l) = ap (λ (k : List Robot). r ∷ k) (robots_again l)

vertices_again : (l : List Vertex) → map vertex_at (map vertex_no l) ≡ l
vertices_again [] = refl
vertices_again (v ∷ l) = ap (λ (k : List Vertex). v ∷ k) (vertices_again l)

-- a state's numbers give it back
pub held_again : {N M : ℕ} (s : Inside N M) → held_in (state_of s) ≡ s
held_again {N} {M} s = ap₂ (λ (a : List Robot) (b : List Vertex). code_state {N = N} {M = M} a b) (robots_again s.robots) (vertices_again s.vertices)

abbrev pub numbers : List ℕ → List ℕ → meaning.State
numbers a b = record { robots = a; vertices = b }

-- the meanings of `standing` and `moved`, which are names of functions too
abbrev pub stood : List ℕ → meaning.State
stood vs = meaning.standing vs

abbrev pub moved_by : meaning.State → Move → meaning.State
moved_by s m = meaning.moved s m

-- an array's length is that of its numbers
pub length_mapped : (A B : Type 0) (f : A → B) (l : List A) (n : ℕ) → length (map f l) ≡ n → length l ≡ n
length_mapped A B f l n e = sym (length-map l f) ∙ e

-- ---- stores

-- robot r on vertex v; robot r listed at vertex v
abbrev pub with_robot : {N M : ℕ} → Inside N M → ℕ → Robot → Inside N M
with_robot {N} {M} s v r = record { robots = set s.robots v r; vertices = s.vertices }

abbrev pub with_vertex : {N M : ℕ} → Inside N M → ℕ → Vertex → Inside N M
with_vertex {N} {M} s r v = record { robots = s.robots; vertices = set s.vertices r v }

-- from is emptied, then the robot is put on to and listed there
pub moved_leaves : {N M : ℕ} (s a b t : Inside N M) (r : Robot) (f v : Vertex)
    → a ≡ with_robot s f.0 (record { 0 = 255 }) → b ≡ with_robot a v.0 r → t ≡ with_vertex b r.0 v
    → state_of t ≡ moved_by (state_of s) (mv r.0 f.0 v.0)
unfolding meaning.moved
moved_leaves {N} {M} s a b t r f v e d h =
    let all : t ≡ code_state (set (set s.robots f.0 (record { 0 = 255 })) v.0 r) (set s.vertices r.0 v) = h ∙ rw (d, e) in
    ap state_of all
    ∙ ap₂ numbers
    (map-set robot_no (set s.robots f.0 (record { 0 = 255 })) v.0 r
    ∙ ap (λ (l : List ℕ). set l v.0 r.0) (map-set robot_no s.robots f.0 (record { 0 = 255 })))
    (map-set vertex_no s.vertices r.0 v)

-- ---- starts

-- the first i of n robots stand on their starts vs: put the rest there, and all do
pub record Standing (vs : List ℕ) (n i : ℕ) (s : Inside 128 64) : Type 0 where
  pub within : i ≤ n
  pub fits : n ≤ 64
  pub long : length vs ≡ 64
  pub robots_long : length s.robots ≡ 128
  pub vertices_long : length s.vertices ≡ 64
  pub rest : meaning.put (map robot_no s.robots) i (slice i n vs) ≡ meaning.put (replicate 128 255) 0 (take n vs)
  pub listed : map vertex_no s.vertices ≡ take i vs ++ replicate (64 - i) 255

-- no robot yet
abbrev pub nobody : Inside 128 64
nobody = code_state (replicate 128 (record { 0 = 255 })) (replicate 64 (record { 0 = 255 }))

pub standing_none : (vs : List ℕ) (n : ℕ) → n ≤ 64 → length vs ≡ 64 → Standing vs n 0 nobody
standing_none vs n h e = record { within = omega arith; fits = h; long = e; robots_long = refl; vertices_long = refl; rest = refl; listed = refl }

-- one robot more
pub standing_next : (vs : List ℕ) (n i : ℕ) (s t : Inside 128 64) (r : Robot) (v : Vertex) → Standing vs n i s → i < n
    → r.0 ≡ i → v.0 ≡ get_or vs i 0 → t ≡ with_robot (with_vertex s i v) v.0 r → Standing vs n (i + 1) t
unfolding meaning.put
standing_next vs n i s t r v S h er ev e =
    record {
      within = omega arith;
      fits = S.fits;
      long = S.long;
      robots_long = ap (λ (x : Inside 128 64). length x.robots) e ∙ length-set s.robots v.0 r ∙ S.robots_long;
      vertices_long = ap (λ (x : Inside 128 64). length x.vertices) e ∙ length-set s.vertices i v ∙ S.vertices_long;
      rest =
          ap₂ (λ (x : Inside 128 64) (k : ℕ). meaning.put (map robot_no x.robots) (i + 1) (slice k n vs)) e (add-one i)
          ∙ ap (λ (l : List ℕ). meaning.put l (i + 1) (slice (suc i) n vs)) (map-set robot_no s.robots v.0 r)
          ∙ ap₂ (λ (a b : ℕ). meaning.put (set (map robot_no s.robots) a b) (i + 1) (slice (suc i) n vs)) ev er
          ∙ sym (ap (meaning.put (map robot_no s.robots) i) (slice-cons i n vs 0 h (omega arith)))
          ∙ S.rest;
      listed =
          ap (λ (x : Inside 128 64). map vertex_no x.vertices) e ∙ map-set vertex_no s.vertices i v
          ∙ ap₂ (λ (l : List ℕ) (x : ℕ). set l i x) S.listed ev
          ∙ filled;
    }
  where
    filled : set (take i vs ++ replicate (64 - i) 255) i (get_or vs i 0) ≡ take (i + 1) vs ++ replicate (64 - (i + 1)) 255
    filled =
        let d : 64 - i ≡ suc (64 - (i + 1)) = omega arith in
        ap (λ (k : ℕ). set (take i vs ++ replicate k 255) i (get_or vs i 0)) d
        ∙ set_at (take i vs) 255 (replicate (64 - (i + 1)) 255) (get_or vs i 0) i (length-take-le i vs (omega arith))
        ∙ sym (ap (λ (l : List ℕ). l ++ replicate (64 - (i + 1)) 255) (ap (λ (k : ℕ). take k vs) (add-one i) ∙ take-suc vs i 0 (omega arith))
        ∙ append_assoc (take i vs) (get_or vs i 0 ∷ []) (replicate (64 - (i + 1)) 255))

-- all robots stand
pub standing_all : (vs : List ℕ) (k n i : ℕ) (s : Inside 128 64) → Standing vs n i s → n ≤ i → n ≡ min k 64 → state_of s ≡ stood (take k vs)
unfolding meaning.put meaning.standing
standing_all vs k n i s S h m =
    let e : i ≡ n = omega arith in
    let l : length vs ≡ 64 = S.long in
    let j : i ≡ length (take k vs) = omega (arith, length-take k vs) in
    ap₂ numbers
    (sym (ap (λ (j : ℕ). meaning.put (map robot_no s.robots) i (slice j n vs)) e ∙ ap (meaning.put (map robot_no s.robots) i) (slice_empty n vs))
    ∙ S.rest ∙ ap (meaning.put (replicate 128 255) 0) (same (dec_lt k 64)))
    (S.listed ∙ ap₂ (λ (a : List ℕ) (j : ℕ). a ++ replicate (64 - j) 255) (ap (λ (j : ℕ). take j vs) e ∙ same (dec_lt k 64)) j)
  where
    same : Dec (k < 64) → take n vs ≡ take k vs
    same (yes q) = let d : n ≡ k = omega arith in rw d
    same (no q) = let l : length vs ≡ 64 = S.long in take_all n vs (omega arith) ∙ sym (take_all k vs (omega arith))
