-- Starts and goals as they are read, and the whole placing.
use Prim.Native.Nat.{ℕ, zero, suc, ◌+◌, ◌-◌, ◌*◌, ◌≤◌, ◌<◌}
use Rattle.std.specs.Prelude.{◌≡◌, refl, Result, Ok, Err, IfOk, Bool, true, false, not, List, [], ◌∷◌, ◌++◌, length, get_or, take, set, replicate, eqb, ltb}
use Rattle.std.proofs.Math.Path.{ap, subst}
use Rattle.std.proofs.Common.{ap₂, sym, ◌∙◌, length-set, take-suc-set, get_or-set_same, get_or-set_other, length-take-le, add-one}
use borrow.Author.Tests.{lt-ltb, le-ltb, le-leb, lt-leb, eq-eqb, ne_eqb, eqb-true, eqb-false}
use native.Mathlib.Omega.{arith}
use Rattle.spec.specs.Outcome.{Outcome, ok, refuse, ◌>>=◌, ◌>>◌, check, ◌and◌, member}
use Rattle.spec.specs.Wire.{payload_of}
use Rattle.spec.specs.Layout.{Map, Placing, byte_at, read_robots, placing_of}
use Rattle.theory.specs.Basics.Outcomes.{bind}
use Rattle.checking.specs.declared.FileFault.{FileFault}
use Rattle.checking.specs.declared.FileFault.TheVariants.{Length, Checksum, Head, Fill}
use Rattle.checking.specs.Checked.{checked_of, Held}
use Rattle.zoning.specs.Chain.{refused, same_rest, tested}
use Rattle.zoning.specs.Bytes.{held, held_payload}
use Rattle.zoning.specs.Table.{member_snoc, member_here, member_there}
use Rattle.placing.specs.declared.PlacingFault.{PlacingFault}
use Rattle.placing.specs.declared.PlacingFault.TheVariants.{File, Short, Start, Goal}
use Rattle.placing.specs.declared.PlacingTables.{PlacingTables}
use Rattle.placing.specs.Fault.{number_of, fault_place, answered}

-- the placing in a file, on a map, or its refusal
abbrev pub placing_in : Map → List ℕ → Outcome Placing
placing_in m file = payload_of 20 2 1 file >>= placing_of m

-- the placing of no robots, which stands for a placing that is refused
abbrev pub no_placing : Placing
no_placing = record { starts = []; goals = [] }

abbrev pub placing_or : Outcome Placing → Placing
placing_or (ok p) = p
placing_or (refuse number place) = no_placing

-- what a placing that was read holds of the definition's placing
pub record PlacingHeld (r : PlacingTables) (p : Placing) : Type 0 where
  pub count : r.robots ≡ length p.starts
  pub few : r.robots ≤ 64
  pub starts : take r.robots r.starts ≡ p.starts
  pub goals : take r.robots r.goals ≡ p.goals
  pub long_starts : length r.starts ≡ 64
  pub long_goals : length r.goals ≡ 64

-- what is read: the placing that the definition gives, or its refusal
pub record PlacingIs (outcome : Outcome Placing) (r : Result PlacingTables PlacingFault) : Type 0 where
  pub answer : outcome ≡ answered (λ _. placing_or outcome) r
  pub tables : IfOk r (λ t. PlacingHeld t (placing_or outcome))

abbrev pub placing_at : PlacingTables → Placing
placing_at r = record { starts = take r.robots r.starts; goals = take r.robots r.goals }

-- k starts and goals are read, or refused
pub record RobotsAre (p : List ℕ) (n k : ℕ) (r : Result PlacingTables PlacingFault) : Type 0 where
  pub answer : read_robots n p k 1 [] [] ≡ answered placing_at r
  pub tables : IfOk r (λ t. PlacingHeld t (placing_at t))

-- ---- one vertex

-- the marks say which vertices are in the list
pub record Marked (l : List ℕ) (marks : List Bool) : Type 0 where
  pub long : length marks ≡ 256
  pub says : (v : ℕ) → member v l ≡ get_or marks v false

-- the vertex at offset o, where it is below n and not in the list
unfoldable pub vertex_at : List ℕ → ℕ → ℕ → List ℕ → ℕ → ℕ → Outcome ℕ
vertex_at p n o l number place = byte_at 25 p o >>= (λ v. check (ltb v n and not (member v l)) number place >> ok v)

-- a vertex is read and marked, or refused
pub record VertexIs (p : List ℕ) (n o : ℕ) (l : List ℕ) (f : PlacingFault) (marks : List Bool) (r : Result ℕ PlacingFault) : Type 0 where
  pub answer : vertex_at p n o l (number_of f) (fault_place f) ≡ answered (λ v. v) r
  pub marked : IfOk r (λ v. Marked (l ++ (v ∷ [])) marks)

unmarked : (n v : ℕ) → get_or (replicate n false) v false ≡ false
unmarked zero v = refl
unmarked (suc n) zero = refl
unmarked (suc n) (suc v) = unmarked n v

marked_none : Marked [] (replicate 256 false)
unfolding member
marked_none = record { long = refl; says = λ v. sym (unmarked 256 v) }

marked_more : (l : List ℕ) (marks : List Bool) (v : ℕ) → v < 256 → Marked l marks → Marked (l ++ (v ∷ [])) (set marks v true)
marked_more l marks v h k = record { long = length-set marks v true ∙ k.long; says = λ w. member_snoc w v l ∙ go w (eqb w v) refl }
  where
    go : (w : ℕ) (b : Bool) → eqb w v ≡ b → member w (v ∷ l) ≡ get_or (set marks v true) w false
    go w true e =
        let q = eqb-true w v e in
        rw (q, member_here v l, get_or-set_same marks v true false (omega (arith, k.long)))
    go w false e =
        let q = eqb-false w v e in
        member_there w v l q ∙ k.says w ∙ rw (get_or-set_other marks v w true false q)

module _ (p : List ℕ) (n o : ℕ) (l : List ℕ) (f : PlacingFault) (marks : List Bool) (k : Marked l marks) where
  -- the payload ends
  pub vertex_short : byte_at 25 p o ≡ refuse 25 o → VertexIs p n o l f marks (Err (Short o))
  unfolding vertex_at
  vertex_short e = record { answer = refused (byte_at 25 p o) 25 o _ e; marked = tt }

  module _ (v : ℕ) (there : byte_at 25 p o ≡ ok v) where
    -- the vertex is not below n
    pub vertex_over : n ≤ v → VertexIs p n o l f marks (Err f)
    unfolding vertex_at ◌>>◌ check ◌and◌
    vertex_over h = record { answer = bind (byte_at 25 p o) v _ there ∙ rw (le-ltb v n h); marked = tt }

    -- it is marked
    pub vertex_twice : v < n → get_or marks v false ≡ true → VertexIs p n o l f marks (Err f)
    unfolding vertex_at ◌>>◌ check ◌and◌
    vertex_twice h e = record { answer = bind (byte_at 25 p o) v _ there ∙ rw (lt-ltb v n h, k.says v, e); marked = tt }

    pub vertex_good : v < n → v < 256 → get_or marks v false ≡ false → VertexIs p n o l f (set marks v true) (Ok v)
    unfolding vertex_at ◌>>◌ check ◌and◌
    vertex_good h s e = record { answer = bind (byte_at 25 p o) v _ there ∙ rw (lt-ltb v n h, k.says v, e); marked = marked_more l marks v s k }

-- ---- robot by robot

-- the definition's reader reads two vertices, and the rest
robots_are : (p : List ℕ) (n o : ℕ) (ss gs : List ℕ) (todo : ℕ) → 0 < todo → read_robots n p todo o ss gs
    ≡ (vertex_at p n o ss 27 o >>= (λ s. vertex_at p n (o + 1) gs 28 (o + 1) >>= (λ g. read_robots n p (todo - 1) (o + 2) (ss ++ (s ∷ [])) (gs ++ (g ∷ [])))))
unfolding read_robots vertex_at
robots_are p n o ss gs zero h = absurd (omega arith)
robots_are p n o ss gs (suc todo) h =
    let a : suc todo - 1 ≡ todo = omega arith in
    rw a (
    tested (byte_at 25 p o) (λ s. ltb s n and not (member s ss)) 27 o
    (λ s. byte_at 25 p (o + 1) >>= (λ g. check (ltb g n and not (member g gs)) 28 (o + 1) >> read_robots n p todo (o + 2) (ss ++ (s ∷ [])) (gs ++ (g ∷ []))))
    ∙ same_rest (vertex_at p n o ss 27 o) _ _
    (λ s. tested (byte_at 25 p (o + 1)) (λ g. ltb g n and not (member g gs)) 28 (o + 1) (λ g. read_robots n p todo (o + 2) (ss ++ (s ∷ [])) (gs ++ (g ∷ []))))
    )

-- i robots are read
pub record Going (p : List ℕ) (n k : ℕ) (starts goals : List ℕ) (started ended : List Bool) (i : ℕ) : Type 0 where
  pub long_starts : length starts ≡ 64
  pub long_goals : length goals ≡ 64
  pub started_are : Marked (take i starts) started
  pub ended_are : Marked (take i goals) ended
  pub rest : read_robots n p k 1 [] [] ≡ read_robots n p (k - i) (1 + i * 2) (take i starts) (take i goals)

pub going_start : (p : List ℕ) (n k : ℕ) → Going p n k (replicate 64 0) (replicate 64 0) (replicate 256 false) (replicate 256 false) 0
going_start p n k = record {
  long_starts = refl;
  long_goals = refl;
  started_are = marked_none;
  ended_are = marked_none;
  rest = ap₂ (λ (x y : ℕ). read_robots n p x y [] []) a1 a2;
}
  where
    a1 : k ≡ k - 0
    a1 = omega arith

    a2 : 1 ≡ 1 + 0 * 2
    a2 = omega arith

module _ (p : List ℕ) (n k : ℕ) (starts goals : List ℕ) (started ended : List Bool) (i : ℕ) (g : Going p n k starts goals started ended i) (more : i < k) where
  step : read_robots n p k 1 [] []
      ≡ (vertex_at p n (1 + i * 2) (take i starts) 27 (1 + i * 2) >>= (λ s. vertex_at p n (1 + i * 2 + 1) (take i goals) 28 (1 + i * 2 + 1) >>= (λ d. read_robots n p (k - i - 1) (1 + i * 2 + 2) (take i starts ++ (s ∷ [])) (take i goals ++ (d ∷ [])))))
  step = g.rest ∙ robots_are p n (1 + i * 2) (take i starts) (take i goals) (k - i) (omega arith)

  -- a start is refused
  pub going_start_bad : (f : PlacingFault) (after : List Bool) → VertexIs p n (1 + i * 2) (take i starts) (Start (1 + i * 2)) after (Err f) → RobotsAre p n k (Err f)
  going_start_bad f after v = record { answer = step ∙ refused (vertex_at p n (1 + i * 2) (take i starts) 27 (1 + i * 2)) (number_of f) (fault_place f) _ v.answer; tables = tt }

  module _ (s : ℕ) (first : List Bool) (v : VertexIs p n (1 + i * 2) (take i starts) (Start (1 + i * 2)) first (Ok s)) where
    begun : read_robots n p k 1 [] []
        ≡ (vertex_at p n (1 + i * 2 + 1) (take i goals) 28 (1 + i * 2 + 1) >>= (λ d. read_robots n p (k - i - 1) (1 + i * 2 + 2) (take i starts ++ (s ∷ [])) (take i goals ++ (d ∷ []))))
    begun = step ∙ bind (vertex_at p n (1 + i * 2) (take i starts) 27 (1 + i * 2)) s _ v.answer

    -- a goal is refused
    pub going_goal_bad : (f : PlacingFault) (after : List Bool) → VertexIs p n (1 + i * 2 + 1) (take i goals) (Goal (1 + i * 2 + 1)) after (Err f) → RobotsAre p n k (Err f)
    going_goal_bad f after w = record { answer = begun ∙ refused (vertex_at p n (1 + i * 2 + 1) (take i goals) 28 (1 + i * 2 + 1)) (number_of f) (fault_place f) _ w.answer; tables = tt }

    pub going_more : k ≤ 64 → (d : ℕ) (second : List Bool) → VertexIs p n (1 + i * 2 + 1) (take i goals) (Goal (1 + i * 2 + 1)) second (Ok d)
        → Going p n k (set starts i s) (set goals i d) first second (i + 1)
    going_more few d second w = record {
      long_starts = length-set starts i s ∙ g.long_starts;
      long_goals = length-set goals i d ∙ g.long_goals;
      started_are = rw longer_s v.marked;
      ended_are = rw longer_g w.marked;
      rest = begun ∙ bind (vertex_at p n (1 + i * 2 + 1) (take i goals) 28 (1 + i * 2 + 1)) d _ w.answer ∙ rw (a1, a2, longer_s, longer_g);
    }
      where
        longer_s : take (i + 1) (set starts i s) ≡ take i starts ++ (s ∷ [])
        longer_s = rw (add-one i) (take-suc-set starts i s (omega (arith, g.long_starts)))

        longer_g : take (i + 1) (set goals i d) ≡ take i goals ++ (d ∷ [])
        longer_g = rw (add-one i) (take-suc-set goals i d (omega (arith, g.long_goals)))

        a1 : k - i - 1 ≡ k - (i + 1)
        a1 = omega arith

        a2 : 1 + i * 2 + 2 ≡ 1 + (i + 1) * 2
        a2 = omega arith

-- all are read
pub going_end : (p : List ℕ) (n k : ℕ) (starts goals : List ℕ) (started ended : List Bool) → Going p n k starts goals started ended k → k ≤ 64
    → RobotsAre p n k (Ok (record { robots = k; starts = starts; goals = goals }))
unfolding read_robots
going_end p n k starts goals started ended g few =
    let z : k - k ≡ 0 = omega arith in
    record {
      answer = g.rest ∙ ap (λ (x : ℕ). read_robots n p x (1 + k * 2) (take k starts) (take k goals)) z;
      tables = record {
        count = sym (length-take-le k starts (omega (arith, g.long_starts)));
        few = few;
        starts = refl;
        goals = refl;
        long_starts = g.long_starts;
        long_goals = g.long_goals;
      };
    }

-- ---- the whole placing

-- a refusal
pub placing_refused : (outcome : Outcome Placing) (f : PlacingFault) → outcome ≡ refuse (number_of f) (fault_place f) → PlacingIs outcome (Err f)
placing_refused outcome f e = record { answer = e; tables = tt }

module _ (p : List ℕ) (n : ℕ) (m : Map) (on : m.size ≡ n) where
  pub count_short : byte_at 25 p 0 ≡ refuse 25 0 → placing_of m p ≡ refuse 25 0
  unfolding placing_of
  count_short e = refused (byte_at 25 p 0) 25 0 _ e

  module _ (k : ℕ) (there : byte_at 25 p 0 ≡ ok k) where
    pub count_over : 64 < k → placing_of m p ≡ refuse 26 0
    unfolding placing_of ◌>>=◌ ◌>>◌ check ◌and◌
    count_over h = rw (placing_of, there, lt-leb k 64 h)

    pub count_above : k ≤ 64 → n < k → placing_of m p ≡ refuse 26 0
    unfolding placing_of ◌>>=◌ ◌>>◌ check ◌and◌
    count_above h l = rw (placing_of, on, there, le-leb k 64 h, lt-leb k n l)

    module _ (few : k ≤ 64) (low : k ≤ n) where
      after_count : placing_of m p ≡ (read_robots n p k 1 [] [] >>= (λ pl. check (eqb (1 + k * 2) (length p)) 25 (1 + k * 2) >> ok pl))
      unfolding placing_of ◌>>=◌ ◌>>◌ check ◌and◌
      after_count = rw (placing_of, on, there, le-leb k 64 few, le-leb k n low)

      pub placing_fault : (f : PlacingFault) → RobotsAre p n k (Err f) → PlacingIs (placing_of m p) (Err f)
      placing_fault f a = placing_refused (placing_of m p) f (after_count ∙ refused (read_robots n p k 1 [] []) (number_of f) (fault_place f) _ a.answer)

      module _ (t : PlacingTables) (a : RobotsAre p n k (Ok t)) where
        last : placing_of m p ≡ (check (eqb (1 + k * 2) (length p)) 25 (1 + k * 2) >> ok (placing_at t))
        last = after_count ∙ bind (read_robots n p k 1 [] []) (placing_at t) _ a.answer

        -- bytes are left
        pub placing_surplus : (1 + k * 2 ≡ length p → ⊥) → placing_of m p ≡ refuse 25 (1 + k * 2)
        unfolding check ◌>>◌
        placing_surplus d = last ∙ rw (ne_eqb (1 + k * 2) (length p) d)

        pub placing_whole : 1 + k * 2 ≡ length p → PlacingIs (placing_of m p) (Ok t)
        unfolding check ◌>>◌
        placing_whole d =
            let x : placing_of m p ≡ ok (placing_at t) = last ∙ rw (eq-eqb (1 + k * 2) (length p) d) in
            let it : placing_at t ≡ placing_or (placing_of m p) = ap placing_or (sym x) in
            record {
              answer = x ∙ ap (λ (q : Placing). ok q) it;
              tables = subst (λ (q : Placing). PlacingHeld t q) it a.tables;
            }

-- ---- the file

file_refused : (file : List ℕ) (f : FileFault) → checked_of 20 file (Err f) ≡ refuse (number_of (File f)) (fault_place (File f))
file_refused file Length = refl
file_refused file (Checksum i) = refl
file_refused file (Head i) = refl
file_refused file (Fill i) = refl

module _ (file : List ℕ) (p : Map) where
  -- a file that is refused has no placing
  pub no_payload : (f : FileFault) → ((base : ℕ) → checked_of base file (Err f) ≡ payload_of base 2 1 file) → PlacingIs (placing_in p file) (Err (File f))
  no_payload f e = placing_refused (placing_in p file) (File f) (refused (payload_of 20 2 1 file) (number_of (File f)) (fault_place (File f)) (placing_of p) (sym (e 20) ∙ file_refused file f))

  -- another has that of its payload
  pub a_payload : (m : ℕ) (r : Result PlacingTables PlacingFault) → ((base : ℕ) → checked_of base file (Ok m) ≡ payload_of base 2 1 file) → Held 1 file (Ok m) → PlacingIs (placing_of p (held file m)) r → PlacingIs (placing_in p file) r
  a_payload m r e h t =
      let w : placing_in p file ≡ placing_of p (held file m) = bind (payload_of 20 2 1 file) (take m _) (placing_of p) (sym (e 20)) ∙ ap (placing_of p) (held_payload file m h.most) in
      subst (λ (x : Outcome Placing). PlacingIs x r) (sym w) t
