-- The robots of a zone in line, lowest first.
use Rattle.std.specs.Prelude.{◌≡◌, ◌≢◌, refl, ℕ, suc, ◌+◌, ◌<◌, List, [], ◌∷◌, ◌++◌, length}
use Rattle.std.proofs.Common.{ap, sym, ◌∙◌, arith}
use Rattle.std.proofs.Math.Decide.{ℕ_discrete}
use Rattle.std.proofs.lemmas.List.{length_push}
use Rattle.spec.specs.Outcome.{index_of}
use Rattle.spec.specs.Arrangement.{order}
use Rattle.spec.specs.State as meaning
use Rattle.theory.specs.Basics.Lists.{index_here, index_further}
use Rattle.theory.specs.Basics.Searches.{index_le}
use Rattle.theory.specs.Maps.Cells.{cell_of_lem, cell_none}
use Rattle.reaching.specs.declared.row.Row.{Row}

-- the robots on the vertices vs
abbrev pub row_of : meaning.State → List ℕ → List ℕ
row_of s vs = order (meaning.arrangement_of s vs)

-- the robots that a row has left
abbrev pub robots_left : {N M : ℕ} → Row N M → List ℕ
robots_left {N} {M} r = row_of r.state.now r.zone.now

-- a robot stands on the first vertex
pub row_robot : (s : meaning.State) (vs us : List ℕ) (v r : ℕ) → vs ≡ v ∷ us → r ≡ meaning.robot_on s v → r ≢ 255 → row_of s vs ≡ r ∷ row_of s us
unfolding order meaning.arrangement_of
row_robot s vs us v r e d n = ap (row_of s) e ∙ ap (λ (c : ℕ). order (c ∷ meaning.arrangement_of s us)) (ap meaning.cell_of (sym d) ∙ cell_of_lem n)

-- none stands there
pub row_empty : (s : meaning.State) (vs us : List ℕ) (v r : ℕ) → vs ≡ v ∷ us → r ≡ meaning.robot_on s v → r ≡ 255 → row_of s vs ≡ row_of s us
unfolding order meaning.arrangement_of
row_empty s vs us v r e d n = ap (row_of s) e ∙ ap (λ (c : ℕ). order (c ∷ meaning.arrangement_of s us)) (ap meaning.cell_of (sym d) ∙ cell_none n)

-- no vertex is left
pub row_none : (s : meaning.State) (vs : List ℕ) → length vs ≡ 0 → row_of s vs ≡ []
unfolding order meaning.arrangement_of
row_none s [] e = refl
row_none s (v ∷ vs) e = absurd (omega arith)

-- ---- how many, and how many before the named one

pub record Counted (rs : List ℕ) (named lower all : ℕ) : Type 0 where
  pub before : lower ≡ index_of named rs
  pub count : all ≡ length rs

-- what was found is found in a longer list
index_stays : (x y : ℕ) (l : List ℕ) → index_of x l < length l → index_of x (l ++ y ∷ []) ≡ index_of x l
index_stays x y [] h = absurd (omega arith)
index_stays x y (z ∷ l) h = at (ℕ_discrete x z) (index_stays x y l)
  where
    at : Dec (x ≡ z) → (index_of x l < length l → index_of x (l ++ y ∷ []) ≡ index_of x l) → index_of x (z ∷ l ++ y ∷ []) ≡ index_of x (z ∷ l)
    at (yes e) i = index_here x z (l ++ y ∷ []) e ∙ sym (index_here x z l e)
    at (no n) i =
        let a : index_of x (z ∷ l) ≡ suc (index_of x l) = index_further x z l n in
        index_further x z (l ++ y ∷ []) n ∙ ap suc (i (omega arith)) ∙ sym a

-- what was not found is sought in what came after
index_goes : (x y : ℕ) (l : List ℕ) → index_of x l ≡ length l → index_of x (l ++ y ∷ []) ≡ length l + index_of x (y ∷ [])
index_goes x y [] h = omega arith
index_goes x y (z ∷ l) h = at (ℕ_discrete x z) (index_goes x y l)
  where
    at : Dec (x ≡ z) → (index_of x l ≡ length l → index_of x (l ++ y ∷ []) ≡ length l + index_of x (y ∷ []))
        → index_of x (z ∷ l ++ y ∷ []) ≡ length (z ∷ l) + index_of x (y ∷ [])
    at (yes e) i = absurd (omega (arith, index_here x z l e))
    at (no n) i =
        let a : index_of x (z ∷ l) ≡ suc (index_of x l) = index_further x z l n in
        omega (arith, index_further x z (l ++ y ∷ []) n, i (omega arith))

-- none is counted
pub counted_none : (named : ℕ) → Counted [] named 0 0
unfolding index_of
counted_none named = record { before = refl; count = refl }

module _ (rs : List ℕ) (named r lower all : ℕ) (c : Counted rs named lower all) where
  longer : all + 1 ≡ length (rs ++ r ∷ [])
  longer = omega (arith, c.count, length_push rs r)

  -- one more before the named one
  pub counted_before : lower ≡ all → r ≢ named → Counted (rs ++ r ∷ []) named (lower + 1) (all + 1)
  unfolding index_of
  counted_before e n = record {
    before = omega (arith, c.before, c.count, index_goes named r rs (omega (arith, c.before, c.count)), index_further named r [] (λ q. n (sym q)));
    count = longer;
  }

  -- the named one, or one after it
  pub counted_after : (lower ≡ all → r ≡ named) → Counted (rs ++ r ∷ []) named lower (all + 1)
  counted_after f = record {
    before = at (ℕ_discrete lower all);
    count = longer;
  }
    where
      at : Dec (lower ≡ all) → lower ≡ index_of named (rs ++ r ∷ [])
      at (yes e) = omega (arith, c.before, c.count, index_goes named r rs (omega (arith, c.before, c.count)), index_here named r [] (sym (f e)))
      at (no n) = omega (arith, c.before, c.count, index_le named rs, index_stays named r rs (omega (arith, c.before, c.count, index_le named rs)))
