-- The robots of a hall and their places, collected place by place.
use Rattle.std.specs.Prelude.{◌≡◌, get_or, set}
use Rattle.std.proofs.Math.Path.{ap, sym}
use Rattle.std.proofs.Common.{◌∙◌, add-one, arith, drop_of_length-le, take-suc-set}
use Prim.Native.Nat.{ℕ, suc, ◌+◌, ◌<◌, ◌≤◌}
use mathlib.Core.List.{List, ◌∷◌, ◌++◌, append_assoc, append-nil}
use Rattle.std.proofs.Math.ListN.{length, take, drop}
use Rattle.spec.specs.Arrangement.{Arrangement, order, places}
use Rattle.spec.specs.State as meaning
use Rattle.theory.specs.Maps.Cells.{cell_of_lem, cell_none}
use Rattle.motion.specs.Across.{arrangement_length, arrangement_next}

-- the first n of the lists are an arrangement's robots and their places
pub record Lined (a : Arrangement) (n : ℕ) (rs ps : List ℕ) : Type 0 where
  pub short : n ≤ length a
  pub robots : take n rs ≡ order a
  pub places : take n ps ≡ places 0 a

-- n robots were collected from the first k places
pub record Collected (a : Arrangement) (k n : ℕ) (rs ps : List ℕ) : Type 0 where
  pub short : n ≤ k
  pub robots : take n rs ++ order (drop k a) ≡ order a
  pub places : take n ps ++ places k (drop k a) ≡ places 0 a

-- one element more was stored, and the rest is one shorter
pub stored : (l : List ℕ) (n x : ℕ) (old rest whole : List ℕ) → n < length l → old ≡ x ∷ rest → take n l ++ old ≡ whole
    → take (n + 1) (set l n x) ++ rest ≡ whole
stored l n x old rest whole h e w = rw (add-one n, take-suc-set l n x h, append_assoc) (ap (λ (t : List ℕ). take n l ++ t) (sym e) ∙ w)

module _ (s : meaning.State) (vs : List ℕ) where
  abbrev here : Arrangement
  here = meaning.arrangement_of s vs

  -- a robot stands on place k
  pub collect_robot : (k n r : ℕ) (rs ps : List ℕ) → k < length vs → r ≡ meaning.robot_on s (get_or vs k 0) → (r ≡ 255 → ⊥)
      → n < length rs → n < length ps → Collected here k n rs ps → Collected here (k + 1) (n + 1) (set rs n r) (set ps n k)
  unfolding order places
  collect_robot k n r rs ps h e x a b c =
      let d : drop k here ≡ suc r ∷ drop (k + 1) here = arrangement_next s vs k r h e ∙ ap (λ (y : ℕ). y ∷ drop (k + 1) here) (cell_of_lem x) in
      record {
        short = omega (arith, c.short);
        robots = stored rs n r (order (drop k here)) (order (drop (k + 1) here)) _ a (ap order d) c.robots;
        places = stored ps n k (places k (drop k here)) (places (k + 1) (drop (k + 1) here)) _ b (ap (places k) d ∙ rw add-one) c.places;
      }

  -- none stands on place k
  pub collect_empty : (k n r : ℕ) (rs ps : List ℕ) → k < length vs → r ≡ meaning.robot_on s (get_or vs k 0) → r ≡ 255
      → Collected here k n rs ps → Collected here (k + 1) n rs ps
  unfolding order places
  collect_empty k n r rs ps h e x c =
      let d : drop k here ≡ 0 ∷ drop (k + 1) here = arrangement_next s vs k r h e ∙ ap (λ (y : ℕ). y ∷ drop (k + 1) here) (cell_none x) in
      record {
        short = omega (arith, c.short);
        robots = ap (λ (l : List ℕ). take n rs ++ l) (sym (ap order d)) ∙ c.robots;
        places = ap (λ (l : List ℕ). take n ps ++ l) (sym (ap (places k) d ∙ rw add-one)) ∙ c.places;
      }

  -- all places were looked at
  pub collect_all : (k n : ℕ) (rs ps : List ℕ) → k ≡ length vs → Collected here k n rs ps → Lined here n rs ps
  unfolding order places
  collect_all k n rs ps e c =
      let l : length here ≤ k = omega (arith, arrangement_length s vs) in
      record {
        short = omega (arith, arrangement_length s vs, c.short);
        robots = sym (append-nil (take n rs)) ∙ ap (λ (t : List ℕ). take n rs ++ order t) (sym (drop_of_length-le here l)) ∙ c.robots;
        places = sym (append-nil (take n ps)) ∙ ap (λ (t : List ℕ). take n ps ++ places k t) (sym (drop_of_length-le here l)) ∙ c.places;
      }
