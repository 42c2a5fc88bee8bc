-- Cells: robots as a zone's arrangement holds them, and an arrangement after a store.
use Rattle.std.specs.Prelude.{◌≡◌, ◌≢◌, List, map, ℕ, suc, ◌<◌, length, get_or, set}
use Rattle.std.proofs.Common.{sym, ap, ◌∙◌, arith, length-set, get_or-set_same, get_or-set_other, ext_get_or}
use Rattle.std.proofs.Math.Decide.{ℕ_discrete}
use Rattle.std.proofs.Math.ListN.{length-map}
use Rattle.spec.specs.Layout.{Zone}
use Rattle.spec.specs.Arrangement.{Arrangement, cell}
use Rattle.spec.specs.State.{State, robot_on, cell_of, arrangement_of}
use Rattle.theory.specs.Basics.Tests.{eqb_false, eqb_true}
use Rattle.theory.specs.Basics.Lists.{get_d_map}

-- ---- cells

-- the cell of a robot
pub cell_of_lem : {r : ℕ} → r ≢ 255 → cell_of r ≡ suc r
unfolding cell_of
cell_of_lem {r} h = rw (eqb_false h, cell_of)

-- the cell of nobody
pub cell_none : {r : ℕ} → r ≡ 255 → cell_of r ≡ 0
unfolding cell_of
cell_none {r} h = rw (eqb_true h, cell_of)

-- whose cell it is
pub cell_robot : (r c : ℕ) → cell_of r ≡ suc c → (r ≡ c) × (r ≢ 255)
cell_robot r c e = go (ℕ_discrete r 255)
  where
    go : Dec (r ≡ 255) → (r ≡ c) × (r ≢ 255)
    go (yes h) = absurd (omega (arith, sym e ∙ cell_none h))
    go (no h) = (omega (arith, sym (cell_of_lem h) ∙ e), h)

-- an empty cell is nobody's
pub cell_empty : (r : ℕ) → cell_of r ≡ 0 → r ≡ 255
cell_empty r e = go (ℕ_discrete r 255)
  where
    go : Dec (r ≡ 255) → r ≡ 255
    go (yes h) = h
    go (no h) = absurd (omega (arith, sym (cell_of_lem h) ∙ e))

-- one cell, one robot
pub cell_injective : (r t : ℕ) → cell_of r ≡ cell_of t → r ≡ t
cell_injective r t e = case (ℕ_discrete r 255) (ℕ_discrete t 255)
  where
    case : Dec (r ≡ 255) → Dec (t ≡ 255) → r ≡ t
    case (yes p) (yes q) = p ∙ sym q
    case (no p) q = sym (cell_robot t r (sym e ∙ cell_of_lem p)).0
    case (yes p) (no q) = (cell_robot r t (e ∙ cell_of_lem q)).0

-- ---- the arrangement of vertices vs under robots rs

-- the cells of vertices vs under robots rs
unfoldable pub onto : List ℕ → List ℕ → Arrangement
onto rs vs = map (λ v. cell_of (get_or rs v 255)) vs

-- a zone's arrangement is as long as the zone
pub arrangement_length : (s : State) (z : Zone) → length (arrangement_of s z.vertices) ≡ length z.vertices
unfolding arrangement_of
arrangement_length s z = length-map z.vertices (λ v. cell_of (robot_on s v))

-- and holds who stands on its vertices
pub arrangement_cell : (s : State) (z : Zone) (l : ℕ) → l < length z.vertices → cell (arrangement_of s z.vertices) l ≡ cell_of (robot_on s (get_or z.vertices l 0))
unfolding arrangement_of
arrangement_cell s z l h = get_d_map (λ v. cell_of (robot_on s v)) z.vertices l h

module _ (rs vs : List ℕ) (q : ℕ) where
  -- as many cells as vertices
  onto_length : length (onto rs vs) ≡ length vs
  unfolding onto
  onto_length = length-map vs (λ v. cell_of (get_or rs v 255))

  -- a cell is its vertex's robot
  onto_cell : (l : ℕ) → l < length vs → cell (onto rs vs) l ≡ cell_of (get_or rs (get_or vs l 0) 255)
  unfolding onto
  onto_cell l h = get_d_map (λ v. cell_of (get_or rs v 255)) vs l h

-- a store at no vertex of the zone changes nothing
pub onto_other : (rs vs : List ℕ) (w q : ℕ) → ((l : ℕ) → l < length vs → get_or vs l 0 ≢ w) → onto (set rs w q) vs ≡ onto rs vs
onto_other rs vs w q h =
    ext_get_or 0 _ _ (onto_length (set rs w q) vs q ∙ sym (onto_length rs vs q))
    (λ l k. let j : l < length vs = omega (arith, onto_length (set rs w q) vs q) in
    onto_cell (set rs w q) vs q l j ∙ ap cell_of (get_or-set_other rs w (get_or vs l 0) q 255 (h l j)) ∙ sym (onto_cell rs vs q l j))

-- a store at a vertex of the zone changes its cell
pub onto_here : (rs vs : List ℕ) (i q : ℕ) → i < length vs → get_or vs i 0 < length rs → ((l : ℕ) → l < length vs → l ≢ i → get_or vs l 0 ≢ get_or vs i 0)
    → onto (set rs (get_or vs i 0) q) vs ≡ set (onto rs vs) i (cell_of q)
onto_here rs vs i q h k d =
    ext_get_or 0 _ _ (onto_length (set rs (get_or vs i 0) q) vs q ∙ sym (length-set (onto rs vs) i (cell_of q) ∙ onto_length rs vs q))
    (λ l k. go l (omega (arith, onto_length (set rs (get_or vs i 0) q) vs q)) (ℕ_discrete l i))
  where
    go : (l : ℕ) → l < length vs → Dec (l ≡ i) → get_or (onto (set rs (get_or vs i 0) q) vs) l 0 ≡ get_or (set (onto rs vs) i (cell_of q)) l 0
    go l j (yes e) = rw e (onto_cell (set rs (get_or vs i 0) q) vs q i h ∙ ap cell_of (get_or-set_same rs (get_or vs i 0) q 255 k)
        ∙ sym (get_or-set_same (onto rs vs) i (cell_of q) 0 (omega (arith, onto_length rs vs q))))
    go l j (no e) = onto_cell (set rs (get_or vs i 0) q) vs q l j ∙ ap cell_of (get_or-set_other rs (get_or vs i 0) (get_or vs l 0) q 255 (d l j e))
        ∙ sym (onto_cell rs vs q l j) ∙ sym (get_or-set_other (onto rs vs) i l (cell_of q) 0 e)
