-- The arrangement of a zone, read place by place, and moves between its places as moves between its vertices.
use Rattle.std.specs.Prelude.{◌≡◌, refl, ℕ, ◌+◌, ◌<◌, List, [], ◌∷◌, ◌++◌, length, get_or, drop}
use Rattle.std.proofs.Common.{ap, ap₂, sym, ◌∙◌, add-one, arith, drop-cons}
use Rattle.std.proofs.Math.ListN.{length-map}
use Rattle.spec.specs.Arrangement.{Move, mv}
use Rattle.spec.specs.State.{State, robot_on, cell_of, arrangement_of, across_move, across}
use Rattle.theory.specs.Basics.Lists.{get_d_map}
use Rattle.motion.specs.World.{World, made, made_all, made_append, made_next}

-- ---- moves

-- lists one after the other go across one after the other
pub across_append : (vs : List ℕ) (ms ns : List Move) → across vs (ms ++ ns) ≡ across vs ms ++ across vs ns
unfolding across
across_append vs [] ns = refl
across_append vs (m ∷ ms) ns = ap (λ (l : List Move). across_move vs m ∷ l) (across_append vs ms ns)

-- a first move goes across first
pub across_cons : (vs : List ℕ) (m : Move) (ms : List Move) → across vs (m ∷ ms) ≡ across_move vs m ∷ across vs ms
unfolding across
across_cons vs m ms = refl

-- no move goes across as none
pub across_nil : (vs : List ℕ) → across vs [] ≡ []
unfolding across
across_nil vs = refl

-- a move across, from the vertices at its places
pub across_move_lem : (vs : List ℕ) (q r i j v w : ℕ) → q ≡ r → v ≡ get_or vs i 0 → w ≡ get_or vs j 0 → mv q v w ≡ across_move vs (mv r i j)
unfolding across_move
across_move_lem vs q r i j v w a e d = rw (a, e, d)

-- no move
pub made_nothing : (w : World) (vs : List ℕ) (ms : List Move) → ms ≡ [] → w ≡ made_all w (across vs ms)
unfolding made_all across
made_nothing w vs ms e = rw e

-- a part, then the rest
pub made_both : (w u : World) (vs : List ℕ) (ms ns : List Move) → u ≡ made_all w (across vs ms)
    → made_all u (across vs ns) ≡ made_all w (across vs (ms ++ ns))
made_both w u vs ms ns e = rw (e, across_append vs ms ns, made_append)

-- one move, then the rest
pub made_more : (w u : World) (vs : List ℕ) (m : Move) (ms ns : List Move) → u ≡ made w (across_move vs m) → ns ≡ m ∷ ms
    → made_all u (across vs ms) ≡ made_all w (across vs ns)
made_more w u vs m ms ns e d = made_next w u (across_move vs m) (across_move vs m) (across vs ms) (across vs ns) e refl (ap (across vs) d ∙ across_cons vs m ms)

-- a part, then one move
pub made_last : (w u v : World) (vs : List ℕ) (m : Move) (ms : List Move) → u ≡ made_all w (across vs ms) → v ≡ made u (across_move vs m)
    → v ≡ made_all w (across vs (ms ++ (m ∷ [])))
unfolding made_all across
made_last w u v vs m ms e d = d ∙ made_both w u vs ms (m ∷ []) e

-- ---- arrangements

module _ (s : State) (vs : List ℕ) where
  -- a zone's arrangement is as long as the zone
  pub arrangement_length : length (arrangement_of s vs) ≡ length vs
  unfolding arrangement_of
  arrangement_length = length-map vs (λ v. cell_of (robot_on s v))

  -- what stands on a place
  pub arrangement_at : (k : ℕ) → k < length vs → get_or (arrangement_of s vs) k 0 ≡ cell_of (robot_on s (get_or vs k 0))
  unfolding arrangement_of
  arrangement_at k h = get_d_map (λ v. cell_of (robot_on s v)) vs k h

  -- the places from place k on begin with what stands on it
  pub arrangement_next : (k r : ℕ) → k < length vs → r ≡ robot_on s (get_or vs k 0)
      → drop k (arrangement_of s vs) ≡ cell_of r ∷ drop (k + 1) (arrangement_of s vs)
  arrangement_next k r h e =
      drop-cons (arrangement_of s vs) k 0 (omega (arith, arrangement_length))
      ∙ ap₂ (λ (x n : ℕ). x ∷ drop n (arrangement_of s vs)) (arrangement_at k h ∙ ap cell_of (sym e)) (sym (add-one k))
