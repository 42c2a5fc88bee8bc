-- What moves inside a zone do to the state, they do to the zone's arrangement.
use Rattle.std.specs.Prelude.{◌≡◌, ◌≢◌, ℕ, ◌<◌, ◌≤◌, get_or}
use Rattle.std.proofs.Math.Path.{refl, ap, ap₂}
use Rattle.std.proofs.Common.{sym, ◌∙◌, arith, ext_get_or, get_or-set_same, get_or-set_other}
use mathlib.Core.List.{List, [], ◌∷◌, ◌++◌, map}
use Rattle.std.proofs.Math.Decide.{ℕ_discrete}
use Rattle.std.proofs.Math.ListN.{length, set, length-set, length-map}
use Rattle.spec.specs.Arrangement.{Arrangement, Move, apply, apply_all}
use Rattle.spec.specs.State.{State, cell_of, moved, moved_all, arrangement_of, across_move, across}
use Rattle.theory.specs.Basics.Lists.{get_d_map}
use Rattle.theory.specs.Maps.Cells.{cell_of_lem, cell_none}
use Rattle.theory.specs.Maps.ZoneSize.{different_few}
use Rattle.motion.specs.World.{World, made_all, state_is, robots_length}

-- the vertices of a zone: each one of n, none twice
pub record Listed (n : ℕ) (vs : List ℕ) : Type 0 where
  pub under : (i : ℕ) → i < length vs → get_or vs i 0 < n
  pub once : (i k : ℕ) → i < length vs → k < length vs → get_or vs i 0 ≡ get_or vs k 0 → i ≡ k

-- they are at most n
pub listed_short : (n : ℕ) (vs : List ℕ) → Listed n vs → length vs ≤ n
listed_short n vs L = different_few vs n L.once L.under

-- moves of robots between the first n places
pub data Inside (n : ℕ) : List Move → Type 0 where
  none : Inside n []
  more : {m : Move} {ms : List Move} → m.robot ≢ 255 → m.from < n → m.to < n → Inside n ms → Inside n (m ∷ ms)

-- lists inside a zone, one after the other, are inside it
pub inside_append : {n : ℕ} {ms ns : List Move} → Inside n ms → Inside n ns → Inside n (ms ++ ns)
inside_append none b = b
inside_append (more a f t i) b = more a f t (inside_append i b)

module _ (vs : List ℕ) where
  row : List ℕ → Arrangement
  row R = map (λ v. cell_of (get_or R v 255)) vs

  row_length : (R : List ℕ) → length (row R) ≡ length vs
  unfolding row
  row_length R = length-map vs (λ v. cell_of (get_or R v 255))

  row_at : (R : List ℕ) (k : ℕ) → k < length vs → get_or (row R) k 0 ≡ cell_of (get_or R (get_or vs k 0) 255)
  unfolding row
  row_at R k h = get_d_map (λ v. cell_of (get_or R v 255)) vs k h

  -- a robot put on a vertex stands on that vertex's place
  row_set : (R : List ℕ) (i x : ℕ) → Listed (length R) vs → i < length vs → row (set R (get_or vs i 0) x) ≡ set (row R) i (cell_of x)
  row_set R i x L h =
      ext_get_or 0 _ _ (row_length (set R (get_or vs i 0) x) ∙ sym (length-set (row R) i (cell_of x) ∙ row_length R))
      (λ k l. at k (omega (arith, row_length (set R (get_or vs i 0) x))) (ℕ_discrete k i))
    where
      at : (k : ℕ) → k < length vs → Dec (k ≡ i) → get_or (row (set R (get_or vs i 0) x)) k 0 ≡ get_or (set (row R) i (cell_of x)) k 0
      at k l (yes e) = rw e (row_at (set R (get_or vs i 0) x) i h ∙ ap cell_of (get_or-set_same R (get_or vs i 0) x 255 (L.under i h))
          ∙ sym (get_or-set_same (row R) i (cell_of x) 0 (omega (arith, row_length R))))
      at k l (no e) = row_at (set R (get_or vs i 0) x) k l
          ∙ ap cell_of (get_or-set_other R (get_or vs i 0) (get_or vs k 0) x 255 (λ q. e (L.once k i l h q)))
          ∙ sym (row_at R k l) ∙ sym (get_or-set_other (row R) i k (cell_of x) 0 e)

  -- one move
  pub coupled_one : (s : State) (m : Move) → Listed (length s.robots) vs → m.robot ≢ 255 → m.from < length vs → m.to < length vs
      → arrangement_of (moved s (across_move vs m)) vs ≡ apply (arrangement_of s vs) m
  unfolding moved across_move arrangement_of row
  coupled_one s m L n f t =
      let M : Listed (length (set s.robots (get_or vs m.from 0) 255)) vs = rw length-set L in
      row_set (set s.robots (get_or vs m.from 0) 255) m.to m.robot M t
      ∙ ap₂ (λ (l : Arrangement) (c : ℕ). set l m.to c)
      (row_set s.robots m.from 255 L f ∙ ap (set (arrangement_of s vs) m.from) (cell_none refl)) (cell_of_lem n)

  -- a list of moves
  pub coupled : (s : State) (ms : List Move) → Listed (length s.robots) vs → Inside (length vs) ms
      → arrangement_of (moved_all s (across vs ms)) vs ≡ apply_all (arrangement_of s vs) ms
  unfolding moved_all apply_all across
  coupled s [] L none = refl
  coupled s (m ∷ ms) L (more n f t i) =
      let M : Listed (length (moved s (across_move vs m)).robots) vs = rw robot_length L in
      coupled (moved s (across_move vs m)) ms M i ∙ ap (λ (a : Arrangement). apply_all a ms) (coupled_one s m L n f t)
    where
      robot_length : length (moved s (across_move vs m)).robots ≡ length s.robots
      robot_length = robots_length s (across_move vs m ∷ [])

-- the arrangement of a zone after moves inside it were made
pub arranged : (w u : World) (vs : List ℕ) (ms : List Move) → Listed (length w.state.robots) vs → Inside (length vs) ms
    → u ≡ made_all w (across vs ms) → arrangement_of u.state vs ≡ apply_all (arrangement_of w.state vs) ms
arranged w u vs ms L i e =
    ap (λ (x : World). arrangement_of x.state vs) e
    ∙ ap (λ (t : State). arrangement_of t vs) (state_is w (across vs ms))
    ∙ coupled vs w.state ms L i
