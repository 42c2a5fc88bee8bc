-- The push of a robot in a ring, and pushes one after the other.
use Rattle.std.specs.Prelude.{◌≡◌, refl, ◌≢◌, ℕ, zero, suc, ◌+◌, ◌<◌, ◌≤◌, length, get_or, set, drop}
use Rattle.std.proofs.Math.Path.{ap}
use Rattle.std.proofs.Common.{sym, ◌∙◌, add-one, arith, drop_of_length-le, drop-cons, get_or-set_other}
use mathlib.Core.List.{List, [], ◌∷◌, ◌++◌, map, map-append}
use Rattle.spec.specs.Arrangement.{Arrangement, Move, mv, apply_all, seek}
use Rattle.spec.specs.Ring.{wrap, frame, in_ring, shove, push, pushes, ahead, push_to, ring_leave}
use Rattle.spec.specs.State.{State, robot_on, moved, moved_all, arrangement_of, across_move, across}
use Rattle.motion.specs.World.{World, made, made_all, made_none, state_is, robots_length}
use Rattle.motion.specs.Across.{made_both, made_last, across_nil, arrangement_length}
use Rattle.motion.specs.Coupling.{Listed, Inside, none, more, inside_append, coupled, arranged}
use Rattle.circle.specs.Places.{next_place, wrap_under, wrap_other, next_under}
use Rattle.circle.specs.Runs.{run_at, run_short, run_named, frame_size}

-- `push` is the name of a function too
abbrev pub pushed : Arrangement → ℕ → List Move
pushed = push

-- the moves of the k-th robot of the run and of those before it
unfoldable pub push_from : State → List ℕ → ℕ → ℕ → List Move
push_from s vs p k = map (λ v. in_ring (length vs) p v) (shove k (drop k (run_at s vs p)))

module _ (s : State) (vs : List ℕ) (p : ℕ) where
  -- one robot more moves, after those before it
  pub push_more : (k : ℕ) → k < length (run_at s vs p)
      → push_from s vs p k ≡ push_from s vs p (k + 1) ++ (mv (get_or (run_at s vs p) k 0) (wrap (length vs) (p + k)) (wrap (length vs) (p + (k + 1))) ∷ [])
  unfolding push_from shove in_ring
  push_more k l =
      ap (λ (x : List ℕ). map (λ v. in_ring (length vs) p v) (shove k x)) (drop-cons (run_at s vs p) k 0 l)
      ∙ map-append (λ v. in_ring (length vs) p v) (shove (suc k) (drop (suc k) (run_at s vs p))) (mv (get_or (run_at s vs p) k 0) k (suc k) ∷ [])
      ∙ rw (add-one k)

  -- past the run nobody moves
  pub push_none : (k : ℕ) → length (run_at s vs p) ≤ k → push_from s vs p k ≡ []
  unfolding push_from shove
  push_none k l = rw (drop_of_length-le (run_at s vs p) l)

  -- from the run's first robot on, all of them
  pub push_all : push_from s vs p 0 ≡ push (arrangement_of s vs) p
  unfolding push_from push
  push_all = rw arrangement_length

-- the next robot of a run moves
pub push_step : (w u v : World) (s : State) (vs : List ℕ) (p k r f t : ℕ) → k < length (run_at s vs p)
    → r ≡ get_or (run_at s vs p) k 0 → f ≡ wrap (length vs) (p + k) → t ≡ wrap (length vs) (p + (k + 1))
    → u ≡ made_all w (across vs (push_from s vs p (k + 1))) → v ≡ made u (across_move vs (mv r f t))
    → v ≡ made_all w (across vs (push_from s vs p k))
push_step w u v s vs p k r f t l er ef et eu ev =
    made_last w u v vs (mv r f t) (push_from s vs p (k + 1)) eu ev
    ∙ ap (λ (ms : List Move). made_all w (across vs ms)) (rw (er, ef, et) (sym (push_more s vs p k l)))

-- ---- a push reads the robots while it moves them

-- the robots less than k places on from p, but for the one on p, stand in t where they stood in s
pub record Unmoved (s t : State) (vs : List ℕ) (p k : ℕ) : Type 0 where
  pub stays : (i : ℕ) → 0 < i → i < k → robot_on t (get_or vs (wrap (length vs) (p + i)) 0) ≡ robot_on s (get_or vs (wrap (length vs) (p + i)) 0)

-- nobody moved
pub unmoved_all : (s : State) (vs : List ℕ) (p k : ℕ) → Unmoved s s vs p k
unmoved_all s vs p k = record { stays = λ i z l. refl }

-- a move changes two vertices only
move_stays : (w u : World) (r f t v : ℕ) → u ≡ made w (mv r f t) → v ≢ f → v ≢ t → robot_on u.state v ≡ robot_on w.state v
unfolding made moved
move_stays w u r f t v e a b =
    ap (λ (x : World). get_or x.state.robots v 255) e
    ∙ get_or-set_other (set w.state.robots f 255) t v r 255 b
    ∙ get_or-set_other w.state.robots f v 255 255 a

-- the robot k places on went one place on: those behind it stand where they stood
pub unmoved_behind : (s : State) (w u : World) (vs : List ℕ) (n p k r f t : ℕ) → Listed n vs → p < length vs → k < length vs
    → f ≡ get_or vs (wrap (length vs) (p + k)) 0 → t ≡ get_or vs (wrap (length vs) (p + (k + 1))) 0
    → u ≡ made w (mv r f t) → Unmoved s w.state vs p (k + 1) → Unmoved s u.state vs p k
unmoved_behind s w u vs n p k r f t L h l ef et e U =
    record {
      stays =
          λ i z q.
          move_stays w u r f t (get_or vs (wrap (length vs) (p + i)) 0) e (λ d. away i k z q (omega arith) (d ∙ ef)) (λ d. away i (k + 1) z (omega arith) (omega arith) (d ∙ et))
          ∙ U.stays i z (omega arith);
    }
  where
    away : (i q : ℕ) → 0 < i → i < q → q ≤ length vs → get_or vs (wrap (length vs) (p + i)) 0 ≢ get_or vs (wrap (length vs) (p + q)) 0
    away i q z a b d =
        wrap_other (length vs) p i q h z a b
        (L.once (wrap (length vs) (p + i)) (wrap (length vs) (p + q)) (wrap_under (length vs) p i h (omega arith)) (wrap_under (length vs) p q h b) d)

-- ---- pushes keep to the ring

-- a push keeps the length of the list of robots
pub push_robots : (w u : World) (vs : List ℕ) (p : ℕ) → u ≡ made_all w (across vs (push (arrangement_of w.state vs) p))
    → length u.state.robots ≡ length w.state.robots
push_robots w u vs p e =
    ap (λ (x : World). length x.state.robots) e
    ∙ ap (λ (t : State). length t.robots) (state_is w (across vs (push (arrangement_of w.state vs) p)))
    ∙ robots_length w.state (across vs (push (arrangement_of w.state vs) p))

-- the moves of a run stay inside the ring
inside_shove : (m p : ℕ) → p < m → (rs : List ℕ) (k : ℕ) → ((i : ℕ) → i < length rs → get_or rs i 0 ≢ 255) → k + length rs ≤ m
    → Inside m (map (λ v. in_ring m p v) (shove k rs))
unfolding shove in_ring
inside_shove m p h [] k n l = none
inside_shove m p h (r ∷ rs) k n l =
    rw (map-append (λ v. in_ring m p v) (shove (suc k) rs) (mv r k (suc k) ∷ []))
    (inside_append (inside_shove m p h rs (suc k) (λ i q. n (suc i) (omega arith)) (omega arith))
    (more (n 0 (omega arith)) (wrap_under m p k h (omega arith)) (wrap_under m p (suc k) h (omega arith)) none))

-- a push moves robots between places of the ring
pub inside_push : (s : State) (vs : List ℕ) (p : ℕ) → p < length vs → Inside (length vs) (push (arrangement_of s vs) p)
unfolding push
inside_push s vs p h =
    rw arrangement_length
    (inside_shove (length vs) p h (run_at s vs p) 0 (run_named s vs p h) (omega (arith, run_short (frame p (arrangement_of s vs)), frame_size s vs p h)))

-- the first of n + 1 pushes
pushes_more : (n k : ℕ) (a b : Arrangement) (p q : ℕ) → n ≡ suc k → b ≡ apply_all a (push a p) → q ≡ next_place (length a) p
    → pushes n a p ≡ push a p ++ pushes k b q
unfolding pushes
pushes_more n k a b p q h e d = rw (h, e, d)

-- no push
pushes_none : (n : ℕ) (a : Arrangement) (p : ℕ) → n ≡ 0 → pushes n a p ≡ []
unfolding pushes
pushes_none n a p e = rw e

-- pushes are inside a ring as those of an equal arrangement are
inside_same : (n m : ℕ) (a b : Arrangement) (p q : ℕ) → a ≡ b → p ≡ q → Inside m (pushes n b q) → Inside m (pushes n a p)
inside_same n m a b p q e d i = rw (e, d) i

-- n pushes move robots between places of the ring
pub inside_pushes : (n : ℕ) (s : State) (vs : List ℕ) (p : ℕ) → Listed (length s.robots) vs → p < length vs
    → Inside (length vs) (pushes n (arrangement_of s vs) p)
unfolding pushes
inside_pushes zero s vs p L h = none
inside_pushes (suc n) s vs p L h =
    let t : State = moved_all s (across vs (push (arrangement_of s vs) p)) in
    let M : Listed (length t.robots) vs = rw robots_length L in
    inside_append (inside_push s vs p h)
    (inside_same n (length vs) _ (arrangement_of t vs) _ (next_place (length vs) p)
    (sym (coupled vs s (push (arrangement_of s vs) p) L (inside_push s vs p h))) (ap (λ (m : ℕ). next_place m p) (arrangement_length s vs))
    (inside_pushes n t vs (next_place (length vs) p) M (next_under (length vs) p h)))

-- one push, then the rest
pub pushes_step : (w u : World) (vs : List ℕ) (p q n k : ℕ) → Listed (length w.state.robots) vs → p < length vs → n ≡ suc k
    → q ≡ next_place (length vs) p → u ≡ made_all w (across vs (push (arrangement_of w.state vs) p))
    → made_all u (across vs (pushes k (arrangement_of u.state vs) q))
    ≡ made_all w (across vs (pushes n (arrangement_of w.state vs) p))
unfolding arrangement_of
pushes_step w u vs p q n k M h z d e =
    made_both w u vs (push (arrangement_of w.state vs) p) (pushes k (arrangement_of u.state vs) q) e
    ∙ ap (λ (ms : List Move). made_all w (across vs ms))
    (sym (pushes_more n k (arrangement_of w.state vs) (arrangement_of u.state vs) p q z
    (arranged w u vs (push (arrangement_of w.state vs) p) M (inside_push w.state vs p h) e)
    (d ∙ ap (λ (m : ℕ). next_place m p) (sym (arrangement_length w.state vs)))))

-- no push left
pub pushes_done : (w : World) (vs : List ℕ) (a : Arrangement) (p n : ℕ) → n ≡ 0 → w ≡ made_all w (across vs (pushes n a p))
pushes_done w vs a p n e = made_none w (across vs (pushes n a p)) (ap (across vs) (pushes_none n a p e) ∙ across_nil vs)

-- "push until at from": as many pushes of robot r as place j is ahead of it
pub pushes_to : (a : Arrangement) (r j p n m : ℕ) → m ≡ length a → p ≡ seek (suc r) a → n ≡ ahead m p j → pushes n a p ≡ push_to a r j
unfolding push_to
pushes_to a r j p n m l e d = rw (d, e, l)

-- leaving is such a push
pub leaves_to : (a : Arrangement) (r j : ℕ) → push_to a r j ≡ ring_leave a r j
unfolding ring_leave
leaves_to a r j = refl
