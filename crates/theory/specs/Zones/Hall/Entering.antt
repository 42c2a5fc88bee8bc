-- Halls: the test and moves of entering are right.
use Rattle.std.specs.Prelude.{◌≡◌, refl, ◌≢◌, Bool, true, false, List, ◌++◌, [], ◌∷◌, ℕ, suc, ◌-◌, ◌<◌, length, take, drop, eqb, T}
use Rattle.std.proofs.Common.{sym, ◌∙◌, ap, append_assoc, arith, length-append, length-take, length-drop}
use Rattle.spec.specs.Outcome.{member, index_of}
use Rattle.spec.specs.Arrangement.{Arrangement, order, cell, last_named}
use Rattle.spec.specs.Hall.{lower_than, room, hall_can_enter}
use Rattle.spec.specs.Terms.{Distinct, Reachable, Named}
use Rattle.theory.specs.Basics.Lists.{last_of, last_snoc, Each, each_mid, Once, once_mid, index_at, in_right, in_head, Ended, empty, snoc, ended}
use Rattle.theory.specs.Basics.Tests.{if_T, if_false, ne→eqb, and_both}
use Rattle.theory.specs.Zones.Arrangements.{last_order, order_short, once_order, order_gap, none_255}
use Rattle.theory.specs.Zones.Moves.{runs_length}
use Rattle.theory.specs.Zones.Hall.Order.{IsHall, runs_order}
use Rattle.theory.specs.Zones.Hall.Room.{has_room}

-- the robots that count as below one that enters behind `named`
pub record Cut (a : Arrangement) (named : ℕ) : Type 0 where
  pub lower : List ℕ
  pub higher : List ℕ
  pub cut : order a ≡ lower ++ higher
  pub last : last_of lower ≡ named
  pub count : lower_than named a ≡ length lower

-- is the named robot in the hall, or is none named
unfoldable pub behind_ok : Arrangement → ℕ → Bool
behind_ok a named = elim (eqb named 255) [ true ↦ true | false ↦ member named (order a) ]

-- the other way
cut_count : (a : Arrangement) (ps qs : List ℕ) → Once (order a) → Each (λ x. 255 ≢ x) (order a) → order a ≡ ps ++ qs
    → T (behind_ok a (last_of ps)) × (lower_than (last_of ps) a ≡ length ps)
unfolding behind_ok lower_than last_of
cut_count a ps qs o n e = go (ended ps) e
  where
    go : {ps : List ℕ} → Ended ps → order a ≡ ps ++ qs → T (behind_ok a (last_of ps)) × (lower_than (last_of ps) a ≡ length ps)
    go empty e = (tt, refl)
    go (snoc us u) e =
        let f = e ∙ append_assoc us (u ∷ []) qs in
        let k : u ≢ 255 = λ g. each_mid us qs (rw f at n) (sym g) in
        let t = once_mid us (rw f at o) in
        rw (last_snoc us u k) (
          if_T (eqb u 255) true (member u (order a)) (λ t. tt) (λ t. rw f (in_right u us (u ∷ qs) (in_head u qs))),
          if_false (eqb u 255) 0 (suc (index_of u (order a))) (ne→eqb u 255 k) ∙ omega (arith, length-append us (u ∷ []), ap (index_of u) f ∙ index_at us qs t.0),
        )

-- ---- the moves

-- the test's two parts, put together
may_enter : (a : Arrangement) (j named : ℕ) → T (behind_ok a named) → T (room (length a) j (lower_than named a) (length (order a) - lower_than named a)) → T (hall_can_enter a j named)
unfolding hall_can_enter behind_ok
may_enter a j named h k = and_both (behind_ok a named) (room (length a) j (lower_than named a) (length (order a) - lower_than named a)) h k

-- where a reachable arrangement has j empty and the named robot behind it, a robot may enter
pub hall_entered : {kind : ℕ} → IsHall kind → (a b : Arrangement) (j named : ℕ) → Distinct a → Named a → j < length a → Reachable kind a b → cell b j ≡ 0
    → last_named (take j b) ≡ named → T (hall_can_enter a j named)
hall_entered i a b j named d n h s e q =
    let o : order a ≡ order b = runs_order i s.1 in
    let m = runs_length s.1 in
    let g = o ∙ order_gap b j e in
    let c = cut_count a (order (take j b)) (order (drop (suc j) b)) (once_order a d) (none_255 a n) g in
    let k = ap length g ∙ length-append (order (take j b)) (order (drop (suc j) b)) in
    let l = simp length-take at (order_short (take j b)) in
    let u = simp length-drop at (order_short (drop (suc j) b)) in
    let t = lower_than (last_of (order (take j b))) a in
    rw (sym (last_order (take j b)) ∙ q) at
    (may_enter a j (last_of (order (take j b))) c.0 (has_room (length a) j t (length (order a) - t) (omega (arith, c.1)) (omega (arith, c.1))))
