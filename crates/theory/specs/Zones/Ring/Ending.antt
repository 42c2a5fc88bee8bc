-- Rings: the test and moves of ending are right, and crossings keep configurations.
use Rattle.std.specs.Prelude.{◌≡◌, refl, ◌≢◌, Bool, set, take, drop, T}
use Rattle.std.proofs.Common.{ap, sym, ◌∙◌, ap₂, length-set, get_or-set_same}
use Rattle.std.proofs.Math.Bool.{true, false}
use mathlib.Core.List.{List, [], ◌∷◌, ◌++◌}
use Prim.Native.Nat.{ℕ, suc, ◌<◌}
use native.Mathlib.Omega.{arith}
use Rattle.std.proofs.Math.ListN.{length}
use Rattle.spec.specs.Outcome.{member, same_list}
use Rattle.spec.specs.Arrangement.{Arrangement, order, cell, full}
use Rattle.spec.specs.Terms.{Distinct, Reachable, Named}
use Rattle.spec.specs.Ring.{opened, turned, ring_can_end, ring_behind}
use Rattle.theory.specs.Basics.Lists.{Each, none, each_mid, Once, once_mid, split_once, Ended, empty, snoc, ended, last_of, last_snoc}
use Rattle.theory.specs.Basics.Tests.{Eqb, same, other, eqb?, eq→same}
use Rattle.theory.specs.Zones.Arrangements.{cell_inside, once_order, last_order, order_gap}
use Rattle.theory.specs.Zones.Moves.{runs_length, runs_full}
use Rattle.theory.specs.Zones.Robots.{runs_named}
use Rattle.theory.specs.Zones.Ring.Turning.{Turned, →turned, Anchor, anchor_turned, turned_swap, once_turned, turned_trans}
use Rattle.theory.specs.Zones.Ring.Order.{runs_turned}
use Rattle.theory.specs.Zones.Ring.Opened.{rest_runs, round_same, opened_set, none_opened, order_opened}

-- ---- the lowest-numbered robot

-- what the search for the lowest-numbered robot finds: none where there are none, or one of them
pub data Lowest (xs : List ℕ) : ℕ → Type 0 where
  nobody : xs ≡ [] → Lowest xs 0
  low : (r : ℕ) → T (member r xs) → Lowest xs (suc r)

-- ---- the moves and the test

-- a goal that can be reached may be taken
pub ring_ended : (a g : Arrangement) → Distinct a → Reachable 4 a g → T (ring_can_end a g)
unfolding ring_can_end full
ring_ended a g d s = go (eqb? (length (order a)) (length a))
  where
    go : {q : Bool} → Eqb (length (order a)) (length a) q → T (elim q [ true ↦ same_list a g | false ↦ turned (order a) (order g) ])
    go (same f) = eq→same a g (runs_full s.1 f)
    go (other n) = →turned (order a) (order g) (once_order a d) (runs_turned s.1)

-- ---- crossings keep configurations

-- behind the same robot, the same order
behind_same : (xs ys : List ℕ) → Once xs → Each (λ x. 255 ≢ x) xs → Each (λ x. 255 ≢ x) ys → Turned xs ys → last_of xs ≡ last_of ys → xs ≡ ys
unfolding last_of
behind_same xs ys o n k t e = go (ended xs) (ended ys) o n k t e
  where
    go : {xs ys : List ℕ} → Ended xs → Ended ys → Once xs → Each (λ x. 255 ≢ x) xs → Each (λ x. 255 ≢ x) ys → Turned xs ys → last_of xs ≡ last_of ys → xs ≡ ys
    go empty empty o n k t e = refl
    go empty (snoc vs v) o n k t e = absurd (each_mid vs [] k (e ∙ last_snoc vs v (λ z. each_mid vs [] k (sym z))))
    go (snoc us u) empty o n k t e = absurd (each_mid us [] n (sym (sym (last_snoc us u (λ z. each_mid us [] n (sym z))) ∙ e)))
    go (snoc us u) (snoc vs v) o n k t e =
        let f : u ≡ v = sym (last_snoc us u (λ z. each_mid us [] n (sym z))) ∙ e ∙ last_snoc vs v (λ z. each_mid vs [] k (sym z)) in
        let w = once_mid us o in
        let s : Anchor u us (vs ++ v ∷ []) = anchor_turned t record { before = us; after = []; cut = refl; round = refl; not_before = w.0; not_after = none } in
        let x = split_once s.before s.after vs [] s.not_before s.not_after (sym s.cut ∙ rw f) in
        let y : us ≡ vs = s.round ∙ ap₂ {C = List ℕ} (λ p q. q ++ p) x.0 x.1 in
        rw (f, y)

module _ (a b : Arrangement) (j r : ℕ) (d : Distinct a) (s : Reachable 4 a b) where
  -- two arrangements with the same order behind place j, and the same at j, are in one configuration
  ring_set : (x : ℕ) → j < length a → order (opened j a) ≡ order (opened j b) → Reachable 4 (set a j x) (set b j x)
  ring_set x h o =
      let m = runs_length s.1 in (
        _,
        rest_runs (set a j x) (set b j x) j (omega (arith, length-set a j x)) (length-set a j x ∙ m ∙ sym (length-set b j x))
            (get_or-set_same a j x 0 h ∙ sym (get_or-set_same b j x 0 (omega arith))) (ap order (opened_set j a x) ∙ o ∙ ap order (sym (opened_set j b x))),
      )

  -- two of a configuration from which the same robot leaves at j stay in one configuration
  pub ring_keeps_leave : cell a j ≡ suc r → cell b j ≡ suc r → Reachable 4 (set a j 0) (set b j 0)
  ring_keeps_leave e f = ring_set 0 (cell_inside a j r e) (round_same a b j j r d e f (runs_turned s.1))

  -- so do two which the same robot enters at j behind the same one
  pub ring_keeps_enter : Named a → j < length a → cell a j ≡ 0 → cell b j ≡ 0 → ring_behind a j ≡ ring_behind b j → Reachable 4 (set a j (suc r)) (set b j (suc r))
  unfolding ring_behind
  ring_keeps_enter n h e f q = ring_set (suc r) h (behind_same (order (opened j a)) (order (opened j b)) once_a none_a none_b turned_ab (sym (last_order (opened j a)) ∙ q ∙ last_order (opened j b)))
    where
      k : j < length b
      k = omega (arith, runs_length s.1)

      swap_a : Turned (order (opened j a)) (order a)
      swap_a = rw (order_opened j a, order_gap a j e) (turned_swap (order (drop (suc j) a)) (order (take j a)))

      swap_back : Turned (order a) (order (opened j a))
      swap_back = rw (order_opened j a, order_gap a j e) (turned_swap (order (take j a)) (order (drop (suc j) a)))

      swap_b : Turned (order b) (order (opened j b))
      swap_b = rw (order_opened j b, order_gap b j f) (turned_swap (order (take j b)) (order (drop (suc j) b)))

      turned_ab : Turned (order (opened j a)) (order (opened j b))
      turned_ab = turned_trans swap_a (turned_trans (runs_turned s.1) swap_b)

      once_a : Once (order (opened j a))
      once_a = once_turned swap_back (once_order a d)

      none_a : Each (λ x. 255 ≢ x) (order (opened j a))
      none_a = none_opened a j n

      none_b : Each (λ x. 255 ≢ x) (order (opened j b))
      none_b = none_opened b j (runs_named s.1 n)
