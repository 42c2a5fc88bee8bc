use borrow.Author.Rules.{rules}
use native.Mathlib.Omega.{arith}
use Rattle.std.proofs.Common.{tests}
use Prim.Native.Nat.{ℕ, ◌+◌, ◌-◌, ◌<◌}
use mathlib.Core.Path.{◌≡◌, ap, sym, ◌∙◌}
use lib.ListN.{length, take}
use Rattle.spec.specs.Arrangement.{cell, last_named}
use Rattle.spec.specs.Ring.{wrap, opened}
use Rattle.spec.specs.State.{cell_of, arrangement_of}
use Rattle.turns.specs.Entry.{walk_all, walk_free, walk_taken, walk_over}
use Rattle.turns.proofs.turning.behind.Goals as goal

pub loop-k-init : goal.loop-k-init
loop-k-init g c = let a = c.args in walk_all a.state.now a.zone.now a.j (search rules)

pub returns-then-ne : goal.returns-then-ne
returns-then-ne g c =
    let a = c.args in
    let z = a.zone.now in
    let k = c.loop-k.k - 1 - 1 in
    let l : k + 1 < length z = omega arith in
    let n : k + 1 ≡ c.loop-k.k - 1 = omega arith in
    let r : cell_of c.robot_at-r.result.0 ≡ cell (arrangement_of a.state.now z) (wrap (length z) (a.j + (k + 1))) = c.robot_at-r.ensures ∙ ap (cell (arrangement_of a.state.now z)) (c.around.ensures ∙ ap (λ (i : ℕ). wrap (length z) (a.j + i)) (sym n)) in (
      walk_taken a.state.now z a.j (search rules) k c.robot_at-r.result.0 l r (search (rules, tests))
          ∙ ap (λ (i : ℕ). last_named (take i (opened a.j (arrangement_of a.state.now z)))) n ∙ c.loop-k.invariant,
      search (rules, tests),
    )

pub loop-k-preserved : goal.loop-k-preserved
loop-k-preserved g c =
    let a = c.args in
    let z = a.zone.now in
    let k = c.loop-k.k - 1 - 1 in
    let l : k + 1 < length z = omega arith in
    let n : k + 1 ≡ c.loop-k.k - 1 = omega arith in
    let r : cell_of c.robot_at-r.result.0 ≡ cell (arrangement_of a.state.now z) (wrap (length z) (a.j + (k + 1))) = c.robot_at-r.ensures ∙ ap (cell (arrangement_of a.state.now z)) (c.around.ensures ∙ ap (λ (i : ℕ). wrap (length z) (a.j + i)) (sym n)) in
    walk_free a.state.now z a.j (search rules) k c.robot_at-r.result.0 l r (search (rules, tests))
    ∙ ap (λ (i : ℕ). last_named (take i (opened a.j (arrangement_of a.state.now z)))) n ∙ c.loop-k.invariant

pub returns : goal.returns
returns g c =
    let a = c.args in
    sym (walk_over a.state.now a.zone.now a.j (search rules) (c.loop-k.k - 1) (omega arith) ∙ c.loop-k.invariant)
