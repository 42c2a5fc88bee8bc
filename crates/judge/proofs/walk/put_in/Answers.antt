use mathlib.Core.List.{List}
use mathlib.Core.Path.{◌≡◌, ap, sym, ◌∙◌}
use Prim.Native.Nat.{ℕ, suc, ◌+◌, ◌-◌}
use native.Mathlib.Numerals.{add-one}
use lib.ListN.{get_or, length, take, drop, set, length-drop}
use lib.Seq.{length-take-le}
use native.Mathlib.Omega.{arith}
use Rattle.std.proofs.lemmas.List.{take-take}
use Rattle.wire.specs.Payload.{payload, held_length}
use Rattle.orders.specs.Orders.{entered}
use Rattle.orders.specs.Lengths.{entered_length}
use Rattle.walking.specs.OnMap.{kind_on, place_on}
use Rattle.walking.specs.Held.{held_part}
use Rattle.configurations.specs.Entering.{entry_on}
use Rattle.testing.specs.Held.{changed_part}
use Rattle.testing.specs.Steps.{extra_all}
use Rattle.judge.proofs.walk.put_in.Goals as goal

pub returns : goal.returns
returns g c =
    λ behind w.
    let a = c.args in
    let s = c.spot-at.ensures in
    let z : ℕ = get_or a.map.now.zone a.v.0 0 in
    let n : ℕ = get_or a.lists.now.counts z 0 in
    let m : ℕ = get_or a.map.now.size z 0 in
    let i : ℕ = get_or a.map.now.first z 0 in
    let k : ℕ = kind_on a.map.now a.v.0 in
    let j : ℕ = place_on a.map.now a.v.0 in
    let l : List ℕ = take n (drop i a.lists.now.cells) in
    let f : List ℕ = held_part a.file.now (a.from + a.e) a.from a.e in
    let q : length l ≡ n = length-take-le n (drop i a.lists.now.cells) (omega (arith, length-drop i a.lists.now.cells, c.requires.puts_in.at.here.room, c.requires.puts_in.at.here.few)) in
    let h : length f ≡ a.e = length-take-le a.e (drop a.from (take (a.from + a.e) (payload a.file.now))) (omega (arith, length-drop a.from (take (a.from + a.e) (payload a.file.now)), held_length a.file.now (a.from + a.e) c.requires.e_in_bounds)) in
    let y : length (entered k m l a.r.0 j behind f) ≡ suc n =
    entered_length k m l a.r.0 j behind f (λ u x. h ∙ extra_all k m n a.e c.requires.puts_in.extra u (ap suc (sym q) ∙ x)) ∙ ap suc q in
    let b : take n (take (i + n + 1 - i) (drop i a.lists.now.cells)) ≡ l = take-take n (i + n + 1 - i) (drop i a.lists.now.cells) (omega arith) in
    let r = rw (s.kind, s.first, s.size, s.count, s.place) at c.enter_in.ensures in
    rw (s.zone, s.first, s.count) (record {
      change = changed_part a.lists.now.cells i m (i + n + 1 - i) (entered k m l a.r.0 j behind f) c.enter_in.new.part
          (omega (arith, c.requires.puts_in.at.here.room, c.requires.puts_in.free)) (omega (arith, c.requires.puts_in.free)) (y ∙ omega arith)
          (r behind (λ y. w y ∙ ap (entry_on k behind) (sym b)) ∙ ap (λ (x : List ℕ). entered k m x a.r.0 j behind f) b);
      count = ap (λ (x : ℕ). set a.lists.now.counts z x) (add-one n ∙ sym y);
    })
