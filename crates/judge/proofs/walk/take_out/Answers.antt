use Rattle.std.proofs.Common.{◌≡◌, ◌∙◌, sym, ap, List, ℕ, ◌+◌, ◌-◌, get_or, set, length, take, drop, length-drop, length-take-le, arith}
use Rattle.orders.specs.Orders.{without}
use Rattle.orders.specs.Lengths.{without_length}
use Rattle.testing.specs.Held.{changed_mid}
use Rattle.judge.proofs.walk.take_out.Goals as goal

pub returns : goal.returns
returns g c =
    let a = c.args in
    let s = c.spot-at.ensures in
    let z : ℕ = get_or a.map.now.zone a.u.0 0 in
    let n : ℕ = get_or a.lists.now.counts z 0 in
    let f : ℕ = get_or a.map.now.first z 0 in
    let l : List ℕ = take n (drop f a.lists.now.cells) in
    let q : length l ≡ n = length-take-le n (drop f a.lists.now.cells) (omega (arith, length-drop f a.lists.now.cells, c.requires.at.here.room, c.requires.at.here.few)) in
    let y : length (without a.t l) ≡ n - 1 = without_length a.t l (omega (arith, q, c.requires.in_list)) ∙ ap (λ (x : ℕ). x - 1) q in
    let k : f + n - f ≡ n = omega arith in
    let b : take (f + n - f) (drop f a.lists.now.cells) ≡ l = ap (λ (x : ℕ). take x (drop f a.lists.now.cells)) k in
    let r = rw (s.first, s.count) at c.remove.ensures in
    rw (s.zone, s.first, s.count) (record {
      change = changed_mid a.lists.now.cells f (get_or a.map.now.size z 0) (f + n - f) (without a.t l) c.remove.new.part
          (omega (arith, c.requires.at.here.room, c.requires.at.here.few)) (omega (arith, c.requires.at.here.few)) (r.0 ∙ ap length b ∙ q ∙ sym k)
          (ap (λ (x : ℕ). take x c.remove.new.part) (y ∙ ap (λ (x : ℕ). x - 1) (sym (ap length b ∙ q))) ∙ r.1 ∙ ap (without a.t) b);
      count = ap (λ (x : ℕ). set a.lists.now.counts z x) (sym y);
    })
