use Rattle.std.proofs.Common.{◌≡◌, ◌∙◌, ◌-◌, ap, sym, List, ℕ, length, take, length-take-le, arith}
use Rattle.numbering.specs.Kind.{number_of, not_ring}
use Rattle.orders.specs.Orders.{put_in, entry_in, ring_entered}
use Rattle.configurations.specs.Entering.{ring_entered_lem, ring_index, inserted}
use Rattle.configurations.proofs.entering.enter_at.Goals as goal

pub returns-in-Ring : goal.returns-in-Ring
returns-in-Ring c =
    λ behind list e.
    let a = c.args in
    let n : length a.part.now - 1 ≡ a.at.count = omega (arith, c.requires.0) in
    let l : take (length a.part.now - 1) a.part.now ≡ take a.at.count a.part.now = ap (λ (k : ℕ). take k a.part.now) n in
    c.ring_enter.ensures behind (e ∙ sym (ring_index _ (ap number_of c.in-Ring.is) behind _) ∙ ap (entry_in behind) (sym l))
    ∙ ap (λ (x : List ℕ). ring_entered a.at.size x a.r.0 a.at.place behind) l ∙ ring_entered_lem _ (ap number_of c.in-Ring.is) _ _ _ _ _ list

pub returns-in_default : goal.returns-in_default
returns-in_default c =
    λ behind list e.
    let a = c.args in
    let n : length a.part.now - 1 ≡ a.at.count = omega (arith, c.requires.0) in
    let q : length (take a.at.count a.part.now) ≡ a.at.count = length-take-le a.at.count a.part.now (omega (arith, c.requires.0)) in
    c.insert.ensures ∙ ap (λ (k : ℕ). put_in a.t a.r.0 (take k a.part.now)) n
    ∙ inserted (number_of a.at.kind) a.at.size (take a.at.count a.part.now) a.r.0 a.at.place behind list a.t (not_ring _ c.in_default.not-Ring) (λ k z. c.requires.2 k (omega (arith, q, z))) e
