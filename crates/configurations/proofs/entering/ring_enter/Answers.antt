use Rattle.std.proofs.Common.{◌≡◌, ◌∙◌, ◌-◌, suc, ap, length, take, arith}
use Rattle.orders.specs.Orders.{turned_by}
use Rattle.orders.specs.Lengths.{put_length}
use Rattle.configurations.specs.Entering.{ring_free, ring_full}
use Rattle.configurations.proofs.entering.ring_enter.Goals as goal

pub turn-requires : goal.turn-requires
turn-requires c = omega (arith, c.turn_count-q.ensures.1, c.if-part-at.true)

pub returns-then-part-at : goal.returns-then-part-at
returns-then-part-at c =
    λ behind e.
    let a = c.args in
    let p = a.part.now in
    let z : suc (length (take (length p - 1) p)) ≡ a.at.size = omega (arith, c.if-part-at.true, ap length c.insert.ensures, put_length a.t a.r (take (length p - 1) p)) in
    c.turn.ensures ∙ ap (turned_by _) c.insert.ensures ∙ ring_full (take (length p - 1) p) a.at.size a.r a.at.place behind a.t _ z e c.turn_count-q.ensures.0

pub returns-else-part-at : goal.returns-else-part-at
returns-else-part-at c =
    λ behind e.
    let a = c.args in
    let p = a.part.now in
    c.insert.ensures ∙ ring_free (take (length p - 1) p) a.at.size a.r a.at.place behind a.t (λ z. c.if-part-at.false (omega (arith, z, ap length c.insert.ensures, put_length a.t a.r (take (length p - 1) p)))) e
