use Rattle.std.proofs.Common.{List, ℕ, ap, sym, ◌∙◌, inl, inr}
use Rattle.adjacency.specs.Rows.{put_bit, join, join_out, join_out_2, join_is}
use Rattle.adjacency.proofs.Rows.add_edge.Goals as goal

pub returns-then-b-lt128 : goal.returns-then-b-lt128
returns-then-b-lt128 c =
    let a = c.args in
    c.put-then-b-lt128.ensures ∙ ap (λ (r : List (List ℕ)). put_bit r a.v.0 a.u.0) c.put.ensures ∙ sym (join_is c.self.inside.words a.u.0 a.v.0 c.if-a-lt128.true c.if-b-lt128.true)
    ∙ ap (λ (r : List (List ℕ)). join r a.u.0 a.v.0) c.self.view_is

pub returns-else-a-lt128 : goal.returns-else-a-lt128
returns-else-a-lt128 c = elim c.else-a-lt128.either [ inl h ↦ join_out_2 _ _ _ h.0 h.1 | inr h ↦ join_out _ _ _ h ]
