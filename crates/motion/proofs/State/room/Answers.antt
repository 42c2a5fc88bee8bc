use Rattle.std.proofs.Common.{◌≡◌, length, ap, sym, ◌∙◌, rules}
use Rattle.std.proofs.lemmas.List.{length-map}
use Rattle.spec.specs.State as meaning
use Rattle.motion.specs.States.{robot_no, vertex_no, length_mapped}
use Rattle.motion.proofs.State.room.Goals as goal

pub returns : goal.returns
returns g c =
    let e : length c.self.inside.robots ≡ g.row.N = search (rules, length_mapped) in
    let f : length c.self.inside.vertices ≡ g.row.M = search (rules, length_mapped) in (
      e,
      sym (ap (λ (s : meaning.State). length s.robots) c.self.view_is) ∙ length-map c.self.inside.robots robot_no ∙ e,
      sym (ap (λ (s : meaning.State). length s.vertices) c.self.view_is) ∙ length-map c.self.inside.vertices vertex_no ∙ f,
    )
