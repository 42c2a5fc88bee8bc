use mathlib.Core.Path.{ap, sym, ◌∙◌}
use lib.ListN.{get_or, get_or-map}
use Rattle.numbering.specs.declared.Vertex.{Vertex}
use Rattle.spec.specs.State as meaning
use Rattle.motion.specs.States.{vertex_no}
use Rattle.motion.proofs.State.vertex_of.Goals as goal

pub returns : goal.returns
returns g c =
    let r = c.args.r.0 in
    ap (λ (v : Vertex). v.0) c.cell_or.ensures ∙ sym (get_or-map vertex_no c.self.inside.vertices r (record { 0 = 255 }))
    ∙ ap (λ (x : meaning.State). get_or x.vertices r 255) c.self.view_is
