use Rattle.std.proofs.Common.{rules, tests}
use Rattle.spec.specs.State.{arrangement_of}
use Rattle.motion.specs.Across.{arrangement_length}
use Rattle.tabling.specs.Places.{free_at}
use Rattle.tabling.proofs.placing.first_free.Goals as goal

pub returns : goal.returns
returns g c =
    let s = c.args.state.now in
    let z = c.args.zone.now in
    c.earliest.ensures (arrangement_of s z) (arrangement_length s z, λ k h b p. free_at s z k b h (search (rules, tests)))
