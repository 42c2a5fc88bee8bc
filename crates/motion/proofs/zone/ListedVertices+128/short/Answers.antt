use Rattle.motion.specs.Coupling.{listed_short}
use Rattle.motion.proofs.zone.ListedVertices+128.short.Goals as goal

pub invariant_of-result : goal.invariant_of-result
invariant_of-result c = record { short = listed_short 128 c.args.self.vertices.now c.args.self.listed }
