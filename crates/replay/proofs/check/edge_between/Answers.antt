use Rattle.adjacency.specs.Rows.{bit_in_lem}
use Rattle.replay.proofs.check.edge_between.Goals as goal

pub returns : goal.returns
returns c = bit_in_lem c.args.rows.now c.args.u.0 c.args.v.0 c.requires.0 c.requires.1
