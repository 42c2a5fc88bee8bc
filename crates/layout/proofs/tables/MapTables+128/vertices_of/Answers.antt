use Rattle.std.proofs.Common.{length, get_or, drop, length-take, length-drop, ap, arith}
use Rattle.layout.proofs.tables.MapTables+128.vertices_of.Goals as goal

pub invariant_of-result : goal.invariant_of-result
invariant_of-result c =
    let t = c.args.self.now in
    let n = get_or t.size c.args.z.0 0 in
    let f = get_or t.first c.args.z.0 0 in
    record { short = omega (arith, ap length c.listed_of.ensures, length-take n (drop f t.listed), length-drop f t.listed, c.room-room.ensures.1) }
