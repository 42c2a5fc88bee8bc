use Rattle.spec.specs.Arrangement.{mv}
use Rattle.motion.specs.World.{make_leaves}
use Rattle.motion.proofs.State.make.Goals as goal

pub returns : goal.returns
returns g c =
    let a = c.args in
    make_leaves a.self.now _ a.count _ (mv a.r.0 a.from.0 a.to.0) a.out.now _ c.shift.ensures c.put_move.ensures c.one_more.ensures
