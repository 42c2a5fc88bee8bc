use Rattle.vacating.specs.Counts.{last_free_is}
use Rattle.vacating.proofs.counting.last_free.Goals as goal

pub returns : goal.returns
returns g c = last_free_is c.args.state.now c.args.zone.now c.count_robots.result c.count_robots.ensures
