use Rattle.std.proofs.Common.{◌≡◌, ◌+◌, ◌-◌, drop}
use Rattle.spec.specs.State.{across}
use Rattle.motion.specs.World.{world, made_all}
use Rattle.spec.specs.Clique.{open_target, clique_to}
use Rattle.tabling.specs.Table.{Tabled}
use Rattle.arranging.proofs.toward.go_toward.Given as goal

abbrev pub invariant-loop : goal.invariant-loop
invariant-loop g l = record {
  search : open_target l.cells l.goal ≡ l.from + open_target (drop l.from l.cells) (drop l.from l.goal);
  table : Tabled l.table l.cells;
  moves : made_all (world l.state l.count l.out) (across l.zone (clique_to (l.most - l.counter) l.cells l.goal)) ≡ made_all (world l.fn.state l.fn.count l.fn.out) (across l.zone (clique_to l.most l.fn.cells l.goal));
}
