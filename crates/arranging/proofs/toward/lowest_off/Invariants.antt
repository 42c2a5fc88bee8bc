use Rattle.std.proofs.Common.{◌≡◌, ◌<◌, drop}
use Rattle.spec.specs.State.{cell_of}
use Rattle.spec.specs.Clique.{lowest_off}
use Rattle.arranging.proofs.toward.lowest_off.Given as goal

abbrev pub invariant-loop-k : goal.invariant-loop-k
invariant-loop-k l = record { fits : l.lowest < 256; lowest : cell_of l.lowest ≡ lowest_off (drop l.k l.cells) (drop l.k l.goal) }
