use Rattle.walking.specs.OnMap.{GivenOn}
use Rattle.theory.specs.Maps.Consistent.{Consistent}
use Rattle.spec.specs.Layout.{Map}
use Rattle.spec.specs.State.{State}
use Rattle.wire.specs.Payload.{payload}
use lib.ListN.{length, take}
use mathlib.Core.Path.{◌≡◌}
use Rattle.testing.specs.OnMap.{HeldOn}
use Rattle.judge.specs.Judging.{Judging}
use Rattle.judge.proofs.walk.walk.Given as goal

abbrev pub invariant-loop-i : goal.invariant-loop-i
invariant-loop-i g l = record {
  room : length l.lists.cells ≡ length l.map.listed;
  many : length l.lists.counts ≡ 64;
  judging : (m : Map) → GivenOn m l.k l.map l.rows → (s : State) → Consistent m l.k s → HeldOn m l.map l.initial.lists s → Judging m l.k (take l.p.len (payload l.p.file.now)) l.count s l.i-counter l.o l.map.first l.lists.counts l.lists.cells;
}
