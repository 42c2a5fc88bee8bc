use Rattle.std.proofs.Common.{◌≡◌, ◌≢◌, rules, tests}
use Rattle.std.proofs.lemmas.Iterator.{IsFirst-from_position, YieldsList-from_slice}
use Rattle.cells.specs.Cells.{seek_first}
use Rattle.cells.proofs.arrangement.seek_cell.Goals as goal

pub returns : goal.returns
returns c =
    let x = c.args.x in
    let a = c.args.cells.now in
    seek_first x a c.position.result
    (IsFirst-from_position _ _ _ (λ y. x ≡ y) (λ y. x ≢ y) c.position.ensures.ran (YieldsList-from_slice a cc) (λ y q k. search (rules, tests)) (λ y q k. search (rules, tests)))
