use Rattle.std.proofs.Common.{sym, ◌∙◌}
use Rattle.layout.specs.Map.{map_is, cleared_is}
use Rattle.layout.proofs.map.read_map.Goals as goal

pub returns-then-is_err : goal.returns-then-is_err
returns-then-is_err c = cleared_is _ _ _ _ (sym c.is_err.ensures.value ∙ c.if-is_err.true) c.read_layout-read.ensures c.clear.ensures

pub returns-else-is_err : goal.returns-else-is_err
returns-else-is_err c = map_is _ _ _ (sym c.is_err.ensures.value ∙ c.if-is_err.false) c.read_layout-read.ensures
