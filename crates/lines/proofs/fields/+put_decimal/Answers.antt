use Rattle.std.proofs.Common.{arith}
use Rattle.lines.specs.Text.{put_low, put_high, put_ten}
use Rattle.lines.proofs.fields.+put_decimal.Goals as goal

pub returns-then-n-lt10 : goal.returns-then-n-lt10
returns-then-n-lt10 t c = put_low _ _ _ _ c.if-n-lt10.true c.put.ensures

pub overflow_add-result-2 : goal.overflow_add-result-2
overflow_add-result-2 t c = let l = put_ten c.put_decimal-next.ensures (omega arith) in omega arith

pub returns : goal.returns
returns t c = put_high _ _ _ _ _ _ c.if-n-lt10.false c.put_decimal-next.ensures c.put-2.ensures
