use native.Mathlib.Omega.{arith}
use Rattle.lines.specs.Text.{put_ten}
use Rattle.lines.specs.Lines.{field_put}
use Rattle.lines.proofs.fields.put_field.Goals as goal

pub overflow_add-result : goal.overflow_add-result
overflow_add-result c = let l = put_ten c.put_decimal-next.ensures (omega arith) in omega arith

pub returns : goal.returns
returns c = let l = put_ten c.put_decimal-next.ensures (omega arith) in record { put = field_put _ _ c.put_decimal-next.ensures c.put.ensures; upper_bound = omega arith }
