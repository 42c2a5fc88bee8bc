-- `put_decimal`: the number with its last digit cut off is less.
use Rattle.lines.proofs.fields.+put_decimal.Given as goal

abbrev pub decreases-put_decimal : goal.decreases-put_decimal
decreases-put_decimal l = l.n
