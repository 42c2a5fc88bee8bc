-- The rows of specs/Examples.antt hold: the test that the checker computes over the list, and what it shows of each row.
use Rattle.std.specs.Prelude.{◌≡◌, refl, ℕ, List, map, get_or}
use Rattle.std.proofs.Common.{sym, ap, ◌∙◌}
use Rattle.std.proofs.Math.ListN.{get_or-map}
use Rattle.spec.specs.Outcome.{◌>>=◌, ◌>>◌, check, ◌and◌, ◌or◌}
use Rattle.spec.specs.Services.{Answer}
use Rattle.spec.specs.Examples.{answers, expected_answers, rows, no_row, hall_yard, ring_yard, entry_yard, no_steps}

pub rows_hold : map answers rows ≡ map expected_answers rows
unfolding answers expected_answers rows hall_yard ring_yard entry_yard no_steps ◌>>=◌ ◌>>◌ check ◌and◌ ◌or◌
rows_hold = refl

-- past the end: three files of length 0
pub no_row_holds : answers no_row ≡ expected_answers no_row
unfolding answers expected_answers no_row ◌>>=◌ ◌>>◌ check ◌and◌
no_row_holds = refl

-- each row's files give the answers that it expects
pub row_holds : (i : ℕ) → answers (get_or rows i no_row) ≡ expected_answers (get_or rows i no_row)
row_holds i =
    sym (get_or-map answers rows i no_row) ∙ ap (λ (l : List (List Answer)). get_or l i (answers no_row)) rows_hold
    ∙ ap (λ (d : List Answer). get_or (map expected_answers rows) i d) no_row_holds
    ∙ get_or-map expected_answers rows i no_row
