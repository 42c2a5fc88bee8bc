-- A zone with any number goes by the rules of the kind as which the number goes: the tests of this crate are the same for the number and
-- for that kind's.
use Rattle.std.specs.Prelude.{◌≡◌, true, false, List, ℕ, length, eqb}
use Rattle.numbering.specs.Kind.{number_of, goes_as, goes_chosen}
use Rattle.spec.specs.Outcome.{same_list}
use Rattle.spec.specs.Ring.{turned}
use Rattle.orders.specs.Orders.{pinned, hall_leaves, leave_test, same_members, end_test}

pub any_leave_test : (kind n : ℕ) (l : List ℕ) (r j : ℕ) → leave_test (number_of (goes_as kind)) n l r j ≡ leave_test kind n l r j
unfolding leave_test
any_leave_test kind n l r j = goes_chosen kind (pinned n l r j) (pinned n l r j) (hall_leaves n l r j)

pub any_end_test : (kind n : ℕ) (l o : List ℕ) → end_test (number_of (goes_as kind)) n l o ≡ end_test kind n l o
unfolding end_test
any_end_test kind n l o =
    goes_chosen kind (elim (eqb (length l) n) [ true ↦ same_list l o | false ↦ same_members l o ]) (elim (eqb (length l) n) [ true ↦ same_list l o | false ↦ turned l o ])
    (same_list l o)
