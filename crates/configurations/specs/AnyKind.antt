-- A zone with any number goes by the rules of the kind as which the number goes: what this crate's functions are specified by is the same
-- for the number and for that kind's.
use Rattle.std.specs.Prelude.{◌≡◌, List, ℕ, length}
use Rattle.numbering.specs.Kind.{number_of, goes_as, goes_chosen}
use Rattle.orders.specs.Orders.{put_in, entry_in, ring_entered, clique_entered, entered, clique_enters, ring_enters, hall_enters, enter_test}
use Rattle.configurations.specs.Entering.{entry_on}

pub any_entry_on : (kind behind : ℕ) (l : List ℕ) → entry_on (number_of (goes_as kind)) behind l ≡ entry_on kind behind l
unfolding entry_on
any_entry_on kind behind l = goes_chosen kind (length l) (entry_in behind l) (entry_in behind l)

pub any_enter_test : (kind n : ℕ) (l : List ℕ) (r j behind : ℕ) (list : List ℕ) → enter_test (number_of (goes_as kind)) n l r j behind list ≡ enter_test kind n l r j behind list
unfolding enter_test
any_enter_test kind n l r j behind list = goes_chosen kind (clique_enters n l r j behind list) (ring_enters l behind) (hall_enters n l j behind)

pub any_entered : (kind n : ℕ) (l : List ℕ) (r j behind : ℕ) (list : List ℕ) → entered (number_of (goes_as kind)) n l r j behind list ≡ entered kind n l r j behind list
unfolding entered
any_entered kind n l r j behind list = goes_chosen kind (clique_entered n l r list) (ring_entered n l r j behind) (put_in (entry_in behind l) r l)
