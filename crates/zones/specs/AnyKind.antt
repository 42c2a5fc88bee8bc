-- A zone with any number goes by the rules of the kind as which the number goes: each meaning by which these functions, and those of
-- `leeway`, are specified is the same for the number and for that kind's.
use Rattle.std.specs.Prelude.{◌≡◌, Bool, true, false, List, ℕ, length, take, eqb}
use Rattle.std.proofs.Common.{ap}
use Rattle.numbering.specs.Kind.{number_of, goes_as, goes_clique, goes_chosen}
use Rattle.spec.specs.Outcome.{◌and◌}
use Rattle.spec.specs.Arrangement.{Arrangement, last_named, last_free}
use Rattle.spec.specs.Hall.{hall_can_leave, hall_leave, hall_can_enter, hall_enter, hall_can_end, hall_end}
use Rattle.spec.specs.Clique.{clique_can_leave, clique_leave, clique_can_enter, clique_enter, clique_can_end, clique_end}
use Rattle.spec.specs.Ring.{ring_behind, ring_can_leave, ring_leave, ring_can_enter, ring_enter, ring_can_end, ring_end}
use Rattle.spec.specs.ZoneKind as meaning
use Rattle.spec.specs.ZoneKind.{by_kind, behind_of, can_leave, can_enter, can_end}
use Rattle.theory.specs.Zones.Crossing.{extra_of}
use Rattle.walking.specs.Kinds.{leave_moves, enter_moves, end_moves}

-- what is chosen by kind
pub any_by_kind : {A : Type 0} (n : ℕ) (clique ring hall : A) → by_kind (number_of (goes_as n)) clique ring hall ≡ by_kind n clique ring hall
any_by_kind n clique ring hall = goes_chosen n clique ring hall

-- the neighbour that a step names
pub any_behind : (n : ℕ) (a : Arrangement) (j : ℕ) → behind_of (number_of (goes_as n)) a j ≡ behind_of n a j
unfolding behind_of
any_behind n a j = any_by_kind n 255 (ring_behind a j) (last_named (take j a))

-- whether whoever enters fills a clique, and how long a step's list is
pub any_fills : (n : ℕ) (b : Bool) → (eqb (number_of (goes_as n)) 3 and b) ≡ (eqb n 3 and b)
any_fills n b = ap (λ (c : Bool). c and b) (goes_clique n)

pub any_extra : (n : ℕ) (a : Arrangement) → extra_of (number_of (goes_as n)) a ≡ extra_of n a
any_extra n a = ap (λ (b : Bool). elim b as (λ _. ℕ) [ true ↦ length a | false ↦ 0 ]) (any_fills n (last_free a))

-- leaving
pub any_can_leave : (n : ℕ) (a : Arrangement) (r j : ℕ) → can_leave (number_of (goes_as n)) a r j ≡ can_leave n a r j
unfolding can_leave
any_can_leave n a r j = any_by_kind n (clique_can_leave a r j) (ring_can_leave a r j) (hall_can_leave a r j)

pub any_leave : (n : ℕ) (a : Arrangement) (r j : ℕ) → leave_moves (number_of (goes_as n)) a r j ≡ leave_moves n a r j
unfolding meaning.leave
any_leave n a r j = any_by_kind n (clique_leave a r j) (ring_leave a r j) (hall_leave a r j)

-- entering
pub any_can_enter : (n : ℕ) (a : Arrangement) (r j behind : ℕ) (list : List ℕ) → can_enter (number_of (goes_as n)) a r j behind list ≡ can_enter n a r j behind list
unfolding can_enter
any_can_enter n a r j behind list = any_by_kind n (clique_can_enter a r j behind list) (ring_can_enter a j behind) (hall_can_enter a j behind)

pub any_enter : (n : ℕ) (a : Arrangement) (j behind : ℕ) (list : List ℕ) → enter_moves (number_of (goes_as n)) a j behind list ≡ enter_moves n a j behind list
unfolding meaning.enter
any_enter n a j behind list = any_by_kind n (clique_enter a j list) (ring_enter a j behind) (hall_enter a j behind)

-- the goals
pub any_can_end : (n : ℕ) (a g : Arrangement) → can_end (number_of (goes_as n)) a g ≡ can_end n a g
unfolding can_end
any_can_end n a g = any_by_kind n (clique_can_end a g) (ring_can_end a g) (hall_can_end a g)

pub any_end : (n : ℕ) (a g : Arrangement) → end_moves (number_of (goes_as n)) a g ≡ end_moves n a g
unfolding meaning.end
any_end n a g = any_by_kind n (clique_end a g) (ring_end a g) (hall_end a g)
