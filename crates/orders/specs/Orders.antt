-- A zone's configuration kept as the list of its robots: in order in a hall, in order up to turning in a ring, in any order in a clique, and by
-- place where the zone is full. Document 01, "Zones and configurations": the tests of a step need no more.
use Rattle.std.specs.Prelude.{Bool, true, false, List, ◌∷◌, ◌++◌, map, ℕ, suc, ◌+◌, ◌-◌, ◌≤◌, length, get_or, take, drop, replicate, eqb}
use Rattle.spec.specs.Outcome.{◌and◌, all, member, index_of, same_list}
use Rattle.spec.specs.Arrangement.{Arrangement}
use Rattle.spec.specs.Hall.{room}
use Rattle.spec.specs.Ring.{wrap, turned}
use Rattle.spec.specs.ZoneKind.{by_kind}
use Rattle.spec.specs.Terms.{Reachable}

-- the robots of a list on the first of n places
unfoldable pub packed : ℕ → List ℕ → Arrangement
packed n l = map suc l ++ replicate (n - length l) 0

-- the list l stands for the configuration of a zone of this kind in arrangement a
pub record Holds (kind : ℕ) (l : List ℕ) (a : Arrangement) : Type 0 where
  pub fits : length l ≤ length a
  pub reach : Reachable kind a (packed (length a) l)

-- ---- what a crossing does to the list

-- a list without its element t
unfoldable pub without : ℕ → List ℕ → List ℕ
without t l = take t l ++ drop (suc t) l

-- a list with r before its element t
unfoldable pub put_in : ℕ → ℕ → List ℕ → List ℕ
put_in t r l = take t l ++ (r ∷ drop t l)

-- where a robot comes in that has the named one behind it: after that one, or first
unfoldable pub entry_in : ℕ → List ℕ → ℕ
entry_in named l = elim (eqb named 255) [ true ↦ 0 | false ↦ suc (index_of named l) ]

-- a list read from its element q on
unfoldable pub turned_by : ℕ → List ℕ → List ℕ
turned_by q l = drop q l ++ take q l

-- a ring of n places after robot r came in at place j: where that fills it, r is at place j
unfoldable pub ring_entered : ℕ → List ℕ → ℕ → ℕ → ℕ → List ℕ
ring_entered n l r j behind =
    let t : ℕ = entry_in behind l in
    elim (eqb (suc (length l)) n) [ true ↦ turned_by (wrap n (n + t - j)) (put_in t r l) | false ↦ put_in t r l ]

-- a clique after robot r came in: where that fills it, all stand as the follow list says
unfoldable pub clique_entered : ℕ → List ℕ → ℕ → List ℕ → List ℕ
clique_entered n l r list = elim (eqb (suc (length l)) n) [ true ↦ list | false ↦ put_in (length l) r l ]

-- a zone of n places after robot r came in at place j
unfoldable pub entered : ℕ → ℕ → List ℕ → ℕ → ℕ → ℕ → List ℕ → List ℕ
entered kind n l r j behind list = by_kind kind (clique_entered n l r list) (ring_entered n l r j behind) (put_in (entry_in behind l) r l)

-- ---- the tests, on the list

-- where the zone is full r stands at place j; where it is not, it is inside
unfoldable pub pinned : ℕ → List ℕ → ℕ → ℕ → Bool
pinned n l r j = elim (eqb (length l) n) [ true ↦ eqb (get_or l j 0) r | false ↦ member r l ]

-- there is room for those below and above the leaver
unfoldable pub hall_leaves : ℕ → List ℕ → ℕ → ℕ → Bool
hall_leaves n l r j = let t : ℕ = index_of r l in member r l and room n j t (length l - suc t)

-- can robot r leave at place j of a zone of n places
unfoldable pub leave_test : ℕ → ℕ → List ℕ → ℕ → ℕ → Bool
leave_test kind n l r j = by_kind kind (pinned n l r j) (pinned n l r j) (hall_leaves n l r j)

-- the same robots
unfoldable pub same_members : List ℕ → List ℕ → Bool
same_members l o = eqb (length l) (length o) and all (λ r. member r o) l and all (λ r. member r l) o

-- the follow list names the robots inside, and r at place j
unfoldable pub list_met : List ℕ → ℕ → ℕ → List ℕ → Bool
list_met l r j list = eqb (get_or list j 0) r and same_members l (without j list)

-- no robot is named in a clique; where r fills it, the follow list is met
unfoldable pub clique_enters : ℕ → List ℕ → ℕ → ℕ → ℕ → List ℕ → Bool
clique_enters n l r j behind list = eqb behind 255 and elim (eqb (suc (length l)) n) [ true ↦ list_met l r j list | false ↦ true ]

-- in a ring one that is inside is named, none if it is empty
unfoldable pub ring_enters : List ℕ → ℕ → Bool
ring_enters l behind = elim (eqb (length l) 0) [ true ↦ eqb behind 255 | false ↦ member behind l ]

-- in a hall there is room for those below and above the one that enters
unfoldable pub hall_enters : ℕ → List ℕ → ℕ → ℕ → Bool
hall_enters n l j behind =
    let t : ℕ = entry_in behind l in
    elim (eqb behind 255) [ true ↦ true | false ↦ member behind l ] and room n j t (length l - t)

-- can robot r enter at place j of a zone of n places that is not full
unfoldable pub enter_test : ℕ → ℕ → List ℕ → ℕ → ℕ → ℕ → List ℕ → Bool
enter_test kind n l r j behind list = by_kind kind (clique_enters n l r j behind list) (ring_enters l behind) (hall_enters n l j behind)

-- are the goals, whose robots in order are o, in the configuration
unfoldable pub end_test : ℕ → ℕ → List ℕ → List ℕ → Bool
end_test kind n l o =
    by_kind kind (elim (eqb (length l) n) [ true ↦ same_list l o | false ↦ same_members l o ]) (elim (eqb (length l) n) [ true ↦ same_list l o | false ↦ turned l o ])
    (same_list l o)
