-- Terms of one zone: a configuration (A.4) is what legal moves inside the zone reach, and the tests of leaving, entering and ending say just that.
use Rattle.std.specs.Prelude.{◌≡◌, ℕ, suc, ◌<◌, Bool, true, false, not, List, [], ◌∷◌, ◌↔◌, length, set, T, eqb, ltb}
use Rattle.spec.specs.Outcome.{◌and◌}
use Rattle.spec.specs.Layout.{linked}
use Rattle.spec.specs.Arrangement.{Arrangement, Move, cell, apply, full, last_free}
use Rattle.spec.specs.ZoneKind.{behind_of, can_leave, can_enter, can_end}
use Rattle.spec.specs.State.{robots_of}

-- are two places of a zone joined, whichever is first
abbrev pub joined_places : ℕ → ℕ → ℕ → ℕ → Bool
joined_places kind size i j = elim (ltb i j) [ true ↦ linked kind size i j | false ↦ ltb j i and linked kind size j i ]

-- "A move is legal if its cart is at from, to is empty and they are joined": between places of one zone
pub record Inside (kind : ℕ) (x : Move) (a : Arrangement) : Type 0 where
  pub near : T (joined_places kind (length a) x.from x.to)
  pub there : cell a x.from ≡ suc x.robot
  pub free : cell a x.to ≡ 0
  pub within : x.to < length a

-- the moves are legal one after the other from a, and end in b
pub data Runs (kind : ℕ) : List Move → Arrangement → Arrangement → Type 0 where
  done : {a : Arrangement} → Runs kind [] a a
  ◌then◌ : {x : Move} {xs : List Move} {a b : Arrangement} → Inside kind x a → Runs kind xs (apply a x) b → Runs kind (x ∷ xs) a b

-- b is in the configuration of a
abbrev pub Reachable : ℕ → Arrangement → Arrangement → Type 0
Reachable kind a b = (xs : List Move) × Runs kind xs a b

-- A.4 asks for moves both ways: inside a zone they can be undone
unfoldable pub Undoing : Type 0
Undoing = (kind : ℕ) (a b : Arrangement) → Reachable kind a b → Reachable kind b a

-- no robot twice
abbrev pub Distinct : Arrangement → Type 0
Distinct a = (i j r : ℕ) → cell a i ≡ suc r → cell a j ≡ suc r → i ≡ j

-- robots are numbered below 255, which names none
abbrev pub Named : Arrangement → Type 0
Named a = (i r : ℕ) → cell a i ≡ suc r → r < 255

-- does a robot that enters fill a clique: then the step lists who stands where
abbrev pub fills : ℕ → Arrangement → Bool
fills kind a = eqb kind 3 and last_free a

-- "Leaving needs a reachable arrangement with the cart at from."
unfoldable pub Leaving : Type 0
Leaving = (kind : ℕ) (a : Arrangement) (r j : ℕ) → Distinct a → j < length a
    → T (can_leave kind a r j) ↔ ((b : Arrangement) × Reachable kind a b × (cell b j ≡ suc r))

-- "Entering needs a reachable one with to empty and the named neighbour", and the listed arrangement where a clique is filled; the zone is not full
unfoldable pub Entering : Type 0
Entering = (kind : ℕ) (a : Arrangement) (r j behind : ℕ) (list : List ℕ) → Distinct a → Named a → j < length a → T (not (full a))
    → T (can_enter kind a r j behind list)
    ↔ ((b : Arrangement) × Reachable kind a b × (cell b j ≡ 0) × (behind_of kind b j ≡ behind) × (T (fills kind a) → list ≡ robots_of (set b j (suc r))))

-- 50, "goals not in the reached configuration", is given exactly where they are not
unfoldable pub Ending : Type 0
Ending = (kind : ℕ) (a g : Arrangement) → Distinct a → length a ≡ length g → T (can_end kind a g) ↔ Reachable kind a g
