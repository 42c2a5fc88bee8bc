-- Demand 1: what the services return and leave in the buffer.
use Rattle.std.specs.Prelude.{◌≡◌, ℕ, ◌-◌, ◌≤◌, List, [], ◌∷◌, ◌++◌, ◌≢◌, length, drop, replicate, T}
use Rattle.spec.specs.Outcome.{ok, member}
use Rattle.spec.specs.Arrangement.{Move}
use Rattle.spec.specs.Services.{Answer, plan_moves}
use Rattle.spec.specs.Terms.Services.{Judging, Writing, Controller, move_file, Answers}

-- "Each refusal zeroes the whole buffer"; on success what is past the bytes written is zero
pub record Left (room : ℕ) (x : Answer) : Type 0 where
  pub size : length x.buffer ≡ room
  pub refused : x.number ≢ 0 → x.buffer ≡ replicate room 0
  pub value : x.number ≡ 0 → x.value ≤ room
  pub rest : x.number ≡ 0 → drop x.value x.buffer ≡ replicate (room - x.value) 0

-- so for all four services; judging writes nothing
unfoldable pub Zeroed : Controller → Type 0
Zeroed k = (a b c : List ℕ) (room : ℕ)
    → Left 0 (k.judge a b c) × Left room (k.resolve a b c room) × Left room (k.draw a b c room) × Left room (k.round a b c room)

-- the numbers of the table: those of map and placing, of a plan, of a move list, of an answer
abbrev pub map_numbers : List ℕ
map_numbers = 11 ∷ 12 ∷ 13 ∷ 14 ∷ 15 ∷ 16 ∷ 17 ∷ 18 ∷ 19 ∷ 21 ∷ 22 ∷ 23 ∷ 24 ∷ 25 ∷ 26 ∷ 27 ∷ 28 ∷ []

abbrev pub plan_numbers : List ℕ
plan_numbers = map_numbers ++ 31 ∷ 32 ∷ 33 ∷ 34 ∷ 35 ∷ 36 ∷ 37 ∷ 38 ∷ 39 ∷ 50 ∷ []

abbrev pub list_numbers : List ℕ
list_numbers = map_numbers ++ 41 ∷ 42 ∷ 43 ∷ 44 ∷ 45 ∷ 46 ∷ 47 ∷ 48 ∷ 51 ∷ []

abbrev pub answer_numbers : List ℕ
answer_numbers = 61 ∷ 60 ∷ []

-- every number returned is 0 or one that the table has for the service; judging gives neither 61 nor 60
unfoldable pub Listed : Controller → Type 0
Listed k = (a b c : List ℕ) (room : ℕ)
    → T (member (k.judge a b c).number (0 ∷ plan_numbers)) × T (member (k.resolve a b c room).number (0 ∷ plan_numbers ++ answer_numbers))
    × T (member (k.draw a b c room).number (0 ∷ list_numbers ++ answer_numbers)) × T (member (k.round a b c room).number (0 ∷ list_numbers ++ answer_numbers))

-- what judging refuses resolving refuses, with the same number and place; 61 and 60 come after
unfoldable pub Refuses : Judging → Writing → Type 0
Refuses judge resolve = (a b c : List ℕ) (room : ℕ) → (judge a b c).number ≢ 0
    → ((resolve a b c room).number ≡ (judge a b c).number) × ((resolve a b c room).value ≡ (judge a b c).value)

-- what judging clears resolving answers with the defined list, 61 or 60
unfoldable pub Resolves : Judging → Writing → Type 0
Resolves judge resolve = (a b c : List ℕ) (room : ℕ) → (judge a b c).number ≡ 0
    → (xs : List Move) × (plan_moves a b c ≡ ok xs) × Answers 128 room (move_file xs) (resolve a b c room)
