-- Demand 2: which plans judging clears, and that what the services write is the plan, the move list or the round sheet meant, and reads back.
use Rattle.std.specs.Prelude.{◌≡◌, ℕ, suc, ◌≤◌, ◌<◌, List, [], ◌↔◌, length, get_or, take}
use Rattle.spec.specs.Outcome.{ok}
use Rattle.spec.specs.Wire.{file_of}
use Rattle.spec.specs.Arrangement.{Move}
use Rattle.spec.specs.State.{Step, plan_payload, rounds_from}
use Rattle.spec.specs.Services.{Instance, instance_of}
use Rattle.spec.specs.Terms.Layout.{start, goal}
use Rattle.spec.specs.Terms.Plans.{Abstract}
use Rattle.spec.specs.Terms.Services.{Judging, Writing, Bytes, move_file, plan_file, sheet_file, writes, Within, Gives, Takes}

-- "Judging clears a plan by returning 0": exactly if map and placing are accepted, and the plan is an abstract plan from the starts to the goals that fits its blocks
unfoldable pub Cleared : Judging → Type 0
Cleared judge = (a b c : List ℕ) → Bytes c
    → ((judge a b c).number ≡ 0)
    ↔ ((it : Instance) × (instance_of a b ≡ ok it) × (ss : List Step) × Abstract it.graph (start it) ss (goal it) × (c ≡ file_of 3 (plan_payload ss)) × Within 64 c)

-- drawing answers a legal list to the goals with "the plan drawn", 61 or 60
unfoldable pub Draws : Writing → Type 0
Draws draw = Gives 64 plan_file draw

-- and accepts nothing else: "where drawing returns 0, that plan is what it wrote"
unfoldable pub Drawn : Writing → Type 0
Drawn draw = Takes 64 plan_file draw

-- one file is one list
unfoldable pub OneList : Type 0
OneList = (xs ys : List Move) → Within 128 (move_file xs) → Within 128 (move_file ys) → move_file xs ≡ move_file ys → xs ≡ ys

-- and has one plan, whatever the buffer
unfoldable pub OnePlan : Writing → Type 0
OnePlan draw = (a b c : List ℕ) (room other : ℕ) → Bytes c → (draw a b c room).number ≡ 0 → (draw a b c other).number ≡ 0
    → take (draw a b c room).value (draw a b c room).buffer ≡ take (draw a b c other).value (draw a b c other).buffer

-- the plan drawn from what resolving wrote "is that plan, byte for byte"
unfoldable pub RoundTrip : Writing → Writing → Type 0
RoundTrip resolve draw = (a b c : List ℕ) (room back : ℕ) → Bytes c → (resolve a b c room).number ≡ 0 → length c ≤ back
    → draw a b (take (resolve a b c room).value (resolve a b c room).buffer) back ≡ writes back c

-- rounds answers a legal list to the goals with its round sheet, 61 or 60
unfoldable pub Times : Writing → Type 0
Times round = Gives 128 sheet_file round

-- and accepts nothing else
unfoldable pub Timed : Writing → Type 0
Timed round = Takes 128 sheet_file round

-- "one two-byte round per move": a round is at least 1 and at most its move's number, so two bytes hold it
unfoldable pub RoundsSmall : Type 0
RoundsSmall = (xs : List Move) (i : ℕ) → i < length xs → (1 ≤ get_or (rounds_from [] xs) i 0) × (get_or (rounds_from [] xs) i 0 ≤ suc i)

-- and the sheet of a list that fits its blocks fits them too: rounds never gives 61
unfoldable pub SheetFits : Type 0
SheetFits = (it : Instance) (xs : List Move) → Within 128 (move_file xs) → Within 128 (sheet_file it xs)
