-- Demand 3: what resolving writes are legal lists to the goals, and judging clears every plan that has one.
use Rattle.std.specs.Prelude.{◌≡◌, ℕ, List, ◌↔◌}
use Rattle.spec.specs.Outcome.{ok}
use Rattle.spec.specs.Arrangement.{Move}
use Rattle.spec.specs.Services.{Instance, instance_of}
use Rattle.spec.specs.Terms.Plans.{Reaches}
use Rattle.spec.specs.Terms.Services.{Judging, Writing, Bytes, move_file, plan_file, writes, Within}

-- first half: what resolving writes is a legal list to the goals, whose crossings "are exactly a plan's steps if the plan drawn from the list is that plan, byte for byte"
unfoldable pub Sound : Writing → Type 0
Sound resolve = (a b c : List ℕ) (room : ℕ) → Bytes c → (resolve a b c room).number ≡ 0
    → (it : Instance) × (instance_of a b ≡ ok it) × (xs : List Move) × Reaches it xs × (c ≡ plan_file it xs) × Within 64 c
    × Within 128 (move_file xs) × (resolve a b c room ≡ writes room (move_file xs))

-- second half: judging clears exactly the plans that are drawn from a legal list from the starts to the goals and fit their blocks
unfoldable pub Complete : Judging → Type 0
Complete judge = (a b c : List ℕ) → Bytes c
    → ((judge a b c).number ≡ 0)
    ↔ ((it : Instance) × (instance_of a b ≡ ok it) × (xs : List Move) × Reaches it xs × (c ≡ plan_file it xs) × Within 64 c)
