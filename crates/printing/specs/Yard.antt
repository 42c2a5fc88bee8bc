-- Yard A's listing, byte for byte as document 01 shows it (marked P there).
use Rattle.std.specs.Prelude.{◌≡◌, refl, ℕ, List, [], ◌∷◌}
use Rattle.spec.specs.Outcome.{◌>>=◌, ◌>>◌, check, ◌and◌, ◌or◌}
use Rattle.spec.specs.Wire.{file_of, map_kind, placing_kind, plan_kind}
use Rattle.spec.specs.State.{moves_payload, rounds_from}
use Rattle.spec.specs.Services.{plan_moves, fits}
use Rattle.lines.specs.Text.{decimal}
use Rattle.lines.specs.Listing.{listing_of}

-- "stack 0,1,2; hall 3,4; edges 0-1, 0-3, 1-2, 3-4"
abbrev yard_map : List ℕ
yard_map = 5 ∷ 2 ∷ 1 ∷ 3 ∷ 0 ∷ 1 ∷ 2 ∷ 2 ∷ 2 ∷ 3 ∷ 4 ∷ 0 ∷ 4 ∷ 0 ∷ 1 ∷ 0 ∷ 3 ∷ 1 ∷ 2 ∷ 3 ∷ 4 ∷ []

-- "cart 0 from 1 to 4, cart 1 from 2 to 3"
abbrev yard_placing : List ℕ
yard_placing = 2 ∷ 1 ∷ 4 ∷ 2 ∷ 3 ∷ []

-- "steps (0,0,3,255), (1,0,3,255)"
abbrev yard_plan : List ℕ
yard_plan = 0 ∷ 2 ∷ 0 ∷ 0 ∷ 3 ∷ 255 ∷ 1 ∷ 0 ∷ 3 ∷ 255 ∷ []

-- its listing, a line of the text to a line here
abbrev yard_text : List ℕ
yard_text =
    109 ∷ 111 ∷ 118 ∷ 101 ∷ 115 ∷ 32 ∷ 54 ∷ 10 ∷
    48 ∷ 32 ∷ 49 ∷ 32 ∷ 48 ∷ 32 ∷ 49 ∷ 10 ∷
    48 ∷ 32 ∷ 48 ∷ 32 ∷ 51 ∷ 32 ∷ 50 ∷ 10 ∷
    49 ∷ 32 ∷ 50 ∷ 32 ∷ 49 ∷ 32 ∷ 49 ∷ 10 ∷
    49 ∷ 32 ∷ 49 ∷ 32 ∷ 48 ∷ 32 ∷ 50 ∷ 10 ∷
    48 ∷ 32 ∷ 51 ∷ 32 ∷ 52 ∷ 32 ∷ 51 ∷ 10 ∷
    49 ∷ 32 ∷ 48 ∷ 32 ∷ 51 ∷ 32 ∷ 51 ∷ 10 ∷ []

pub yard_a : listing_of (file_of map_kind yard_map) (file_of placing_kind yard_placing) (file_of plan_kind yard_plan) ≡ yard_text
unfolding listing_of plan_moves fits moves_payload rounds_from file_of decimal ◌>>=◌ ◌>>◌ check ◌and◌ ◌or◌
yard_a = refl
