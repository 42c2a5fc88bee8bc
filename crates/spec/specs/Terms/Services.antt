-- The services as functions: a term of the services is stated of any such functions, and holds of document 01's. What such a function may answer where it has a file to give.
use Rattle.std.specs.Prelude.{◌≡◌, ℕ, ◌-◌, ◌*◌, ◌≤◌, ◌<◌, List, ◌++◌, ◌↔◌, ◌≢◌, length, get_or, replicate}
use Rattle.spec.specs.Outcome.{ok}
use Rattle.spec.specs.Wire.{file_of}
use Rattle.spec.specs.Arrangement.{Move}
use Rattle.spec.specs.State.{drawn_steps, plan_payload, moves_payload, rounds_payload}
use Rattle.spec.specs.Services.{Answer, Instance, instance_of, judging, resolving, drawing, rounds}
use Rattle.spec.specs.Terms.Layout.{start}
use Rattle.spec.specs.Terms.Plans.{Reaches}

-- judging: map, placing, plan
abbrev pub Judging : Type 0
Judging = List ℕ → List ℕ → List ℕ → Answer

-- resolving, drawing, rounds: map, placing, plan or move list, and the length of the answer buffer
abbrev pub Writing : Type 0
Writing = List ℕ → List ℕ → List ℕ → ℕ → Answer

pub record Controller : Type 0 where
  pub judge : Judging
  pub resolve : Writing
  pub draw : Writing
  pub round : Writing

-- document 01's
abbrev pub controller : Controller
controller = record { judge = judging; resolve = resolving; draw = drawing; round = rounds }

-- what a slice of u8 holds
abbrev pub Bytes : List ℕ → Type 0
Bytes c = (i : ℕ) → get_or c i 0 < 256

-- the file of a move list, the plan drawn from it, its round sheet
abbrev pub move_file : List Move → List ℕ
move_file xs = file_of 4 (moves_payload xs)

abbrev pub plan_file : Instance → List Move → List ℕ
plan_file it xs = file_of 3 (plan_payload (drawn_steps it.graph (start it) xs))

abbrev pub sheet_file : Instance → List Move → List ℕ
sheet_file it xs = file_of 5 (rounds_payload xs)

-- "Success returns 0 and the bytes written (0 in judging); the rest of the buffer is zero."
abbrev pub writes : ℕ → List ℕ → Answer
writes room file = record { number = 0; value = length file; buffer = file ++ replicate (room - length file) 0 }

-- "Most blocks: map 9, placing 1, plan 64, move list 128, round sheet 128": blocks of 512 bytes
abbrev pub Within : ℕ → List ℕ → Type 0
Within limit file = length file ≤ limit * 512

-- an answer that has a file to give: 61 "answer over its kind's blocks", else 60 "buffer shorter than the answer", at place 0, else the file
pub record Answers (limit room : ℕ) (file : List ℕ) (x : Answer) : Type 0 where
  pub over : (x.number ≡ 61) ↔ (limit * 512 < length file)
  pub short : (x.number ≡ 60) ↔ (Within limit file × (room < length file))
  pub whole : (x.number ≡ 0) ↔ (Within limit file × (length file ≤ room))
  pub place : x.number ≢ 0 → x.value ≡ 0
  pub wrote : x.number ≡ 0 → x ≡ writes room file

-- a service that answers a legal list to the goals with a file of it
abbrev pub Gives : ℕ → (Instance → List Move → List ℕ) → Writing → Type 0
Gives limit file write = (a b : List ℕ) (it : Instance) (xs : List Move) (room : ℕ) → instance_of a b ≡ ok it → Reaches it xs → Within 128 (move_file xs)
    → Answers limit room (file it xs) (write a b (move_file xs) room)

-- a service that accepts the files of such lists alone, and writes that file
abbrev pub Takes : ℕ → (Instance → List Move → List ℕ) → Writing → Type 0
Takes limit file write = (a b c : List ℕ) (room : ℕ) → Bytes c → (write a b c room).number ≡ 0
    → (it : Instance) × (instance_of a b ≡ ok it) × (xs : List Move) × Reaches it xs × (c ≡ move_file xs) × Within 128 c
    × Within limit (file it xs) × (write a b c room ≡ writes room (file it xs))
