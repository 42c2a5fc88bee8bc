-- What the listing program prints, from the files MAP, PLACING and PLAN. Document 01, "Yards to try": "The listing program reads the files MAP,
-- PLACING and PLAN and prints a header with the move count, then cart, from, to, round; each move on a line; on refusal one line `refused`,
-- number, place; single spaces between."
use Rattle.std.specs.Prelude.{ℕ, List, [], ◌∷◌, ◌++◌, length}
use Rattle.spec.specs.Outcome.{Outcome, ok, refuse, ◌>>=◌, ◌>>◌}
use Rattle.spec.specs.Wire.{moves_kind, moves_blocks}
use Rattle.spec.specs.Arrangement.{Move}
use Rattle.spec.specs.State.{moves_payload, rounds_from}
use Rattle.spec.specs.Services.{plan_moves, fits}
use Rattle.lines.specs.Text.{decimal}

-- ASCII: "single spaces between", and the line's end
abbrev pub space : ℕ
space = 32

abbrev pub newline : ℕ
newline = 10

-- a number and the byte after it
unfoldable pub field : ℕ → ℕ → List ℕ
field n after = decimal n ++ after ∷ []

-- "cart, from, to, round; each move on a line"
unfoldable pub line_of : Move → ℕ → List ℕ
unfolding field
line_of m round = field m.robot space ++ field m.from space ++ field m.to space ++ field round newline

-- the lines of moves and their rounds
unfoldable pub lines_of : List Move → List ℕ → List ℕ
unfolding line_of
lines_of [] rounds = []
lines_of (m ∷ ms) [] = []
lines_of (m ∷ ms) (r ∷ rs) = line_of m r ++ lines_of ms rs

-- `moves ` in ASCII
abbrev pub moves_word : List ℕ
moves_word = 109 ∷ 111 ∷ 118 ∷ 101 ∷ 115 ∷ 32 ∷ []

-- `refused ` in ASCII
abbrev pub refused_word : List ℕ
refused_word = 114 ∷ 101 ∷ 102 ∷ 117 ∷ 115 ∷ 101 ∷ 100 ∷ 32 ∷ []

-- "a header with the move count", then the moves
unfoldable pub moves_text : List Move → List ℕ
unfolding field lines_of
moves_text ms = moves_word ++ field (length ms) newline ++ lines_of ms (rounds_from [] ms)

-- "one line `refused`, number, place"
unfoldable pub refused_text : ℕ → ℕ → List ℕ
unfolding field
refused_text number place = refused_word ++ field number space ++ field place newline

-- the moves that are listed: resolving's, into a buffer of 65,536 bytes
unfoldable pub listed_moves : List ℕ → List ℕ → List ℕ → Outcome (List Move)
listed_moves mapFile placingFile plan_file = do
  ms ← plan_moves mapFile placingFile plan_file
  fits moves_kind moves_blocks 65536 (moves_payload ms)
  ok ms

-- the text of moves, or of a refusal
unfoldable pub text_of : Outcome (List Move) → List ℕ
unfolding moves_text refused_text
text_of (ok ms) = moves_text ms
text_of (refuse number place) = refused_text number place

-- the listing of three files
unfoldable pub listing_of : List ℕ → List ℕ → List ℕ → List ℕ
unfolding listed_moves text_of
listing_of mapFile placingFile plan_file = text_of (listed_moves mapFile placingFile plan_file)
