-- The kinds of block files: document 01, "Block files".
use Rattle.std.specs.Prelude.{ℕ}
use Rattle.spec.specs.Wire.{map_kind, placing_kind, plan_kind, moves_kind, rounds_kind, map_blocks, placing_blocks, plan_blocks, moves_blocks, rounds_blocks}
use Rattle.wire.specs.declared.FileKind.{FileKind}
use Rattle.wire.specs.declared.FileKind.TheVariants.{Map, Placing, Plan, Moves, Rounds}

-- "Byte 0: kind (1 map, 2 placing, 3 plan, 4 move list, 5 round sheet)."
abbrev pub number_of_file : FileKind → ℕ
number_of_file Map = map_kind
number_of_file Placing = placing_kind
number_of_file Plan = plan_kind
number_of_file Moves = moves_kind
number_of_file Rounds = rounds_kind

-- "Most blocks: map 9, placing 1, plan 64, move list 128, round sheet 128."
abbrev pub blocks_of_file : FileKind → ℕ
blocks_of_file Map = map_blocks
blocks_of_file Placing = placing_blocks
blocks_of_file Plan = plan_blocks
blocks_of_file Moves = moves_blocks
blocks_of_file Rounds = rounds_blocks
