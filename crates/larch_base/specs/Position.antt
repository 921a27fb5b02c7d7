-- Lines and columns of a text.
use Rattle.std.specs.Prelude.{ℕ, ◌+◌, ◌==◌, if◌then◌else◌, List, [], ◌∷◌, ◌++◌, codes, decimal}
use Rattle.larch_base.specs.declared.position.Pos.{Pos}

-- where a text begins
abbrev pub start_of_text : Pos
start_of_text = record { line = 1; column = 1 }

-- the position behind a byte: a newline ends a line, any other byte takes a column
abbrev pub advance : Pos → ℕ → Pos
advance pos byte =
    if byte == 10 then record { line = pos.line + 1; column = 1 }
    else record { line = pos.line; column = pos.column + 1 }

-- the position behind these bytes, which begin at a position
abbrev pub position_behind : Pos → List ℕ → Pos
position_behind pos [] = pos
position_behind pos (byte ∷ bytes) = position_behind (advance pos byte) bytes

-- a position as reports write it
abbrev pub position_text : Pos → List ℕ
position_text pos = decimal pos.line ++ codes ":" ++ decimal pos.column
