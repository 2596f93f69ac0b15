-- A cursor that stands in a text.
-- Source: this project's own.
use Rattle.std.specs.Prelude.{◌≡◌, ◌≤◌, ◌+◌, ◌++◌, ℕ, List, codes, decimal, length, take}
use Rattle.um_reports.specs.declared.cursor.Cursor.{Cursor}
use Rattle.um_reports.specs.declared.cursor.LineHeads.{LineHeads}
use Rattle.um_reports.specs.Places.{line_of, column_of}

-- it has the line and the column of its offset
pub record IsAt (bytes : List ℕ) (c : Cursor) : Type 0 where
  pub within : c.at ≤ length bytes
  pub line : c.line ≡ line_of (take c.at bytes)
  pub column : c.column ≡ column_of (take c.at bytes)
  pub few_lines : c.line ≤ c.at + 1
  pub few_columns : c.column ≤ c.at + 1

-- the start of a line about a place: two spaces, the place's line and a colon
abbrev pub line_start : ℕ → List ℕ
line_start line = codes "  " ++ decimal line ++ codes ":"

-- the heads stand in a text, with the start of a line about their place
pub record AreAt (bytes : List ℕ) (h : LineHeads) : Type 0 where
  pub cursor : IsAt bytes h.cursor
  pub start : h.start.items ≡ line_start h.cursor.line
