-- Lines and columns of places, counted from 1, how a place is printed, and positions in a word.
-- In UTF-8 each character has one byte that begins it, so columns and positions count characters.
-- Source: UTF-8 (RFC 3629); the lines and columns are this project's own.
use Rattle.std.specs.Prelude.{ℕ, ◌+◌, ◌==◌, ◌||◌, nat_lt, nat_le, Bool, not, List, ◌++◌, codes, take, filter, count_by}
use Rattle.std.specs.List.{suffix_len}
use Rattle.std.specs.Fmt.{decimal}

abbrev pub is_line_feed : ℕ → Bool
is_line_feed b = b == 10

-- a byte that doesn't continue a character
abbrev pub begins_character : ℕ → Bool
begins_character b = nat_lt b 128 || nat_le 192 b

-- of the bytes before a place: 1 and the line feeds among them
abbrev pub line_of : List ℕ → ℕ
line_of before = count_by is_line_feed before + 1

-- 1 and the characters since the last line feed
abbrev pub column_of : List ℕ → ℕ
column_of before = suffix_len (λ b. not (is_line_feed b)) (filter begins_character before) + 1

-- the line and the column of a byte offset into the text
abbrev pub place_text : List ℕ → ℕ → List ℕ
place_text bytes at = decimal (line_of (take at bytes)) ++ codes ":" ++ decimal (column_of (take at bytes))

-- of the bytes before a place in a word: 1 and the characters among them
abbrev pub position_of : List ℕ → ℕ
position_of before = count_by begins_character before + 1
