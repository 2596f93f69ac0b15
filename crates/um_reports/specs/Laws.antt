-- What report lines say, in the subject's words.
-- Source: UTF-8 (RFC 3629), in which one byte begins each character and every other byte of it lies in 128..191.
use Rattle.std.specs.Prelude.{ℕ, ◌≡◌, List, ◌++◌, codes, take}
use Rattle.std.specs.Fmt.{decimal}
use Rattle.std.specs.Str.{IsUtf8}
use Rattle.um_syntax.specs.LineColumn.{line_after, column_after}
use Rattle.um_reports.specs.Places.{line_of, column_of, place_text}

-- The line by the bytes of a text is the line by its characters.
abbrev pub LinesAgree : Type 0
LinesAgree = (before : List ℕ) → IsUtf8 before → line_of before ≡ line_after before

-- The column by the bytes of a text is the column by its characters.
abbrev pub ColumnsAgree : Type 0
ColumnsAgree = (before : List ℕ) → IsUtf8 before → column_of before ≡ column_after before

-- A place is printed as its line, a colon and its column, both by the characters before it and in decimal notation.
abbrev pub PlacesArePrinted : Type 0
PlacesArePrinted =
    (bytes : List ℕ) (at : ℕ) → IsUtf8 (take at bytes) →
    place_text bytes at ≡ decimal (line_after (take at bytes)) ++ codes ":" ++ decimal (column_after (take at bytes))
