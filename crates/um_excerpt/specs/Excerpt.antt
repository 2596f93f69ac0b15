-- The two lines that show a place: its source line, or a window of it, and a caret under the place.
-- Source: this project's own.
use Rattle.std.specs.Prelude.{ℕ, ◌-◌, ◌==◌, ◌&&◌, ◌||◌, nat_le, nat_lt, not, Bool, if◌then◌else◌, List, ◌++◌, codes}
use Rattle.std.specs.Prelude.{map, take, drop, length}
use Rattle.std.specs.Str.{encode_utf8_all}
use Rattle.std.specs.Fmt.{decimal}
use Rattle.std.specs.Str.{chars}
use Rattle.um_syntax.specs.LineColumn.{line_after}
use Rattle.um_excerpt.specs.SourceLine.{line_before, source_line}

-- how many characters of the line stand left of the window: none if the place is among the first 100, otherwise all but
-- the 80 before it
abbrev pub left_out : ℕ → ℕ
left_out column = if nat_lt column 100 then 0 else column - 80

-- at most 120 characters
abbrev pub window : ℕ → List ℕ → List ℕ
window column line = take 120 (drop (left_out column) line)

-- a control character but the tab is shown as U+FFFD
abbrev pub is_control : ℕ → Bool
is_control c = nat_le c 31 || (nat_le 127 c && nat_le c 159)

abbrev pub shown : ℕ → ℕ
shown c = if is_control c && not (c == 9) then 65533 else c

-- under a tab a tab stands, and a space under every other character
abbrev pub blank : ℕ → ℕ
blank c = if c == 9 then 9 else 32

-- the line's number, and as many spaces as it has digits
abbrev pub margin : ℕ → List ℕ
margin line = map (λ _. 32) (decimal line)

-- column: how many characters of the line stand before the place
abbrev pub excerpt_at : ℕ → ℕ → List ℕ → List ℕ
excerpt_at line column characters =
    let part = window column characters in
    decimal line ++ codes " | " ++ encode_utf8_all (map shown part) ++ codes "\n"
    ++ margin line ++ codes " | " ++ map blank (take (column - left_out column) part) ++ codes "^\n"

-- the place `at` of the bytes, which are UTF-8 before it and from it on
abbrev pub excerpt : List ℕ → ℕ → List ℕ
excerpt bytes at =
    let before = chars (take at bytes) in
    excerpt_at (line_after (take at bytes)) (length (line_before before)) (source_line before (chars (drop at bytes)))

-- the end of bytes that are valid up to there: the line is all that stands before
abbrev pub excerpt_of_end : List ℕ → List ℕ
excerpt_of_end bytes =
    let line = line_before (chars bytes) in excerpt_at (line_after bytes) (length line) line
