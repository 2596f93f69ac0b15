-- A program's text and the lines of its calls in one source: the text ends before the first line that is `---` alone.
-- Source: this project's own.
use Rattle.std.specs.Prelude.{ℕ, ◌-◌, ◌==◌, ◌||◌, Bool, if◌then◌else◌}
use Rattle.std.specs.Prelude.{List, [], ◌∷◌, ◌++◌, length, take, get_or, map, codes}
use Rattle.std.specs.List.{slice_split}
use Rattle.std.specs.Str.{bytes_eq}

-- ---- lines

-- what stands between the line feeds: one line more than there are line feeds, and the last has none after it
abbrev pub lines_between : List ℕ → List (List ℕ)
lines_between bytes = slice_split (λ b. b == 10) bytes

-- the line is `---`; where a line feed comes after it, a carriage return may stand before that
abbrev pub is_mark : List ℕ → Bool
is_mark line = bytes_eq line (codes "---")

abbrev pub is_ended_mark : List ℕ → Bool
is_ended_mark line = is_mark line || bytes_eq line (codes "---\r")

-- ---- the two parts

-- the bytes up to the first such line
abbrev pub text_in : List (List ℕ) → List ℕ
text_in [] = []
text_in (line ∷ []) = if is_mark line then [] else line
text_in (line ∷ next ∷ more) = if is_ended_mark line then [] else line ++ 10 ∷ text_in (next ∷ more)

-- the lines after it
abbrev pub calls_in : List (List ℕ) → List (List ℕ)
calls_in [] = []
calls_in (line ∷ []) = []
calls_in (line ∷ next ∷ more) = if is_ended_mark line then next ∷ more else calls_in (next ∷ more)

-- an empty rest after the last line feed is no line
abbrev pub whole_lines : List (List ℕ) → List (List ℕ)
whole_lines [] = []
whole_lines (line ∷ []) = if length line == 0 then [] else line ∷ []
whole_lines (line ∷ next ∷ more) = line ∷ whole_lines (next ∷ more)

-- the line without a carriage return at its end
abbrev pub without_return : List ℕ → List ℕ
without_return line = if get_or line (length line - 1) 0 == 13 then take (length line - 1) line else line

-- the lines that the bytes after `---` are
abbrev pub call_lines : List ℕ → List (List ℕ)
call_lines bytes = map without_return (whole_lines (lines_between bytes))

-- ---- of a source

-- the text of the program
abbrev pub program_in : List ℕ → List ℕ
program_in bytes = text_in (lines_between bytes)

-- the lines of its calls
abbrev pub calls_of : List ℕ → List (List ℕ)
calls_of bytes = map without_return (whole_lines (calls_in (lines_between bytes)))

-- the words of a line: what stands between its tabs
abbrev pub words_in : List ℕ → List (List ℕ)
words_in line = slice_split (λ b. b == 9) line
