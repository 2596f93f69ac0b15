-- The line of a text at a place. A text is its characters before the place and those from it on.
-- Source: this project's own.
use Rattle.std.specs.Prelude.{ℕ, ◌==◌, Bool, if◌then◌else◌, List, [], ◌∷◌, ◌++◌, reverse}

abbrev pub ends_line : ℕ → Bool
ends_line c = c == 10

-- the characters up to the first line feed
abbrev pub first_line : List ℕ → List ℕ
first_line [] = []
first_line (c ∷ cs) = if ends_line c then [] else c ∷ first_line cs

-- the characters since the last line feed
abbrev pub last_line : List ℕ → List ℕ
last_line cs = reverse (first_line (reverse cs))

-- less one carriage return at the end
abbrev pub without_return : List ℕ → List ℕ
without_return [] = []
without_return (c ∷ []) = if c == 13 then [] else c ∷ []
without_return (c ∷ d ∷ cs) = c ∷ without_return (d ∷ cs)

-- without a byte order mark, U+FEFF, in front
abbrev pub without_mark : List ℕ → List ℕ
without_mark [] = []
without_mark (c ∷ cs) = if c == 65279 then cs else c ∷ cs

-- what stands on the line before the place, without the mark that a text may begin with
abbrev pub line_before : List ℕ → List ℕ
line_before before = last_line (without_mark before)

-- the whole line
abbrev pub source_line : List ℕ → List ℕ → List ℕ
source_line before after = without_return (line_before before ++ first_line after)
