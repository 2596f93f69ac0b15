-- What becomes of the white space and the comments between two tokens, before the first and after the last. They are
-- cut at line feeds, and each line is laid out by itself.
-- Source: this project's own.
use Rattle.std.specs.Prelude.{ℕ, ◌+◌, ◌*◌, ◌/◌, ◌==◌, Bool, not, cond, List, [], ◌∷◌, ◌++◌, take, drop, replicate, max}
use Rattle.std.specs.List.{prefix_len}
use Rattle.um_syntax.specs.Gap.{is_space}
use Rattle.um_syntax.specs.LineColumn.{is_line_feed}
use Rattle.um_tidy.specs.declared.gap.Above.{Above}
use Rattle.um_tidy.specs.declared.gap.Above.TheVariants as above

-- ---- lines

abbrev pub in_line : ℕ → Bool
in_line c = not (is_line_feed c)

-- a byte in front of lines: it belongs to the first
abbrev pub in_front : ℕ → List (List ℕ) → List (List ℕ)
in_front c [] = (c ∷ []) ∷ []
in_front c (line ∷ lines) = (c ∷ line) ∷ lines

-- what stands before the first line feed, between each two, and after the last
abbrev pub lines : List ℕ → List (List ℕ)
lines [] = [] ∷ []
lines (c ∷ cs) = cond (is_line_feed c) ([] ∷ lines cs) (in_front c (lines cs))

-- the white space at the front of a line, and what follows it
abbrev pub margin : List ℕ → List ℕ
margin line = take (prefix_len is_space line) line

-- a byte in front of what is left without white space at its end
abbrev pub kept : ℕ → List ℕ → List ℕ
kept c [] = cond (is_space c) [] (c ∷ [])
kept c (d ∷ ds) = c ∷ d ∷ ds

-- without the white space at its end
abbrev pub trimmed : List ℕ → List ℕ
trimmed [] = []
trimmed (c ∷ cs) = kept c (trimmed cs)

-- the comment of a line that has no token, or none
abbrev pub comment : List ℕ → List ℕ
comment line = trimmed (drop (prefix_len is_space line) line)

-- the columns that white space takes: a tab goes to the next multiple of 4
abbrev pub width_from : ℕ → List ℕ → ℕ
width_from n [] = n
width_from n (c ∷ cs) = width_from (cond (c == 9) (n / 4 * 4 + 4) (n + 1)) cs

-- those of the white space at the front of a line
abbrev pub indent : List ℕ → ℕ
indent line = width_from 0 (margin line)

abbrev pub spaces : ℕ → List ℕ
spaces n = replicate n 32

-- ---- blank lines

-- After a line comes a blank one, if the text has one or more there; but not where nothing stands above.
abbrev pub blank_line : Above → List ℕ
blank_line above.Blank = 10 ∷ []
blank_line _ = []

abbrev pub past_blank : Above → Above
past_blank above.Nothing = above.Nothing
past_blank _ = above.Blank

-- ---- lines without a token

-- a comment alone keeps its indentation
abbrev pub comment_line : Above → List ℕ → List ℕ → List ℕ
comment_line a line [] = []
comment_line a line (c ∷ cs) = blank_line a ++ (spaces (indent line) ++ (c ∷ cs ++ 10 ∷ []))

abbrev pub own_line : Above → List ℕ → List ℕ
own_line a line = comment_line a line (comment line)

abbrev pub below : Above → List ℕ → Above
below a [] = past_blank a
below a (c ∷ cs) = above.Line

-- each line by itself, and the last as `last` has it
abbrev pub each_line : (Above → List ℕ → List ℕ) → Above → List (List ℕ) → List ℕ
each_line last a [] = []
each_line last a (line ∷ []) = last a line
each_line last a (line ∷ next ∷ more) = own_line a line ++ each_line last (below a (comment line)) (next ∷ more)

-- ---- a line's beginning and its end

-- A line whose first token begins a declaration stands at the margin. Others have two columns at least.
abbrev pub indentation : Bool → List ℕ → List ℕ
indentation begins line = spaces (cond begins 0 (max 2 (indent line)))

-- the last line of a gap before a token
abbrev pub before_token : Bool → Above → List ℕ → List ℕ
before_token begins a line = blank_line a ++ indentation begins line

-- one space before a comment after a token
abbrev pub comment_after : List ℕ → List ℕ
comment_after [] = []
comment_after (c ∷ cs) = 32 ∷ c ∷ cs

-- from a token to the end of its line
abbrev pub line_end : List ℕ → List ℕ
line_end line = comment_after (comment line) ++ 10 ∷ []

-- ---- gaps

-- before the first token
abbrev pub first_gap : Bool → List ℕ → List ℕ
first_gap begins gap = each_line (before_token begins) above.Nothing (lines gap)

-- between two tokens
abbrev pub inner_lines : Bool → Bool → List (List ℕ) → List ℕ
inner_lines spaced begins [] = []
inner_lines spaced begins (line ∷ []) = cond spaced (32 ∷ []) []
inner_lines spaced begins (line ∷ next ∷ more) =
    line_end line ++ each_line (before_token begins) above.Line (next ∷ more)

abbrev pub inner_gap : Bool → Bool → List ℕ → List ℕ
inner_gap spaced begins gap = inner_lines spaced begins (lines gap)

-- after the last token
abbrev pub last_lines : List (List ℕ) → List ℕ
last_lines [] = []
last_lines (line ∷ more) = line_end line ++ each_line own_line above.Line more

abbrev pub last_gap : List ℕ → List ℕ
last_gap gap = last_lines (lines gap)

-- where there is no token
abbrev pub only_gap : List ℕ → List ℕ
only_gap gap = each_line own_line above.Nothing (lines gap)
