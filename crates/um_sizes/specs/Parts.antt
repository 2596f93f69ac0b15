-- A text in parts.
-- Source: this project's own.
use Rattle.std.specs.Prelude.{ℕ, ◌==◌, cond, nat_lt, List, length, Option, Some, None}
use Rattle.std.specs.List.{position_or_len, before_first, after_first, slice_split}

-- what stands before the first such byte and what stands after it, if it stands in the text
abbrev pub cut : ℕ → List ℕ → Option (List ℕ × List ℕ)
cut mark text =
    cond (nat_lt (position_or_len (λ b. b == mark) text) (length text))
    (Some (before_first (λ b. b == mark) text, after_first (λ b. b == mark) text)) None

-- the parts of a text between its commas
abbrev pub parts_of : List ℕ → List (List ℕ)
parts_of text = slice_split (λ b. b == 44) text
