-- The code's: a table of numbers by their places. No public clause rests on it.
-- Source: this project's own.
use Rattle.std.specs.Prelude.{ℕ, List, [], ◌∷◌, get_or, set, Option, Some, None}
use Rattle.um_frac.specs.declared.number.Frac.{Frac}

-- the table with each number at its place, the first if two have one place
abbrev pub by_place : List (Option Frac) → List (ℕ × Frac) → List (Option Frac)
by_place table [] = table
by_place table (l ∷ ls) = set (by_place table ls) l.0 (Some l.1)

abbrev pub number_at : List (Option Frac) → ℕ → Option Frac
number_at table place = get_or table place None
