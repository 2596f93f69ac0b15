-- The code's: names of sizes, added to a table one by one.
use Rattle.std.specs.Prelude.{ℕ, cond, List, [], ◌∷◌, ◌++◌, Option, Some, None}
use Rattle.std.specs.Option.{option_and_then}
use Rattle.um_measures.specs.Known.{is_among}
use Rattle.um_sizes.specs.ScaleWords.{size_in}

-- the names with that of the part, where the part is a size and its name isn't among them
abbrev pub name_after : List (List ℕ) → List ℕ → Option (List (List ℕ))
name_after names part =
    option_and_then (λ s. cond (is_among names s.0) None (Some (names ++ s.0 ∷ []))) (size_in part)

-- the names with those of all parts
abbrev pub names_after : List (List ℕ) → List (List ℕ) → Option (List (List ℕ))
names_after names [] = Some names
names_after names (part ∷ parts) = option_and_then (λ ns. names_after ns parts) (name_after names part)
