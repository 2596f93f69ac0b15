-- The code's: sizes of base units, set one by one.
use Rattle.std.specs.Prelude.{ℕ, List, [], ◌∷◌, set, Option, Some}
use Rattle.std.specs.Option.{option_and_then, option_map}
use Rattle.um_frac.specs.declared.number.Frac.{Frac}
use Rattle.um_measures.specs.Known.{number_of}
use Rattle.um_sizes.specs.ScaleWords.{size_in}

-- the sizes with that of the part, where the part is a size of a base unit
abbrev pub size_set : List (List ℕ) → List Frac → List ℕ → Option (List Frac)
size_set bases cs part =
    option_and_then (λ s. option_map (λ k. set cs k s.1) (number_of bases s.0)) (size_in part)

-- the sizes with those of all parts
abbrev pub sizes_set : List (List ℕ) → List Frac → List (List ℕ) → Option (List Frac)
sizes_set bases cs [] = Some cs
sizes_set bases cs (part ∷ parts) = option_and_then (λ ds. sizes_set bases ds parts) (size_set bases cs part)
