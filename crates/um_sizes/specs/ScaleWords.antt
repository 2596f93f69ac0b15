-- Sizes of base units as one word: NAME=NUMBER, more of these after commas.
-- Source: this project's own.
use Rattle.std.specs.Prelude.{ℕ, Bool, true, not, ◌&&◌, cond, List, [], ◌∷◌, map, Option, Some, None, is_some}
use Rattle.std.specs.Option.{option_and_then, option_map}
use Rattle.um_frac.specs.declared.number.Frac.{Frac}
use Rattle.um_measures.specs.Known.{is_among}
use Rattle.um_sizes.specs.NameTexts.{is_name}
use Rattle.um_sizes.specs.NumberTexts.{number_in, positive}
use Rattle.um_sizes.specs.Parts.{cut, parts_of}

-- a name, and a number above 0
abbrev pub name_and_number : List ℕ → List ℕ → Option (List ℕ × Frac)
name_and_number name text =
    cond (is_name name) (option_map (λ c. (name, c)) (option_and_then positive (number_in text))) None

abbrev pub round_equal : Option (List ℕ × List ℕ) → Option (List ℕ × Frac)
round_equal None = None
round_equal (Some sides) = name_and_number sides.0 sides.1

-- NAME=NUMBER, cut at its first `=`
abbrev pub size_in : List ℕ → Option (List ℕ × Frac)
size_in part = round_equal (cut 61 part)

-- each part in order, if each is such a size
abbrev pub sizes_in : List (List ℕ) → Option (List (List ℕ × Frac))
sizes_in [] = Some []
sizes_in (part ∷ parts) = option_and_then (λ s. option_map (λ ss. s ∷ ss) (sizes_in parts)) (size_in part)

-- each name stands once
abbrev pub are_once : List (List ℕ) → Bool
are_once [] = true
are_once (x ∷ xs) = not (is_among xs x) && are_once xs

abbrev pub names_of : List (List ℕ × Frac) → List (List ℕ)
names_of sizes = map (λ s. s.0) sizes

-- the sizes that the word states, in order, if it is such a word and each name stands once
unfoldable pub scales_in : List ℕ → Option (List (List ℕ × Frac))
scales_in word = option_and_then (λ ss. cond (are_once (names_of ss)) (Some ss) None) (sizes_in (parts_of word))

abbrev pub is_scales : List ℕ → Bool
is_scales word = is_some (scales_in word)
