-- The sizes of a program's base units, as a word states them.
-- Source: this project's own.
use Rattle.std.specs.Prelude.{◌≡◌, ◌⊎◌, ℕ, pos, Bool, false, IsTrue, List, length, slice_get, Some, Result, Ok, Err}
use Rattle.std.specs.List.{list_all}
use Rattle.um_frac.specs.declared.number.Frac.{Frac}
use Rattle.um_frac.specs.Fraction.{numerator, denominator}
use Rattle.um_measures.specs.Known.{is_among}
use Rattle.um_sizes.specs.declared.read.ScalesRefusal.{ScalesRefusal}
use Rattle.um_sizes.specs.declared.read.ScalesRefusal.TheVariants.{NoBaseUnit, NoMemory}
use Rattle.um_sizes.specs.ScaleWords.{names_of, scales_in}

-- each name is that of a base unit
abbrev pub are_bases : List (List ℕ) → List (List ℕ × Frac) → Bool
are_bases bases sizes = list_all (λ s. is_among bases s.0) sizes

abbrev pub IsOne : Frac → Type 0
IsOne c = (numerator c ≡ pos 1) × (denominator c ≡ pos 1)

-- the number stands beside the name, or the name isn't there and the number is 1
abbrev pub IsSizeOf : List (List ℕ × Frac) → List ℕ → Frac → Type 0
IsSizeOf sizes x c =
    ((i : ℕ) × (slice_get sizes i ≡ Some (x, c))) ⊎ ((is_among (names_of sizes) x ≡ false) × IsOne c)

-- the numbers are the sizes of the base units, in order
pub record AreSizesOf (bases : List (List ℕ)) (sizes : List (List ℕ × Frac)) (cs : List Frac) : Type 0 where
  pub many : length cs ≡ length bases
  pub each : (k : ℕ) (x : List ℕ) (c : Frac) → slice_get bases k ≡ Some x → slice_get cs k ≡ Some c → IsSizeOf sizes x c

-- the sizes that a word states, of these base units; or one of its names is that of none
abbrev pub AreScalesOf : List (List ℕ) → List (List ℕ × Frac) → Result (List Frac) ScalesRefusal → Type 0
AreScalesOf bases sizes (Ok cs) = IsTrue (are_bases bases sizes) × AreSizesOf bases sizes cs
AreScalesOf bases sizes (Err NoBaseUnit) = are_bases bases sizes ≡ false
AreScalesOf bases sizes (Err NoMemory) = Unit {0}

pub record AreScalesRead (bases : List (List ℕ)) (word : List ℕ) (r : Result (List Frac) ScalesRefusal) : Type 0 where
  pub sizes : List (List ℕ × Frac)
  pub stated : scales_in word ≡ Some sizes
  pub read : AreScalesOf bases sizes r
