-- The test of one edit: what two words have in common at their fronts is passed over.
-- Source: Damerau (1964), A technique for computer detection and correction of spelling errors.
use Rattle.std.specs.Prelude.{ℕ, ◌==◌, ◌&&◌, ◌||◌, Bool, false, if◌then◌else◌, List, [], ◌∷◌, length}
use Rattle.std.specs.Str.{bytes_eq}

-- the first two characters are exchanged, and the rest is the same
abbrev pub exchanged : List ℕ → List ℕ → Bool
exchanged (c ∷ d ∷ more) (e ∷ f ∷ others) = c == f && (d == e && bytes_eq more others)
exchanged first second = false

-- words whose first characters differ: there one character is another, too many or missing, or two are exchanged
abbrev pub apart : List ℕ → List ℕ → Bool
apart (c ∷ more) (d ∷ others) =
    bytes_eq more others
    || (bytes_eq (c ∷ more) others || (bytes_eq more (d ∷ others) || exchanged (c ∷ more) (d ∷ others)))
apart first second = false

abbrev pub one_edit : List ℕ → List ℕ → Bool
one_edit [] second = length second == 1
one_edit (c ∷ more) [] = length (c ∷ more) == 1
one_edit (c ∷ more) (d ∷ others) = if c == d then one_edit more others else apart (c ∷ more) (d ∷ others)
