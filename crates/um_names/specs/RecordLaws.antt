-- What the record of a record text is, in the words of the language.
-- Source: this project's own; F# takes a record expression's type from its fields.
use Rattle.std.specs.Prelude.{◌≡◌, ℕ, List, ◌∷◌, slice_get, Some}
use Rattle.um_tree.specs.Formed.{AreDistinct}
use Rattle.um_tree.specs.ProgramTree.{RecordTree}
use Rattle.um_names.specs.ExprNames.{record_of}
use Rattle.um_measures.specs.Known.{names_of_fields, field_names}

-- the names are, in order, those of all its fields
abbrev pub RecordHasTheseFields : Type 0
RecordHasTheseFields =
    (records : List RecordTree) (names : List (List ℕ)) (r : ℕ) → record_of records names ≡ Some r
    → (d : RecordTree) × (slice_get records r ≡ Some d) × (names ≡ names_of_fields d)

-- and each record with a field is found, where a name is one of one field alone
abbrev pub RecordIsFound : Type 0
RecordIsFound =
    (records : List RecordTree) (r : ℕ) (d : RecordTree) (x : List ℕ) (xs : List (List ℕ))
    → AreDistinct (field_names records) → slice_get records r ≡ Some d → names_of_fields d ≡ x ∷ xs
    → record_of records (x ∷ xs) ≡ Some r
