-- What is known at a place of a program: what the declarations before it declare.
-- Source: this project's own rules of scope; spaces of names as in the F# specification, Name Resolution.
-- What is known is a list, and the first of a name counts; there is no table.
use Rattle.std.specs.Prelude.{ℕ, suc, Bool, ◌||◌, cond, List, [], ◌∷◌, map, Option, Some, None}
use Rattle.std.specs.List.{list_any, flat_map}
use Rattle.std.specs.Str.{bytes_eq}
use Rattle.um_units.specs.declared.Atom.TheVariants.{Base}
use Rattle.um_units.specs.PowerMap.{PowerMap, atom}
use Rattle.um_tree.specs.ProgramTree.{RecordTree, FunctionTree, ProgramTree}
use Rattle.um_measures.specs.declared.abbreviation.Abbreviation.{Abbreviation}

-- the program so far, and its abbreviations
pub record Known : Type 0 where
  pub program : ProgramTree
  pub shorts : List Abbreviation

-- before any declaration
abbrev pub nothing : Known
nothing = record { program = record { bases = []; records = []; functions = [] }; shorts = [] }

abbrev pub one_later : Option ℕ → Option ℕ
one_later None = None
one_later (Some k) = Some (suc k)

-- the number of the first of these names that is this one
abbrev pub number_of : List (List ℕ) → List ℕ → Option ℕ
number_of [] x = None
number_of (y ∷ names) x = cond (bytes_eq x y) (Some 0) (one_later (number_of names x))

-- the name is one of these
abbrev pub is_among : List (List ℕ) → List ℕ → Bool
is_among names x = list_any (bytes_eq x) names

abbrev pub record_names : List RecordTree → List (List ℕ)
record_names records = map (λ d. d.name) records

abbrev pub function_names : List FunctionTree → List (List ℕ)
function_names functions = map (λ f. f.name) functions

abbrev pub short_names : List Abbreviation → List (List ℕ)
short_names shorts = map (λ s. s.name) shorts

-- the names of a record's fields
abbrev pub names_of_fields : RecordTree → List (List ℕ)
names_of_fields d = map (λ f. f.name) d.fields

abbrev pub field_names : List RecordTree → List (List ℕ)
field_names records = flat_map names_of_fields records

-- measures, abbreviations and records share one space of names
abbrev pub is_taken : Known → List ℕ → Bool
is_taken known x =
    is_among known.program.bases x
    || (is_among (short_names known.shorts) x || is_among (record_names known.program.records) x)

-- the unit of the first abbreviation of this name
abbrev pub short_unit : List Abbreviation → List ℕ → Option PowerMap
short_unit [] x = None
short_unit (s ∷ shorts) x = cond (bytes_eq x s.name) (Some s.unit) (short_unit shorts x)

abbrev pub base_or : Option ℕ → Option PowerMap → Option PowerMap
base_or (Some k) other = Some (atom (Base k))
base_or None other = other

-- the unit that a measure stands for: a base unit, or that of an abbreviation
abbrev pub measure_unit : Known → List ℕ → Option PowerMap
measure_unit known x = base_or (number_of known.program.bases x) (short_unit known.shorts x)
