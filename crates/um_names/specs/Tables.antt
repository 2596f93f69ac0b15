-- Mirrors the code: what its tables hold: the declarations so far, and the names that are taken in each space of names.
-- Source: this project's own.
use Rattle.std.specs.Prelude.{◌≡◌, ℕ, List, [], ◌∷◌, ◌++◌, map, length, cond, ◌==◌, Ok, Err, slice_get, Option, Some}
use Rattle.std.specs.Prelude.{None}
use Rattle.um_tree.specs.ProgramTree.{record_tree, function_tree}
use Rattle.um_names.specs.declared.known.Tables.{Tables}
use Rattle.um_names.specs.declared.callable.Callable.{Callable}
use Rattle.um_names.specs.declared.callable.FieldNumber.{FieldNumber}
use Rattle.std.specs.Str.{bytes_eq}
use Rattle.um_measures.specs.Faults.{Found, unknown, wrong_count}
use Rattle.um_names.specs.ExprNames.{field_of}
use Rattle.um_names.specs.Resolution.{callable}
use Rattle.um_measures.specs.Known.{Known, number_of, short_unit, measure_unit, record_names, function_names}

-- the declarations that stand in the tables
abbrev pub known_of : Tables → Known
known_of t = record {
  program = record {
    bases = t.bases.items;
    records = map record_tree t.records.items;
    functions = map function_tree t.functions.items;
  };
  shorts = t.shorts.items;
}

abbrev pub numbered_field : List FieldNumber → Option ℕ → Option FieldNumber
numbered_field fs None = None
numbered_field fs (Some k) = slice_get fs k

abbrev pub own_callable : Option Callable → List Callable
own_callable None = []
own_callable (Some f) = f ∷ []

-- the functions so far, and the one whose body it is where it is `rec`
abbrev pub callables_in : Known → Option Callable → List Callable
callables_in known own = map callable known.program.functions ++ own_callable own

-- the names of the tables are those of the declarations
pub record AreTables (t : Tables) : Type 0 where
  pub measures : (x : List ℕ) → short_unit t.measures x ≡ measure_unit (known_of t) x
  pub records : t.record_names ≡ record_names (known_of t).program.records
  pub fields : (x : List ℕ) →
      numbered_field t.field_numbers.items (number_of t.fields x) ≡ field_of (known_of t).program.records x
  pub counts : length t.fields ≡ length t.field_numbers.items
  pub functions : t.function_names ≡ function_names (known_of t).program.functions

-- the number of the own function, where it has this name and so many parameters
abbrev pub own_found : Option Callable → ℕ → List ℕ → ℕ → ℕ → Found ℕ
own_found None j x n at = Err (unknown at)
own_found (Some f) j x n at =
    cond (bytes_eq x f.name) (cond (n == f.params) (Ok j) (Err (wrong_count at))) (Err (unknown at))
