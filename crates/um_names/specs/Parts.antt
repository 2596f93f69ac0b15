-- Mirrors the code: parts of declarations, one at a time.
-- Source: this project's own.
use Rattle.std.specs.Prelude.{ℕ, false, ◌||◌, cond, List, [], ◌∷◌, length, Option, Some, None, Ok}
use Rattle.std.specs.Str.{bytes_eq}
use Rattle.um_tree.specs.ProgramTree.{FieldTree}
use Rattle.um_tree.specs.RawTree.{FieldDeclSyntax, FunctionSyntax}
use Rattle.um_names.specs.declared.callable.Callable.{Callable}
use Rattle.um_names.specs.declared.callable.FieldNumber.{FieldNumber}
use Rattle.um_measures.specs.Faults.{unless_taken, Found, and_then}
use Rattle.um_measures.specs.Known.{Known, is_among, field_names}
use Rattle.um_names.specs.TypeNames.{resolved_type, written_type}

-- a field after these names of fields of its own record
abbrev pub resolved_field_decl : Known → List (List ℕ) → List (List ℕ) → FieldDeclSyntax → Found FieldTree
resolved_field_decl known variables own f =
    and_then (unless_taken (is_among (field_names known.program.records) f.name || is_among own f.name) f.at) (λ _.
    and_then (resolved_type known variables false f.type) (λ n.
    Ok (record { name = f.name; type = written_type n })))

-- the function itself, where it may be called in its body
abbrev pub itself : FunctionSyntax → List Callable
itself f = cond f.recursive (record { name = f.name; params = length f.params } ∷ []) []

-- what a name is, or else another
abbrev pub field_else : Option FieldNumber → Option FieldNumber → Option FieldNumber
field_else None other = other
field_else (Some f) other = Some f

-- a field, where it has this name
abbrev pub field_if : List ℕ → List ℕ → FieldNumber → Option FieldNumber
field_if x name f = cond (bytes_eq x name) (Some f) None

-- the field of this number of a record
abbrev pub field_at : ℕ → Option ℕ → Option FieldNumber
field_at r None = None
field_at r (Some k) = Some (record { record_number = r; field_number = k })
