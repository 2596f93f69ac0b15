-- The limits of a program besides its height.
-- Source: this project's own limits.
use Rattle.std.specs.Prelude.{◌≡◌, ℕ, ◌+◌, nat_lt, cond, List, [], ◌∷◌, length, Option, Some, None}
use Rattle.um_tree.specs.RawTree.{DeclSyntax, base_syntax, short_syntax, record_decl_syntax, function_syntax}
use Rattle.um_tree.specs.Heights.{expr_nodes}
use Rattle.um_types.specs.declared.parse.LimitKind.{LimitKind}
use Rattle.um_types.specs.declared.parse.LimitKind.TheVariants as limit

abbrev pub most_functions : ℕ
most_functions = 2000

abbrev pub most_parameters : ℕ
most_parameters = 16

abbrev pub most_fields : ℕ
most_fields = 32

abbrev pub most_unit_parameters : ℕ
most_unit_parameters = 4

abbrev pub most_nodes : ℕ
most_nodes = 20000

-- the functions among these: one or none
abbrev pub functions_in : DeclSyntax → ℕ
functions_in (function_syntax f) = 1
functions_in (base_syntax at x) = 0
functions_in (short_syntax at x u) = 0
functions_in (record_decl_syntax at x vs fs) = 0

-- the place of a declaration's name
abbrev pub name_place : DeclSyntax → ℕ
name_place (base_syntax at x) = at
name_place (short_syntax at x u) = at
name_place (record_decl_syntax at x vs fs) = at
name_place (function_syntax f) = f.at

-- the first limit that a declaration passes, after so many functions
abbrev pub passed_limit : ℕ → DeclSyntax → Option LimitKind
passed_limit before (base_syntax at x) = None
passed_limit before (short_syntax at x u) = None
passed_limit before (record_decl_syntax at x vs fs) =
    cond (nat_lt most_fields (length fs)) (Some limit.Fields)
    (cond (nat_lt most_unit_parameters (length vs)) (Some limit.UnitParameters) None)
passed_limit before (function_syntax f) =
    cond (nat_lt most_functions (before + 1)) (Some limit.Functions)
    (cond (nat_lt most_parameters (length f.params)) (Some limit.Parameters)
    (cond (nat_lt most_unit_parameters (length f.units)) (Some limit.UnitParameters)
    (cond (nat_lt most_nodes (expr_nodes f.body)) (Some limit.Nodes) None)))

-- no declaration passes a limit
abbrev pub WithinLimits : ℕ → List DeclSyntax → Type 0
WithinLimits before [] = Unit {0}
WithinLimits before (d ∷ ds) = (passed_limit before d ≡ None) × WithinLimits (before + functions_in d) ds

-- the limit that is passed here; otherwise what is said of the later declarations
abbrev pub FirstPassed : Option LimitKind → ℕ → LimitKind → ℕ → Type 0 → Type 0
FirstPassed (Some passed) place kind at later = (kind ≡ passed) × (at ≡ place)
FirstPassed None place kind at later = later

-- the first declaration that passes a limit has its name at this place, and this is the first limit that it passes
abbrev pub PassesAt : ℕ → List DeclSyntax → LimitKind → ℕ → Type 0
PassesAt before [] kind at = ⊥
PassesAt before (d ∷ ds) kind at =
    FirstPassed (passed_limit before d) (name_place d) kind at (PassesAt (before + functions_in d) ds kind at)
