-- The names that declarations declare, in each space of names.
-- Source: this project's own rules of scope; spaces of names as in the F# specification, Name Resolution.
use Rattle.std.specs.Prelude.{ℕ, Bool, cond, List, [], ◌∷◌, ◌++◌, map, length, Option, Some, None}
use Rattle.std.specs.List.{flat_map, list_any}
use Rattle.std.specs.Str.{bytes_eq}
use Rattle.um_tree.specs.RawTree.{BinderSyntax, VarSyntax, FieldDeclSyntax, ParamSyntax, FunctionSyntax, DeclSyntax}
use Rattle.um_tree.specs.RawTree.{base_syntax, short_syntax, record_decl_syntax, function_syntax}
use Rattle.um_sites.specs.declared.named.Named.{Named}
use Rattle.um_sites.specs.declared.spaces.Space.{Space}
use Rattle.um_sites.specs.declared.spaces.Space.TheVariants.{Types, Measures, Records, Fields, Functions}

-- ---- names that are declared

-- a name, its place, and how many units or arguments it takes
abbrev pub taking : ℕ → ℕ → List ℕ → Named
taking parts at x = record { at = at; name = x; parts = parts }

-- a name that takes none
abbrev pub named : ℕ → List ℕ → Named
named at x = taking 0 at x

abbrev pub names_of : List Named → List (List ℕ)
names_of ns = map (λ n. n.name) ns

abbrev pub is_named : List Named → List ℕ → Bool
is_named ns x = list_any (λ n. bytes_eq x n.name) ns

-- the place of the first that has the name
abbrev pub place_of : List Named → List ℕ → Option ℕ
place_of [] x = None
place_of (n ∷ ns) x = cond (bytes_eq x n.name) (Some n.at) (place_of ns x)

-- how many units or arguments the first that has the name takes
abbrev pub parts_of : List Named → List ℕ → Option ℕ
parts_of [] x = None
parts_of (n ∷ ns) x = cond (bytes_eq x n.name) (Some n.parts) (parts_of ns x)

abbrev pub bound_as : ℕ → Option (List ℕ) → List Named
bound_as at None = []
bound_as at (Some x) = named at x ∷ []

-- the variable that is bound; `_` binds none
abbrev pub bound : BinderSyntax → List Named
bound b = bound_as b.at b.name

abbrev pub variable_named : VarSyntax → Named
variable_named v = named v.at v.name

abbrev pub field_named : FieldDeclSyntax → Named
field_named f = named f.at f.name

abbrev pub parameter_named : ParamSyntax → List Named
parameter_named p = bound p.binder

abbrev pub function_named : FunctionSyntax → Named
function_named f = taking (length f.params) f.at f.name

-- ---- spaces of names

abbrev pub measure_in : Space → ℕ → List ℕ → List Named
measure_in Types at x = named at x ∷ []
measure_in Measures at x = named at x ∷ []
measure_in Records at x = []
measure_in Fields at x = []
measure_in Functions at x = []

-- a record with so many units
abbrev pub head_in : Space → ℕ → List ℕ → ℕ → List Named
head_in Types at x units = named at x ∷ []
head_in Measures at x units = []
head_in Records at x units = taking units at x ∷ []
head_in Fields at x units = []
head_in Functions at x units = []

abbrev pub fields_in : Space → List FieldDeclSyntax → List Named
fields_in Types fs = []
fields_in Measures fs = []
fields_in Records fs = []
fields_in Fields fs = map field_named fs
fields_in Functions fs = []

abbrev pub function_in : Space → FunctionSyntax → List Named
function_in Types f = []
function_in Measures f = []
function_in Records f = []
function_in Fields f = []
function_in Functions f = function_named f ∷ []

-- what a declaration declares in a space. Measures, abbreviations and records share the space of types
abbrev pub declared_in : Space → DeclSyntax → List Named
declared_in space (base_syntax at x) = measure_in space at x
declared_in space (short_syntax at x u) = measure_in space at x
declared_in space (record_decl_syntax at x vs fs) =
    head_in space at x (length vs) ++ fields_in space fs
declared_in space (function_syntax f) = function_in space f

-- what declarations declare in a space, in order
abbrev pub declared : Space → List DeclSyntax → List Named
declared space ds = flat_map (declared_in space) ds

-- the fields of the first record that has a field of the name
abbrev pub fields_with : List DeclSyntax → List ℕ → List Named
fields_with [] x = []
fields_with (d ∷ ds) x = cond (is_named (declared_in Fields d) x) (declared_in Fields d) (fields_with ds x)

-- what may be called in the body of a function: the functions before it, and the function itself if it is `rec`
abbrev pub itself : FunctionSyntax → List Named
itself f = cond f.recursive (function_named f ∷ []) []

abbrev pub callable : List DeclSyntax → FunctionSyntax → List Named
callable before f = declared Functions before ++ itself f
