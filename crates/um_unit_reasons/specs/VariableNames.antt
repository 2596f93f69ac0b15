-- The named unit variables of a function as they are written, and the letters of the others.
-- Source: the F# specification, Units Of Measure: a variable has a quote before its name. That a letter that is a name
-- is passed over is this project's own.
use Rattle.std.specs.Prelude.{ℕ, suc, ◌+◌, ◌/◌, ◌%◌, Bool, not, nat_lt, if◌then◌else◌, List, [], ◌∷◌, ◌++◌, codes, map}
use Rattle.std.specs.Prelude.{filter, length, Option, Some, None, slice_get}
use Rattle.std.specs.List.{flat_map, range_with_len}
use Rattle.std.specs.Fmt.{decimal}
use Rattle.um_tree.specs.RawTree.{DeclSyntax, FunctionSyntax, base_syntax, short_syntax, record_decl_syntax}
use Rattle.um_tree.specs.RawTree.{function_syntax}
use Rattle.um_unit_reasons.specs.declared.named.Named.{Named}
use Rattle.um_measures.specs.Known.{is_among}
use Rattle.um_measures.specs.Variables.{first_occurrences, named_variables}

-- ---- names

abbrev pub function_of : DeclSyntax → List FunctionSyntax
function_of (base_syntax at x) = []
function_of (short_syntax at x u) = []
function_of (record_decl_syntax at x us fs) = []
function_of (function_syntax f) = f ∷ []

-- the functions of a program, in order
abbrev pub functions_of : List DeclSyntax → List FunctionSyntax
functions_of ds = flat_map function_of ds

-- the names of a function's named variables in the order of their numbers: its unit parameters are the first
abbrev pub variables_of : Option FunctionSyntax → List (List ℕ)
variables_of None = []
variables_of (Some f) = named_variables (first_occurrences [] (map (λ v. v.name) f.units)) f

-- those of function i of a program
abbrev pub function_variables : List DeclSyntax → ℕ → List (List ℕ)
function_variables ds i = variables_of (slice_get (functions_of ds) i)

abbrev pub written : List ℕ → List ℕ
written x = codes "'" ++ x

-- ---- letters

-- letter k, and after 26 of them a letter with a number
abbrev pub letter : ℕ → List ℕ
letter k = (97 + k % 26) ∷ (if nat_lt k 26 then [] else decimal (k / 26))

abbrev pub is_free : List (List ℕ) → List ℕ → Bool
is_free names x = not (is_among names x)

-- m letters from letter k on, but for those that are names
abbrev pub free_letters : List (List ℕ) → ℕ → ℕ → List (List ℕ)
free_letters names k m = filter (is_free names) (map letter (range_with_len k m))

-- n letters that are no names, or more
abbrev pub letters : List (List ℕ) → ℕ → List (List ℕ)
letters names n = free_letters names 0 (n + length names)

-- ---- named variables that stand in types

abbrev pub with_variable : Option ℕ → List ℕ → List Named → List Named
with_variable None x others = others
with_variable (Some k) x others = record { text = written x; variable = k } ∷ others

-- those of the names, numbered from v on, for which a variable stands
abbrev pub named_from : (ℕ → Option ℕ) → ℕ → List (List ℕ) → List Named
named_from variable v [] = []
named_from variable v (x ∷ names) = with_variable (variable v) x (named_from variable (suc v) names)
