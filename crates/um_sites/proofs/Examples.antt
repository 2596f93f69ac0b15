-- What is told of faults of small programs, by computation of the definitions. Similar names are computed elsewhere.
use Rattle.std.proofs.Common.{◌≡◌, ℕ, Bool, true, false, List, [], ◌∷◌, Option, Some, None, codes, refl}
use Rattle.um_frac.specs.declared.number.Frac.{Frac}
use Rattle.um_tree.specs.RawTree.{UnitSyntax, measure_syntax, variable_syntax, times_syntax, NoteSyntax, hole_syntax}
use Rattle.um_tree.specs.RawTree.{unit_note_syntax, TypeSyntax, num_syntax, record_syntax, ExprSyntax, ExprSyntaxes}
use Rattle.um_tree.specs.RawTree.{number_syntax, name_syntax, call_syntax, let_syntax, match_syntax, fields_syntax}
use Rattle.um_tree.specs.RawTree.{field_syntax, list_syntax, no_exprs, more_exprs, no_fields, more_fields}
use Rattle.um_tree.specs.RawTree.{DeclSyntax, base_syntax, short_syntax, record_decl_syntax, function_syntax}
use Rattle.um_measures.specs.declared.stop.NameStop.TheVariants as stop
use Rattle.um_sites.specs.declared.detail.NameDetail.{NameDetail}
use Rattle.um_sites.specs.declared.detail.NameDetail.TheVariants as detail
use Rattle.um_sites.specs.Sites.{program_told}
use Rattle.um_sites.specs.NameDetails.{name_details}

abbrev word : List ℕ → ℕ → ExprSyntax
word x at = name_syntax at x

-- a function of one number `x`, at 4, with this body
abbrev function : Bool → List ℕ → TypeSyntax → ExprSyntax → DeclSyntax
function recursive f t b = function_syntax (record {
  at = 4;
  name = f;
  recursive = recursive;
  units = [];
  params = record { binder = record { at = 7; name = Some (codes "x") }; type = t } ∷ [];
  result = None;
  body = b;
})

abbrev number : TypeSyntax
number = num_syntax None

-- `f x` in the body of `f`
abbrev itself : ExprSyntax
itself = call_syntax 17 (codes "f") (more_exprs (name_syntax 19 (codes "x")) no_exprs)

-- at the place of an argument 9, as it would be printed
abbrev printed : ℕ → List ℕ
printed at = codes "1:9"

own_name : name_details printed (stop.Unknown 17) (function false (codes "f") number itself ∷ []) ≡ codes "f is known in its own body after let rec\n"
own_name = refl

-- another name is looked for among the variables, and then the functions before it
another_name : program_told (stop.Unknown 17) (function false (codes "g") number (word (codes "x") 40) ∷ function false (codes "h") number itself ∷ []) ≡ detail.Unknown (codes "f") false (codes "x" ∷ codes "g" ∷ []) ∷ []
another_name = refl

-- and the function itself if it is `rec`
rec_name : program_told (stop.Unknown 17) (function true (codes "h") number itself ∷ []) ≡ detail.Unknown (codes "f") false (codes "x" ∷ codes "h" ∷ []) ∷ []
rec_name = refl

-- a variable takes no arguments, also if a function has its name
arguments_of_a_variable : program_told (stop.WrongCount 30) (function false (codes "x") number (word (codes "x") 40) ∷ function false (codes "h") number (call_syntax 30 (codes "x") (more_exprs (word (codes "x") 32) no_exprs)) ∷ []) ≡ detail.Counts 0 1 ∷ []
arguments_of_a_variable = refl

arguments_of_a_function : program_told (stop.WrongCount 30) (function false (codes "g") number (word (codes "x") 40) ∷ function false (codes "h") number (word (codes "g") 30) ∷ []) ≡ detail.Counts 1 0 ∷ []
arguments_of_a_function = refl

-- a record with two units and two fields
abbrev pair : DeclSyntax
pair = record_decl_syntax 105 (codes "pair") (record { at = 110; name = codes "u" } ∷ record { at = 111; name = codes "v" } ∷ []) (record { at = 115; name = codes "one"; type = num_syntax (Some (unit_note_syntax 116 (variable_syntax 116 (codes "w")))) } ∷ record { at = 117; name = codes "two"; type = num_syntax (Some (hole_syntax 118)) } ∷ [])

units_of_a_record : program_told (stop.WrongCount 10) (pair ∷ function false (codes "h") (record_syntax 10 (codes "pair") (hole_syntax 15 ∷ [])) (word (codes "x") 40) ∷ []) ≡ detail.Counts 2 1 ∷ []
units_of_a_record = refl

fields_of_a_record_text : name_details printed (stop.WrongCount 30) (pair ∷ function false (codes "h") number (fields_syntax 30 (more_fields 31 (codes "two") (word (codes "x") 32) no_fields)) ∷ []) ≡ codes "expected: one two\nfound: two\n"
fields_of_a_record_text = refl

variable_of_a_field : program_told (stop.Unknown 116) (pair ∷ []) ≡ detail.Unknown (codes "w") true (codes "u" ∷ codes "v" ∷ []) ∷ []
variable_of_a_field = refl

hole_of_a_field : name_details printed (stop.Hole 118) (pair ∷ []) ≡ codes "a field's type has no hole\n"
hole_of_a_field = refl

-- the fault is at the number
hole_of_a_number : (c : Frac) → name_details printed (stop.Hole 30) (function false (codes "h") number (number_syntax 30 c (Some (hole_syntax 32))) ∷ []) ≡ codes "only 0 has every unit\n"
hole_of_a_number c = refl

-- no variable is known on a number, and neither is the abbreviation in its own unit text
variable_of_a_number : (c : Frac) → program_told (stop.Unknown 32) (function false (codes "h") (num_syntax (Some (unit_note_syntax 9 (variable_syntax 9 (codes "u"))))) (number_syntax 30 c (Some (unit_note_syntax 32 (variable_syntax 32 (codes "u"))))) ∷ []) ≡ detail.Unknown (codes "u") true [] ∷ []
variable_of_a_number c = refl

measure_of_an_abbreviation : program_told (stop.Unknown 30) (base_syntax 20 (codes "m") ∷ pair ∷ short_syntax 25 (codes "km") (times_syntax (measure_syntax 30 (codes "km")) (measure_syntax 33 (codes "m"))) ∷ []) ≡ detail.Unknown (codes "km") false (codes "m" ∷ []) ∷ []
measure_of_an_abbreviation = refl

-- measures and records share a space of names, and all records one of fields
twice_a_type : program_told (stop.Twice 25) (base_syntax 20 (codes "pair") ∷ record_decl_syntax 25 (codes "pair") [] [] ∷ []) ≡ detail.Twice (Some 20) ∷ []
twice_a_type = refl

twice_a_field : name_details printed (stop.Twice 225) (pair ∷ record_decl_syntax 205 (codes "other") [] (record { at = 225; name = codes "two"; type = number } ∷ []) ∷ []) ≡ codes "declared before at 1:9\n"
twice_a_field = refl

twice_a_variable : program_told (stop.Twice 35) (function false (codes "h") number (match_syntax 30 (word (codes "x") 31) (word (codes "x") 32) (record { at = 33; name = Some (codes "y") }) (record { at = 35; name = Some (codes "y") }) (word (codes "y") 36)) ∷ []) ≡ detail.Twice (Some 33) ∷ []
twice_a_variable = refl

-- a later variable is known after its own part
variables_of_a_scope : program_told (stop.Unknown 36) (function false (codes "h") number (let_syntax 30 (record { at = 31; name = Some (codes "y") }) (word (codes "x") 32) (let_syntax 33 (record { at = 34; name = None }) (word (codes "y") 35) (word (codes "z") 36))) ∷ []) ≡ detail.Unknown (codes "z") false (codes "x" ∷ codes "y" ∷ []) ∷ []
variables_of_a_scope = refl
