-- Small program texts, on which the resolution is tried.
use Rattle.std.proofs.Common.{◌≡◌, refl, ℕ, ◌≤◌, ◌+◌, true, false, List, [], ◌∷◌, ◌++◌, pos, negsuc, codes, map, Option, Some, None, Ok, Err, arith}
use Rattle.std.proofs.lemmas.Int.{ints}
use Rattle.um_frac.specs.declared.number.Frac.{Frac}
use Rattle.um_frac.proofs.Gcd.{gcd-one}
use Rattle.um_units.specs.declared.Atom.TheVariants.{Base, Var}
use Rattle.um_units.specs.PowerMap.{PowerMap, product, one, atom, mul, inv, pow}
use Rattle.um_tree.specs.declared.note.UnitNote.TheVariants.{Written}
use Rattle.um_tree.specs.TypeTree.{num_note}
use Rattle.um_tree.specs.ExprTree.{ExprTree, truth, local}
use Rattle.um_tree.specs.RawTree.{UnitSyntax, measure_syntax, variable_syntax, power_syntax, side_syntax, over_syntax, no_units, more_units, TypeSyntax, num_syntax, bool_syntax, record_syntax, hole_syntax, unit_note_syntax, ExprSyntax, truth_syntax, number_syntax, name_syntax, call_syntax, match_syntax, fields_syntax, field_syntax, no_exprs, more_exprs, no_fields, more_fields, VarSyntax, ParamSyntax, DeclSyntax, base_syntax, short_syntax, record_decl_syntax, function_syntax}
use Rattle.um_tree.specs.ProgramTree.{FunctionTree}
use Rattle.um_measures.specs.Faults.{Fault, unknown, twice, wrong_count, hole, range, Found}
use Rattle.um_measures.specs.Known.{Known}
use Rattle.um_names.specs.Resolution.{resolution}

-- the fault, if there is one
abbrev fault_of : Found Known → Option Fault
fault_of (Ok known) = None
fault_of (Err f) = Some f

abbrev functions_of : Found Known → List FunctionTree
functions_of (Ok known) = known.program.functions
functions_of (Err f) = []

abbrev whole : (n : ℕ) → n ≤ 1000000 → Frac
whole n low = record { num = pos n; den = pos 1; positive = omega (arith, ints); den_fits = omega (arith, ints); above = omega (arith, ints); num_fits = omega (arith, ints, low); lowest = gcd-one n }

-- a function of this name at a place with these unit parameters, without recursion and without a result type
abbrev general : ℕ → List ℕ → List VarSyntax → List ParamSyntax → ExprSyntax → DeclSyntax
general at x us ps e = function_syntax (record { at = at; name = x; recursive = false; units = us; params = ps; result = None; body = e })

abbrev plain : ℕ → List ℕ → List ParamSyntax → ExprSyntax → DeclSyntax
plain at x ps e = general at x [] ps e

abbrev param : ℕ → List ℕ → TypeSyntax → ParamSyntax
param at x t = record { binder = record { at = at; name = Some x }; type = t }

abbrev pair : UnitSyntax → UnitSyntax → UnitSyntax
pair u v = side_syntax (more_units u (more_units v no_units))

-- [<Measure>] type m, s, kg and N = kg m / s^2
abbrev prelude : List DeclSyntax
prelude =
    base_syntax 17 (codes "m") ∷ base_syntax 36 (codes "s") ∷ base_syntax 55 (codes "kg")
    ∷ short_syntax 75 (codes "N") (over_syntax (pair (measure_syntax 79 (codes "kg")) (measure_syntax 82 (codes "m"))) (power_syntax (measure_syntax 86 (codes "s")) (pos 2)))
    ∷ []

-- let push (f: num<N>) = f: the abbreviation is replaced
abbrev pushes : List DeclSyntax
pushes = prelude ++ plain 94 (codes "push") (param 100 (codes "f") (num_syntax (Some (unit_note_syntax 107 (measure_syntax 107 (codes "N"))))) ∷ []) (name_syntax 113 (codes "f")) ∷ []

abbrev newton : PowerMap
newton = mul (mul (mul one (atom (Base 2))) (atom (Base 0))) (inv (pow (atom (Base 1)) (pos 2)))

pushes_resolved : functions_of (resolution pushes) ≡ record { name = codes "push"; at = 94; recursive = false; units = 0; params = num_note (Written newton) ∷ []; named = 0; result = None; body = local 113 0 } ∷ []
unfolding product
pushes_resolved = refl

-- [<Measure>] type m twice: at the later name
measure_twice : resolution (base_syntax 17 (codes "m") ∷ base_syntax 36 (codes "m") ∷ []) ≡ Err (twice 36)
measure_twice = refl

-- [<Measure>] type B = m^2147483647 m: at the first token of the unit text
power_past_range : resolution (prelude ++ short_syntax 108 (codes "B") (pair (power_syntax (measure_syntax 112 (codes "m")) (pos 2147483647)) (measure_syntax 125 (codes "m"))) ∷ []) ≡ Err (range 112)
unfolding product
power_past_range = refl

abbrev dimensionless : TypeSyntax
dimensionless = num_syntax None

-- m^2147483647 m m^-1: a prefix of the product is past the range
front_past_range : resolution (prelude ++ short_syntax 108 (codes "B") (side_syntax (more_units (power_syntax (measure_syntax 112 (codes "m")) (pos 2147483647)) (more_units (measure_syntax 125 (codes "m")) (more_units (power_syntax (measure_syntax 127 (codes "m")) (negsuc 0)) no_units)))) ∷ []) ≡ Err (range 112)
unfolding product
front_past_range = refl

-- let f (x: num) = x and let g (x: num) = f x x
abbrev two_arguments : ExprSyntax
two_arguments = call_syntax 37 (codes "f") (more_exprs (name_syntax 39 (codes "x")) (more_exprs (name_syntax 41 (codes "x")) no_exprs))

arguments_counted : resolution (plain 4 (codes "f") (param 7 (codes "x") dimensionless ∷ []) (name_syntax 17 (codes "x")) ∷ plain 23 (codes "g") (param 26 (codes "x") dimensionless ∷ []) two_arguments ∷ []) ≡ Err (wrong_count 37)
arguments_counted = refl

-- let k = 5<_> and let k = x
hole_on_five : resolution (plain 4 (codes "k") [] (number_syntax 8 (whole 5 (omega arith)) (Some (hole_syntax 10))) ∷ []) ≡ Err (hole 8)
hole_on_five = refl

unknown_name : resolution (plain 4 (codes "k") [] (name_syntax 8 (codes "x")) ∷ []) ≡ Err (unknown 8)
unknown_name = refl

-- let k = k: a function that isn't `rec` doesn't know itself
own_name : resolution (plain 4 (codes "k") [] (name_syntax 8 (codes "k")) ∷ []) ≡ Err (unknown 8)
own_name = refl

-- a local variable hides a function; a later declaration isn't known before
abbrev bodies : List FunctionTree → List ExprTree
bodies fs = map (λ f. f.body) fs

local_hides : bodies (functions_of (resolution (plain 4 (codes "k") [] (truth_syntax 8 true) ∷ plain 17 (codes "g") (param 20 (codes "k") bool_syntax ∷ []) (name_syntax 30 (codes "k")) ∷ []))) ≡ truth 8 true ∷ local 30 0 ∷ []
local_hides = refl

later_unknown : resolution (plain 4 (codes "g") [] (name_syntax 8 (codes "k")) ∷ plain 14 (codes "k") [] (truth_syntax 18 true) ∷ []) ≡ Err (unknown 8)
later_unknown = refl

-- let f (x: num) (x: q) = x: the repeated parameter before its own type
repeated_parameter : resolution (plain 4 (codes "f") (param 7 (codes "x") dimensionless ∷ param 17 (codes "x") (record_syntax 20 (codes "q") []) ∷ []) (name_syntax 25 (codes "x")) ∷ []) ≡ Err (twice 17)
repeated_parameter = refl

-- let f (x: num) (x: q): after the types before
unknown_before_repeated : resolution (plain 4 (codes "f") (param 7 (codes "x") (record_syntax 10 (codes "q") []) ∷ param 17 (codes "x") dimensionless ∷ []) (name_syntax 25 (codes "x")) ∷ []) ≡ Err (unknown 10)
unknown_before_repeated = refl

-- type V<[<Measure>] 'u> = { a: num<'u>; b: num<_> }: a hole in a field's type
abbrev fields_with : TypeSyntax → List DeclSyntax
fields_with t = record_decl_syntax 5 (codes "V") (record { at = 19; name = codes "u" } ∷ []) (record { at = 27; name = codes "a"; type = num_syntax (Some (unit_note_syntax 34 (variable_syntax 34 (codes "u")))) } ∷ record { at = 39; name = codes "b"; type = t } ∷ []) ∷ []

hole_in_field : resolution (fields_with (num_syntax (Some (hole_syntax 46)))) ≡ Err (hole 46)
hole_in_field = refl

-- a record isn't known in its own fields, and a record's name is no measure
own_field : resolution (fields_with (record_syntax 42 (codes "V") (unit_note_syntax 44 (variable_syntax 44 (codes "u")) ∷ []))) ≡ Err (unknown 42)
own_field = refl

record_is_no_measure : resolution (fields_with dimensionless ++ plain 60 (codes "k") [] (number_syntax 64 (whole 1 (omega arith)) (Some (unit_note_syntax 66 (measure_syntax 66 (codes "V"))))) ∷ []) ≡ Err (unknown 66)
record_is_no_measure = refl

-- { b = x; a = true }: the fields in another order, before the parts; { c = x }: no record has c
abbrev field_order : List ℕ → ExprSyntax
field_order first = fields_syntax 64 (more_fields 66 first (name_syntax 70 (codes "x")) (more_fields 73 (codes "a") (truth_syntax 77 true) no_fields))

other_order : resolution (fields_with dimensionless ++ plain 60 (codes "k") [] (field_order (codes "b")) ∷ []) ≡ Err (wrong_count 64)
other_order = refl

unknown_field : resolution (fields_with dimensionless ++ plain 60 (codes "k") [] (field_order (codes "c")) ∷ []) ≡ Err (unknown 66)
unknown_field = refl

-- x.c: the part before the field's name
part_first : resolution (fields_with dimensionless ++ plain 60 (codes "k") [] (field_syntax 65 66 (codes "c") (name_syntax 64 (codes "x"))) ∷ []) ≡ Err (unknown 64)
part_first = refl

-- f x of a parameter f: a variable takes no arguments, before the arguments are looked at
variable_called : resolution (plain 4 (codes "k") (param 7 (codes "f") dimensionless ∷ []) (call_syntax 20 (codes "f") (more_exprs (name_syntax 22 (codes "z")) no_exprs)) ∷ []) ≡ Err (wrong_count 20)
variable_called = refl

-- names come before the range in one unit text: m^2147483647 m q
names_before_range : resolution (prelude ++ short_syntax 108 (codes "B") (side_syntax (more_units (power_syntax (measure_syntax 112 (codes "m")) (pos 2147483647)) (more_units (measure_syntax 125 (codes "m")) (more_units (measure_syntax 127 (codes "q")) no_units)))) ∷ []) ≡ Err (unknown 127)
unfolding product
names_before_range = refl

-- x :: x is looked at behind the empty arm and before the full one
abbrev matched : ExprSyntax → ExprSyntax
matched empty = match_syntax 8 (truth_syntax 14 true) empty (record { at = 32; name = Some (codes "x") }) (record { at = 37; name = Some (codes "x") }) (name_syntax 42 (codes "z"))

bound_once : resolution (plain 4 (codes "k") [] (matched (truth_syntax 27 true)) ∷ []) ≡ Err (twice 37)
bound_once = refl

empty_arm_first : resolution (plain 4 (codes "k") [] (matched (name_syntax 27 (codes "q"))) ∷ []) ≡ Err (unknown 27)
empty_arm_first = refl

-- let f<[<Measure>] 'u, [<Measure>] 'v> (x: num<'w>) (y: num<'v>) = x: the unit parameters have the first numbers, also
-- one that no note names
abbrev parameter : ℕ → List ℕ → VarSyntax
parameter at x = record { at = at; name = x }

abbrev number_of_unit : ℕ → List ℕ → TypeSyntax
number_of_unit at x = num_syntax (Some (unit_note_syntax at (variable_syntax at x)))

abbrev numbered : List DeclSyntax
numbered =
    general 4 (codes "f") (parameter 18 (codes "u") ∷ parameter 34 (codes "v") ∷ []) (param 39 (codes "x") (number_of_unit 46 (codes "w")) ∷ param 52 (codes "y") (number_of_unit 59 (codes "v")) ∷ []) (name_syntax 66 (codes "x"))
    ∷ []

parameters_first : functions_of (resolution numbered) ≡ record { name = codes "f"; at = 4; recursive = false; units = 2; params = num_note (Written (atom (Var 2))) ∷ num_note (Written (atom (Var 1))) ∷ []; named = 3; result = None; body = local 66 0 } ∷ []
parameters_first = refl

-- let f<[<Measure>] 'u, [<Measure>] 'u> (x: q) = x: at the later one, before the parameters and behind the name
abbrev repeated : ℕ → DeclSyntax
repeated start = general (start + 4) (codes "f") (parameter (start + 18) (codes "u") ∷ parameter (start + 34) (codes "u") ∷ []) (param (start + 39) (codes "x") (record_syntax (start + 42) (codes "q") []) ∷ []) (name_syntax (start + 47) (codes "x"))

repeated_unit_parameter : resolution (repeated 0 ∷ []) ≡ Err (twice 34)
repeated_unit_parameter = refl

name_before_unit_parameters : resolution (plain 4 (codes "f") [] (truth_syntax 8 true) ∷ repeated 13 ∷ []) ≡ Err (twice 17)
name_before_unit_parameters = refl
