-- The height of a program and its limits don't depend on places.
use Rattle.std.proofs.Common.{◌≡◌, ℕ, ◌+◌, max, cond, List, [], ◌∷◌, map, Option, Some, None, refl, sym, ap, subst, ◌∙◌}
use Rattle.std.specs.Prelude.{nat_lt}
use Rattle.std.proofs.lemmas.List.{length-map}
use Rattle.um_tree.specs.RawTree.{UnitSyntax, UnitSyntaxes, one_syntax, measure_syntax, variable_syntax, power_syntax, side_syntax, times_syntax, over_syntax, inverse_syntax, bracket_syntax, no_units, more_units, NoteSyntax, hole_syntax, unit_note_syntax, TypeSyntax, bool_syntax, num_syntax, record_syntax, list_type_syntax, bracket_type_syntax}
use Rattle.um_tree.specs.RawTree.{ExprSyntax, ExprSyntaxes, FieldSyntaxes, truth_syntax, number_syntax, name_syntax, call_syntax, negate_syntax, not_syntax, pown_syntax, arith_syntax, compare_syntax, and_syntax, or_syntax, if_syntax, let_syntax, match_syntax, nil_syntax, list_syntax, cons_syntax, fields_syntax, field_syntax, bracket_expr_syntax, no_exprs, more_exprs, no_fields, more_fields}
use Rattle.um_tree.specs.RawTree.{FieldDeclSyntax, ParamSyntax, DeclSyntax, base_syntax, short_syntax, record_decl_syntax, function_syntax}
use Rattle.um_tree.specs.Heights.{unit_height, tallest_unit, type_height}
use Rattle.um_types.specs.declared.parse.LimitKind.TheVariants as limit
use Rattle.um_types.specs.TypeHeights.{note_height, notes_height, units_height, whole_height}
use Rattle.um_operands.specs.ExprHeights.{written_height}
use Rattle.um_decls.specs.DeclHeights.{fields_height, params_height, result_height}
use Rattle.um_parse.specs.ProgramHeights.{decl_height, program_height}
use Rattle.um_parse.specs.ProgramLimits.{most_functions, most_parameters, most_fields, most_unit_parameters, most_nodes, functions_in, passed_limit, WithinLimits}
use Rattle.um_show.specs.Unplaced.{bare_unit, bare_units, bare_note, bare_written, bare_type, bare_expr, bare_exprs, bare_fields, bare_var, bare_field_decl, bare_param, bare_result, bare_decl, bare_program}
use Rattle.um_rescaled.proofs.ExprSizes.{size, list_size, fields_size, beside, one_more, over_two, over_three}

-- ---- units, notes and types

mutual
  unit_height_bare : (u : UnitSyntax) → unit_height (bare_unit u) ≡ unit_height u
  unit_height_bare (one_syntax at) = refl
  unit_height_bare (measure_syntax at x) = refl
  unit_height_bare (variable_syntax at x) = refl
  unit_height_bare (power_syntax u k) = ap (λ n. n + 1) (unit_height_bare u)
  unit_height_bare (side_syntax us) = ap (λ n. n + 1) (tallest_bare us)
  unit_height_bare (times_syntax u v) = λ i. max (unit_height_bare u i) (unit_height_bare v i) + 1
  unit_height_bare (over_syntax u v) = λ i. max (unit_height_bare u i) (unit_height_bare v i) + 1
  unit_height_bare (inverse_syntax at u) = ap (λ n. n + 1) (unit_height_bare u)
  unit_height_bare (bracket_syntax at u) = ap (λ n. n + 1) (unit_height_bare u)

  tallest_bare : (us : UnitSyntaxes) → tallest_unit (bare_units us) ≡ tallest_unit us
  tallest_bare no_units = refl
  tallest_bare (more_units u us) = λ i. max (unit_height_bare u i) (tallest_bare us i)

note_height_bare : (n : NoteSyntax) → note_height (bare_note n) ≡ note_height n
note_height_bare (hole_syntax at) = refl
note_height_bare (unit_note_syntax at u) = unit_height_bare u

notes_height_bare : (ns : List NoteSyntax) → notes_height (map bare_note ns) ≡ notes_height ns
notes_height_bare [] = refl
notes_height_bare (n ∷ ns) = λ i. max (note_height_bare n i) (notes_height_bare ns i)

type_height_bare : (t : TypeSyntax) → type_height (bare_type t) ≡ type_height t
type_height_bare bool_syntax = refl
type_height_bare (num_syntax n) = refl
type_height_bare (record_syntax at x ns) = refl
type_height_bare (list_type_syntax t) = ap (λ n. n + 1) (type_height_bare t)
type_height_bare (bracket_type_syntax t) = ap (λ n. n + 1) (type_height_bare t)

units_height_bare : (t : TypeSyntax) → units_height (bare_type t) ≡ units_height t
units_height_bare bool_syntax = refl
units_height_bare (num_syntax None) = refl
units_height_bare (num_syntax (Some n)) = note_height_bare n
units_height_bare (record_syntax at x ns) = notes_height_bare ns
units_height_bare (list_type_syntax t) = units_height_bare t
units_height_bare (bracket_type_syntax t) = units_height_bare t

whole_height_bare : (t : TypeSyntax) → whole_height (bare_type t) ≡ whole_height t
whole_height_bare t = λ i. max (type_height_bare t i) (units_height_bare t i)

written_height_bare : (n : Option NoteSyntax) → written_height (bare_written n) ≡ written_height n
written_height_bare None = refl
written_height_bare (Some n) = note_height_bare n

-- ---- expressions

mutual
  size_bare : (e : ExprSyntax) → size (bare_expr e) ≡ size e
  size_bare (truth_syntax at b) = refl
  size_bare (number_syntax at c n) = ap (λ h. record { height = 1; notes = h; nodes = 1 }) (written_height_bare n)
  size_bare (name_syntax at x) = refl
  size_bare (call_syntax at f es) = ap one_more (list_size_bare es)
  size_bare (negate_syntax at a) = ap one_more (size_bare a)
  size_bare (not_syntax at a) = ap one_more (size_bare a)
  size_bare (pown_syntax at a k) = ap one_more (size_bare a)
  size_bare (arith_syntax at op a b) = λ i. over_two (size_bare a i) (size_bare b i)
  size_bare (compare_syntax at s a b) = λ i. over_two (size_bare a i) (size_bare b i)
  size_bare (and_syntax at a b) = λ i. over_two (size_bare a i) (size_bare b i)
  size_bare (or_syntax at a b) = λ i. over_two (size_bare a i) (size_bare b i)
  size_bare (if_syntax at c a b) = λ i. over_three (size_bare c i) (size_bare a i) (size_bare b i)
  size_bare (let_syntax at x a b) = λ i. over_two (size_bare a i) (size_bare b i)
  size_bare (match_syntax at l a x y b) = λ i. over_three (size_bare l i) (size_bare a i) (size_bare b i)
  size_bare (nil_syntax at t) = ap (λ h. record { height = 3; notes = h; nodes = 1 }) (whole_height_bare t)
  size_bare (list_syntax at es) = ap one_more (list_size_bare es)
  size_bare (cons_syntax at a b) = λ i. over_two (size_bare a i) (size_bare b i)
  size_bare (fields_syntax at fs) = ap one_more (fields_size_bare fs)
  size_bare (field_syntax at place x a) = ap one_more (size_bare a)
  size_bare (bracket_expr_syntax at a) = ap one_more (size_bare a)

  list_size_bare : (es : ExprSyntaxes) → list_size (bare_exprs es) ≡ list_size es
  list_size_bare no_exprs = refl
  list_size_bare (more_exprs e es) = λ i. beside (size_bare e i) (list_size_bare es i)

  fields_size_bare : (fs : FieldSyntaxes) → fields_size (bare_fields fs) ≡ fields_size fs
  fields_size_bare no_fields = refl
  fields_size_bare (more_fields at x e fs) = λ i. beside (size_bare e i) (fields_size_bare fs i)

-- ---- declarations

fields_height_bare : (fs : List FieldDeclSyntax) → fields_height (map bare_field_decl fs) ≡ fields_height fs
fields_height_bare [] = refl
fields_height_bare (f ∷ fs) = λ i. max (whole_height_bare f.type i) (fields_height_bare fs i)

params_height_bare : (ps : List ParamSyntax) → params_height (map bare_param ps) ≡ params_height ps
params_height_bare [] = refl
params_height_bare (p ∷ ps) = λ i. max (whole_height_bare p.type i) (params_height_bare ps i)

result_height_bare : (t : Option TypeSyntax) → result_height (bare_result t) ≡ result_height t
result_height_bare None = refl
result_height_bare (Some t) = whole_height_bare t

decl_height_bare : (d : DeclSyntax) → decl_height (bare_decl d) ≡ decl_height d
decl_height_bare (base_syntax at x) = refl
decl_height_bare (short_syntax at x u) = unit_height_bare u
decl_height_bare (record_decl_syntax at x vs fs) = fields_height_bare fs
decl_height_bare (function_syntax f) =
    λ i. max (params_height_bare f.params i) (max (result_height_bare f.result i) (max (size_bare f.body i).height (size_bare f.body i).notes))

height_bare : (ds : List DeclSyntax) → program_height (bare_program ds) ≡ program_height ds
height_bare [] = refl
height_bare (d ∷ ds) = λ i. max (decl_height_bare d i) (height_bare ds i)

limit_bare : (before : ℕ) (d : DeclSyntax) → passed_limit before (bare_decl d) ≡ passed_limit before d
limit_bare before (base_syntax at x) = refl
limit_bare before (short_syntax at x u) = refl
limit_bare before (record_decl_syntax at x vs fs) =
    λ i. cond (nat_lt most_fields (length-map fs bare_field_decl i)) (Some limit.Fields) (cond (nat_lt most_unit_parameters (length-map vs bare_var i)) (Some limit.UnitParameters) None)
limit_bare before (function_syntax f) =
    λ i. cond (nat_lt most_functions (before + 1)) (Some limit.Functions)
    (cond (nat_lt most_parameters (length-map f.params bare_param i)) (Some limit.Parameters)
    (cond (nat_lt most_unit_parameters (length-map f.units bare_var i)) (Some limit.UnitParameters) (cond (nat_lt most_nodes (size_bare f.body i).nodes) (Some limit.Nodes) None)))

count_bare : (d : DeclSyntax) → functions_in (bare_decl d) ≡ functions_in d
count_bare (base_syntax at x) = refl
count_bare (short_syntax at x u) = refl
count_bare (record_decl_syntax at x vs fs) = refl
count_bare (function_syntax f) = refl

within_bare : (before : ℕ) (ds : List DeclSyntax) → WithinLimits before ds → WithinLimits before (bare_program ds)
within_bare before [] w = tt
within_bare before (d ∷ ds) w =
    (limit_bare before d ∙ w.0, subst (λ n. WithinLimits (before + n) (bare_program ds)) (sym (count_bare d)) (within_bare (before + functions_in d) ds w.1))

within_placed : (before : ℕ) (ds : List DeclSyntax) → WithinLimits before (bare_program ds) → WithinLimits before ds
within_placed before [] w = tt
within_placed before (d ∷ ds) w =
    (sym (limit_bare before d) ∙ w.0, within_placed (before + functions_in d) ds (subst (λ n. WithinLimits (before + n) (bare_program ds)) (count_bare d) w.1))

-- of programs that are the same but for places
pub same_height : (ds es : List DeclSyntax) → bare_program es ≡ bare_program ds → program_height es ≡ program_height ds
same_height ds es e = sym (height_bare es) ∙ ap program_height e ∙ height_bare ds

pub same_limits : (ds es : List DeclSyntax) → bare_program es ≡ bare_program ds → WithinLimits 0 ds → WithinLimits 0 es
same_limits ds es e w = within_placed 0 es (subst (λ xs. WithinLimits 0 xs) (sym e) (within_bare 0 ds w))
