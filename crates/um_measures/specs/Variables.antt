-- The unit variables of a function: its unit parameters, and then the others by their first occurrence in the text of
-- its notes.
-- Source: the F# specification, chapter Units Of Measure, for explicit parameters; that each variable of a function's
-- notes is known, and its number, are this project's own.
use Rattle.std.specs.Prelude.{ℕ, cond, List, [], ◌∷◌, ◌++◌, Option, Some, None}
use Rattle.std.specs.List.{flat_map}
use Rattle.um_tree.specs.RawTree.{UnitSyntax, UnitSyntaxes, one_syntax, measure_syntax, variable_syntax, power_syntax}
use Rattle.um_tree.specs.RawTree.{side_syntax, times_syntax, over_syntax, inverse_syntax, bracket_syntax, no_units}
use Rattle.um_tree.specs.RawTree.{more_units, NoteSyntax, hole_syntax, unit_note_syntax, TypeSyntax, bool_syntax}
use Rattle.um_tree.specs.RawTree.{num_syntax, record_syntax, list_type_syntax, bracket_type_syntax, ExprSyntax}
use Rattle.um_tree.specs.RawTree.{ExprSyntaxes, FieldSyntaxes, truth_syntax, number_syntax, name_syntax, call_syntax}
use Rattle.um_tree.specs.RawTree.{negate_syntax, not_syntax, pown_syntax, arith_syntax, compare_syntax, and_syntax}
use Rattle.um_tree.specs.RawTree.{or_syntax, if_syntax, let_syntax, match_syntax, nil_syntax, list_syntax}
use Rattle.um_tree.specs.RawTree.{cons_syntax, fields_syntax, field_syntax, bracket_expr_syntax, no_exprs, more_exprs}
use Rattle.um_tree.specs.RawTree.{no_fields, more_fields, FunctionSyntax}
use Rattle.um_measures.specs.Known.{is_among}

-- the variables of a unit text as they stand
abbrev mutual
  pub unit_variables : UnitSyntax → List (List ℕ)
  unit_variables (one_syntax at) = []
  unit_variables (measure_syntax at x) = []
  unit_variables (variable_syntax at x) = x ∷ []
  unit_variables (power_syntax u k) = unit_variables u
  unit_variables (side_syntax us) = all_unit_variables us
  unit_variables (times_syntax u v) = unit_variables u ++ unit_variables v
  unit_variables (over_syntax u v) = unit_variables u ++ unit_variables v
  unit_variables (inverse_syntax at u) = unit_variables u
  unit_variables (bracket_syntax at u) = unit_variables u

  pub all_unit_variables : UnitSyntaxes → List (List ℕ)
  all_unit_variables no_units = []
  all_unit_variables (more_units u us) = unit_variables u ++ all_unit_variables us

abbrev pub note_variables : NoteSyntax → List (List ℕ)
note_variables (hole_syntax at) = []
note_variables (unit_note_syntax at u) = unit_variables u

abbrev pub number_variables : Option NoteSyntax → List (List ℕ)
number_variables None = []
number_variables (Some n) = note_variables n

-- of a type text
abbrev pub type_variables : TypeSyntax → List (List ℕ)
type_variables bool_syntax = []
type_variables (num_syntax n) = number_variables n
type_variables (record_syntax at x ns) = flat_map note_variables ns
type_variables (list_type_syntax t) = type_variables t
type_variables (bracket_type_syntax t) = type_variables t

-- of the notes of the empty lists in an expression; a number's unit is no note of the function
abbrev mutual
  pub expr_variables : ExprSyntax → List (List ℕ)
  expr_variables (truth_syntax at b) = []
  expr_variables (number_syntax at c n) = []
  expr_variables (name_syntax at x) = []
  expr_variables (call_syntax at x es) = exprs_variables es
  expr_variables (negate_syntax at a) = expr_variables a
  expr_variables (not_syntax at a) = expr_variables a
  expr_variables (pown_syntax at a k) = expr_variables a
  expr_variables (arith_syntax at op a b) = expr_variables a ++ expr_variables b
  expr_variables (compare_syntax at s a b) = expr_variables a ++ expr_variables b
  expr_variables (and_syntax at a b) = expr_variables a ++ expr_variables b
  expr_variables (or_syntax at a b) = expr_variables a ++ expr_variables b
  expr_variables (if_syntax at c a b) = expr_variables c ++ expr_variables a ++ expr_variables b
  expr_variables (let_syntax at x a b) = expr_variables a ++ expr_variables b
  expr_variables (match_syntax at l a x y b) = expr_variables l ++ expr_variables a ++ expr_variables b
  expr_variables (nil_syntax at t) = type_variables t
  expr_variables (list_syntax at es) = exprs_variables es
  expr_variables (cons_syntax at a b) = expr_variables a ++ expr_variables b
  expr_variables (fields_syntax at fs) = fields_variables fs
  expr_variables (field_syntax at place x a) = expr_variables a
  expr_variables (bracket_expr_syntax at a) = expr_variables a

  pub exprs_variables : ExprSyntaxes → List (List ℕ)
  exprs_variables no_exprs = []
  exprs_variables (more_exprs e es) = expr_variables e ++ exprs_variables es

  pub fields_variables : FieldSyntaxes → List (List ℕ)
  fields_variables no_fields = []
  fields_variables (more_fields at x e fs) = expr_variables e ++ fields_variables fs

abbrev pub result_variables : Option TypeSyntax → List (List ℕ)
result_variables None = []
result_variables (Some t) = type_variables t

-- of a function's head: its parameters, its result
abbrev pub occurring_in_head : FunctionSyntax → List (List ℕ)
occurring_in_head f = flat_map (λ p. type_variables p.type) f.params ++ result_variables f.result

-- of a function's notes: its head, its body
abbrev pub occurring : FunctionSyntax → List (List ℕ)
occurring f = occurring_in_head f ++ expr_variables f.body

-- each name once, after those that are there, at its first occurrence
abbrev pub first_occurrences : List (List ℕ) → List (List ℕ) → List (List ℕ)
first_occurrences before [] = before
first_occurrences before (x ∷ xs) =
    cond (is_among before x) (first_occurrences before xs) (first_occurrences (before ++ x ∷ []) xs)

-- the named variables of a function with these unit parameters, in the order of their numbers
abbrev pub named_variables : List (List ℕ) → FunctionSyntax → List (List ℕ)
named_variables unit_params f = first_occurrences unit_params (occurring f)

-- those of its head, with these unit parameters
abbrev pub head_variables : List (List ℕ) → FunctionSyntax → List (List ℕ)
head_variables unit_params f = first_occurrences unit_params (occurring_in_head f)
