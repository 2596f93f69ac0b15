-- The expression of an expression text, or its first fault.
-- Source: static scope as in ML; the order of the checks is this project's own.
-- A variable is found from the end of the scope, so that a later one hides an earlier one and a function.
use Rattle.std.specs.Prelude.{ℕ, suc, Bool, true, false, cond, slice_get, map, ◌==◌, ◌&&◌, List, [], ◌∷◌, ◌++◌}
use Rattle.std.specs.Prelude.{Option, Some, None, Ok, Err}
use Rattle.std.specs.Str.{bytes_eq}
use Rattle.um_frac.specs.declared.number.Frac.{Frac}
use Rattle.um_units.specs.PowerMap.{one}
use Rattle.um_tree.specs.declared.note.UnitNote.TheVariants as note
use Rattle.um_tree.specs.ExprTree.{ExprTree, ExprTrees, truth, number, local, call, negate, not_expr, pown, arith}
use Rattle.um_tree.specs.ExprTree.{compare, both, either, if, bind, split, nil, list_expr, cons, record_expr, field}
use Rattle.um_tree.specs.ExprTree.{none, more}
use Rattle.um_tree.specs.ProgramTree.{RecordTree}
use Rattle.um_tree.specs.RawTree.{NoteSyntax, hole_syntax, unit_note_syntax, TypeSyntax, ExprSyntax, ExprSyntaxes}
use Rattle.um_tree.specs.RawTree.{FieldSyntaxes}
use Rattle.um_tree.specs.RawTree.{truth_syntax, number_syntax, name_syntax, call_syntax, negate_syntax, not_syntax}
use Rattle.um_tree.specs.RawTree.{pown_syntax, arith_syntax, compare_syntax, and_syntax, or_syntax, if_syntax}
use Rattle.um_tree.specs.RawTree.{let_syntax, match_syntax, nil_syntax, list_syntax, cons_syntax, fields_syntax}
use Rattle.um_tree.specs.RawTree.{field_syntax, bracket_expr_syntax, no_exprs, more_exprs, no_fields, more_fields}
use Rattle.um_measures.specs.Faults.{unknown, wrong_count, Found, and_then, unless_taken}
use Rattle.um_measures.specs.Scopes.{Scope, local_of, same_binding}
use Rattle.um_measures.specs.Known.{Known, number_of, names_of_fields, measure_unit}
use Rattle.um_measures.specs.UnitNames.{resolved_unit}
use Rattle.um_measures.specs.Wildcards.{open_unit}
use Rattle.um_names.specs.TypeNames.{resolved_type}
use Rattle.um_names.specs.declared.callable.Callable.{Callable}
use Rattle.um_names.specs.declared.callable.FieldNumber.{FieldNumber}

abbrev pub with_arguments : Option Callable → ℕ → ℕ → ℕ → Found ℕ
with_arguments None j n at = Err (unknown at)
with_arguments (Some f) j n at = cond (n == f.params) (Ok j) (Err (wrong_count at))

abbrev pub numbered_function : List Callable → Option ℕ → ℕ → ℕ → Found ℕ
numbered_function fs None n at = Err (unknown at)
numbered_function fs (Some j) n at = with_arguments (slice_get fs j) j n at

-- the number of the function of this name, with as many parameters as there are arguments
abbrev pub callable_of : List Callable → List ℕ → ℕ → ℕ → Found ℕ
callable_of fs x n at = numbered_function fs (number_of (map (λ f. f.name) fs) x) n at

-- a name without arguments is a variable, or a function without parameters
abbrev pub named : List Callable → Option ℕ → List ℕ → ℕ → Found ExprTree
named callables (Some k) x at = Ok (local at k)
named callables None x at = and_then (callable_of callables x 0 at) (λ j. Ok (call at j none))

-- a variable takes no arguments
abbrev pub called : List Callable → Option ℕ → List ℕ → ℕ → ℕ → Found ℕ
called callables (Some k) x n at = Err (wrong_count at)
called callables None x n at = callable_of callables x n at

-- the same names in the same order
abbrev pub same_names : List (List ℕ) → List (List ℕ) → Bool
same_names [] [] = true
same_names [] (y ∷ ys) = false
same_names (x ∷ xs) [] = false
same_names (x ∷ xs) (y ∷ ys) = bytes_eq x y && same_names xs ys

abbrev pub later_record : Option FieldNumber → Option FieldNumber
later_record None = None
later_record (Some f) = Some (record { record_number = suc f.record_number; field_number = f.field_number })

abbrev pub field_or : Option ℕ → Option FieldNumber → Option FieldNumber
field_or (Some k) other = Some (record { record_number = 0; field_number = k })
field_or None other = later_record other

-- the field of this name
abbrev pub field_of : List RecordTree → List ℕ → Option FieldNumber
field_of [] x = None
field_of (d ∷ ds) x = field_or (number_of (names_of_fields d) x) (field_of ds x)

abbrev pub if_same_names : Option RecordTree → ℕ → List (List ℕ) → Option ℕ
if_same_names None r names = None
if_same_names (Some d) r names = cond (same_names (names_of_fields d) names) (Some r) None

-- the number of the record, where these are all its fields, in order
abbrev pub with_all_fields : List RecordTree → Option FieldNumber → List (List ℕ) → Option ℕ
with_all_fields records None names = None
with_all_fields records (Some f) names = if_same_names (slice_get records f.record_number) f.record_number names

-- the number of the record of which these are, in order, all the fields; a field is one of one record alone
abbrev pub record_of : List RecordTree → List (List ℕ) → Option ℕ
record_of records [] = None
record_of records (x ∷ xs) = with_all_fields records (field_of records x) (x ∷ xs)

abbrev pub length_of : ExprSyntaxes → ℕ
length_of no_exprs = 0
length_of (more_exprs e es) = suc (length_of es)

-- the names of the fields of a record text
abbrev pub field_text_names : FieldSyntaxes → List (List ℕ)
field_text_names no_fields = []
field_text_names (more_fields at x e fs) = x ∷ field_text_names fs

abbrev pub known_or : Option FieldNumber → ℕ → Found (Unit {0}) → Found (Unit {0})
known_or None at rest = Err (unknown at)
known_or (Some f) at rest = rest

-- each of these fields is one of some record
abbrev pub known_fields : List RecordTree → FieldSyntaxes → Found (Unit {0})
known_fields records no_fields = Ok tt
known_fields records (more_fields at x e fs) = known_or (field_of records x) at (known_fields records fs)

abbrev pub found_record : Option ℕ → ℕ → Found ℕ
found_record None at = Err (wrong_count at)
found_record (Some r) at = Ok r

-- the record of a record text: its fields are known, and are all the fields of one record in order
abbrev pub resolved_fields : List RecordTree → FieldSyntaxes → ℕ → Found ℕ
resolved_fields records fs at =
    and_then (known_fields records fs) (λ _. found_record (record_of records (field_text_names fs)) at)

abbrev pub found_field : Option FieldNumber → ℕ → Found FieldNumber
found_field None place = Err (unknown place)
found_field (Some f) place = Ok f

-- the wildcard stands on 0 alone; a written unit is closed
abbrev pub resolved_literal : Known → ℕ → Frac → Option NoteSyntax → Found ExprTree
resolved_literal known at c None = Ok (number at c (note.Written one))
resolved_literal known at c (Some (hole_syntax place)) =
    and_then (open_unit c at) (λ unit. Ok (number at c unit))
resolved_literal known at c (Some (unit_note_syntax place u)) =
    and_then (resolved_unit (measure_unit known) [] u) (λ v. Ok (number at c (note.Written v)))

-- the empty list of a written type
abbrev pub resolved_nil : Known → List (List ℕ) → ℕ → TypeSyntax → Found ExprTree
resolved_nil known variables at t = and_then (resolved_type known variables true t) (λ n. Ok (nil at n))

-- what is known before the function, the function's unit variables, and what may be called in its body
module _ (known : Known) (variables : List (List ℕ)) (callables : List Callable) where
  abbrev mutual
    -- the expression, in a scope
    pub resolved_expr : Scope → ExprSyntax → Found ExprTree
    resolved_expr scope (truth_syntax at b) = Ok (truth at b)
    resolved_expr scope (number_syntax at c n) = resolved_literal known at c n
    resolved_expr scope (name_syntax at x) = named callables (local_of scope x) x at
    resolved_expr scope (call_syntax at x es) =
        and_then (called callables (local_of scope x) x (length_of es) at) (λ j.
        and_then (resolved_exprs scope es) (λ bs. Ok (call at j bs)))
    resolved_expr scope (negate_syntax at a) = and_then (resolved_expr scope a) (λ e. Ok (negate at e))
    resolved_expr scope (not_syntax at a) = and_then (resolved_expr scope a) (λ e. Ok (not_expr at e))
    resolved_expr scope (pown_syntax at a k) = and_then (resolved_expr scope a) (λ e. Ok (pown at e k))
    resolved_expr scope (arith_syntax at op a b) =
        and_then (resolved_expr scope a) (λ e. and_then (resolved_expr scope b) (λ f. Ok (arith at op e f)))
    resolved_expr scope (compare_syntax at s a b) =
        and_then (resolved_expr scope a) (λ e. and_then (resolved_expr scope b) (λ f. Ok (compare at s e f)))
    resolved_expr scope (and_syntax at a b) =
        and_then (resolved_expr scope a) (λ e. and_then (resolved_expr scope b) (λ f. Ok (both at e f)))
    resolved_expr scope (or_syntax at a b) =
        and_then (resolved_expr scope a) (λ e. and_then (resolved_expr scope b) (λ f. Ok (either at e f)))
    resolved_expr scope (if_syntax at c a b) =
        and_then (resolved_expr scope c) (λ d.
        and_then (resolved_expr scope a) (λ e. and_then (resolved_expr scope b) (λ f. Ok (if at d e f))))
    resolved_expr scope (let_syntax at x a b) =
        and_then (resolved_expr scope a) (λ e.
        and_then (resolved_expr (scope ++ x.name ∷ []) b) (λ f. Ok (bind at e f)))
    resolved_expr scope (match_syntax at l a x y b) =
        and_then (resolved_expr scope l) (λ d. and_then (resolved_expr scope a) (λ e.
        and_then (unless_taken (same_binding x.name y.name) y.at) (λ _.
        and_then (resolved_expr (scope ++ x.name ∷ y.name ∷ []) b) (λ f. Ok (split at d e f)))))
    resolved_expr scope (nil_syntax at t) = resolved_nil known variables at t
    resolved_expr scope (list_syntax at es) = and_then (resolved_exprs scope es) (λ bs. Ok (list_expr at bs))
    resolved_expr scope (cons_syntax at a b) =
        and_then (resolved_expr scope a) (λ e. and_then (resolved_expr scope b) (λ f. Ok (cons at e f)))
    resolved_expr scope (fields_syntax at fs) =
        and_then (resolved_fields known.program.records fs at) (λ r.
        and_then (resolved_parts scope fs) (λ bs. Ok (record_expr at r bs)))
    resolved_expr scope (field_syntax at place x a) =
        and_then (resolved_expr scope a) (λ e.
        and_then (found_field (field_of known.program.records x) place) (λ f.
        Ok (field at f.record_number f.field_number e)))
    resolved_expr scope (bracket_expr_syntax at a) = resolved_expr scope a

    -- expression by expression
    pub resolved_exprs : Scope → ExprSyntaxes → Found ExprTrees
    resolved_exprs scope no_exprs = Ok none
    resolved_exprs scope (more_exprs e es) =
        and_then (resolved_expr scope e) (λ a. and_then (resolved_exprs scope es) (λ bs. Ok (more a bs)))

    -- field by field
    pub resolved_parts : Scope → FieldSyntaxes → Found ExprTrees
    resolved_parts scope no_fields = Ok none
    resolved_parts scope (more_fields at x e fs) =
        and_then (resolved_expr scope e) (λ a. and_then (resolved_parts scope fs) (λ bs. Ok (more a bs)))
