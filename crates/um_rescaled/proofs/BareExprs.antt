-- What expressions stand for doesn't depend on places.
use Rattle.std.proofs.Common.{◌≡◌, ℕ, suc, Bool, true, false, ◌==◌, cond, List, [], ◌∷◌, ◌++◌, map, slice_get, Option, Some, None, refl, sym, ap, ◌∙◌, Ok, Err}
use Rattle.std.specs.Prelude.{option_map}
use Rattle.um_frac.specs.declared.number.Frac.{Frac}
use Rattle.um_frac.specs.Fraction.{numerator}
use Rattle.um_tree.specs.declared.note.UnitNote.TheVariants as note
use Rattle.um_tree.specs.ExprTree.{ExprTree, ExprTrees, number, call, negate, not_expr, pown, arith, compare, both, either, if, bind, split, nil, list_expr, cons, record_expr, field, none, more}
use Rattle.um_tree.specs.ProgramTree.{RecordTree}
use Rattle.um_tree.specs.RawTree.{NoteSyntax, hole_syntax, unit_note_syntax, ExprSyntax, ExprSyntaxes, FieldSyntaxes, truth_syntax, number_syntax, name_syntax, call_syntax, negate_syntax, not_syntax, pown_syntax, arith_syntax, compare_syntax, and_syntax, or_syntax, if_syntax, let_syntax, match_syntax, nil_syntax, list_syntax, cons_syntax, fields_syntax, field_syntax, bracket_expr_syntax, no_exprs, more_exprs, no_fields, more_fields}
use Rattle.um_measures.specs.Faults.{wrong_count, hole, Found, and_then, unless_taken}
use Rattle.um_measures.specs.Known.{Known, number_of, names_of_fields, measure_unit}
use Rattle.um_measures.specs.Scopes.{Scope, local_of, same_binding}
use Rattle.um_measures.specs.UnitNames.{resolved_unit}
use Rattle.um_measures.specs.Variables.{expr_variables, exprs_variables, fields_variables}
use Rattle.um_measures.specs.Wildcards.{is_zero, open_unit}
use Rattle.um_names.specs.declared.callable.Callable.{Callable}
use Rattle.um_names.specs.declared.callable.FieldNumber.{FieldNumber}
use Rattle.um_names.specs.TypeNames.{resolved_type}
use Rattle.um_names.specs.ExprNames.{with_arguments, numbered_function, callable_of, named, called, field_or, field_of, if_same_names, with_all_fields, record_of, length_of, field_text_names, known_or, known_fields, found_record, resolved_fields, found_field, resolved_literal, resolved_expr, resolved_exprs, resolved_parts}
use Rattle.um_show.specs.Unplaced.{bare_unit, bare_written, bare_type, bare_expr, bare_exprs, bare_fields}
use Rattle.um_rescaled.specs.UnplacedPrograms.{unplaced_expr, unplaced_exprs, unplaced_record}
use Rattle.um_rescaled.proofs.BareFaults.{bare_found, itself, then_bare, one_bare, two_bare, taken_bare}
use Rattle.um_rescaled.proofs.BareTypes.{bare_known, resolved_unit_bare, record_at, type_bare, type_variables_bare}

-- ---- functions and variables

counted_if : (b : Bool) (j at : ℕ) → bare_found itself (cond b (Ok j) (Err (wrong_count at))) ≡ cond b (Ok j) (Err (wrong_count 0))
counted_if true j at = refl
counted_if false j at = refl

arguments_bare : (o : Option Callable) (j n at : ℕ) → bare_found itself (with_arguments o j n at) ≡ with_arguments o j n 0
arguments_bare None j n at = refl
arguments_bare (Some f) j n at = counted_if (n == f.params) j at

numbered_bare : (fs : List Callable) (o : Option ℕ) (n at : ℕ) → bare_found itself (numbered_function fs o n at) ≡ numbered_function fs o n 0
numbered_bare fs None n at = refl
numbered_bare fs (Some j) n at = arguments_bare (slice_get fs j) j n at

callable_bare : (fs : List Callable) (x : List ℕ) (n at : ℕ) → bare_found itself (callable_of fs x n at) ≡ callable_of fs x n 0
callable_bare fs x n at = numbered_bare fs (number_of (map (λ f. f.name) fs) x) n at

named_bare : (fs : List Callable) (o : Option ℕ) (x : List ℕ) (at : ℕ) → bare_found unplaced_expr (named fs o x at) ≡ named fs o x 0
named_bare fs (Some k) x at = refl
named_bare fs None x at = one_bare itself unplaced_expr (callable_of fs x 0 at) (callable_of fs x 0 0) (λ j. call at j none) (λ j. call 0 j none) (callable_bare fs x 0 at) (λ j. refl)

called_bare : (fs : List Callable) (o : Option ℕ) (x : List ℕ) (n at : ℕ) → bare_found itself (called fs o x n at) ≡ called fs o x n 0
called_bare fs (Some k) x n at = refl
called_bare fs None x n at = callable_bare fs x n at

length_bare : (es : ExprSyntaxes) → length_of (bare_exprs es) ≡ length_of es
length_bare no_exprs = refl
length_bare (more_exprs e es) = ap suc (length_bare es)

-- ---- records

field_bare : (ds : List RecordTree) (x : List ℕ) → field_of (map unplaced_record ds) x ≡ field_of ds x
field_bare [] x = refl
field_bare (d ∷ ds) x = ap (field_or (number_of (names_of_fields d) x)) (field_bare ds x)

names_bare : (fs : FieldSyntaxes) → field_text_names (bare_fields fs) ≡ field_text_names fs
names_bare no_fields = refl
names_bare (more_fields at x e fs) = ap (λ ns. x ∷ ns) (names_bare fs)

known_or_bare : (o : Option FieldNumber) (at : ℕ) (r s : Found (Unit {0})) → bare_found itself r ≡ s → bare_found itself (known_or o at r) ≡ known_or o 0 s
known_or_bare None at r s e = refl
known_or_bare (Some f) at r s e = e

known_bare : (ds : List RecordTree) (fs : FieldSyntaxes) → bare_found itself (known_fields ds fs) ≡ known_fields (map unplaced_record ds) (bare_fields fs)
known_bare ds no_fields = refl
known_bare ds (more_fields at x e fs) =
    known_or_bare (field_of ds x) at (known_fields ds fs) (known_fields (map unplaced_record ds) (bare_fields fs)) (known_bare ds fs)
    ∙ ap (λ o. known_or o 0 (known_fields (map unplaced_record ds) (bare_fields fs))) (sym (field_bare ds x))

same_names_bare : (o : Option RecordTree) (r : ℕ) (names : List (List ℕ)) → if_same_names (option_map unplaced_record o) r names ≡ if_same_names o r names
same_names_bare None r names = refl
same_names_bare (Some d) r names = refl

all_fields_bare : (ds : List RecordTree) (o : Option FieldNumber) (names : List (List ℕ)) → with_all_fields (map unplaced_record ds) o names ≡ with_all_fields ds o names
all_fields_bare ds None names = refl
all_fields_bare ds (Some f) names = ap (λ o. if_same_names o f.record_number names) (record_at ds f.record_number) ∙ same_names_bare (slice_get ds f.record_number) f.record_number names

record_of_bare : (ds : List RecordTree) (names : List (List ℕ)) → record_of (map unplaced_record ds) names ≡ record_of ds names
record_of_bare ds [] = refl
record_of_bare ds (x ∷ xs) = ap (λ o. with_all_fields (map unplaced_record ds) o (x ∷ xs)) (field_bare ds x) ∙ all_fields_bare ds (field_of ds x) (x ∷ xs)

found_record_bare : (o : Option ℕ) (at : ℕ) → bare_found itself (found_record o at) ≡ found_record o 0
found_record_bare None at = refl
found_record_bare (Some r) at = refl

fields_bare : (ds : List RecordTree) (fs : FieldSyntaxes) (at : ℕ) → bare_found itself (resolved_fields ds fs at) ≡ resolved_fields (map unplaced_record ds) (bare_fields fs) 0
fields_bare ds fs at =
    then_bare itself itself (known_fields ds fs) (known_fields (map unplaced_record ds) (bare_fields fs)) (λ _. found_record (record_of ds (field_text_names fs)) at) (λ _. found_record (record_of (map unplaced_record ds) (field_text_names (bare_fields fs))) 0) (known_bare ds fs)
    (λ _. found_record_bare (record_of ds (field_text_names fs)) at ∙ ap (λ o. found_record o 0) (sym (record_of_bare ds (field_text_names fs)) ∙ ap (record_of (map unplaced_record ds)) (sym (names_bare fs))))

found_field_bare : (o : Option FieldNumber) (place : ℕ) → bare_found itself (found_field o place) ≡ found_field o 0
found_field_bare None place = refl
found_field_bare (Some f) place = refl

-- ---- literals

open_bare : (c : Frac) (at : ℕ) → bare_found itself (open_unit c at) ≡ open_unit c 0
open_bare c at = by (is_zero (numerator c))
  where
    by : (b : Bool) → bare_found itself (cond b (Ok note.Hole) (Err (hole at))) ≡ cond b (Ok note.Hole) (Err (hole 0))
    by true = refl
    by false = refl

literal_bare : (known : Known) (at : ℕ) (c : Frac) (n : Option NoteSyntax) → bare_found unplaced_expr (resolved_literal known at c n) ≡ resolved_literal (bare_known known) 0 c (bare_written n)
literal_bare known at c None = refl
literal_bare known at c (Some (hole_syntax place)) = one_bare itself unplaced_expr (open_unit c at) (open_unit c 0) (number at c) (number 0 c) (open_bare c at) (λ u. refl)
literal_bare known at c (Some (unit_note_syntax place u)) =
    one_bare itself unplaced_expr (resolved_unit (measure_unit known) [] u) (resolved_unit (measure_unit known) [] (bare_unit u)) (λ v. number at c (note.Written v)) (λ v. number 0 c (note.Written v)) (resolved_unit_bare (measure_unit known) [] u) (λ v. refl)

-- ---- expressions

module _ (known : Known) (variables : List (List ℕ)) (callables : List Callable) where
  abbrev old : Scope → ExprSyntax → Found ExprTree
  old scope e = resolved_expr known variables callables scope e

  abbrev new : Scope → ExprSyntax → Found ExprTree
  new scope e = resolved_expr (bare_known known) variables callables scope (bare_expr e)

  abbrev old_all : Scope → ExprSyntaxes → Found ExprTrees
  old_all scope es = resolved_exprs known variables callables scope es

  abbrev new_all : Scope → ExprSyntaxes → Found ExprTrees
  new_all scope es = resolved_exprs (bare_known known) variables callables scope (bare_exprs es)

  abbrev old_parts : Scope → FieldSyntaxes → Found ExprTrees
  old_parts scope fs = resolved_parts known variables callables scope fs

  abbrev new_parts : Scope → FieldSyntaxes → Found ExprTrees
  new_parts scope fs = resolved_parts (bare_known known) variables callables scope (bare_fields fs)

  mutual
    pub expr_bare : (scope : Scope) (e : ExprSyntax) → bare_found unplaced_expr (resolved_expr known variables callables scope e) ≡ resolved_expr (bare_known known) variables callables scope (bare_expr e)
    expr_bare scope (truth_syntax at b) = refl
    expr_bare scope (number_syntax at c n) = literal_bare known at c n
    expr_bare scope (name_syntax at x) = named_bare callables (local_of scope x) x at
    expr_bare scope (call_syntax at x es) =
        two_bare itself unplaced_exprs unplaced_expr (called callables (local_of scope x) x (length_of es) at) (called callables (local_of scope x) x (length_of (bare_exprs es)) 0) (old_all scope es) (new_all scope es) (call at) (call 0)
        (called_bare callables (local_of scope x) x (length_of es) at ∙ ap (λ n. called callables (local_of scope x) x n 0) (sym (length_bare es))) (exprs_bare scope es) (λ j bs. refl)
    expr_bare scope (negate_syntax at a) = one_bare unplaced_expr unplaced_expr (old scope a) (new scope a) (negate at) (negate 0) (expr_bare scope a) (λ e. refl)
    expr_bare scope (not_syntax at a) = one_bare unplaced_expr unplaced_expr (old scope a) (new scope a) (not_expr at) (not_expr 0) (expr_bare scope a) (λ e. refl)
    expr_bare scope (pown_syntax at a k) = one_bare unplaced_expr unplaced_expr (old scope a) (new scope a) (λ e. pown at e k) (λ e. pown 0 e k) (expr_bare scope a) (λ e. refl)
    expr_bare scope (arith_syntax at op a b) = two_bare unplaced_expr unplaced_expr unplaced_expr (old scope a) (new scope a) (old scope b) (new scope b) (arith at op) (arith 0 op) (expr_bare scope a) (expr_bare scope b) (λ e f. refl)
    expr_bare scope (compare_syntax at s a b) = two_bare unplaced_expr unplaced_expr unplaced_expr (old scope a) (new scope a) (old scope b) (new scope b) (compare at s) (compare 0 s) (expr_bare scope a) (expr_bare scope b) (λ e f. refl)
    expr_bare scope (and_syntax at a b) = two_bare unplaced_expr unplaced_expr unplaced_expr (old scope a) (new scope a) (old scope b) (new scope b) (both at) (both 0) (expr_bare scope a) (expr_bare scope b) (λ e f. refl)
    expr_bare scope (or_syntax at a b) = two_bare unplaced_expr unplaced_expr unplaced_expr (old scope a) (new scope a) (old scope b) (new scope b) (either at) (either 0) (expr_bare scope a) (expr_bare scope b) (λ e f. refl)
    expr_bare scope (if_syntax at c a b) =
        then_bare unplaced_expr unplaced_expr (old scope c) (new scope c) (λ d. and_then (old scope a) (λ e. and_then (old scope b) (λ f. Ok (if at d e f)))) (λ d. and_then (new scope a) (λ e. and_then (new scope b) (λ f. Ok (if 0 d e f)))) (expr_bare scope c)
        (λ d. two_bare unplaced_expr unplaced_expr unplaced_expr (old scope a) (new scope a) (old scope b) (new scope b) (if at d) (if 0 (unplaced_expr d)) (expr_bare scope a) (expr_bare scope b) (λ e f. refl))
    expr_bare scope (let_syntax at x a b) =
        let inner = scope ++ x.name ∷ [] in
        two_bare unplaced_expr unplaced_expr unplaced_expr (old scope a) (new scope a) (old inner b) (new inner b) (bind at) (bind 0) (expr_bare scope a) (expr_bare inner b) (λ e f. refl)
    expr_bare scope (match_syntax at l a x y b) =
        let inner = scope ++ x.name ∷ y.name ∷ [] in
        let same = same_binding x.name y.name in
        then_bare unplaced_expr unplaced_expr (old scope l) (new scope l) (λ d. and_then (old scope a) (λ e. and_then (unless_taken same y.at) (λ _. and_then (old inner b) (λ f. Ok (split at d e f)))))
        (λ d. and_then (new scope a) (λ e. and_then (unless_taken same 0) (λ _. and_then (new inner b) (λ f. Ok (split 0 d e f))))) (expr_bare scope l)
        (λ d. then_bare unplaced_expr unplaced_expr (old scope a) (new scope a) (λ e. and_then (unless_taken same y.at) (λ _. and_then (old inner b) (λ f. Ok (split at d e f))))
        (λ e. and_then (unless_taken same 0) (λ _. and_then (new inner b) (λ f. Ok (split 0 (unplaced_expr d) e f)))) (expr_bare scope a)
        (λ e. then_bare itself unplaced_expr (unless_taken same y.at) (unless_taken same 0) (λ _. and_then (old inner b) (λ f. Ok (split at d e f))) (λ _. and_then (new inner b) (λ f. Ok (split 0 (unplaced_expr d) (unplaced_expr e) f))) (taken_bare same y.at)
        (λ _. one_bare unplaced_expr unplaced_expr (old inner b) (new inner b) (split at d e) (split 0 (unplaced_expr d) (unplaced_expr e)) (expr_bare inner b) (λ f. refl))))
    expr_bare scope (nil_syntax at t) = one_bare itself unplaced_expr (resolved_type known variables true t) (resolved_type (bare_known known) variables true (bare_type t)) (nil at) (nil 0) (type_bare known variables true t) (λ n. refl)
    expr_bare scope (list_syntax at es) = one_bare unplaced_exprs unplaced_expr (old_all scope es) (new_all scope es) (list_expr at) (list_expr 0) (exprs_bare scope es) (λ bs. refl)
    expr_bare scope (cons_syntax at a b) = two_bare unplaced_expr unplaced_expr unplaced_expr (old scope a) (new scope a) (old scope b) (new scope b) (cons at) (cons 0) (expr_bare scope a) (expr_bare scope b) (λ e f. refl)
    expr_bare scope (fields_syntax at fs) =
        two_bare itself unplaced_exprs unplaced_expr (resolved_fields known.program.records fs at) (resolved_fields (map unplaced_record known.program.records) (bare_fields fs) 0) (old_parts scope fs) (new_parts scope fs) (record_expr at) (record_expr 0)
        (fields_bare known.program.records fs at) (parts_bare scope fs) (λ r bs. refl)
    expr_bare scope (field_syntax at place x a) =
        let records = known.program.records in
        then_bare unplaced_expr unplaced_expr (old scope a) (new scope a) (λ e. and_then (found_field (field_of records x) place) (λ f. Ok (field at f.record_number f.field_number e)))
        (λ e. and_then (found_field (field_of (map unplaced_record records) x) 0) (λ f. Ok (field 0 f.record_number f.field_number e))) (expr_bare scope a)
        (λ e. one_bare itself unplaced_expr (found_field (field_of records x) place) (found_field (field_of (map unplaced_record records) x) 0) (λ f. field at f.record_number f.field_number e) (λ f. field 0 f.record_number f.field_number (unplaced_expr e))
        (found_field_bare (field_of records x) place ∙ ap (λ o. found_field o 0) (sym (field_bare records x))) (λ f. refl))
    expr_bare scope (bracket_expr_syntax at a) = expr_bare scope a

    exprs_bare : (scope : Scope) (es : ExprSyntaxes) → bare_found unplaced_exprs (resolved_exprs known variables callables scope es) ≡ resolved_exprs (bare_known known) variables callables scope (bare_exprs es)
    exprs_bare scope no_exprs = refl
    exprs_bare scope (more_exprs e es) = two_bare unplaced_expr unplaced_exprs unplaced_exprs (old scope e) (new scope e) (old_all scope es) (new_all scope es) more more (expr_bare scope e) (exprs_bare scope es) (λ a bs. refl)

    parts_bare : (scope : Scope) (fs : FieldSyntaxes) → bare_found unplaced_exprs (resolved_parts known variables callables scope fs) ≡ resolved_parts (bare_known known) variables callables scope (bare_fields fs)
    parts_bare scope no_fields = refl
    parts_bare scope (more_fields at x e fs) = two_bare unplaced_expr unplaced_exprs unplaced_exprs (old scope e) (new scope e) (old_parts scope fs) (new_parts scope fs) more more (expr_bare scope e) (parts_bare scope fs) (λ a bs. refl)

-- ---- variables of notes

mutual
  pub expr_variables_bare : (e : ExprSyntax) → expr_variables (bare_expr e) ≡ expr_variables e
  expr_variables_bare (truth_syntax at b) = refl
  expr_variables_bare (number_syntax at c n) = refl
  expr_variables_bare (name_syntax at x) = refl
  expr_variables_bare (call_syntax at x es) = exprs_variables_bare es
  expr_variables_bare (negate_syntax at a) = expr_variables_bare a
  expr_variables_bare (not_syntax at a) = expr_variables_bare a
  expr_variables_bare (pown_syntax at a k) = expr_variables_bare a
  expr_variables_bare (arith_syntax at op a b) = λ i. expr_variables_bare a i ++ expr_variables_bare b i
  expr_variables_bare (compare_syntax at s a b) = λ i. expr_variables_bare a i ++ expr_variables_bare b i
  expr_variables_bare (and_syntax at a b) = λ i. expr_variables_bare a i ++ expr_variables_bare b i
  expr_variables_bare (or_syntax at a b) = λ i. expr_variables_bare a i ++ expr_variables_bare b i
  expr_variables_bare (if_syntax at c a b) = λ i. expr_variables_bare c i ++ expr_variables_bare a i ++ expr_variables_bare b i
  expr_variables_bare (let_syntax at x a b) = λ i. expr_variables_bare a i ++ expr_variables_bare b i
  expr_variables_bare (match_syntax at l a x y b) = λ i. expr_variables_bare l i ++ expr_variables_bare a i ++ expr_variables_bare b i
  expr_variables_bare (nil_syntax at t) = type_variables_bare t
  expr_variables_bare (list_syntax at es) = exprs_variables_bare es
  expr_variables_bare (cons_syntax at a b) = λ i. expr_variables_bare a i ++ expr_variables_bare b i
  expr_variables_bare (fields_syntax at fs) = fields_variables_bare fs
  expr_variables_bare (field_syntax at place x a) = expr_variables_bare a
  expr_variables_bare (bracket_expr_syntax at a) = expr_variables_bare a

  exprs_variables_bare : (es : ExprSyntaxes) → exprs_variables (bare_exprs es) ≡ exprs_variables es
  exprs_variables_bare no_exprs = refl
  exprs_variables_bare (more_exprs e es) = λ i. expr_variables_bare e i ++ exprs_variables_bare es i

  fields_variables_bare : (fs : FieldSyntaxes) → fields_variables (bare_fields fs) ≡ fields_variables fs
  fields_variables_bare no_fields = refl
  fields_variables_bare (more_fields at x e fs) = λ i. expr_variables_bare e i ++ fields_variables_bare fs i
