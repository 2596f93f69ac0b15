-- What holds of the places in a text holds of the place of its first name fault.
use Rattle.std.proofs.Common.{ℕ, Bool, true, false, cond, List, [], ◌∷◌, ◌++◌, length, map, slice_get, Option, Some, None, Ok, Err}
use Rattle.std.specs.Prelude.{◌==◌, ◌||◌, is_some}
use Rattle.um_frac.specs.declared.number.Frac.{Frac}
use Rattle.um_frac.specs.Fraction.{numerator}
use Rattle.um_units.specs.PowerMap.{PowerMap}
use Rattle.um_tree.specs.declared.note.UnitNote.TheVariants as note
use Rattle.um_tree.specs.TypeTree.{num_note, list_note, record_note}
use Rattle.um_tree.specs.ExprTree.{ExprTree, number, call, negate, not_expr, pown, arith, compare, both, either, if, bind, split, nil, list_expr, cons, record_expr, field, none, more}
use Rattle.um_tree.specs.ProgramTree.{FieldTree, RecordTree, FunctionTree, ProgramTree}
use Rattle.um_tree.specs.RawTree.{UnitSyntax, UnitSyntaxes, one_syntax, measure_syntax, variable_syntax, power_syntax, side_syntax, times_syntax, over_syntax, inverse_syntax, bracket_syntax, no_units, more_units}
use Rattle.um_tree.specs.RawTree.{NoteSyntax, hole_syntax, unit_note_syntax, TypeSyntax, bool_syntax, num_syntax, record_syntax, list_type_syntax, bracket_type_syntax}
use Rattle.um_tree.specs.RawTree.{ExprSyntax, ExprSyntaxes, FieldSyntaxes, truth_syntax, number_syntax, name_syntax, call_syntax, negate_syntax, not_syntax, pown_syntax, arith_syntax, compare_syntax, and_syntax, or_syntax, if_syntax, let_syntax, match_syntax, nil_syntax, list_syntax, cons_syntax, fields_syntax, field_syntax, bracket_expr_syntax, no_exprs, more_exprs, no_fields, more_fields}
use Rattle.um_tree.specs.RawTree.{VarSyntax, FieldDeclSyntax, ParamSyntax, FunctionSyntax, DeclSyntax, base_syntax, short_syntax, record_decl_syntax, function_syntax}
use Rattle.um_measures.specs.Faults.{Fault, unknown, twice, wrong_count, hole, range, Found, and_then, unless_taken}
use Rattle.um_measures.specs.Known.{Known, nothing, number_of, record_names, is_among, is_taken, field_names, measure_unit}
use Rattle.um_measures.specs.Scopes.{Scope, local_of, same_binding}
use Rattle.um_measures.specs.UnitNames.{first_place, or_else, unless, unknown_in, unknown_among, unit_of, parts_fit, ranged, resolved_unit}
use Rattle.um_measures.specs.Variables.{named_variables}
use Rattle.um_measures.specs.Wildcards.{is_zero, open_unit}
use Rattle.um_names.specs.TypeNames.{counted, declared_record, resolved_record, resolved_note, resolved_notes, resolved_number, resolved_type, written_type}
use Rattle.um_names.specs.declared.callable.Callable.{Callable}
use Rattle.um_names.specs.declared.callable.FieldNumber.{FieldNumber}
use Rattle.um_names.specs.ExprNames.{with_arguments, numbered_function, callable_of, named, called, length_of, field_of, record_of, field_text_names, known_or, known_fields, found_record, resolved_fields, found_field, resolved_literal, resolved_expr, resolved_exprs, resolved_parts}
use Rattle.um_names.specs.Resolution.{resolved_parameters, resolved_field_decls, resolved_record_decl, unless_repeated, resolved_params, resolved_result, callables, scope_of, resolved_function, with_base, with_short, with_record, with_function, resolved_decl, resolved_decls, resolution, resolved_program}
use Rattle.um_names.proofs.Wholes.{its_name, with_its_name, with_unit_params, with_params, with_result}
use Rattle.um_front.proofs.NotePlaces.{UnitHolds, UnitsHold, first_holds, NoteHolds, NotesHold, TypeHolds}
use Rattle.um_front.proofs.ExprPlaces.{NodesHold, EachHolds, FieldsHold}
use Rattle.um_front.proofs.DeclPlaces.{VarsHold, FieldDeclsHold, ParamsHold, ResultHolds, FunctionHolds, DeclHolds, DeclsHold}

abbrev pub fault_place : Fault → ℕ
fault_place (unknown at) = at
fault_place (twice at) = at
fault_place (wrong_count at) = at
fault_place (hole at) = at
fault_place (range at) = at

module _ (P : ℕ → Type 0) where
  -- P holds of the place of the fault, if there is one
  abbrev pub FaultHolds : {A : Type 0} → Found A → Type 0
  FaultHolds (Ok x) = Unit {0}
  FaultHolds (Err f) = P (fault_place f)

  pub then_holds : {A B : Type 0} (r : Found A) (next : A → Found B) → FaultHolds r → ((a : A) → FaultHolds (next a)) → FaultHolds (and_then r next)
  then_holds (Ok a) next h k = k a
  then_holds (Err f) next h k = h

  pub last_holds : {A B : Type 0} (r : Found A) (make : A → B) → FaultHolds r → FaultHolds (and_then r (λ a. Ok (make a)))
  last_holds (Ok a) make h = tt
  last_holds (Err f) make h = h

  both_hold : {A B C : Type 0} (r : Found A) (s : Found B) (make : A → B → C) → FaultHolds r → FaultHolds s → FaultHolds (and_then r (λ a. and_then s (λ b. Ok (make a b))))
  both_hold r s make h k = then_holds r (λ a. and_then s (λ b. Ok (make a b))) h (λ a. last_holds s (make a) k)

  cond_holds : {A : Type 0} (b : Bool) (yes_then otherwise : Found A) → FaultHolds yes_then → FaultHolds otherwise → FaultHolds (cond b yes_then otherwise)
  cond_holds true y n h k = h
  cond_holds false y n h k = k

  taken_holds : (b : Bool) (at : ℕ) → P at → FaultHolds (unless_taken b at)
  taken_holds true at h = h
  taken_holds false at h = tt

  -- ---- units

  abbrev pub PlaceHolds : Option ℕ → Type 0
  PlaceHolds None = Unit {0}
  PlaceHolds (Some at) = P at

  pub unless_holds : (b : Bool) (at : ℕ) → P at → PlaceHolds (unless b at)
  unless_holds true at h = tt
  unless_holds false at h = h

  pub earlier_holds : (o other : Option ℕ) → PlaceHolds o → PlaceHolds other → PlaceHolds (or_else o other)
  earlier_holds None other h k = k
  earlier_holds (Some at) other h k = h

  module _ (measures : List ℕ → Option PowerMap) (variables : List (List ℕ)) where
    mutual
      pub unknown_holds : (u : UnitSyntax) → UnitHolds P u → PlaceHolds (unknown_in measures variables u)
      unknown_holds (one_syntax at) h = tt
      unknown_holds (measure_syntax at x) h = unless_holds (is_some (measures x)) at h
      unknown_holds (variable_syntax at x) h = unless_holds (is_among variables x) at h
      unknown_holds (power_syntax u k) h = unknown_holds u h
      unknown_holds (side_syntax us) h = unknown_all us h.1
      unknown_holds (times_syntax u v) h = earlier_holds (unknown_in measures variables u) (unknown_in measures variables v) (unknown_holds u h.0) (unknown_holds v h.1)
      unknown_holds (over_syntax u v) h = earlier_holds (unknown_in measures variables u) (unknown_in measures variables v) (unknown_holds u h.0) (unknown_holds v h.1)
      unknown_holds (inverse_syntax at u) h = unknown_holds u h.1
      unknown_holds (bracket_syntax at u) h = unknown_holds u h.1

      unknown_all : (us : UnitSyntaxes) → UnitsHold P us → PlaceHolds (unknown_among measures variables us)
      unknown_all no_units h = tt
      unknown_all (more_units u us) h = earlier_holds (unknown_in measures variables u) (unknown_among measures variables us) (unknown_holds u h.0) (unknown_all us h.1)

    pub unit_fault : (u : UnitSyntax) → UnitHolds P u → FaultHolds (resolved_unit measures variables u)
    unit_fault u h = by (unknown_in measures variables u) (unknown_holds u h)
      where
        by : (o : Option ℕ) → PlaceHolds o → FaultHolds (ranged measures variables u o)
        by (Some at) k = k
        by None k = cond_holds (parts_fit measures variables u) (Ok (unit_of measures variables u)) (Err (range (first_place u))) tt (first_holds P u h)

  -- ---- types

  pub record_fault : (records : List RecordTree) (o : Option ℕ) (n at : ℕ) → P at → FaultHolds (declared_record records o n at)
  record_fault records None n at h = h
  record_fault records (Some r) n at h = by (slice_get records r)
    where
      by : (o : Option RecordTree) → FaultHolds (counted o r n at)
      by None = h
      by (Some d) = cond_holds (n == d.units) (Ok r) (Err (wrong_count at)) tt h

  module _ (known : Known) (variables : List (List ℕ)) (holes : Bool) where
    note_fault : (n : NoteSyntax) → NoteHolds P n → FaultHolds (resolved_note known variables holes n)
    note_fault (hole_syntax at) h = cond_holds holes (Ok note.Hole) (Err (hole at)) tt h
    note_fault (unit_note_syntax at u) h = last_holds (resolved_unit (measure_unit known) variables u) note.Written (unit_fault (measure_unit known) variables u h)

    notes_fault : (ns : List NoteSyntax) → NotesHold P ns → FaultHolds (resolved_notes known variables holes ns)
    notes_fault [] h = tt
    notes_fault (n ∷ ns) h = both_hold (resolved_note known variables holes n) (resolved_notes known variables holes ns) (λ y ys. y ∷ ys) (note_fault n h.0) (notes_fault ns h.1)

    number_fault : (n : Option NoteSyntax) → TypeHolds P (num_syntax n) → FaultHolds (resolved_number known variables holes n)
    number_fault None h = tt
    number_fault (Some n) h = note_fault n h.0

    pub type_fault : (t : TypeSyntax) → TypeHolds P t → FaultHolds (resolved_type known variables holes t)
    type_fault bool_syntax h = tt
    type_fault (num_syntax n) h = last_holds (resolved_number known variables holes n) num_note (number_fault n h)
    type_fault (record_syntax at x ns) h =
        both_hold (resolved_record known x (length ns) at) (resolved_notes known variables holes ns) record_note
        (record_fault known.program.records (number_of (record_names known.program.records) x) (length ns) at h.0) (notes_fault ns h.1)
    type_fault (list_type_syntax t) h = last_holds (resolved_type known variables holes t) list_note (type_fault t h)
    type_fault (bracket_type_syntax t) h = type_fault t h

  -- ---- expressions

  callable_fault : (fs : List Callable) (x : List ℕ) (n at : ℕ) → P at → FaultHolds (callable_of fs x n at)
  callable_fault fs x n at h = by (number_of (map (λ f. f.name) fs) x)
    where
      of : (o : Option Callable) (j : ℕ) → FaultHolds (with_arguments o j n at)
      of None j = h
      of (Some f) j = cond_holds (n == f.params) (Ok j) (Err (wrong_count at)) tt h

      by : (o : Option ℕ) → FaultHolds (numbered_function fs o n at)
      by None = h
      by (Some j) = of (slice_get fs j) j

  named_fault : (fs : List Callable) (o : Option ℕ) (x : List ℕ) (at : ℕ) → P at → FaultHolds (named fs o x at)
  named_fault fs (Some k) x at h = tt
  named_fault fs None x at h = last_holds (callable_of fs x 0 at) (λ j. call at j none) (callable_fault fs x 0 at h)

  called_fault : (fs : List Callable) (o : Option ℕ) (x : List ℕ) (n at : ℕ) → P at → FaultHolds (called fs o x n at)
  called_fault fs (Some k) x n at h = h
  called_fault fs None x n at h = callable_fault fs x n at h

  known_fault : (records : List RecordTree) (fs : FieldSyntaxes) → FieldsHold P fs → FaultHolds (known_fields records fs)
  known_fault records no_fields h = tt
  known_fault records (more_fields at x e fs) h = by (field_of records x) (known_fault records fs h.1)
    where
      by : (o : Option FieldNumber) → FaultHolds (known_fields records fs) → FaultHolds (known_or o at (known_fields records fs))
      by None others = h.2
      by (Some f) others = others

  found_fault : (o : Option ℕ) (at : ℕ) → P at → FaultHolds (found_record o at)
  found_fault None at h = h
  found_fault (Some r) at h = tt

  fields_fault : (records : List RecordTree) (fs : FieldSyntaxes) (at : ℕ) → P at → FieldsHold P fs → FaultHolds (resolved_fields records fs at)
  fields_fault records fs at h hs =
      then_holds (known_fields records fs) (λ _. found_record (record_of records (field_text_names fs)) at) (known_fault records fs hs)
      (λ _. found_fault (record_of records (field_text_names fs)) at h)

  field_fault : (o : Option FieldNumber) (at : ℕ) → P at → FaultHolds (found_field o at)
  field_fault None at h = h
  field_fault (Some f) at h = tt

  literal_fault : (known : Known) (at : ℕ) (c : Frac) (n : Option NoteSyntax) → NodesHold P (number_syntax at c n) → FaultHolds (resolved_literal known at c n)
  literal_fault known at c None h = tt
  literal_fault known at c (Some (hole_syntax place)) h =
      last_holds (open_unit c at) (number at c) (cond_holds (is_zero (numerator c)) (Ok note.Hole) (Err (hole at)) tt h.0)
  literal_fault known at c (Some (unit_note_syntax place u)) h =
      last_holds (resolved_unit (measure_unit known) [] u) (λ v. number at c (note.Written v)) (unit_fault (measure_unit known) [] u h.1.0)

  module _ (known : Known) (variables : List (List ℕ)) (fs : List Callable) where
    abbrev Read : Scope → ExprSyntax → Found ExprTree
    Read scope t = resolved_expr known variables fs scope t

    mutual
      expr_fault : (scope : Scope) (t : ExprSyntax) → NodesHold P t → FaultHolds (resolved_expr known variables fs scope t)
      expr_fault scope (truth_syntax at b) h = tt
      expr_fault scope (number_syntax at c n) h = literal_fault known at c n h
      expr_fault scope (name_syntax at x) h = named_fault fs (local_of scope x) x at h
      expr_fault scope (call_syntax at x es) h =
          both_hold (called fs (local_of scope x) x (length_of es) at) (resolved_exprs known variables fs scope es) (call at) (called_fault fs (local_of scope x) x (length_of es) at h.0)
          (exprs_fault scope es h.1)
      expr_fault scope (negate_syntax at a) h = last_holds (Read scope a) (negate at) (expr_fault scope a h.1)
      expr_fault scope (not_syntax at a) h = last_holds (Read scope a) (not_expr at) (expr_fault scope a h.1)
      expr_fault scope (pown_syntax at a k) h = last_holds (Read scope a) (λ e. pown at e k) (expr_fault scope a h.1)
      expr_fault scope (arith_syntax at op a b) h = both_hold (Read scope a) (Read scope b) (arith at op) (expr_fault scope a h.1) (expr_fault scope b h.2)
      expr_fault scope (compare_syntax at s a b) h = both_hold (Read scope a) (Read scope b) (compare at s) (expr_fault scope a h.1) (expr_fault scope b h.2)
      expr_fault scope (and_syntax at a b) h = both_hold (Read scope a) (Read scope b) (both at) (expr_fault scope a h.1) (expr_fault scope b h.2)
      expr_fault scope (or_syntax at a b) h = both_hold (Read scope a) (Read scope b) (either at) (expr_fault scope a h.1) (expr_fault scope b h.2)
      expr_fault scope (cons_syntax at a b) h = both_hold (Read scope a) (Read scope b) (cons at) (expr_fault scope a h.1) (expr_fault scope b h.2)
      expr_fault scope (if_syntax at c a b) h =
          then_holds (Read scope c) (λ d. and_then (Read scope a) (λ e. and_then (Read scope b) (λ f. Ok (if at d e f)))) (expr_fault scope c h.1)
          (λ d. both_hold (Read scope a) (Read scope b) (if at d) (expr_fault scope a h.2) (expr_fault scope b h.3))
      expr_fault scope (let_syntax at x a b) h =
          both_hold (Read scope a) (Read (scope ++ x.name ∷ []) b) (bind at) (expr_fault scope a h.1) (expr_fault (scope ++ x.name ∷ []) b h.2)
      expr_fault scope (match_syntax at l a x y b) h =
          let inner = scope ++ x.name ∷ y.name ∷ [] in
          let new = unless_taken (same_binding x.name y.name) y.at in
          then_holds (Read scope l) (λ d. and_then (Read scope a) (λ e. and_then new (λ _. and_then (Read inner b) (λ f. Ok (split at d e f))))) (expr_fault scope l h.1)
          (
          λ d. then_holds (Read scope a) (λ e. and_then new (λ _. and_then (Read inner b) (λ f. Ok (split at d e f)))) (expr_fault scope a h.2)
          (λ e. both_hold new (Read inner b) (λ _ f. split at d e f) (taken_holds (same_binding x.name y.name) y.at h.4) (expr_fault inner b h.3))
          )
      expr_fault scope (nil_syntax at t) h = last_holds (resolved_type known variables true t) (nil at) (type_fault known variables true t h.1)
      expr_fault scope (list_syntax at es) h = last_holds (resolved_exprs known variables fs scope es) (list_expr at) (exprs_fault scope es h.1)
      expr_fault scope (fields_syntax at es) h =
          both_hold (resolved_fields known.program.records es at) (resolved_parts known variables fs scope es) (record_expr at) (fields_fault known.program.records es at h.0 h.1) (parts_fault scope es h.1)
      expr_fault scope (field_syntax at place x a) h =
          both_hold (Read scope a) (found_field (field_of known.program.records x) place) (λ e f. field at f.record_number f.field_number e) (expr_fault scope a h.1)
          (field_fault (field_of known.program.records x) place h.2)
      expr_fault scope (bracket_expr_syntax at a) h = expr_fault scope a h

      exprs_fault : (scope : Scope) (es : ExprSyntaxes) → EachHolds P es → FaultHolds (resolved_exprs known variables fs scope es)
      exprs_fault scope no_exprs h = tt
      exprs_fault scope (more_exprs e es) h = both_hold (Read scope e) (resolved_exprs known variables fs scope es) more (expr_fault scope e h.0) (exprs_fault scope es h.1)

      parts_fault : (scope : Scope) (es : FieldSyntaxes) → FieldsHold P es → FaultHolds (resolved_parts known variables fs scope es)
      parts_fault scope no_fields h = tt
      parts_fault scope (more_fields at x e es) h = both_hold (Read scope e) (resolved_parts known variables fs scope es) more (expr_fault scope e h.0) (parts_fault scope es h.1)

  -- ---- declarations

  parameters_fault : (before : List (List ℕ)) (vs : List VarSyntax) → VarsHold P vs → FaultHolds (resolved_parameters before vs)
  parameters_fault before [] h = tt
  parameters_fault before (v ∷ vs) h =
      then_holds (unless_taken (is_among before v.name) v.at) (λ _. resolved_parameters (before ++ v.name ∷ []) vs) (taken_holds (is_among before v.name) v.at h.0)
      (λ _. parameters_fault (before ++ v.name ∷ []) vs h.1)

  field_decls_fault : (known : Known) (variables : List (List ℕ)) (before : List FieldTree) (fs : List FieldDeclSyntax) → FieldDeclsHold P fs → FaultHolds (resolved_field_decls known variables before fs)
  field_decls_fault known variables before [] h = tt
  field_decls_fault known variables before (f ∷ fs) h =
      let taken = is_among (field_names known.program.records) f.name || is_among (map (λ (g : FieldTree). g.name) before) f.name in
      then_holds (unless_taken taken f.at)
      (λ _. and_then (resolved_type known variables false f.type) (λ n. resolved_field_decls known variables (before ++ record { name = f.name; type = written_type n } ∷ []) fs))
      (taken_holds taken f.at h.0)
      (
      λ _. then_holds (resolved_type known variables false f.type) (λ n. resolved_field_decls known variables (before ++ record { name = f.name; type = written_type n } ∷ []) fs)
      (type_fault known variables false f.type h.1) (λ n. field_decls_fault known variables (before ++ record { name = f.name; type = written_type n } ∷ []) fs h.2)
      )

  record_decl_fault : (known : Known) (at : ℕ) (x : List ℕ) (vs : List VarSyntax) (fs : List FieldDeclSyntax) → DeclHolds P (record_decl_syntax at x vs fs) → FaultHolds (resolved_record_decl known at x vs fs)
  record_decl_fault known at x vs fs h =
      then_holds (unless_taken (is_taken known x) at)
      (
      λ _. and_then (resolved_parameters [] vs) (λ us. and_then (resolved_field_decls known us [] fs) (λ gs. Ok (record {
        name = x;
        at = at;
        units = length us;
        fields = gs;
      })))
      )
      (taken_holds (is_taken known x) at h.0)
      (
      λ _. then_holds (resolved_parameters [] vs) (λ us. and_then (resolved_field_decls known us [] fs) (λ gs. Ok (record { name = x; at = at; units = length us; fields = gs }))) (parameters_fault [] vs h.1)
      (λ us. last_holds {B = RecordTree} (resolved_field_decls known us [] fs) (λ gs. record { name = x; at = at; units = length us; fields = gs }) (field_decls_fault known us [] fs h.2))
      )

  params_fault : (known : Known) (variables : List (List ℕ)) (before : Scope) (ps : List ParamSyntax) → ParamsHold P ps → FaultHolds (resolved_params known variables before ps)
  params_fault known variables before [] h = tt
  params_fault known variables before (p ∷ ps) h =
      then_holds (unless_repeated before p.binder)
      (λ _. and_then (resolved_type known variables true p.type) (λ n. and_then (resolved_params known variables (before ++ p.binder.name ∷ []) ps) (λ ns. Ok (n ∷ ns))))
      (taken_holds _ p.binder.at h.0)
      (
      λ _. both_hold (resolved_type known variables true p.type) (resolved_params known variables (before ++ p.binder.name ∷ []) ps) (λ n ns. n ∷ ns) (type_fault known variables true p.type h.1)
      (params_fault known variables (before ++ p.binder.name ∷ []) ps h.2)
      )

  result_fault : (known : Known) (variables : List (List ℕ)) (r : Option TypeSyntax) → ResultHolds P r → FaultHolds (resolved_result known variables r)
  result_fault known variables None h = tt
  result_fault known variables (Some t) h = last_holds (resolved_type known variables true t) Some (type_fault known variables true t h)

  function_fault : (known : Known) (f : FunctionSyntax) → FunctionHolds P f → FaultHolds (resolved_function known f)
  function_fault known f h =
      then_holds (its_name known f) (with_its_name known f) (taken_holds _ f.at h.0)
      (
      λ _. then_holds (resolved_parameters [] f.units) (with_unit_params known f) (parameters_fault [] f.units h.1)
      (
      λ us. then_holds (resolved_params known (named_variables us f) [] f.params) (with_params known f us) (params_fault known (named_variables us f) [] f.params h.2)
      (
      λ params. then_holds (resolved_result known (named_variables us f) f.result) (with_result known f us params) (result_fault known (named_variables us f) f.result h.3)
      (
      λ result. last_holds {B = FunctionTree} (resolved_expr known (named_variables us f) (callables known f) (scope_of f) f.body) (λ body. record {
        name = f.name;
        at = f.at;
        recursive = f.recursive;
        units = length us;
        params = params;
        named = length (named_variables us f);
        result = result;
        body = body;
      }) (expr_fault known (named_variables us f) (callables known f) (scope_of f) f.body h.4)
      )
      )
      )
      )

  decl_fault : (known : Known) (d : DeclSyntax) → DeclHolds P d → FaultHolds (resolved_decl known d)
  decl_fault known (base_syntax at x) h = last_holds (unless_taken (is_taken known x) at) (λ _. with_base known x) (taken_holds (is_taken known x) at h)
  decl_fault known (short_syntax at x u) h =
      both_hold (unless_taken (is_taken known x) at) (resolved_unit (measure_unit known) [] u) (λ _ v. with_short known x v) (taken_holds (is_taken known x) at h.0) (unit_fault (measure_unit known) [] u h.1)
  decl_fault known (record_decl_syntax at x vs fs) h = last_holds (resolved_record_decl known at x vs fs) (with_record known) (record_decl_fault known at x vs fs h)
  decl_fault known (function_syntax f) h = last_holds (resolved_function known f) (with_function known) (function_fault known f h)

  decls_fault : (known : Known) (ds : List DeclSyntax) → DeclsHold P ds → FaultHolds (resolved_decls known ds)
  decls_fault known [] h = tt
  decls_fault known (d ∷ ds) h = then_holds (resolved_decl known d) (λ after. resolved_decls after ds) (decl_fault known d h.0) (λ after. decls_fault after ds h.1)

  pub program_fault : (ds : List DeclSyntax) → DeclsHold P ds → FaultHolds (resolved_program ds)
  program_fault ds h = last_holds {B = ProgramTree} (resolution ds) (λ known. known.program) (decls_fault nothing ds h)
