-- What declarations and programs stand for doesn't depend on places.
use Rattle.std.proofs.Common.{◌≡◌, ℕ, suc, true, false, ◌||◌, cond, List, [], ◌∷◌, ◌++◌, length, map, Option, Some, None, refl, sym, ap, ◌∙◌, Ok, Err}
use Rattle.std.specs.List.{flat_map}
use Rattle.std.proofs.lemmas.List.{map-append}
use Rattle.um_tree.specs.TypeTree.{NoteTree}
use Rattle.um_tree.specs.ExprTree.{ExprTree}
use Rattle.um_tree.specs.ProgramTree.{FieldTree, RecordTree, FunctionTree}
use Rattle.um_tree.specs.RawTree.{TypeSyntax, VarSyntax, FieldDeclSyntax, ParamSyntax, FunctionSyntax, DeclSyntax, base_syntax, short_syntax, record_decl_syntax, function_syntax}
use Rattle.um_measures.specs.Faults.{Found, and_then, unless_taken}
use Rattle.um_measures.specs.Known.{Known, nothing, is_among, is_taken, short_names, function_names, names_of_fields, field_names, measure_unit}
use Rattle.um_measures.specs.Scopes.{Scope, is_repeated}
use Rattle.um_measures.specs.UnitNames.{resolved_unit}
use Rattle.um_measures.specs.Variables.{type_variables, result_variables, occurring, first_occurrences, named_variables}
use Rattle.um_names.specs.TypeNames.{resolved_type, written_type}
use Rattle.um_names.specs.ExprNames.{resolved_expr}
use Rattle.um_names.specs.Resolution.{resolved_parameters, resolved_field_decls, resolved_record_decl, resolved_params, resolved_result, callable, callables, scope_of, resolved_function, with_base, with_short, with_record, with_function, resolved_decl, resolved_decls, resolution}
use Rattle.um_show.specs.Unplaced.{bare_unit, bare_type, bare_expr, bare_var, bare_field_decl, bare_param, bare_result, bare_function, bare_decl, bare_program}
use Rattle.um_rescaled.specs.UnplacedPrograms.{unplaced_expr, unplaced_record, unplaced_function, unplaced_program}
use Rattle.um_rescaled.specs.PlaceLaws.{SameTreesAreSamePrograms}
use Rattle.um_rescaled.proofs.BareFaults.{bare_found, itself, then_bare, one_bare, two_bare, taken_bare}
use Rattle.um_rescaled.proofs.BareTypes.{bare_known, resolved_unit_bare, record_names_bare, type_bare, type_variables_bare}
use Rattle.um_rescaled.proofs.BareExprs.{expr_bare, expr_variables_bare}

-- ---- unit parameters, fields and records

parameters_bare : (before : List (List ℕ)) (vs : List VarSyntax) → bare_found itself (resolved_parameters before vs) ≡ resolved_parameters before (map bare_var vs)
parameters_bare before [] = refl
parameters_bare before (v ∷ vs) =
    then_bare itself itself (unless_taken (is_among before v.name) v.at) (unless_taken (is_among before v.name) 0) (λ _. resolved_parameters (before ++ v.name ∷ []) vs) (λ _. resolved_parameters (before ++ v.name ∷ []) (map bare_var vs)) (taken_bare (is_among before v.name) v.at)
    (λ _. parameters_bare (before ++ v.name ∷ []) vs)

field_names_bare : (ds : List RecordTree) → field_names (map unplaced_record ds) ≡ field_names ds
field_names_bare [] = refl
field_names_bare (d ∷ ds) = ap (λ ns. names_of_fields d ++ ns) (field_names_bare ds)

module _ (known : Known) where
  field_decls_bare : (variables : List (List ℕ)) (before : List FieldTree) (fs : List FieldDeclSyntax) → bare_found itself (resolved_field_decls known variables before fs) ≡ resolved_field_decls (bare_known known) variables before (map bare_field_decl fs)
  field_decls_bare variables before [] = refl
  field_decls_bare variables before (f ∷ fs) =
      let own = is_among (map (λ g. g.name) before) f.name in
      let taken = is_among (field_names known.program.records) f.name || own in
      let taken_again = is_among (field_names (map unplaced_record known.program.records)) f.name || own in
      let more : NoteTree → List FieldTree = λ n. before ++ record { name = f.name; type = written_type n } ∷ [] in
      then_bare itself itself (unless_taken taken f.at) (unless_taken taken_again 0) (λ _. and_then (resolved_type known variables false f.type) (λ n. resolved_field_decls known variables (more n) fs))
      (λ _. and_then (resolved_type (bare_known known) variables false (bare_type f.type)) (λ n. resolved_field_decls (bare_known known) variables (more n) (map bare_field_decl fs)))
      (taken_bare taken f.at ∙ ap (λ ns. unless_taken (is_among ns f.name || own) 0) (sym (field_names_bare known.program.records)))
      (λ _. then_bare itself itself (resolved_type known variables false f.type) (resolved_type (bare_known known) variables false (bare_type f.type)) (λ n. resolved_field_decls known variables (more n) fs)
      (λ n. resolved_field_decls (bare_known known) variables (more n) (map bare_field_decl fs)) (type_bare known variables false f.type) (λ n. field_decls_bare variables (more n) fs))

  is_taken_bare : (x : List ℕ) → is_taken (bare_known known) x ≡ is_taken known x
  is_taken_bare x = ap (λ ns. is_among known.program.bases x || (is_among (short_names known.shorts) x || is_among ns x)) (record_names_bare known.program.records)

  new_bare : (x : List ℕ) (at : ℕ) → bare_found itself (unless_taken (is_taken known x) at) ≡ unless_taken (is_taken (bare_known known) x) 0
  new_bare x at = taken_bare (is_taken known x) at ∙ ap (λ b. unless_taken b 0) (sym (is_taken_bare x))

  record_bare : (at : ℕ) (x : List ℕ) (vs : List VarSyntax) (fs : List FieldDeclSyntax) → bare_found unplaced_record (resolved_record_decl known at x vs fs) ≡ resolved_record_decl (bare_known known) 0 x (map bare_var vs) (map bare_field_decl fs)
  record_bare at x vs fs =
      let made : ℕ → List (List ℕ) → List FieldTree → RecordTree = λ place variables fields. record { name = x; at = place; units = length variables; fields = fields } in
      then_bare itself unplaced_record (unless_taken (is_taken known x) at) (unless_taken (is_taken (bare_known known) x) 0) (λ _. and_then (resolved_parameters [] vs) (λ variables. and_then (resolved_field_decls known variables [] fs) (λ fields. Ok (made at variables fields))))
      (λ _. and_then (resolved_parameters [] (map bare_var vs)) (λ variables. and_then (resolved_field_decls (bare_known known) variables [] (map bare_field_decl fs)) (λ fields. Ok (made 0 variables fields)))) (new_bare x at)
      (λ _. then_bare itself unplaced_record (resolved_parameters [] vs) (resolved_parameters [] (map bare_var vs)) (λ variables. and_then (resolved_field_decls known variables [] fs) (λ fields. Ok (made at variables fields)))
      (λ variables. and_then (resolved_field_decls (bare_known known) variables [] (map bare_field_decl fs)) (λ fields. Ok (made 0 variables fields))) (parameters_bare [] vs)
      (λ variables. one_bare itself unplaced_record (resolved_field_decls known variables [] fs) (resolved_field_decls (bare_known known) variables [] (map bare_field_decl fs)) (made at variables) (made 0 variables) (field_decls_bare variables [] fs) (λ fields. refl)))

  -- ---- functions

  params_bare : (variables : List (List ℕ)) (before : Scope) (ps : List ParamSyntax) → bare_found itself (resolved_params known variables before ps) ≡ resolved_params (bare_known known) variables before (map bare_param ps)
  params_bare variables before [] = refl
  params_bare variables before (p ∷ ps) =
      let b = p.binder in
      let again = is_repeated before b.name in
      let later = before ++ b.name ∷ [] in
      then_bare itself itself (unless_taken again b.at) (unless_taken again 0) (λ _. and_then (resolved_type known variables true p.type) (λ n. and_then (resolved_params known variables later ps) (λ ns. Ok (n ∷ ns))))
      (λ _. and_then (resolved_type (bare_known known) variables true (bare_type p.type)) (λ n. and_then (resolved_params (bare_known known) variables later (map bare_param ps)) (λ ns. Ok (n ∷ ns)))) (taken_bare again b.at)
      (λ _. two_bare itself itself itself (resolved_type known variables true p.type) (resolved_type (bare_known known) variables true (bare_type p.type)) (resolved_params known variables later ps) (resolved_params (bare_known known) variables later (map bare_param ps)) (λ n ns. n ∷ ns) (λ n ns. n ∷ ns)
      (type_bare known variables true p.type) (params_bare variables later ps) (λ n ns. refl))

  result_bare : (variables : List (List ℕ)) (t : Option TypeSyntax) → bare_found itself (resolved_result known variables t) ≡ resolved_result (bare_known known) variables (bare_result t)
  result_bare variables None = refl
  result_bare variables (Some t) = one_bare itself itself (resolved_type known variables true t) (resolved_type (bare_known known) variables true (bare_type t)) (λ n. Some n) (λ n. Some n) (type_bare known variables true t) (λ n. refl)

params_variables_bare : (ps : List ParamSyntax) → flat_map (λ p. type_variables p.type) (map bare_param ps) ≡ flat_map (λ p. type_variables p.type) ps
params_variables_bare [] = refl
params_variables_bare (p ∷ ps) = λ i. type_variables_bare p.type i ++ params_variables_bare ps i

result_variables_bare : (t : Option TypeSyntax) → result_variables (bare_result t) ≡ result_variables t
result_variables_bare None = refl
result_variables_bare (Some t) = type_variables_bare t

occurring_bare : (f : FunctionSyntax) → occurring (bare_function f) ≡ occurring f
occurring_bare f = λ i. params_variables_bare f.params i ++ result_variables_bare f.result i ++ expr_variables_bare f.body i

function_names_bare : (fs : List FunctionTree) → function_names (map unplaced_function fs) ≡ function_names fs
function_names_bare [] = refl
function_names_bare (f ∷ fs) = ap (λ ns. f.name ∷ ns) (function_names_bare fs)

callable_list_bare : (fs : List FunctionTree) → map callable (map unplaced_function fs) ≡ map callable fs
callable_list_bare [] = refl
callable_list_bare (f ∷ fs) = ap (λ xs. callable f ∷ xs) (callable_list_bare fs)

params_length : (ps : List ParamSyntax) → length (map bare_param ps) ≡ length ps
params_length [] = refl
params_length (p ∷ ps) = ap suc (params_length ps)

binders_bare : (ps : List ParamSyntax) → map (λ p. p.binder.name) (map bare_param ps) ≡ map (λ p. p.binder.name) ps
binders_bare [] = refl
binders_bare (p ∷ ps) = ap (λ ns. p.binder.name ∷ ns) (binders_bare ps)

callables_bare : (known : Known) (f : FunctionSyntax) → callables (bare_known known) (bare_function f) ≡ callables known f
callables_bare known f = λ i. callable_list_bare known.program.functions i ++ cond f.recursive (record { name = f.name; params = params_length f.params i } ∷ []) []

-- what a function stands for, step by step
module _ (known : Known) (f : FunctionSyntax) where
  abbrev made : (units variables : List (List ℕ)) → List NoteTree → Option NoteTree → ExprTree → FunctionTree
  made units variables params result body = record {
    name = f.name;
    at = f.at;
    recursive = f.recursive;
    units = length units;
    params = params;
    named = length variables;
    result = result;
    body = body;
  }

  abbrev by_body : (units variables : List (List ℕ)) → List NoteTree → Option NoteTree → Found FunctionTree
  by_body units variables params result =
      and_then (resolved_expr known variables (callables known f) (scope_of f) f.body) (λ body. Ok (made units variables params result body))

  abbrev by_result : (units variables : List (List ℕ)) → List NoteTree → Found FunctionTree
  by_result units variables params = and_then (resolved_result known variables f.result) (λ result. by_body units variables params result)

  abbrev by_params : (units variables : List (List ℕ)) → Found FunctionTree
  by_params units variables = and_then (resolved_params known variables [] f.params) (λ params. by_result units variables params)

  abbrev by_units : Found FunctionTree
  by_units = and_then (resolved_parameters [] f.units) (λ units. by_params units (named_variables units f))

module _ (known : Known) (f : FunctionSyntax) where
  abbrev bared : Known
  bared = bare_known known

  abbrev again : FunctionSyntax
  again = bare_function f

  body_bare : (units variables : List (List ℕ)) (params : List NoteTree) (result : Option NoteTree) → bare_found unplaced_function (by_body known f units variables params result) ≡ by_body bared again units variables params result
  body_bare units variables params result =
      one_bare unplaced_expr unplaced_function (resolved_expr known variables (callables known f) (scope_of f) f.body) (resolved_expr bared variables (callables bared again) (scope_of again) again.body) (made known f units variables params result) (made bared again units variables params result)
      (expr_bare known variables (callables known f) (scope_of f) f.body ∙ (λ i. resolved_expr bared variables (sym (callables_bare known f) i) (sym (binders_bare f.params) i) (bare_expr f.body))) (λ body. refl)

  result_step : (units variables : List (List ℕ)) (params : List NoteTree) → bare_found unplaced_function (by_result known f units variables params) ≡ by_result bared again units variables params
  result_step units variables params =
      then_bare itself unplaced_function (resolved_result known variables f.result) (resolved_result bared variables (bare_result f.result)) (λ result. by_body known f units variables params result) (λ result. by_body bared again units variables params result) (result_bare known variables f.result) (body_bare units variables params)

  params_step : (units variables : List (List ℕ)) → bare_found unplaced_function (by_params known f units variables) ≡ by_params bared again units variables
  params_step units variables =
      then_bare itself unplaced_function (resolved_params known variables [] f.params) (resolved_params bared variables [] (map bare_param f.params)) (λ params. by_result known f units variables params) (λ params. by_result bared again units variables params) (params_bare known variables [] f.params) (result_step units variables)

  units_step : bare_found unplaced_function (by_units known f) ≡ by_units bared again
  units_step =
      then_bare itself unplaced_function (resolved_parameters [] f.units) (resolved_parameters [] (map bare_var f.units)) (λ units. by_params known f units (named_variables units f)) (λ units. by_params bared again units (named_variables units again)) (parameters_bare [] f.units)
      (λ units. params_step units (named_variables units f) ∙ ap (λ vs. by_params bared again units (first_occurrences units vs)) (sym (occurring_bare f)))

  function_bare : bare_found unplaced_function (resolved_function known f) ≡ resolved_function bared again
  function_bare =
      let names = function_names known.program.functions in
      then_bare itself unplaced_function (unless_taken (is_among names f.name) f.at) (unless_taken (is_among (function_names (map unplaced_function known.program.functions)) f.name) 0) (λ _. by_units known f) (λ _. by_units bared again)
      (taken_bare (is_among names f.name) f.at ∙ ap (λ ns. unless_taken (is_among ns f.name) 0) (sym (function_names_bare known.program.functions))) (λ _. units_step)

-- ---- declarations

with_record_bare : (known : Known) (d : RecordTree) → bare_known (with_record known d) ≡ with_record (bare_known known) (unplaced_record d)
with_record_bare known d =
    ap (λ ds. record { program = record { bases = known.program.bases; records = ds; functions = map unplaced_function known.program.functions }; shorts = known.shorts }) (map-append unplaced_record known.program.records (d ∷ []))

with_function_bare : (known : Known) (f : FunctionTree) → bare_known (with_function known f) ≡ with_function (bare_known known) (unplaced_function f)
with_function_bare known f =
    ap (λ fs. record { program = record { bases = known.program.bases; records = map unplaced_record known.program.records; functions = fs }; shorts = known.shorts }) (map-append unplaced_function known.program.functions (f ∷ []))

decl_bare : (known : Known) (d : DeclSyntax) → bare_found bare_known (resolved_decl known d) ≡ resolved_decl (bare_known known) (bare_decl d)
decl_bare known (base_syntax at x) =
    one_bare itself bare_known (unless_taken (is_taken known x) at) (unless_taken (is_taken (bare_known known) x) 0) (λ _. with_base known x) (λ _. with_base (bare_known known) x) (new_bare known x at) (λ _. refl)
decl_bare known (short_syntax at x u) =
    two_bare itself itself bare_known (unless_taken (is_taken known x) at) (unless_taken (is_taken (bare_known known) x) 0) (resolved_unit (measure_unit known) [] u) (resolved_unit (measure_unit known) [] (bare_unit u)) (λ _. with_short known x) (λ _. with_short (bare_known known) x)
    (new_bare known x at) (resolved_unit_bare (measure_unit known) [] u) (λ _ v. refl)
decl_bare known (record_decl_syntax at x vs fs) =
    one_bare unplaced_record bare_known (resolved_record_decl known at x vs fs) (resolved_record_decl (bare_known known) 0 x (map bare_var vs) (map bare_field_decl fs)) (with_record known) (with_record (bare_known known)) (record_bare known at x vs fs) (with_record_bare known)
decl_bare known (function_syntax f) =
    one_bare unplaced_function bare_known (resolved_function known f) (resolved_function (bare_known known) (bare_function f)) (with_function known) (with_function (bare_known known)) (function_bare known f) (with_function_bare known)

decls_bare : (known : Known) (ds : List DeclSyntax) → bare_found bare_known (resolved_decls known ds) ≡ resolved_decls (bare_known known) (bare_program ds)
decls_bare known [] = refl
decls_bare known (d ∷ ds) =
    then_bare bare_known bare_known (resolved_decl known d) (resolved_decl (bare_known known) (bare_decl d)) (λ after. resolved_decls after ds) (λ after. resolved_decls after (bare_program ds)) (decl_bare known d) (λ after. decls_bare after ds)

-- ---- programs

found_from : {A B : Type 0} (f : A → B) (r : Found A) (b : B) → bare_found f r ≡ Ok b → (a : A) × (r ≡ Ok a) × (f a ≡ b)
found_from f (Ok a) b e = (a, refl, cc e)
found_from f (Err x) b e = absurd (cc e)

pub then_known : {A : Type 0} (r : Found Known) (make : Known → A) (x : A) → and_then r (λ k. Ok (make k)) ≡ Ok x → (k : Known) × (r ≡ Ok k) × (make k ≡ x)
then_known (Ok k) make x e = (k, refl, cc e)
then_known (Err f) make x e = absurd (cc e)

pub same_trees : SameTreesAreSamePrograms
same_trees ds es p e is =
    let k = then_known (resolution ds) (λ (k : Known). k.program) p is in
    let whole : bare_found bare_known (resolution es) ≡ Ok (bare_known k.0) = decls_bare nothing es ∙ ap (resolved_decls nothing) e ∙ sym (decls_bare nothing ds) ∙ ap (bare_found bare_known) k.1 in
    let l = found_from bare_known (resolution es) (bare_known k.0) whole in (
      l.0.program,
      ap (λ r. and_then r (λ (k : Known). Ok k.program)) l.1,
      ap (λ (k : Known). k.program) l.2 ∙ ap unplaced_program k.2,
      ap (λ r. and_then r (λ (k : Known). Ok k.shorts)) l.1 ∙ ap (λ (k : Known). Ok k.shorts) l.2 ∙ sym (ap (λ r. and_then r (λ (k : Known). Ok k.shorts)) k.1),
    )
