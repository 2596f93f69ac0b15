-- Whole records and functions, part by part.
use Rattle.std.proofs.Common.{◌≡◌, ℕ, Bool, false, List, [], ◌++◌, map, length, ap, sym, ◌∙◌, subst, Ok}
use Rattle.std.specs.Prelude.{Option}
use Rattle.um_tree.specs.TypeTree.{NoteTree}
use Rattle.um_tree.specs.ExprTree.{ExprTree}
use Rattle.um_tree.specs.ProgramTree.{FieldTree, RecordTree, FunctionTree}
use Rattle.um_tree.specs.RawTree.{VarSyntax, FieldDeclSyntax, FunctionSyntax}
use Rattle.um_names.specs.declared.callable.Callable.{Callable}
use Rattle.um_measures.specs.Faults.{Found, and_then, unless_taken}
use Rattle.um_measures.specs.Known.{Known, is_among, is_taken, function_names}
use Rattle.um_measures.specs.Scopes.{Scope}
use Rattle.um_names.specs.ExprNames.{resolved_expr}
use Rattle.um_measures.specs.Variables.{named_variables}
use Rattle.um_names.specs.Parts.{itself}
use Rattle.um_names.specs.Resolution.{resolved_parameters, resolved_field_decls, resolved_record_decl, callable, scope_of, resolved_params, resolved_result, callables, resolved_function}

next : {A B : Type 0} (r : Found A) (a : A) (k : A → Found B) → r ≡ Ok a → and_then r k ≡ k a
next r a k e = ap (λ q. and_then q k) e

free : (b : Bool) (at : ℕ) → b ≡ false → unless_taken b at ≡ Ok tt
free b at e = ap (λ c. unless_taken c at) e

-- ---- a record

module _ (known : Known) (at : ℕ) (x : List ℕ) (vs : List VarSyntax) (fs : List FieldDeclSyntax) where
  abbrev with_fields : List (List ℕ) → List FieldTree → Found RecordTree
  with_fields variables fields = Ok (record { name = x; at = at; units = length variables; fields = fields })

  abbrev with_parameters : List (List ℕ) → Found RecordTree
  with_parameters variables = and_then (resolved_field_decls known variables [] fs) (with_fields variables)

  abbrev with_name : Unit {0} → Found RecordTree
  with_name _ = and_then (resolved_parameters [] vs) with_parameters

  pub record_is : (name : List ℕ) (units : ℕ) (variables : List (List ℕ)) (fields : List FieldTree) → name ≡ x → units ≡ length variables → is_taken known x ≡ false → resolved_parameters [] vs ≡ Ok variables → resolved_field_decls known variables [] fs ≡ Ok fields
      → resolved_record_decl known at x vs fs ≡ Ok (record { name = name; at = at; units = units; fields = fields })
  record_is name units variables fields e u n p f =
      next (unless_taken (is_taken known x) at) tt with_name (free (is_taken known x) at n) ∙ next (resolved_parameters [] vs) variables with_parameters p ∙ next (resolved_field_decls known variables [] fs) fields (with_fields variables) f
      ∙ ap (λ (y : List ℕ). Ok (record { name = y; at = at; units = length variables; fields = fields })) (sym e)
      ∙ ap (λ (k : ℕ). Ok (record { name = name; at = at; units = k; fields = fields })) (sym u)

-- ---- a function

module _ (known : Known) (f : FunctionSyntax) where
  abbrev with_body : List (List ℕ) → List NoteTree → Option NoteTree → ExprTree → Found FunctionTree
  with_body us params result body = Ok (record { name = f.name; at = f.at; recursive = f.recursive; units = length us; params = params; named = length (named_variables us f); result = result; body = body })

  abbrev pub with_result : List (List ℕ) → List NoteTree → Option NoteTree → Found FunctionTree
  with_result us params result = and_then (resolved_expr known (named_variables us f) (callables known f) (scope_of f) f.body) (with_body us params result)

  abbrev pub with_params : List (List ℕ) → List NoteTree → Found FunctionTree
  with_params us params = and_then (resolved_result known (named_variables us f) f.result) (with_result us params)

  abbrev pub with_unit_params : List (List ℕ) → Found FunctionTree
  with_unit_params us = and_then (resolved_params known (named_variables us f) [] f.params) (with_params us)

  abbrev pub with_its_name : Unit {0} → Found FunctionTree
  with_its_name _ = and_then (resolved_parameters [] f.units) with_unit_params

  abbrev pub its_name : Found (Unit {0})
  its_name = unless_taken (is_among (function_names known.program.functions) f.name) f.at

  -- with these numbers of unit parameters and of named variables
  abbrev numbered : ℕ → ℕ → List NoteTree → Option NoteTree → ExprTree → Found FunctionTree
  numbered units named params result body = Ok (record { name = f.name; at = f.at; recursive = f.recursive; units = units; params = params; named = named; result = result; body = body })

  abbrev in_body : List (List ℕ) → List Callable → Scope → Found ExprTree
  in_body variables own scope = resolved_expr known variables (map callable known.program.functions ++ own) scope f.body

  abbrev after_head : List NoteTree → Option NoteTree → ℕ → ℕ → List (List ℕ) → List Callable → Scope → Found FunctionTree
  after_head params result units named variables own scope = and_then (in_body variables own scope) (numbered units named params result)

  pub head_is : (units named : ℕ) (us variables : List (List ℕ)) (params : List NoteTree) (result : Option NoteTree) (own : List Callable) (scope : Scope) → units ≡ length us → named ≡ length variables → is_among (function_names known.program.functions) f.name ≡ false
      → resolved_parameters [] f.units ≡ Ok us → variables ≡ named_variables us f → resolved_params known variables [] f.params ≡ Ok params → resolved_result known variables f.result ≡ Ok result → own ≡ itself f → scope ≡ scope_of f
      → resolved_function known f ≡ after_head params result units named variables own scope
  head_is units named us variables params result own scope m u n q v p r o s =
      let names = named_variables us f in
      let p' : resolved_params known names [] f.params ≡ Ok params = subst (λ (vs : List (List ℕ)). resolved_params known vs [] f.params ≡ Ok params) v p in
      let r' : resolved_result known names f.result ≡ Ok result = subst (λ (vs : List (List ℕ)). resolved_result known vs f.result ≡ Ok result) v r in
      next its_name tt with_its_name (free (is_among (function_names known.program.functions) f.name) f.at n) ∙ next (resolved_parameters [] f.units) us with_unit_params q ∙ next (resolved_params known names [] f.params) params (with_params us) p'
      ∙ next (resolved_result known names f.result) result (with_result us params) r'
      ∙ ap (λ (k : ℕ). after_head params result k (length names) names (itself f) (scope_of f)) (sym m)
      ∙ ap (λ (k : ℕ). after_head params result units k names (itself f) (scope_of f)) (ap length (sym v) ∙ sym u)
      ∙ ap (λ (vs : List (List ℕ)). after_head params result units named vs (itself f) (scope_of f)) (sym v)
      ∙ ap (λ (cs : List Callable). after_head params result units named variables cs (scope_of f)) (sym o)
      ∙ ap (λ (sc : Scope). after_head params result units named variables own sc) (sym s)
