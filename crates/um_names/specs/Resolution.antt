-- The program of a program text, or its first fault in the order of the text.
-- Source: this project's own rules of scope: a name is known from the end of its declaration on.
use Rattle.std.specs.Prelude.{ℕ, true, false, ◌||◌, cond, List, [], ◌∷◌, ◌++◌, map, length, Option, Some, None, Ok}
use Rattle.um_units.specs.PowerMap.{PowerMap}
use Rattle.um_tree.specs.TypeTree.{NoteTree}
use Rattle.um_tree.specs.ProgramTree.{FieldTree, RecordTree, FunctionTree, ProgramTree}
use Rattle.um_tree.specs.RawTree.{TypeSyntax, BinderSyntax, VarSyntax, FieldDeclSyntax, ParamSyntax, FunctionSyntax}
use Rattle.um_tree.specs.RawTree.{DeclSyntax, base_syntax, short_syntax, record_decl_syntax, function_syntax}
use Rattle.um_measures.specs.declared.abbreviation.Abbreviation.{Abbreviation}
use Rattle.um_measures.specs.Faults.{unless_taken, Found, and_then}
use Rattle.um_measures.specs.Known.{Known, nothing, is_among, is_taken, function_names, field_names, measure_unit}
use Rattle.um_measures.specs.UnitNames.{resolved_unit}
use Rattle.um_names.specs.TypeNames.{resolved_type, written_type}
use Rattle.um_measures.specs.Variables.{named_variables}
use Rattle.um_measures.specs.Scopes.{Scope, is_repeated}
use Rattle.um_names.specs.ExprNames.{resolved_expr}
use Rattle.um_names.specs.declared.callable.Callable.{Callable}

-- ---- unit parameters of a record or a function

-- each once, after those before
abbrev pub resolved_parameters : List (List ℕ) → List VarSyntax → Found (List (List ℕ))
resolved_parameters before [] = Ok before
resolved_parameters before (v ∷ vs) =
    and_then (unless_taken (is_among before v.name) v.at) (λ _. resolved_parameters (before ++ v.name ∷ []) vs)

-- ---- a record

-- its fields, each with a name that is new among all fields, after those before
abbrev pub resolved_field_decls : Known → List (List ℕ) → List FieldTree → List FieldDeclSyntax → Found (List FieldTree)
resolved_field_decls known variables before [] = Ok before
resolved_field_decls known variables before (f ∷ fs) =
    and_then (unless_taken (is_among (field_names known.program.records) f.name
    || is_among (map (λ g. g.name) before) f.name)
    f.at) (λ _.
    and_then (resolved_type known variables false f.type) (λ n.
    resolved_field_decls known variables (before ++ record { name = f.name; type = written_type n } ∷ []) fs))

abbrev pub resolved_record_decl : Known → ℕ → List ℕ → List VarSyntax → List FieldDeclSyntax → Found RecordTree
resolved_record_decl known at x vs fs =
    and_then (unless_taken (is_taken known x) at) (λ _.
    and_then (resolved_parameters [] vs) (λ variables.
    and_then (resolved_field_decls known variables [] fs) (λ fields.
    Ok (record { name = x; at = at; units = length variables; fields = fields }))))

-- ---- a function

abbrev pub unless_repeated : Scope → BinderSyntax → Found (Unit {0})
unless_repeated before b = unless_taken (is_repeated before b.name) b.at

-- its parameters: each name is looked at before its own type, and after the types before
abbrev pub resolved_params : Known → List (List ℕ) → Scope → List ParamSyntax → Found (List NoteTree)
resolved_params known variables before [] = Ok []
resolved_params known variables before (p ∷ ps) =
    and_then (unless_repeated before p.binder) (λ _.
    and_then (resolved_type known variables true p.type) (λ n.
    and_then (resolved_params known variables (before ++ p.binder.name ∷ []) ps) (λ ns. Ok (n ∷ ns))))

abbrev pub resolved_result : Known → List (List ℕ) → Option TypeSyntax → Found (Option NoteTree)
resolved_result known variables None = Ok None
resolved_result known variables (Some t) = and_then (resolved_type known variables true t) (λ n. Ok (Some n))

abbrev pub callable : FunctionTree → Callable
callable f = record { name = f.name; params = length f.params }

-- the functions before, and the function itself where it is `rec`
abbrev pub callables : Known → FunctionSyntax → List Callable
callables known f =
    map callable known.program.functions
    ++ cond f.recursive (record { name = f.name; params = length f.params } ∷ []) []

abbrev pub scope_of : FunctionSyntax → Scope
scope_of f = map (λ p. p.binder.name) f.params

-- its name, its unit parameters, its parameters, its result, its body
abbrev pub resolved_function : Known → FunctionSyntax → Found FunctionTree
resolved_function known f =
    and_then (unless_taken (is_among (function_names known.program.functions) f.name) f.at) (λ _.
    and_then (resolved_parameters [] f.units) (λ unit_params.
    let variables = named_variables unit_params f in
    and_then (resolved_params known variables [] f.params) (λ params.
    and_then (resolved_result known variables f.result) (λ result.
    and_then (resolved_expr known variables (callables known f) (scope_of f) f.body) (λ body.
    Ok (record {
      name = f.name;
      at = f.at;
      recursive = f.recursive;
      units = length unit_params;
      params = params;
      named = length variables;
      result = result;
      body = body;
    }))))))

-- ---- declarations

abbrev pub with_base : Known → List ℕ → Known
with_base known x = record {
  program = record {
    bases = known.program.bases ++ x ∷ [];
    records = known.program.records;
    functions = known.program.functions;
  };
  shorts = known.shorts;
}

abbrev pub with_short : Known → List ℕ → PowerMap → Known
with_short known x u = record { program = known.program; shorts = known.shorts ++ record { name = x; unit = u } ∷ [] }

abbrev pub with_record : Known → RecordTree → Known
with_record known d = record {
  program = record {
    bases = known.program.bases;
    records = known.program.records ++ d ∷ [];
    functions = known.program.functions;
  };
  shorts = known.shorts;
}

abbrev pub with_function : Known → FunctionTree → Known
with_function known f = record {
  program = record {
    bases = known.program.bases;
    records = known.program.records;
    functions = known.program.functions ++ f ∷ [];
  };
  shorts = known.shorts;
}

-- what is known after a declaration
abbrev pub resolved_decl : Known → DeclSyntax → Found Known
resolved_decl known (base_syntax at x) = and_then (unless_taken (is_taken known x) at) (λ _. Ok (with_base known x))
resolved_decl known (short_syntax at x u) =
    and_then (unless_taken (is_taken known x) at) (λ _.
    and_then (resolved_unit (measure_unit known) [] u) (λ v. Ok (with_short known x v)))
resolved_decl known (record_decl_syntax at x vs fs) =
    and_then (resolved_record_decl known at x vs fs) (λ d. Ok (with_record known d))
resolved_decl known (function_syntax f) = and_then (resolved_function known f) (λ g. Ok (with_function known g))

abbrev pub resolved_decls : Known → List DeclSyntax → Found Known
resolved_decls known [] = Ok known
resolved_decls known (d ∷ ds) = and_then (resolved_decl known d) (λ after. resolved_decls after ds)

-- the program of the text with its abbreviations, or the first fault
abbrev pub resolution : List DeclSyntax → Found Known
resolution ds = resolved_decls nothing ds

-- the program of a text, or its first fault
abbrev pub resolved_program : List DeclSyntax → Found ProgramTree
resolved_program ds = and_then (resolution ds) (λ known. Ok known.program)

-- the abbreviations of a text, or its first fault
abbrev pub resolved_abbreviations : List DeclSyntax → Found (List Abbreviation)
resolved_abbreviations ds = and_then (resolution ds) (λ known. Ok known.shorts)
