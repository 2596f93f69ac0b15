-- What types and parameters stand for doesn't depend on the bodies of the functions before.
use Rattle.std.proofs.Common.{◌≡◌, ℕ, Bool, true, false, ◌||◌, List, [], ◌∷◌, ◌++◌, length, map, Option, Some, None, refl, ap, Ok}
use Rattle.um_frac.specs.declared.number.Frac.{Frac}
use Rattle.um_tree.specs.TypeTree.{num_note, list_note, record_note}
use Rattle.um_tree.specs.ProgramTree.{FieldTree, FunctionTree}
use Rattle.um_tree.specs.RawTree.{NoteSyntax, hole_syntax, unit_note_syntax, TypeSyntax, bool_syntax, num_syntax, record_syntax, list_type_syntax, bracket_type_syntax, VarSyntax, FieldDeclSyntax, ParamSyntax}
use Rattle.um_measures.specs.Faults.{and_then, unless_taken}
use Rattle.um_measures.specs.Known.{Known, is_among, is_taken, field_names, function_names}
use Rattle.um_measures.specs.Scopes.{Scope}
use Rattle.um_names.specs.TypeNames.{resolved_record, resolved_note, resolved_notes, resolved_type, written_type}
use Rattle.um_names.specs.Resolution.{resolved_parameters, resolved_field_decls, resolved_record_decl, unless_repeated, resolved_params, resolved_result, callable}
use Rattle.um_scale.specs.RescaledLiterals.{rescaled_function}

abbrev pub with_functions : Known → List FunctionTree → Known
with_functions known functions = record {
  program = record { bases = known.program.bases; records = known.program.records; functions = functions };
  shorts = known.shorts;
}

abbrev pub rescaled_known : List Frac → Known → Known
rescaled_known cs known = with_functions known (map (rescaled_function cs) known.program.functions)

module _ (known : Known) (functions : List FunctionTree) where
  abbrev other : Known
  other = with_functions known functions

  module _ (variables : List (List ℕ)) (holes : Bool) where
    note_same : (n : NoteSyntax) → resolved_note other variables holes n ≡ resolved_note known variables holes n
    note_same (hole_syntax at) = refl
    note_same (unit_note_syntax at u) = refl

    notes_same : (ns : List NoteSyntax) → resolved_notes other variables holes ns ≡ resolved_notes known variables holes ns
    notes_same [] = refl
    notes_same (n ∷ ns) = λ i. and_then (note_same n i) (λ y. and_then (notes_same ns i) (λ ys. Ok (y ∷ ys)))

    pub type_same : (t : TypeSyntax) → resolved_type other variables holes t ≡ resolved_type known variables holes t
    type_same bool_syntax = refl
    type_same (num_syntax None) = refl
    type_same (num_syntax (Some n)) = λ i. and_then (note_same n i) (λ m. Ok (num_note m))
    type_same (record_syntax at x ns) =
        λ i. and_then (resolved_record known x (length ns) at) (λ r. and_then (notes_same ns i) (λ ms. Ok (record_note r ms)))
    type_same (list_type_syntax t) = λ i. and_then (type_same t i) (λ n. Ok (list_note n))
    type_same (bracket_type_syntax t) = type_same t

  -- ---- fields, parameters and results

  field_decls_same : (variables : List (List ℕ)) (before : List FieldTree) (fs : List FieldDeclSyntax) → resolved_field_decls other variables before fs ≡ resolved_field_decls known variables before fs
  field_decls_same variables before [] = refl
  field_decls_same variables before (f ∷ fs) =
      λ i. and_then (unless_taken (is_among (field_names known.program.records) f.name || is_among (map (λ g. g.name) before) f.name) f.at) (λ _.
      and_then (type_same variables false f.type i) (λ n. field_decls_same variables (before ++ record { name = f.name; type = written_type n } ∷ []) fs i))

  pub record_same : (at : ℕ) (x : List ℕ) (vs : List VarSyntax) (fs : List FieldDeclSyntax) → resolved_record_decl other at x vs fs ≡ resolved_record_decl known at x vs fs
  record_same at x vs fs =
      λ i. and_then (unless_taken (is_taken known x) at) (λ _.
      and_then (resolved_parameters [] vs) (λ variables.
      and_then (field_decls_same variables [] fs i) (λ fields. Ok (record { name = x; at = at; units = length variables; fields = fields }))))

  pub params_same : (variables : List (List ℕ)) (before : Scope) (ps : List ParamSyntax) → resolved_params other variables before ps ≡ resolved_params known variables before ps
  params_same variables before [] = refl
  params_same variables before (p ∷ ps) =
      λ i. and_then (unless_repeated before p.binder) (λ _.
      and_then (type_same variables true p.type i) (λ n. and_then (params_same variables (before ++ p.binder.name ∷ []) ps i) (λ ns. Ok (n ∷ ns))))

  pub result_same : (variables : List (List ℕ)) (t : Option TypeSyntax) → resolved_result other variables t ≡ resolved_result known variables t
  result_same variables None = refl
  result_same variables (Some t) = λ i. and_then (type_same variables true t i) (λ n. Ok (Some n))

-- ---- names of rescaled functions

pub names_same : (cs : List Frac) (fs : List FunctionTree) → function_names (map (rescaled_function cs) fs) ≡ function_names fs
names_same cs [] = refl
names_same cs (f ∷ fs) = ap (λ ns. f.name ∷ ns) (names_same cs fs)

pub callables_same : (cs : List Frac) (fs : List FunctionTree) → map callable (map (rescaled_function cs) fs) ≡ map callable fs
callables_same cs [] = refl
callables_same cs (f ∷ fs) = ap (λ xs. callable f ∷ xs) (callables_same cs fs)
