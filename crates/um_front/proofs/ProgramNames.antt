-- What holds of each name that declarations declare holds of each name of the program that they stand for.
use Rattle.std.proofs.Common.{◌≡◌, ℕ, false, ◌||◌, List, [], ◌∷◌, ◌++◌, map, length, ap, subst, Ok}
use Rattle.std.specs.Prelude.{All}
use Rattle.std.proofs.lemmas.List.Elements.{All-nil, All-push}
use Rattle.um_tree.specs.TypeTree.{NoteTree}
use Rattle.um_tree.specs.ProgramTree.{FieldTree, RecordTree, FunctionTree, ProgramTree}
use Rattle.um_tree.specs.RawTree.{VarSyntax, FieldDeclSyntax, FunctionSyntax, DeclSyntax, base_syntax, short_syntax, record_decl_syntax, function_syntax}
use Rattle.um_measures.specs.Faults.{Found, and_then, unless_taken}
use Rattle.um_measures.specs.Known.{Known, nothing, is_among, is_taken, field_names, measure_unit}
use Rattle.um_measures.specs.UnitNames.{resolved_unit}
use Rattle.um_measures.specs.Variables.{named_variables}
use Rattle.um_names.specs.TypeNames.{resolved_type, written_type}
use Rattle.um_names.specs.ExprNames.{resolved_expr}
use Rattle.um_names.specs.Resolution.{resolved_parameters, resolved_field_decls, resolved_record_decl, resolved_params, resolved_result, callables, scope_of, resolved_function}
use Rattle.um_names.specs.Resolution.{with_base, with_short, with_record, with_function, resolved_decl, resolved_decls, resolution, resolved_program}
use Rattle.um_names.proofs.FormedTypes.{then_found}
use Rattle.um_names.proofs.Wholes.{its_name, with_its_name, with_unit_params, with_params, with_result}
use Rattle.um_front.specs.PlaceLaws.{EachName}
use Rattle.um_front.proofs.DeclNames.{FieldsNamed, DeclNamed, DeclsNamed}

-- ---- the names of a function and of a field

function_named : (known : Known) (f : FunctionSyntax) (g : FunctionTree) → resolved_function known f ≡ Ok g → f.name ≡ g.name
function_named known f g e =
    let a = then_found (its_name known f) (with_its_name known f) g e in
    let u = then_found (resolved_parameters [] f.units) (with_unit_params known f) g a.2 in
    let b = then_found (resolved_params known (named_variables (u.0) f) [] f.params) (with_params known f u.0) g u.2 in
    let c = then_found (resolved_result known (named_variables (u.0) f) f.result) (with_result known f u.0 b.0) g b.2 in
    let d = then_found (resolved_expr known (named_variables (u.0) f) (callables known f) (scope_of f) f.body) (λ body. Ok (record {
      name = f.name;
      at = f.at;
      recursive = f.recursive;
      units = length (u.0);
      params = b.0;
      named = length (named_variables (u.0) f);
      result = c.0;
      body = body;
    })) g c.2 in
    let z : FunctionTree = record {
      name = f.name;
      at = f.at;
      recursive = f.recursive;
      units = length (u.0);
      params = b.0;
      named = length (named_variables (u.0) f);
      result = c.0;
      body = d.0;
    } in
    let same : z ≡ g = cc (d.2) in
    ap (λ (h : FunctionTree). h.name) same

module _ (known : Known) (variables : List (List ℕ)) (before : List FieldTree) (f : FieldDeclSyntax) (fs : List FieldDeclSyntax) where
  abbrev field_of : NoteTree → FieldTree
  field_of n = record { name = f.name; type = written_type n }

  abbrev behind_type : NoteTree → Found (List FieldTree)
  behind_type n = resolved_field_decls known variables (before ++ field_of n ∷ []) fs

  abbrev behind_name : Unit {0} → Found (List FieldTree)
  behind_name _ = and_then (resolved_type known variables false f.type) behind_type

  abbrev its_field_name : Found (Unit {0})
  its_field_name = unless_taken (is_among (field_names known.program.records) f.name || is_among (map (λ (g : FieldTree). g.name) before) f.name) f.at

  first_field : (gs : List FieldTree) → resolved_field_decls known variables before (f ∷ fs) ≡ Ok gs → (n : NoteTree) × (behind_type n ≡ Ok gs)
  first_field gs e =
      let a = then_found its_field_name behind_name gs e in
      let b = then_found (resolved_type known variables false f.type) behind_type gs a.2 in
      (b.0, b.2)

-- ---- declaration by declaration

module _ (P : List ℕ → Type 0) where
  abbrev IsFieldNamed : FieldTree → Type 0
  IsFieldNamed f = P f.name

  abbrev IsRecordNamed : RecordTree → Type 0
  IsRecordNamed d = P d.name × All IsFieldNamed d.fields

  abbrev IsFunctionNamed : FunctionTree → Type 0
  IsFunctionNamed f = P f.name

  fields_named : (known : Known) (variables : List (List ℕ)) (before : List FieldTree) (fs : List FieldDeclSyntax) (gs : List FieldTree) → All IsFieldNamed before → FieldsNamed P fs → resolved_field_decls known variables before fs ≡ Ok gs → All IsFieldNamed gs
  fields_named known variables before [] gs held named e = let same : before ≡ gs = cc e in subst (λ (hs : List FieldTree). All IsFieldNamed hs) same held
  fields_named known variables before (f ∷ fs) gs held named e =
      let first = first_field known variables before f fs gs e in
      let g : FieldTree = field_of known variables before f fs first.0 in
      fields_named known variables (before ++ g ∷ []) fs gs (All-push IsFieldNamed before g held named.0) named.1 first.1

  record_named : (known : Known) (at : ℕ) (x : List ℕ) (vs : List VarSyntax) (fs : List FieldDeclSyntax) (d : RecordTree) → P x → FieldsNamed P fs → resolved_record_decl known at x vs fs ≡ Ok d → IsRecordNamed d
  record_named known at x vs fs d own named e =
      let a = then_found (unless_taken (is_taken known x) at) (λ _. and_then (resolved_parameters [] vs) (λ variables. and_then (resolved_field_decls known variables [] fs) (λ fields. Ok (record { name = x; at = at; units = length variables; fields = fields })))) d e in
      let b = then_found (resolved_parameters [] vs) (λ variables. and_then (resolved_field_decls known variables [] fs) (λ fields. Ok (record { name = x; at = at; units = length variables; fields = fields }))) d a.2 in
      let c = then_found (resolved_field_decls known b.0 [] fs) (λ fields. Ok (record { name = x; at = at; units = length (b.0); fields = fields })) d b.2 in
      let z : RecordTree = record { name = x; at = at; units = length (b.0); fields = c.0 } in
      let same : z ≡ d = cc (c.2) in
      subst IsRecordNamed same (own, fields_named known b.0 [] fs c.0 (All-nil IsFieldNamed) named c.1)

  decl_behind : (known : Known) (d : DeclSyntax) (after : Known) → EachName P known.program → DeclNamed P d → resolved_decl known d ≡ Ok after → EachName P after.program
  decl_behind known (base_syntax at x) after held named e =
      let w = then_found (unless_taken (is_taken known x) at) (λ _. Ok (with_base known x)) after e in
      let same : with_base known x ≡ after = cc (w.2) in
      subst (λ (k : Known). EachName P k.program) same (record { bases = All-push P known.program.bases x held.bases named; records = held.records; functions = held.functions })
  decl_behind known (short_syntax at x u) after held named e =
      let w = then_found (unless_taken (is_taken known x) at) (λ _. and_then (resolved_unit (measure_unit known) [] u) (λ v. Ok (with_short known x v))) after e in
      let v = then_found (resolved_unit (measure_unit known) [] u) (λ v. Ok (with_short known x v)) after w.2 in
      let same : with_short known x (v.0) ≡ after = cc (v.2) in
      subst (λ (k : Known). EachName P k.program) same held
  decl_behind known (record_decl_syntax at x vs fs) after held named e =
      let w = then_found (resolved_record_decl known at x vs fs) (λ d. Ok (with_record known d)) after e in
      let same : with_record known (w.0) ≡ after = cc (w.2) in
      let own = record_named known at x vs fs w.0 named.0 named.1 w.1 in
      subst (λ (k : Known). EachName P k.program) same (record { bases = held.bases; records = All-push IsRecordNamed known.program.records w.0 held.records own; functions = held.functions })
  decl_behind known (function_syntax f) after held named e =
      let w = then_found (resolved_function known f) (λ g. Ok (with_function known g)) after e in
      let same : with_function known (w.0) ≡ after = cc (w.2) in
      let own : IsFunctionNamed (w.0) = subst P (function_named known f w.0 w.1) named in
      subst (λ (k : Known). EachName P k.program) same (record { bases = held.bases; records = held.records; functions = All-push IsFunctionNamed known.program.functions w.0 held.functions own })

  decls_behind : (known : Known) (ds : List DeclSyntax) (after : Known) → EachName P known.program → DeclsNamed P ds → resolved_decls known ds ≡ Ok after → EachName P after.program
  decls_behind known [] after held named e = let same : known ≡ after = cc e in subst (λ (k : Known). EachName P k.program) same held
  decls_behind known (d ∷ ds) after held named e =
      let w = then_found (resolved_decl known d) (λ k. resolved_decls k ds) after e in
      decls_behind w.0 ds after (decl_behind known d w.0 held named.0 w.1) named.1 w.2

  pub program_named : (ds : List DeclSyntax) (p : ProgramTree) → DeclsNamed P ds → resolved_program ds ≡ Ok p → EachName P p
  program_named ds p named e =
      let w = then_found (resolution ds) (λ known. Ok known.program) p e in
      let q = (w.0).program in
      let same : q ≡ p = cc (w.2) in
      let none : EachName P nothing.program = record { bases = All-nil P; records = All-nil IsRecordNamed; functions = All-nil IsFunctionNamed } in
      subst (EachName P) same (decls_behind nothing ds w.0 none named w.1)
