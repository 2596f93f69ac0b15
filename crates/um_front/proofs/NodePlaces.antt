-- Each node of a program stands before a character of its text: it begins where a token does.
use Rattle.std.proofs.Common.{◌≡◌, ℕ, List, [], ◌∷◌, length, subst, Ok}
use Rattle.std.specs.Prelude.{All}
use Rattle.std.proofs.lemmas.List.Elements.{All-nil, All-push, All-weaker}
use Rattle.um_tree.specs.ProgramTree.{RecordTree, FunctionTree, ProgramTree}
use Rattle.um_tree.specs.RawTree.{VarSyntax, FieldDeclSyntax, FunctionSyntax, DeclSyntax, base_syntax, short_syntax, record_decl_syntax, function_syntax}
use Rattle.um_measures.specs.Faults.{and_then, unless_taken}
use Rattle.um_measures.specs.Known.{Known, nothing, is_taken, measure_unit}
use Rattle.um_measures.specs.UnitNames.{resolved_unit}
use Rattle.um_measures.specs.Variables.{named_variables}
use Rattle.um_names.specs.ExprNames.{resolved_expr}
use Rattle.um_names.specs.Resolution.{resolved_parameters, resolved_params, resolved_field_decls, resolved_record_decl, resolved_result, callables, scope_of, resolved_function}
use Rattle.um_names.specs.Resolution.{with_base, with_short, with_record, with_function, resolved_decl, resolved_decls, resolution, resolved_program}
use Rattle.um_names.proofs.FormedTypes.{then_found}
use Rattle.um_names.proofs.Wholes.{its_name, with_its_name, with_unit_params, with_params, with_result}
use Rattle.um_front.specs.Places.{IsPlace, EachPlace, EachProgramPlace}
use Rattle.um_front.specs.PlaceLaws.{NodesHavePlaces}
use Rattle.um_front.proofs.TokenPlaces.{tokens_start}
use Rattle.um_front.proofs.DeclPlaces.{FunctionHolds, DeclHolds, DeclsHold, decls_hold}
use Rattle.um_front.proofs.ResolvedPlaces.{places}

module _ (P : ℕ → Type 0) where
  -- ---- the program that they stand for

  abbrev Holds : FunctionTree → Type 0
  Holds f = P f.at × EachPlace P f.body

  abbrev Declares : RecordTree → Type 0
  Declares d = P d.at

  function_holds : (known : Known) (f : FunctionSyntax) (g : FunctionTree) → FunctionHolds P f → resolved_function known f ≡ Ok g → Holds g
  function_holds known f g h e =
      let a = then_found (its_name known f) (with_its_name known f) g e in
      let u = then_found (resolved_parameters [] f.units) (with_unit_params known f) g a.2 in
      let b = then_found (resolved_params known (named_variables (u.0) f) [] f.params) (with_params known f u.0) g u.2 in
      let c = then_found (resolved_result known (named_variables (u.0) f) f.result) (with_result known f u.0 b.0) g b.2 in
      let d = then_found (resolved_expr known (named_variables (u.0) f) (callables known f) (scope_of f) f.body) (λ body. Ok (record {
        name = f.name;
        at = f.at;
        recursive = f.recursive;
        units = length (u.0);
        params = b.0;
        named = length (named_variables (u.0) f);
        result = c.0;
        body = body;
      })) g c.2 in
      let z : FunctionTree = record {
        name = f.name;
        at = f.at;
        recursive = f.recursive;
        units = length (u.0);
        params = b.0;
        named = length (named_variables (u.0) f);
        result = c.0;
        body = d.0;
      } in
      let same : z ≡ g = cc (d.2) in
      subst Holds same (h.0, places P known (named_variables (u.0) f) (callables known f) (scope_of f) f.body d.0 h.4 d.1)

  record_holds : (known : Known) (at : ℕ) (x : List ℕ) (vs : List VarSyntax) (fs : List FieldDeclSyntax) (d : RecordTree) → P at → resolved_record_decl known at x vs fs ≡ Ok d → Declares d
  record_holds known at x vs fs d h e =
      let a = then_found (unless_taken (is_taken known x) at) (λ _. and_then (resolved_parameters [] vs) (λ us. and_then (resolved_field_decls known us [] fs) (λ gs. Ok (record { name = x; at = at; units = length us; fields = gs })))) d e in
      let b = then_found (resolved_parameters [] vs) (λ us. and_then (resolved_field_decls known us [] fs) (λ gs. Ok (record { name = x; at = at; units = length us; fields = gs }))) d a.2 in
      let c = then_found (resolved_field_decls known b.0 [] fs) (λ gs. Ok (record { name = x; at = at; units = length (b.0); fields = gs })) d b.2 in
      let z : RecordTree = record { name = x; at = at; units = length (b.0); fields = c.0 } in
      let same : z ≡ d = cc (c.2) in
      subst Declares same h

  -- P holds of what is known
  abbrev KnownHolds : Known → Type 0
  KnownHolds known = All Declares known.program.records × All Holds known.program.functions

  decl_behind : (known : Known) (d : DeclSyntax) (after : Known) → KnownHolds known → DeclHolds P d → resolved_decl known d ≡ Ok after → KnownHolds after
  decl_behind known (base_syntax at x) after held h e =
      let w = then_found (unless_taken (is_taken known x) at) (λ _. Ok (with_base known x)) after e in
      let same : with_base known x ≡ after = cc (w.2) in
      subst KnownHolds same held
  decl_behind known (short_syntax at x u) after held h e =
      let w = then_found (unless_taken (is_taken known x) at) (λ _. and_then (resolved_unit (measure_unit known) [] u) (λ v. Ok (with_short known x v))) after e in
      let v = then_found (resolved_unit (measure_unit known) [] u) (λ v. Ok (with_short known x v)) after w.2 in
      let same : with_short known x (v.0) ≡ after = cc (v.2) in
      subst KnownHolds same held
  decl_behind known (record_decl_syntax at x vs fs) after held h e =
      let w = then_found (resolved_record_decl known at x vs fs) (λ d. Ok (with_record known d)) after e in
      let same : with_record known (w.0) ≡ after = cc (w.2) in
      subst KnownHolds same (All-push Declares known.program.records w.0 held.0 (record_holds known at x vs fs w.0 h.0 w.1), held.1)
  decl_behind known (function_syntax f) after held h e =
      let w = then_found (resolved_function known f) (λ g. Ok (with_function known g)) after e in
      let same : with_function known (w.0) ≡ after = cc (w.2) in
      subst KnownHolds same (held.0, All-push Holds known.program.functions w.0 held.1 (function_holds known f w.0 h w.1))

  decls_behind : (known : Known) (ds : List DeclSyntax) (after : Known) → KnownHolds known → DeclsHold P ds → resolved_decls known ds ≡ Ok after → KnownHolds after
  decls_behind known [] after held h e = let same : known ≡ after = cc e in subst KnownHolds same held
  decls_behind known (d ∷ ds) after held h e =
      let w = then_found (resolved_decl known d) (λ k. resolved_decls k ds) after e in
      decls_behind w.0 ds after (decl_behind known d w.0 held h.0 w.1) h.1 w.2

  pub program_holds : (ds : List DeclSyntax) (p : ProgramTree) → DeclsHold P ds → resolved_program ds ≡ Ok p → EachProgramPlace P p
  program_holds ds p h e =
      let w = then_found (resolution ds) (λ known. Ok known.program) p e in
      let same : (w.0).program ≡ p = cc (w.2) in
      let all = decls_behind nothing ds w.0 (All-nil Declares, All-nil Holds) h w.1 in
      subst (EachProgramPlace P) same (record { records = all.0; functions = all.1 })

pub nodes_have_places : NodesHavePlaces
nodes_have_places bytes tokens ds p lexed read resolved =
    let starts = tokens_start bytes tokens lexed.0 lexed.1 in
    let whole = program_holds (IsPlace bytes) ds p (decls_hold (IsPlace bytes) ds tokens [] read.is.spelled read.is.fits starts) resolved in
    All-weaker (λ f. IsPlace bytes f.at × EachPlace (IsPlace bytes) f.body) (λ f. EachPlace (IsPlace bytes) f.body) (λ f h. h.1) p.functions whole.functions
