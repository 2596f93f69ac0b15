-- A program in tokens whose numbers before units are replaced by those of the rescaled program: it is read again, and
-- stands for the rescaled program.
use Rattle.std.proofs.Common.{◌≡◌, ℕ, ◌+◌, max, Bool, true, false, cond, List, [], ◌∷◌, ◌++◌, length, map, Option, Some, None, refl, sym, ap, subst, ◌∙◌, append_assoc, Ok}
use Rattle.std.specs.Prelude.{nat_lt}
use Rattle.std.specs.List.{flat_map}
use Rattle.std.proofs.lemmas.List.{append-nil, map-append}
use Rattle.um_frac.specs.declared.number.Frac.{Frac}
use Rattle.um_syntax.specs.declared.token.Token.{Token}
use Rattle.um_tree.specs.TypeTree.{NoteTree}
use Rattle.um_tree.specs.ExprTree.{ExprTree}
use Rattle.um_tree.specs.ProgramTree.{FunctionTree}
use Rattle.um_tree.specs.RawTree.{TypeSyntax, VarSyntax, FieldDeclSyntax, ParamSyntax, FunctionSyntax, DeclSyntax, base_syntax, short_syntax, record_decl_syntax, function_syntax}
use Rattle.um_measures.specs.Faults.{Found, and_then, unless_taken}
use Rattle.um_measures.specs.Known.{Known, is_among, is_taken, function_names, measure_unit}
use Rattle.um_measures.specs.UnitNames.{resolved_unit}
use Rattle.um_measures.specs.Variables.{type_variables, result_variables, first_occurrences, named_variables}
use Rattle.um_names.proofs.FormedTypes.{then_found}
use Rattle.um_names.specs.ExprNames.{resolved_expr}
use Rattle.um_names.specs.Resolution.{resolved_parameters, resolved_record_decl, resolved_params, resolved_result, callables, scope_of, resolved_function, with_base, with_short, with_record, with_function, resolved_decl, resolved_decls}
use Rattle.um_decls.specs.DeclHeights.{params_height, result_height}
use Rattle.um_types.specs.declared.parse.LimitKind.TheVariants as limit
use Rattle.um_parse.specs.ProgramHeights.{decl_height, program_height}
use Rattle.um_parse.specs.ProgramLimits.{most_functions, most_parameters, most_unit_parameters, most_nodes, functions_in, passed_limit, WithinLimits}
use Rattle.um_parse.specs.DeclGrammar.{Attribute, VarSpells, MoreVars, VarsSpell, FieldDeclSpells, MoreFieldDecls, FieldDeclsSpell, ParamSpells, ParamsSpell, ResultSpells, RecSpells, FunctionSpells, DeclSpells, DeclsSpell, DeclFits, DeclsFit}
use Rattle.um_scale.specs.Sizes.{AreSizes}
use Rattle.um_scale.specs.RescaledLiterals.{rescaled, rescaled_function}
use Rattle.um_scale.specs.RescaledText.{literals, literals_of}
use Rattle.um_rescaled.proofs.Picks.{Segment, joint, made, listed, before, empty}
use Rattle.um_rescaled.proofs.UnitsReplaced.{unit_replaced, type_replaced}
use Rattle.um_rescaled.proofs.TokensReplaced.{Stays, first, first_at, bound_replaced}
use Rattle.um_rescaled.proofs.ExprSizes.{Size}
use Rattle.um_rescaled.proofs.OtherFunctions.{with_functions, rescaled_known, record_same, params_same, result_same, names_same, callables_same}
use Rattle.um_rescaled.proofs.ExprsReplaced.{one_found, expr_again}

-- ---- parts of declarations: they stay

module _ (numbers : ℕ → Option Frac) where
  attribute_stays : (tokens rest : List Token) → Attribute tokens rest → Stays numbers tokens rest (λ x y. Attribute x y)
  attribute_stays tokens rest s =
      made numbers (before numbers (first numbers _ tokens s.0 s.3) (before numbers (first numbers _ s.0 s.1 s.4) (before numbers (first numbers _ s.1 s.2 s.5) (first numbers _ s.2 rest s.6))))
      (λ x y g. (g.mid, g.second.mid, g.second.second.mid, g.first, g.second.first, g.second.second.first, g.second.second.second))

  var_stays : (v : VarSyntax) (tokens rest : List Token) → VarSpells v tokens rest → Stays numbers tokens rest (λ x y. VarSpells v x y)
  var_stays v tokens rest s = made numbers (before numbers (attribute_stays tokens s.0 s.1) (first_at numbers _ v.at s.0 rest s.2)) (λ x y g. (g.mid, g.first, g.second))

  more_vars_stay : (vs : List VarSyntax) (tokens rest : List Token) → MoreVars vs tokens rest → Stays numbers tokens rest (λ x y. MoreVars vs x y)
  more_vars_stay [] tokens rest s = empty numbers tokens rest s
  more_vars_stay (v ∷ vs) tokens rest s =
      made numbers (before numbers (first numbers _ tokens s.0 s.2) (before numbers (var_stays v s.0 s.1 s.3) (more_vars_stay vs s.1 rest s.4)))
      (λ x y g. (g.mid, g.second.mid, g.first, g.second.first, g.second.second))

  vars_stay : (vs : List VarSyntax) (tokens rest : List Token) → VarsSpell vs tokens rest → Stays numbers tokens rest (λ x y. VarsSpell vs x y)
  vars_stay [] tokens rest s = empty numbers tokens rest s
  vars_stay (v ∷ vs) tokens rest s =
      made numbers (before numbers (first numbers _ tokens s.0 s.3) (before numbers (var_stays v s.0 s.1 s.4) (before numbers (more_vars_stay vs s.1 s.2 s.5) (first numbers _ s.2 rest s.6))))
      (λ x y g. (g.mid, g.second.mid, g.second.second.mid, g.first, g.second.first, g.second.second.first, g.second.second.second))

  field_stays : (f : FieldDeclSyntax) (tokens rest : List Token) → FieldDeclSpells f tokens rest → Stays numbers tokens rest (λ x y. FieldDeclSpells f x y)
  field_stays f tokens rest s =
      made numbers (before numbers (first_at numbers _ f.at tokens s.0 s.2) (before numbers (first numbers _ s.0 s.1 s.3) (type_replaced numbers f.type s.1 rest s.4)))
      (λ x y g. (g.mid, g.second.mid, g.first, g.second.first, g.second.second))

  more_fields_stay : (fs : List FieldDeclSyntax) (tokens rest : List Token) → MoreFieldDecls fs tokens rest → Stays numbers tokens rest (λ x y. MoreFieldDecls fs x y)
  more_fields_stay [] tokens rest s = empty numbers tokens rest s
  more_fields_stay (f ∷ fs) tokens rest s =
      made numbers (before numbers (first numbers _ tokens s.0 s.2) (before numbers (field_stays f s.0 s.1 s.3) (more_fields_stay fs s.1 rest s.4)))
      (λ x y g. (g.mid, g.second.mid, g.first, g.second.first, g.second.second))

  fields_stay : (fs : List FieldDeclSyntax) (tokens rest : List Token) → FieldDeclsSpell fs tokens rest → Stays numbers tokens rest (λ x y. FieldDeclsSpell fs x y)
  fields_stay [] tokens rest s = absurd s
  fields_stay (f ∷ fs) tokens rest s =
      made numbers (before numbers (field_stays f tokens s.0 s.1) (more_fields_stay fs s.0 rest s.2)) (λ x y g. (g.mid, g.first, g.second))

  param_stays : (p : ParamSyntax) (tokens rest : List Token) → ParamSpells p tokens rest → Stays numbers tokens rest (λ x y. ParamSpells p x y)
  param_stays p tokens rest s =
      made numbers
      (before numbers (first numbers _ tokens s.0 s.4)
      (before numbers (bound_replaced numbers p.binder s.0 s.1 s.5) (before numbers (first numbers _ s.1 s.2 s.6) (before numbers (type_replaced numbers p.type s.2 s.3 s.7) (first numbers _ s.3 rest s.8)))))
      (λ x y g. let h = g.second in let i = h.second in let j = i.second in (g.mid, h.mid, i.mid, j.mid, g.first, h.first, i.first, j.first, j.second))

  params_stay : (ps : List ParamSyntax) (tokens rest : List Token) → ParamsSpell ps tokens rest → Stays numbers tokens rest (λ x y. ParamsSpell ps x y)
  params_stay [] tokens rest s = empty numbers tokens rest s
  params_stay (p ∷ ps) tokens rest s =
      made numbers (before numbers (param_stays p tokens s.0 s.1) (params_stay ps s.0 rest s.2)) (λ x y g. (g.mid, g.first, g.second))

  result_stays : (t : Option TypeSyntax) (tokens rest : List Token) → ResultSpells t tokens rest → Stays numbers tokens rest (λ x y. ResultSpells t x y)
  result_stays None tokens rest s = empty numbers tokens rest s
  result_stays (Some t) tokens rest s =
      made numbers (before numbers (first numbers _ tokens s.0 s.1) (type_replaced numbers t s.0 rest s.2)) (λ x y g. (g.mid, g.first, g.second))

  rec_stays : (b : Bool) (tokens rest : List Token) → RecSpells b tokens rest → Stays numbers tokens rest (λ x y. RecSpells b x y)
  rec_stays false tokens rest s = empty numbers tokens rest s
  rec_stays true tokens rest s = first numbers _ tokens rest s

-- ---- what a function stands for, step by step

module _ (known : Known) (f : FunctionSyntax) where
  abbrev made_function : (units variables : List (List ℕ)) → List NoteTree → Option NoteTree → ExprTree → FunctionTree
  made_function units variables params result body = record {
    name = f.name;
    at = f.at;
    recursive = f.recursive;
    units = length units;
    params = params;
    named = length variables;
    result = result;
    body = body;
  }

  abbrev by_body : (units variables : List (List ℕ)) → List NoteTree → Option NoteTree → Found FunctionTree
  by_body units variables params result =
      and_then (resolved_expr known variables (callables known f) (scope_of f) f.body) (λ body. Ok (made_function units variables params result body))

  abbrev by_result : (units variables : List (List ℕ)) → List NoteTree → Found FunctionTree
  by_result units variables params = and_then (resolved_result known variables f.result) (λ result. by_body units variables params result)

  abbrev by_params : (units variables : List (List ℕ)) → Found FunctionTree
  by_params units variables = and_then (resolved_params known variables [] f.params) (λ params. by_result units variables params)

  abbrev by_units : Found FunctionTree
  by_units = and_then (resolved_parameters [] f.units) (λ units. by_params units (named_variables units f))

module _ (cs : List Frac) (above : AreSizes cs) (numbers : ℕ → Option Frac) where
  -- ---- functions

  record FunctionAgain (f : FunctionSyntax) (known : Known) (g : FunctionTree) (tokens rest : List Token) : Type 0 where
    pub again : FunctionSyntax
    pub segment : Segment numbers (literals (rescaled cs g.body)) tokens rest (λ x y. FunctionSpells again x y)
    pub fits : DeclFits (function_syntax again)
    pub height : decl_height (function_syntax again) ≡ decl_height (function_syntax f)
    pub limit : (before : ℕ) → passed_limit before (function_syntax again) ≡ passed_limit before (function_syntax f)
    pub resolved : resolved_function (rescaled_known cs known) again ≡ Ok (rescaled_function cs g)

  function_again : (f : FunctionSyntax) (known : Known) (g : FunctionTree) (tokens rest : List Token) → FunctionSpells f tokens rest → DeclFits (function_syntax f) → resolved_function known f ≡ Ok g → FunctionAgain f known g tokens rest
  function_again f known g tokens rest s fits is =
      let functions = known.program.functions in
      let new = unless_taken (is_among (function_names functions) f.name) f.at in
      let w = then_found new (λ _. by_units known f) g is in
      let u = then_found (resolved_parameters [] f.units) (λ units. by_params known f units (named_variables units f)) g w.2 in
      let units = u.0 in
      let variables = named_variables units f in
      let v = then_found (resolved_params known variables [] f.params) (λ params. by_result known f units variables params) g u.2 in
      let z = then_found (resolved_result known variables f.result) (λ result. by_body known f units variables v.0 result) g v.2 in
      let e = one_found (resolved_expr known variables (callables known f) (scope_of f) f.body) (made_function known f units variables v.0 z.0) g z.2 in
      let others = map (rescaled_function cs) functions in
      let b = expr_again cs above numbers known others variables (callables known f) f.body (scope_of f) e.0 s.6 rest s.14 fits.2 e.1 in
      let h : FunctionSyntax = record f { body = b.again } in
      let other = rescaled_known cs known in
      let named : unless_taken (is_among (function_names others) f.name) f.at ≡ Ok w.0 = ap (λ ns. unless_taken (is_among ns f.name) f.at) (names_same cs functions) ∙ w.1 in
      let occurring : named_variables units h ≡ variables = ap (λ vs. first_occurrences units (flat_map (λ p. type_variables p.type) f.params ++ result_variables f.result ++ vs)) b.occurring in
      let calls : callables other h ≡ callables known f = ap (λ xs. xs ++ cond f.recursive (record { name = f.name; params = length f.params } ∷ []) []) (callables_same cs functions) in
      subst (λ k. FunctionAgain f known k tokens rest) e.2 (record {
        again = h;
        segment = made numbers
            (before numbers (first numbers _ tokens s.0 s.7) (before numbers (rec_stays numbers f.recursive s.0 s.1 s.8) (before numbers (first_at numbers _ f.at s.1 s.2 s.9) (before numbers (vars_stay numbers f.units s.2 s.3 s.10)
            (before numbers (params_stay numbers f.params s.3 s.4 s.11) (before numbers (result_stays numbers f.result s.4 s.5 s.12) (before numbers (first numbers _ s.5 s.6 s.13) b.segment)))))))
            (λ x y g. let h = g.second in let i = h.second in let j = i.second in let k = j.second in let l = k.second in let m = l.second in (g.mid, h.mid, i.mid, j.mid, k.mid, l.mid, m.mid, g.first, h.first, i.first, j.first, k.first, l.first, m.first, m.second));
        fits = (fits.0, fits.1, b.fits);
        height = ap (λ (z : Size). max (params_height f.params) (max (result_height f.result) (max z.height z.notes))) b.sized;
        limit = λ before. ap (λ (z : Size).
            cond (nat_lt most_functions (before + 1)) (Some limit.Functions) (cond (nat_lt most_parameters (length f.params)) (Some limit.Parameters)
            (cond (nat_lt most_unit_parameters (length f.units)) (Some limit.UnitParameters) (cond (nat_lt most_nodes z.nodes) (Some limit.Nodes) None)))) b.sized;
        resolved =
            (λ i. and_then (named i) (λ _. by_units other h)) ∙ (λ i. and_then (u.1 i) (λ units. by_params other h units (named_variables units h))) ∙ ap (by_params other h units) occurring
            ∙ (λ i. and_then ((params_same known others variables [] f.params ∙ v.1) i) (λ params. by_result other h units variables params))
            ∙ (λ i. and_then ((result_same known others variables f.result ∙ z.1) i) (λ result. by_body other h units variables v.0 result))
            ∙ (λ i. and_then ((ap (λ c. resolved_expr other variables c (scope_of f) b.again) calls ∙ b.resolved) i) (λ body. Ok (made_function other h units variables v.0 z.0 body)));
      })

  -- ---- declarations

  record DeclAgain (d : DeclSyntax) (known end : Known) (tokens rest : List Token) : Type 0 where
    pub again : DeclSyntax
    pub added : List FunctionTree
    pub functions : end.program.functions ≡ known.program.functions ++ added
    pub segment : Segment numbers (literals_of (map (rescaled_function cs) added)) tokens rest (λ x y. DeclSpells again x y)
    pub fits : DeclFits again
    pub height : decl_height again ≡ decl_height d
    pub limit : (before : ℕ) → passed_limit before again ≡ passed_limit before d
    pub count : functions_in again ≡ functions_in d
    pub resolved : resolved_decl (rescaled_known cs known) again ≡ Ok (rescaled_known cs end)

  decl_again : (d : DeclSyntax) (known end : Known) (tokens rest : List Token) → DeclSpells d tokens rest → DeclFits d → resolved_decl known d ≡ Ok end → DeclAgain d known end tokens rest
  decl_again (base_syntax at x) known end tokens rest s fits is =
      let w = one_found (unless_taken (is_taken known x) at) (λ _. with_base known x) end is in
      subst (λ k. DeclAgain (base_syntax at x) known k tokens rest) w.2 (record {
        again = base_syntax at x;
        added = [];
        functions = sym (append-nil known.program.functions);
        segment = made numbers (before numbers (attribute_stays numbers tokens s.0 s.2) (before numbers (first numbers _ s.0 s.1 s.3) (first_at numbers _ at s.1 rest s.4))) (λ x y g. (g.mid, g.second.mid, g.first, g.second.first, g.second.second));
        fits = tt;
        height = refl;
        limit = λ before. refl;
        count = refl;
        resolved = λ i. and_then (w.1 i) (λ _. Ok (with_base (rescaled_known cs known) x));
      })
  decl_again (short_syntax at x u) known end tokens rest s fits is =
      let w = then_found (unless_taken (is_taken known x) at) (λ _. and_then (resolved_unit (measure_unit known) [] u) (λ v. Ok (with_short known x v))) end is in
      let v = one_found (resolved_unit (measure_unit known) [] u) (with_short known x) end w.2 in
      subst (λ k. DeclAgain (short_syntax at x u) known k tokens rest) v.2 (record {
        again = short_syntax at x u;
        added = [];
        functions = sym (append-nil known.program.functions);
        segment = made numbers
            (before numbers (attribute_stays numbers tokens s.0 s.4) (before numbers (first numbers _ s.0 s.1 s.5) (before numbers (first_at numbers _ at s.1 s.2 s.6) (before numbers (first numbers _ s.2 s.3 s.7) (unit_replaced numbers u s.3 rest s.8)))))
            (λ x y g. (g.mid, g.second.mid, g.second.second.mid, g.second.second.second.mid, g.first, g.second.first, g.second.second.first, g.second.second.second.first, g.second.second.second.second));
        fits = fits;
        height = refl;
        limit = λ before. refl;
        count = refl;
        resolved = λ i. and_then (w.1 i) (λ _. and_then (v.1 i) (λ v. Ok (with_short (rescaled_known cs known) x v)));
      })
  decl_again (record_decl_syntax at x vs fs) known end tokens rest s fits is =
      let w = one_found (resolved_record_decl known at x vs fs) (with_record known) end is in
      subst (λ k. DeclAgain (record_decl_syntax at x vs fs) known k tokens rest) w.2 (record {
        again = record_decl_syntax at x vs fs;
        added = [];
        functions = sym (append-nil known.program.functions);
        segment = made numbers
            (before numbers (first numbers _ tokens s.0 s.6) (before numbers (first_at numbers _ at s.0 s.1 s.7) (before numbers (vars_stay numbers vs s.1 s.2 s.8) (before numbers (first numbers _ s.2 s.3 s.9)
            (before numbers (first numbers _ s.3 s.4 s.10) (before numbers (fields_stay numbers fs s.4 s.5 s.11) (first numbers _ s.5 rest s.12)))))))
            (λ x y g. let h = g.second in let i = h.second in let j = i.second in let k = j.second in let l = k.second in (g.mid, h.mid, i.mid, j.mid, k.mid, l.mid, g.first, h.first, i.first, j.first, k.first, l.first, l.second));
        fits = fits;
        height = refl;
        limit = λ before. refl;
        count = refl;
        resolved = λ i. and_then ((record_same known (map (rescaled_function cs) known.program.functions) at x vs fs ∙ w.1) i) (λ d. Ok (with_record (rescaled_known cs known) d));
      })
  decl_again (function_syntax f) known end tokens rest s fits is =
      let functions = known.program.functions in
      let w = one_found (resolved_function known f) (with_function known) end is in
      let b = function_again f known w.0 tokens rest s fits w.1 in
      subst (λ k. DeclAgain (function_syntax f) known k tokens rest) w.2 (record {
        again = function_syntax b.again;
        added = w.0 ∷ [];
        functions = refl;
        segment = listed numbers (sym (append-nil (literals (rescaled cs (w.0).body)))) b.segment;
        fits = b.fits;
        height = b.height;
        limit = b.limit;
        count = refl;
        resolved =
            (λ i. and_then (b.resolved i) (λ g. Ok (with_function (rescaled_known cs known) g)))
            ∙ ap (λ fs. Ok (with_functions known fs)) (sym (map-append (rescaled_function cs) functions (w.0 ∷ [])));
      })

  -- ---- programs

  pub record DeclsAgain (ds : List DeclSyntax) (known end : Known) (tokens rest : List Token) : Type 0 where
    pub again : List DeclSyntax
    pub added : List FunctionTree
    pub functions : end.program.functions ≡ known.program.functions ++ added
    pub segment : Segment numbers (literals_of (map (rescaled_function cs) added)) tokens rest (λ x y. DeclsSpell again x y)
    pub fits : DeclsFit again
    pub height : program_height again ≡ program_height ds
    pub within : (before : ℕ) → WithinLimits before ds → WithinLimits before again
    pub resolved : resolved_decls (rescaled_known cs known) again ≡ Ok (rescaled_known cs end)

  literals_append : (fs gs : List FunctionTree) → literals_of (map (rescaled_function cs) fs) ++ literals_of (map (rescaled_function cs) gs) ≡ literals_of (map (rescaled_function cs) (fs ++ gs))
  literals_append [] gs = refl
  literals_append (f ∷ fs) gs =
      append_assoc (literals (rescaled cs f.body)) (literals_of (map (rescaled_function cs) fs)) (literals_of (map (rescaled_function cs) gs))
      ∙ ap (λ ls. literals (rescaled cs f.body) ++ ls) (literals_append fs gs)

  pub decls_again : (ds : List DeclSyntax) (known end : Known) (tokens rest : List Token) → DeclsSpell ds tokens rest → DeclsFit ds → resolved_decls known ds ≡ Ok end → DeclsAgain ds known end tokens rest
  decls_again [] known end tokens rest s fits is =
      let same : known ≡ end = cc is in
      subst (λ k. DeclsAgain [] known k tokens rest) same (record { again = []; added = []; functions = sym (append-nil known.program.functions); segment = empty numbers tokens rest s; fits = tt; height = refl; within = λ before w. tt; resolved = refl })
  decls_again (d ∷ ds) known end tokens rest s fits is =
      let w = then_found (resolved_decl known d) (λ after. resolved_decls after ds) end is in
      let p = decl_again d known w.0 tokens s.0 s.1 fits.0 w.1 in
      let q = decls_again ds w.0 end s.0 rest s.2 fits.1 w.2 in
      record {
        again = p.again ∷ q.again;
        added = p.added ++ q.added;
        functions = q.functions ∙ ap (λ fs. fs ++ q.added) p.functions ∙ append_assoc known.program.functions p.added q.added;
        segment = listed numbers (literals_append p.added q.added) (made numbers (joint numbers p.segment q.segment) (λ x y g. (g.mid, g.first, g.second)));
        fits = (p.fits, q.fits);
        height = λ i. max (p.height i) (q.height i);
        within = λ before w. (p.limit before ∙ w.0, subst (λ n. WithinLimits n q.again) (ap (λ n. before + n) (sym p.count)) (q.within (before + functions_in d) w.1));
        resolved = (λ i. and_then (p.resolved i) (λ after. resolved_decls after q.again)) ∙ q.resolved;
      }
