-- The functions of a text that was read are formed.
use Rattle.std.proofs.Common.{◌≡◌, ℕ, zero, suc, ◌≤◌, ◌+◌, Bool, true, false, cond, List, [], ◌∷◌, ◌++◌, map, length, refl, sym, ap, subst, ◌∙◌, arith, inl, inr, Ok, Err, append-nil}
use Rattle.std.specs.Prelude.{Option, Some, None, All, IsTrue, IsSome, slice_get, ◌⊎◌, ◌==◌}
use Rattle.std.proofs.lemmas.List.{map-append, length-map}
use Rattle.std.proofs.lemmas.List.Elements.{All-nil, All-cons}
use Rattle.um_tree.specs.TypeTree.{NoteTree}
use Rattle.um_tree.specs.TreeHeights.{note_tree_height}
use Rattle.um_tree.specs.Heights.{greatest_height, type_height}
use Rattle.um_tree.specs.ExprTree.{ExprTree}
use Rattle.um_tree.specs.ProgramTree.{FunctionTree}
use Rattle.um_tree.specs.Formed.{AreNames, IsNoteTreeIn, MayCall, ResultFormed, IsFormedIn, IsFormedFunction}
use Rattle.um_tree.specs.RawTree.{TypeSyntax, ParamSyntax, FunctionSyntax}
use Rattle.um_names.specs.declared.callable.Callable.{Callable}
use Rattle.um_measures.specs.Faults.{and_then, wrong_count}
use Rattle.um_measures.specs.Known.{Known, number_of, is_among, function_names}
use Rattle.um_names.specs.TypeNames.{resolved_type}
use Rattle.um_measures.specs.Variables.{occurring, named_variables}
use Rattle.um_measures.specs.Scopes.{Scope}
use Rattle.um_names.specs.ExprNames.{callable_of, numbered_function, with_arguments, resolved_expr}
use Rattle.um_names.specs.Resolution.{resolved_parameters, unless_repeated, resolved_params, resolved_result, callable, callables, scope_of, resolved_function, with_function}
use Rattle.um_names.specs.Readable.{AreReadParams, IsReadResult, IsReadFunction}
use Rattle.um_names.proofs.CallableNames.{slice_get-prefix, slice_get-last}
use Rattle.um_names.proofs.FormedTypes.{then_found, type_in, slice_get-below, same_count}
use Rattle.um_names.proofs.FormedExprs.{expr_in}
use Rattle.um_names.proofs.FormedNames.{AreFresh, fresh_inserted, names-append, names-one}
use Rattle.um_names.proofs.FormedMore.{function_more, record_more, extends_function, slice_get-split}
use Rattle.um_names.proofs.FormedDecls.{IsSound, not_taken, parameters-count}
use Rattle.um_names.proofs.Wholes.{its_name, with_its_name, with_unit_params, with_params, with_result}
use Rattle.um_measures.proofs.Occurrences.{occurrences_grow}

module _ (known : Known) (variables : List (List ℕ)) (s : IsSound known) where
  abbrev IsNote : NoteTree → Type 0
  IsNote n = IsNoteTreeIn (length known.program.bases) (length variables) known.program.records n × (note_tree_height n ≤ greatest_height)

  note_sound : (t : TypeSyntax) (n : NoteTree) → type_height t ≤ greatest_height → resolved_type known variables true t ≡ Ok n → IsNote n
  note_sound t n low e = let w = type_in known variables true s.closed t n e in (w.0, omega (arith, w.1, low))

  params_sound : (before : Scope) (ps : List ParamSyntax) (ns : List NoteTree) → AreReadParams ps → resolved_params known variables before ps ≡ Ok ns → All IsNote ns × (length ns ≡ length ps)
  params_sound before [] ns r e = let same : [] ≡ ns = cc e in subst (λ (ms : List NoteTree). All IsNote ms × (length ms ≡ 0)) same (All-nil IsNote, refl)
  params_sound before (p ∷ ps) ns r e =
      let a = then_found (unless_repeated before p.binder) (λ _. and_then (resolved_type known variables true p.type) (λ n. and_then (resolved_params known variables (before ++ p.binder.name ∷ []) ps) (λ ms. Ok (n ∷ ms)))) ns e in
      let b = then_found (resolved_type known variables true p.type) (λ n. and_then (resolved_params known variables (before ++ p.binder.name ∷ []) ps) (λ ms. Ok (n ∷ ms))) ns a.2 in
      let c = then_found (resolved_params known variables (before ++ p.binder.name ∷ []) ps) (λ ms. Ok (b.0 ∷ ms)) ns b.2 in
      let rest = params_sound (before ++ p.binder.name ∷ []) ps c.0 r.1 c.1 in
      let same : b.0 ∷ c.0 ≡ ns = cc (c.2) in
      subst (λ (ms : List NoteTree). All IsNote ms × (length ms ≡ length (p ∷ ps))) same (All-cons IsNote b.0 c.0 (note_sound p.type b.0 r.0 b.1) rest.0, ap suc rest.1)

  abbrev IsResult : Option NoteTree → Type 0
  IsResult None = Unit {0}
  IsResult (Some n) = IsNote n

  result_sound : (t : Option TypeSyntax) (n : Option NoteTree) → IsReadResult t → resolved_result known variables t ≡ Ok n → IsResult n × (IsSome t → IsSome n)
  result_sound None n r e = let same : None ≡ n = cc e in subst (λ o. IsResult o × (IsSome {T = TypeSyntax} None → IsSome o)) same (tt, λ h. absurd cc)
  result_sound (Some t) n r e =
      let w = then_found (resolved_type known variables true t) (λ m. Ok (Some m)) n e in
      let same : Some (w.0) ≡ n = cc (w.2) in
      subst (λ o. IsResult o × (IsSome (Some t) → IsSome o)) same (note_sound t w.0 r w.1, λ h. refl)

-- ---- calls

callable_at : (fs : List FunctionTree) (own : List Callable) (j : ℕ) (c : Callable) → slice_get (map callable fs ++ own) j ≡ Some c → ((g : FunctionTree) × (slice_get fs j ≡ Some g) × (c.params ≡ length g.params)) ⊎ ((k : ℕ) × (slice_get own k ≡ Some c) × (j ≡ length fs + k))
callable_at [] own j c e = inr (j, e, omega arith)
callable_at (g ∷ fs) own zero c e = let same : callable g ≡ c = cc e in inl (g, refl, ap (λ (z : Callable). z.params) (sym same))
callable_at (g ∷ fs) own (suc j) c e = elim (callable_at fs own j c e) [ inl w ↦ inl w | inr w ↦ inr (w.0, w.1, (let l = w.2 in omega (arith, l))) ]

-- only a `rec` function is its own
own_at : (recursive : Bool) (own c : Callable) (k : ℕ) → slice_get (cond recursive (own ∷ []) []) k ≡ Some c → IsTrue recursive × (k ≡ 0) × (c.params ≡ own.params)
own_at true own c zero e = let same : own ≡ c = cc e in (refl, refl, ap (λ (z : Callable). z.params) (sym same))
own_at true own c (suc k) e = absurd cc
own_at false own c k e = absurd cc

-- what is called is there, with so many parameters
found_callable : (cs : List Callable) (o : Option ℕ) (n at j : ℕ) → numbered_function cs o n at ≡ Ok j → (c : Callable) × (slice_get cs j ≡ Some c) × (n ≡ c.params)
found_callable cs None n at j e = absurd cc
found_callable cs (Some i) n at j e = by (slice_get cs i) refl e where
  of : (c : Callable) (b : Bool) → slice_get cs i ≡ Some c → (n == c.params) ≡ b → cond b (Ok i) (Err (wrong_count at)) ≡ Ok j → (c : Callable) × (slice_get cs j ≡ Some c) × (n ≡ c.params)
  of c true g f h = let same : i ≡ j = cc h in subst (λ k. (c : Callable) × (slice_get cs k ≡ Some c) × (n ≡ c.params)) same (c, g, same_count n c.params f)
  of c false g f h = absurd cc

  by : (o : Option Callable) → slice_get cs i ≡ o → with_arguments o i n at ≡ Ok j → (c : Callable) × (slice_get cs j ≡ Some c) × (n ≡ c.params)
  by None g h = absurd cc
  by (Some c) g h = of c (n == c.params) g refl h

may_call : (known : Known) (f : FunctionSyntax) (g : FunctionTree) → g.recursive ≡ f.recursive → length g.params ≡ length f.params
    → (x : List ℕ) (n at j : ℕ) → callable_of (callables known f) x n at ≡ Ok j → MayCall (with_function known g).program (length known.program.functions) g.recursive j n
may_call known f g recursive many x n at j e =
    let fs = known.program.functions in
    let own : Callable = record { name = f.name; params = length f.params } in
    let w = found_callable (callables known f) (number_of (map (λ c. c.name) (callables known f)) x) n at j e in
    elim (callable_at fs (cond f.recursive (own ∷ []) []) j w.0 w.1) [
      | inl h ↦ record { function = h.0; known = inl (slice_get-below fs j h.0 h.1); declared = slice_get-prefix fs (g ∷ []) j h.0 h.1; arguments = w.2 ∙ h.2 }
      | inr h ↦
          let o = own_at f.recursive own w.0 h.0 h.1 in
          let last : j ≡ length fs = (let k = h.2 in let z = o.1 in omega (arith, k, z)) in
          record {
            function = g;
            known = inr (last, subst IsTrue (sym recursive) o.0);
            declared = ap (slice_get (fs ++ g ∷ [])) last ∙ slice_get-last fs g;
            arguments = w.2 ∙ o.2 ∙ sym many;
          }
    ]

-- ---- a function

scope-count : (f : FunctionSyntax) → length (scope_of f) ≡ length f.params
scope-count f = length-map f.params (λ p. p.binder.name)

module _ (known : Known) (f : FunctionSyntax) (s : IsSound known) (r : IsReadFunction f) where
  abbrev built : List (List ℕ) → List NoteTree → Option NoteTree → ExprTree → FunctionTree
  built us params result body = record { name = f.name; at = f.at; recursive = f.recursive; units = length us; params = params; named = length (named_variables us f); result = result; body = body }

  result_formed : (variables : List (List ℕ)) (g : FunctionTree) (o : Option NoteTree) → g.named ≡ length variables → IsResult known variables s o → ResultFormed (with_function known g).program g o
  result_formed variables g None e h = tt
  result_formed variables g (Some n) e h = (subst (λ v. IsNoteTreeIn (length known.program.bases) v known.program.records n) (sym e) h.0, h.1)

  function_here : (us : List (List ℕ)) (params : List NoteTree) (result : Option NoteTree) (body : ExprTree) → resolved_parameters [] f.units ≡ Ok us → resolved_params known (named_variables us f) [] f.params ≡ Ok params → resolved_result known (named_variables us f) f.result ≡ Ok result
      → resolved_expr known (named_variables us f) (callables known f) (scope_of f) f.body ≡ Ok body → IsFormedFunction (with_function known (built us params result body)).program (length known.program.functions) (built us params result body)
  function_here us params result body u p q b =
      let g = built us params result body in
      let ps = params_sound known (named_variables us f) s [] f.params params r.params p in
      let rs = result_sound known (named_variables us f) s f.result result r.result q in
      let bs = expr_in known (named_variables us f) (callables known f) s.closed (known.program.functions ++ g ∷ []) (length known.program.functions) g refl (may_call known f g refl ps.1) f.body (scope_of f) body r.body b in
      record {
        few_params = (let m = ps.1 in let l = r.few_params in omega (arith, m, l));
        few_units = (let m = parameters-count [] f.units us u in let l = r.few_units in omega (arith, m, l));
        units = occurrences_grow us (occurring f);
        params = ps.0;
        result = result_formed (named_variables us f) g result refl rs.0;
        noted = λ h. rs.1 (r.noted h);
        body = subst (λ n. IsFormedIn (with_function known g).program (length known.program.functions) g n body) (scope-count f ∙ sym ps.1) bs.0;
        height = (let h = bs.1 in let l = r.height in omega (arith, h, l));
        nodes = (let h = bs.2 in let l = r.nodes in omega (arith, h, l));
      }

  pub function_sound : (g : FunctionTree) → resolved_function known f ≡ Ok g → IsSound (with_function known g)
  function_sound g e =
      let a = then_found (its_name known f) (with_its_name known f) g e in
      let u = then_found (resolved_parameters [] f.units) (with_unit_params known f) g a.2 in
      let b = then_found (resolved_params known (named_variables (u.0) f) [] f.params) (with_params known f u.0) g u.2 in
      let c = then_found (resolved_result known (named_variables (u.0) f) f.result) (with_result known f u.0 b.0) g b.2 in
      let d = then_found (resolved_expr known (named_variables (u.0) f) (callables known f) (scope_of f) f.body) (λ body. Ok (built (u.0) (b.0) (c.0) body)) g c.2 in
      let z = built (u.0) (b.0) (c.0) (d.0) in
      let same : z ≡ g = cc (d.2) in
      along z same (whole z (refl {a = f.name}) (not_taken (is_among (function_names known.program.functions) f.name) f.at a.0 a.1) (function_here u.0 b.0 c.0 d.0 u.1 b.1 c.1 d.1))
    where
      along : (z : FunctionTree) → z ≡ g → IsSound (with_function known z) → IsSound (with_function known g)
      along z is h = subst (λ y. IsSound (with_function known y)) is h

      whole : (z : FunctionTree) → z.name ≡ f.name → is_among (function_names known.program.functions) f.name ≡ false → IsFormedFunction (with_function known z).program (length known.program.functions) z → IsSound (with_function known z)
      whole z named new here =
          let fs = known.program.functions in
          let ns = function_names fs in
          let q = (with_function known z).program in
          let extends = extends_function known.program z in
          let pushed : function_names (fs ++ z ∷ []) ≡ ns ++ f.name ∷ [] = map-append (λ g. g.name) fs (z ∷ []) ∙ ap (λ (x : List ℕ). ns ++ x ∷ []) named in
          let absent : is_among (ns ++ []) f.name ≡ false = ap (λ (ms : List (List ℕ)). is_among ms f.name) (append-nil ns) ∙ new in
          record {
            closed = s.closed;
            names_of_bases = s.names_of_bases;
            names_of_records = s.names_of_records;
            once = s.once;
            names_of_fields = s.names_of_fields;
            fields_once = s.fields_once;
            names_of_functions = subst AreNames (sym pushed) (names-append ns (f.name ∷ []) s.names_of_functions (names-one f.name r.name));
            functions_once = subst AreFresh (sym pushed) (fresh_inserted ns [] f.name (subst AreFresh (sym (append-nil ns)) s.functions_once) absent);
            records = λ k d h. record_more known.program q extends k d (s.records k d h);
            functions = λ i g h. elim (slice_get-split fs z i g h) [
              | inl e ↦ function_more known.program q extends i g (s.functions i g e)
              | inr e ↦ subst (λ y. IsFormedFunction q i y) e.1 (subst (λ n. IsFormedFunction q n z) (sym e.0) here)
            ];
          }
