use Rattle.std.proofs.Common.{◌≡◌, ℕ, Bool, true, false, map, [], ◌∷◌, ◌++◌, sym, ap, subst, ◌∙◌, rules}
use Rattle.std.specs.Prelude.{MatchResult, IfOk, List}
use Rattle.std.proofs.lemmas.Result.{IfOk-weaker}
use Rattle.std.specs.List.{list_all}
use Rattle.um_units.specs.PowerMap.{PowerMap, nth}
use Rattle.um_tree.specs.TypeTree.{type_tree, note_tree}
use Rattle.um_tree.specs.ExprTree.{expr_tree}
use Rattle.um_tree.specs.ProgramTree.{record_tree, scheme_tree, result_tree}
use Rattle.um_elim.specs.Application.{type_fits}
use Rattle.um_equal_types.specs.Steps.{first_past}
use Rattle.um_slots.specs.Noted.{noted_types, noted_result}
use Rattle.um_slots.specs.Callees.{callee_of}
use Rattle.um_slots.specs.SlotUnits.{AreVariables}
use Rattle.um_slots.specs.Slotting.{IsTable, StopsSlots, with_keys, name_unit}
use Rattle.um_rows.specs.declared.nodes.TypedRows.{TypedRows}
use Rattle.um_rows.specs.NodeTypes.{typed_nodes, derived_nodes}
use Rattle.um_rows.specs.Closed.{AreClosedBefore}
use Rattle.um_equal_types.specs.Pushed.{StopsPast}
use Rattle.um_slots.specs.Contexts.{IsContextOf, whole_keys}
use Rattle.um_rows.specs.Body.{AreBodyRows, body_derived, body_steps}
use Rattle.um_equal_types.specs.SlotStops.{row_stop}
use Rattle.um_rows.specs.Answers.{described, StopsFor}
use Rattle.um_rows.proofs.EquationLaws.{holes_are_variables, head_past, body_right, nodes_right, too_many}
use Rattle.um_rows.proofs.equations.typed_equations.Goals as goal

pub returns-in_err-slots-clause-equations : goal.returns-in_err-slots-clause-equations
returns-in_err-slots-clause-equations c =
    let records = c.args.records.now in
    let schemes = c.args.schemes.now in
    let definition = c.args.definition.now in
    let params = map note_tree definition.params.now in
    let note = result_tree definition.result.now in
    let body = expr_tree definition.body.now in
    let recurs = c.may_recur-recurs.ensures in
    let err = c.in_err-slots.field-0.0 in
    let here = subst (λ r. StopsSlots (with_keys [] (whole_keys (map record_tree records) (callee_of (map scheme_tree schemes) c.args.number r) definition.units params note body)) err) recurs c.in_err-slots.ensures.slots in
    let stops : StopsFor (map record_tree records) (map scheme_tree schemes) c.args.number (described definition.at definition.recursive definition.units params note body) (row_stop err) = too_many records schemes c.args.number definition.at definition.recursive definition.units params note body c.requires.schemes err here in
    search (rules, stops)

pub invariant_of-walk : goal.invariant_of-walk
invariant_of-walk c =
    let records = c.args.records.now in
    let schemes = c.args.schemes.now in
    let definition = c.args.definition.now in
    let params = map note_tree definition.params.now in
    let note = result_tree definition.result.now in
    let body = expr_tree definition.body.now in
    let recurs = c.may_recur-recurs.ensures in
    let t = c.in_ok-slots.field-0.slots in
    let had : IsTable (with_keys [] (whole_keys (map record_tree records) (callee_of (map scheme_tree schemes) c.args.number c.may_recur-recurs.result) definition.units params note body)) t = search rules in
    let is = subst (λ r. IsTable (with_keys [] (whole_keys (map record_tree records) (callee_of (map scheme_tree schemes) c.args.number r) definition.units params note body)) t) recurs had in
    let exact = c.in-Ok.ensures.exact in
    record {
      variables = subst AreVariables (sym exact.holes_are) (holes_are_variables _ t is);
      closed_schemes = subst (λ i. AreClosedBefore i schemes) (sym exact.number_is) c.requires.schemes;
      closed_records = c.requires.records;
    }

pub returns-in-Err-Range-clause-equations : goal.returns-in-Err-Range-clause-equations
returns-in-Err-Range-clause-equations c =
    let records = c.args.records.now in
    let schemes = c.args.schemes.now in
    let definition = c.args.definition.now in
    let params = map note_tree definition.params.now in
    let note = result_tree definition.result.now in
    let body = expr_tree definition.body.now in
    let recurs = c.may_recur-recurs.ensures in
    let t = c.in_ok-slots.field-0.slots in
    let had : IsTable (with_keys [] (whole_keys (map record_tree records) (callee_of (map scheme_tree schemes) c.args.number c.may_recur-recurs.result) definition.units params note body)) t = search rules in
    let is = subst (λ r. IsTable (with_keys [] (whole_keys (map record_tree records) (callee_of (map scheme_tree schemes) c.args.number r) definition.units params note body)) t) recurs had in
    let named : c.in_ok-names.names.items ≡ map name_unit t.names.items = c.in_ok-names.ensures ∙ ap (map name_unit) c.deref.ensures.value in
    let first = c.in_ok-slots.ensures.params in
    let bad : list_all type_fits (noted_types (nth t.holes.items) (nth c.in_ok-names.names.items) 0 params ++ noted_result (nth t.holes.items) (nth c.in_ok-names.names.items) c.in_ok-slots.field-0.params note ∷ []) ≡ false = rw c.in-Err-Range.field-0-is at c.in-Err-Range.ensures.range in
    let here = subst (λ (ns : List PowerMap). list_all type_fits (noted_types (nth t.holes.items) (nth ns) 0 params ++ noted_result (nth t.holes.items) (nth ns) c.in_ok-slots.field-0.params note ∷ []) ≡ false) named bad in
    let there = subst (λ (k : ℕ). list_all type_fits (noted_types (nth t.holes.items) (nth (map name_unit t.names.items)) 0 params ++ noted_result (nth t.holes.items) (nth (map name_unit t.names.items)) k note ∷ []) ≡ false) first here in
    head_past records schemes c.args.number definition.at definition.recursive definition.units params note body c.requires.schemes t is there

pub returns-in-Ok-clause-equations : goal.returns-in-Ok-clause-equations
returns-in-Ok-clause-equations c =
    let records = c.args.records.now in
    let schemes = c.args.schemes.now in
    let definition = c.args.definition.now in
    let params = map note_tree definition.params.now in
    let note = result_tree definition.result.now in
    let body = expr_tree definition.body.now in
    let recurs = c.may_recur-recurs.ensures in
    let t = c.in_ok-slots.field-0.slots in
    let had : IsTable (with_keys [] (whole_keys (map record_tree records) (callee_of (map scheme_tree schemes) c.args.number c.may_recur-recurs.result) definition.units params note body)) t = search rules in
    let is = subst (λ r. IsTable (with_keys [] (whole_keys (map record_tree records) (callee_of (map scheme_tree schemes) c.args.number r) definition.units params note body)) t) recurs had in
    let named : c.in_ok-names.names.items ≡ map name_unit t.names.items = c.in_ok-names.ensures ∙ ap (map name_unit) c.deref.ensures.value in
    let first = c.in_ok-slots.ensures.params in
    let context = c.in-Ok.context in
    let head = c.in_ok-slots.ensures.head in
    let fits : list_all type_fits (noted_types (nth t.holes.items) (nth c.in_ok-names.names.items) 0 params ++ noted_result (nth t.holes.items) (nth c.in_ok-names.names.items) c.in_ok-slots.field-0.params note ∷ []) ≡ true = c.in-Ok.ensures.range in
    let here = subst (λ (ns : List PowerMap). list_all type_fits (noted_types (nth t.holes.items) (nth ns) 0 params ++ noted_result (nth t.holes.items) (nth ns) c.in_ok-slots.field-0.params note ∷ []) ≡ true) named fits in
    let fit = subst (λ (k : ℕ). list_all type_fits (noted_types (nth t.holes.items) (nth (map name_unit t.names.items)) 0 params ++ noted_result (nth t.holes.items) (nth (map name_unit t.names.items)) k note ∷ []) ≡ true) first here in
    let found = subst (λ (ns : List PowerMap). IsContextOf c.args.number c.may_recur-recurs.result t.holes.items ns params note context) named c.in-Ok.ensures.exact in
    let exact = subst (λ (r : Bool). IsContextOf c.args.number r t.holes.items (map name_unit t.names.items) params note context) recurs found in
    let ended = subst (λ (k : ℕ). MatchResult c.body_rows-rows.result (λ (typed : TypedRows). AreBodyRows (body_steps records schemes context k definition.at note body) (body_derived records schemes context k body) (map type_tree context.params.items) t.count typed.rows) (StopsPast (first_past (body_steps records schemes context k definition.at note body)))) head c.body_rows-rows.ensures.rows in
    body_right records schemes c.args.number definition.at definition.recursive definition.units params note body c.requires.schemes t is context fit exact c.body_rows-rows.result ended

pub returns-in-Ok-clause-nodes : goal.returns-in-Ok-clause-nodes
returns-in-Ok-clause-nodes c = λ asked.
    let records = c.args.records.now in
    let schemes = c.args.schemes.now in
    let definition = c.args.definition.now in
    let params = map note_tree definition.params.now in
    let note = result_tree definition.result.now in
    let body = expr_tree definition.body.now in
    let recurs = c.may_recur-recurs.ensures in
    let t = c.in_ok-slots.field-0.slots in
    let had : IsTable (with_keys [] (whole_keys (map record_tree records) (callee_of (map scheme_tree schemes) c.args.number c.may_recur-recurs.result) definition.units params note body)) t = search rules in
    let is = subst (λ r. IsTable (with_keys [] (whole_keys (map record_tree records) (callee_of (map scheme_tree schemes) c.args.number r) definition.units params note body)) t) recurs had in
    let named : c.in_ok-names.names.items ≡ map name_unit t.names.items = c.in_ok-names.ensures ∙ ap (map name_unit) c.deref.ensures.value in
    let first = c.in_ok-slots.ensures.params in
    let context = c.in-Ok.context in
    let head = c.in_ok-slots.ensures.head in
    let fits : list_all type_fits (noted_types (nth t.holes.items) (nth c.in_ok-names.names.items) 0 params ++ noted_result (nth t.holes.items) (nth c.in_ok-names.names.items) c.in_ok-slots.field-0.params note ∷ []) ≡ true = c.in-Ok.ensures.range in
    let here = subst (λ (ns : List PowerMap). list_all type_fits (noted_types (nth t.holes.items) (nth ns) 0 params ++ noted_result (nth t.holes.items) (nth ns) c.in_ok-slots.field-0.params note ∷ []) ≡ true) named fits in
    let fit = subst (λ (k : ℕ). list_all type_fits (noted_types (nth t.holes.items) (nth (map name_unit t.names.items)) 0 params ++ noted_result (nth t.holes.items) (nth (map name_unit t.names.items)) k note ∷ []) ≡ true) first here in
    let found = subst (λ (ns : List PowerMap). IsContextOf c.args.number c.may_recur-recurs.result t.holes.items ns params note context) named c.in-Ok.ensures.exact in
    let exact = subst (λ (r : Bool). IsContextOf c.args.number r t.holes.items (map name_unit t.names.items) params note context) recurs found in
    let kept = subst (λ (k : ℕ). IfOk c.body_rows-rows.result (λ (typed : TypedRows). typed_nodes typed.nodes ≡ derived_nodes (body_derived records schemes context k body))) head (c.body_rows-rows.ensures.nodes asked) in
    IfOk-weaker c.body_rows-rows.result _ _ (λ typed e. e ∙ nodes_right records schemes c.args.number definition.at definition.recursive definition.units params note body c.requires.schemes t is context fit exact) kept
