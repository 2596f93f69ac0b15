-- The agreements that the code finds are those of the function.
use Rattle.std.proofs.Common.{◌≡◌, ℕ, ◌+◌, List, [], ◌∷◌, ◌++◌, map, length, Option, Some, None, refl, sym, ap, ◌∙◌, subst, arith}
use Rattle.std.proofs.lemmas.List.{append-nil}
use Rattle.um_units.specs.PowerMap.{PowerMap}
use Rattle.um_tree.specs.TypeTree.{TypeTree, NoteTree}
use Rattle.um_tree.specs.ProgramTree.{RecordTree, FunctionTree, SchemeTree}
use Rattle.um_slots.specs.Holes.{notes_holes}
use Rattle.um_slots.specs.Callees.{callee, head_holes}
use Rattle.um_slots.specs.Keys.{hole, name}
use Rattle.um_slots.specs.Slots.{function_slots, slot_unit}
use Rattle.um_slots.specs.Noted.{noted_types}
use Rattle.um_equal_types.specs.declared.row.Row.{Row}
use Rattle.um_equal_types.specs.Steps.{rows_of}
use Rattle.um_rows.specs.NodeTypes.{TypedNode, function_nodes}
use Rattle.um_rows.specs.Derivation.{derive}
use Rattle.um_rows.specs.Equations.{result_rows, own_signature, head_steps, slot_equations}
use Rattle.um_rows.specs.RightShapes.{HaveRightShapes}
use Rattle.um_agree.specs.declared.rule.Rule.TheVariants as asks
use Rattle.um_agree.specs.declared.found.Asked.{Asked}
use Rattle.um_agree.specs.FunctionAgreements.{agreements, result_agreements, function_agreements}
use Rattle.um_agree.specs.Asked.{asked_in, asked_by, parts_count, count, result_rule, function_asked}
use Rattle.um_agree.specs.Made.{node_type, known, seen, AreAgreed}
use Rattle.um_agree.proofs.RuleRows.{right_front, right_back}
use Rattle.um_agree.proofs.AgreementRows.{function_asked as rows_function_asked}
use Rattle.um_agree.proofs.AskedNodes.{Stand, known_both, own_type, node_many, are_found}

result_known : (nodes : List TypedNode) (holes names : ℕ → PowerMap) (at k : ℕ) (t : TypeTree) (n : ℕ) (o : Option NoteTree) → node_type nodes k ≡ t →
    map (seen nodes) (asked_by (result_rule o) at k) ≡ map known (result_agreements holes names at t n o)
result_known nodes holes names at k t n None e = refl
result_known nodes holes names at k t n (Some m) e = ap (λ x. record { rule = asks.ResultNote; at = at; type = x } ∷ []) e

module _ (records : List RecordTree) (schemes : List SchemeTree) (i : ℕ) (f : FunctionTree) where
  -- as many nodes as the body has
  pub body_nodes : length (function_nodes records schemes i f) ≡ count f.body
  body_nodes =
      let order = function_slots records schemes i f in
      let holes : ℕ → PowerMap = λ k. slot_unit order (hole k) in
      let names : ℕ → PowerMap = λ k. slot_unit order (name k) in
      node_many [] holes names records (own_signature holes names f) (callee schemes i f) f.body (head_holes f) (noted_types holes names 0 f.params)

  pub are_agreed : HaveRightShapes (slot_equations records schemes i f).steps → (rows : List Row) → rows ≡ rows_of (slot_equations records schemes i f).steps → (nodes : List TypedNode) → nodes ≡ function_nodes records schemes i f →
      (xs : List Asked) → xs ≡ function_asked f → AreAgreed (function_agreements records schemes i f) nodes rows xs
  are_agreed right rows rows_is nodes nodes_is xs xs_is =
      let order = function_slots records schemes i f in
      let holes : ℕ → PowerMap = λ k. slot_unit order (hole k) in
      let names : ℕ → PowerMap = λ k. slot_unit order (name k) in
      let self = own_signature holes names f in
      let params = noted_types holes names 0 f.params in
      let start = head_holes f in
      let body = derive holes names records self (callee schemes i f) start params f.body in
      let all = function_nodes records schemes i f in
      let last = result_rows holes names f.at body.type (notes_holes f.params) f.result in
      let inner = right_front body.steps last (right_back (head_steps holes names f) (body.steps ++ last) right) in
      let stand : Stand all 0 all = record { front = []; back = []; before = refl; whole = sym (append-nil all) } in
      let asked = rows_function_asked records schemes i f right in
      record {
        nodes_are =
            ap (map (seen nodes)) xs_is
            ∙ ap (λ ns. map (seen ns) (function_asked f)) nodes_is
            ∙ known_both all (asked_in 0 f.body) (asked_by (result_rule f.result) f.at (parts_count f.body)) (agreements holes names records self (callee schemes i f) start params f.body) (result_agreements holes names f.at body.type (notes_holes f.params) f.result)
            (are_found all holes names records self (callee schemes i f) f.body start params 0 stand inner)
            (result_known all holes names f.at (parts_count f.body) body.type (notes_holes f.params) f.result (let e : 0 + parts_count f.body ≡ parts_count f.body = omega arith in subst (λ k. node_type all k ≡ body.type) e (own_type all holes names records self (callee schemes i f) f.body start params 0 stand)));
        rows_are = rows_is ∙ asked.0;
        right = asked.1;
      }
