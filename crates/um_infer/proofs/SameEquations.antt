-- The equations of a function ask for the schemes of the functions before it alone.
use Rattle.std.proofs.Common.{◌≡◌, ℕ, ◌<◌, cond, nat_lt, List, ◌++◌, length, slice_get, sym, ap, ◌∙◌, arith}
use Rattle.std.specs.Prelude.{◌==◌, ◌&&◌}
use Rattle.std.proofs.lemmas.Bool.Decides.{nat_tests}
use Rattle.um_units.specs.PowerMap.{PowerMap}
use Rattle.um_tree.specs.ProgramTree.{RecordTree, FunctionTree, SchemeTree}
use Rattle.um_elim.proofs.Cases.{on_test}
use Rattle.um_slots.specs.Holes.{Callee, itself, nobody, notes_holes}
use Rattle.um_slots.specs.Keys.{Key, hole, name, name_keys, notes_keys, result_keys, expr_keys, function_keys}
use Rattle.um_slots.specs.Slots.{slot_order, slot_unit, slot_count}
use Rattle.um_rows.specs.Equations.{slot_equations, Equations, own_signature, head_steps, result_rows}
use Rattle.um_slots.specs.Noted.{noted_types}
use Rattle.um_rows.specs.Derivation.{derive}
use Rattle.um_rows.specs.NodeTypes.{TypedNode, derived_nodes, function_nodes}
use Rattle.um_slots.specs.Callees.{known_function, may_recur, callee, head_holes}

module _ (records : List RecordTree) (i : ℕ) (f : FunctionTree) where
  -- by what its calls go to
  abbrev keys_by : (ℕ → Callee) → List Key
  keys_by c = name_keys 0 f.units ++ (notes_keys 0 f.params ++ (result_keys (notes_holes f.params) f.result ++ expr_keys records c (head_holes f) f.body))

  abbrev equations_by : List Key → (ℕ → Callee) → Equations
  equations_by keys c =
      let order = slot_order keys in
      let holes : ℕ → PowerMap = λ k. slot_unit order (hole k) in
      let names : ℕ → PowerMap = λ k. slot_unit order (name k) in
      let params = noted_types holes names 0 f.params in
      let body = derive holes names records (own_signature holes names f) c (head_holes f) params f.body in
      record {
        params = params;
        result = body.type;
        steps = head_steps holes names f ++ (body.steps ++ result_rows holes names f.at body.type (notes_holes f.params) f.result);
      }

  nodes_by : List Key → (ℕ → Callee) → List TypedNode
  nodes_by keys c =
      let order = slot_order keys in
      let holes : ℕ → PowerMap = λ k. slot_unit order (hole k) in
      let names : ℕ → PowerMap = λ k. slot_unit order (name k) in
      derived_nodes (derive holes names records (own_signature holes names f) c (head_holes f) (noted_types holes names 0 f.params) f.body)

  module _ (schemes others : List SchemeTree) (same : (j : ℕ) → j < i → slice_get schemes j ≡ slice_get others j) where
    callee_alike : (j : ℕ) → callee schemes i f j ≡ callee others i f j
    callee_alike j =
        on_test (nat_lt j i)
        (λ e.
        let low : j < i = grind (arith, nat_tests) in
        ap (λ o. cond (nat_lt j i) (known_function o) (cond (j == i && may_recur f) itself nobody)) (same j low))
        (λ e.
        let last = cond (j == i && may_recur f) itself nobody in
        ap (λ b. cond b (known_function (slice_get schemes j)) last) e ∙ sym (ap (λ b. cond b (known_function (slice_get others j)) last) e))

    callees : callee schemes i f ≡ callee others i f
    callees = λ k j. callee_alike j k

    pub same_keys : function_keys records schemes i f ≡ function_keys records others i f
    same_keys = ap keys_by callees

    pub same_count : slot_count records schemes i f ≡ slot_count records others i f
    same_count = ap (λ keys. length (slot_order keys)) same_keys

    pub same_equations : slot_equations records schemes i f ≡ slot_equations records others i f
    same_equations = ap (λ keys. equations_by keys (callee schemes i f)) same_keys ∙ ap (equations_by (function_keys records others i f)) callees

    pub same_nodes : function_nodes records schemes i f ≡ function_nodes records others i f
    unfolding nodes_by
    same_nodes = ap (λ keys. nodes_by keys (callee schemes i f)) same_keys ∙ ap (nodes_by (function_keys records others i f)) callees
