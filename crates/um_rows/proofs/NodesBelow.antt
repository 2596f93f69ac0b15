-- The types of nodes hold slots alone.
use Rattle.std.proofs.Common.{ℕ, List, [], ◌∷◌, ◌++◌, map}
use Rattle.um_units.specs.PowerMap.{PowerMap}
use Rattle.um_tree.specs.ProgramTree.{RecordTree, FunctionTree, SchemeTree}
use Rattle.um_tree.specs.Typing.{Earlier, typings_below}
use Rattle.um_slots.specs.Holes.{notes_holes}
use Rattle.um_slots.specs.Keys.{hole, name}
use Rattle.um_slots.specs.Slots.{function_slots, slot_unit, slot_count}
use Rattle.um_equal_types.specs.Steps.{Step, row_at, wrong_shape_at, type_at}
use Rattle.um_rows.specs.Equations.{head_steps, result_rows}
use Rattle.um_rows.specs.NodeTypes.{TypedNode, nodes_of, derived_body, function_nodes}
use Rattle.um_rows.specs.Laws.{NodesHoldSlots}
use Rattle.um_rows.proofs.Variables.{TypesBelow, StepsBelow}
use Rattle.um_rows.proofs.VariableLists.{types_all}
use Rattle.um_rows.proofs.FunctionLaws.{AllFit}
use Rattle.um_rows.proofs.Solved.{slots_below, all_fit}

steps_front : (n : ℕ) (a b : List Step) → StepsBelow n (a ++ b) → StepsBelow n a
steps_front n [] b h = tt
steps_front n (row_at at u ∷ a) b h = (h.0, steps_front n a b h.1)
steps_front n (wrong_shape_at at ∷ a) b h = (h.0, steps_front n a b h.1)
steps_front n (type_at at t ∷ a) b h = (h.0, steps_front n a b h.1)

steps_back : (n : ℕ) (a b : List Step) → StepsBelow n (a ++ b) → StepsBelow n b
steps_back n [] b h = h
steps_back n (row_at at u ∷ a) b h = steps_back n a b h.1
steps_back n (wrong_shape_at at ∷ a) b h = steps_back n a b h.1
steps_back n (type_at at t ∷ a) b h = steps_back n a b h.1

nodes_below : (n : ℕ) (ss : List Step) → StepsBelow n ss → TypesBelow n (map (λ (x : TypedNode). x.type) (nodes_of ss))
nodes_below n [] h = tt
nodes_below n (row_at at u ∷ ss) h = nodes_below n ss h.1
nodes_below n (wrong_shape_at at ∷ ss) h = nodes_below n ss h.1
nodes_below n (type_at at t ∷ ss) h = (h.0, nodes_below n ss h.1)

module _ (earlier : Earlier) (schemes : List SchemeTree) (i : ℕ) (fit : AllFit earlier schemes i) (records : List RecordTree) (f : FunctionTree) where
  pub node_types_below : TypesBelow (slot_count records schemes i f) (map (λ (x : TypedNode). x.type) (function_nodes records schemes i f))
  node_types_below =
      let order = function_slots records schemes i f in
      let holes : ℕ → PowerMap = λ k. slot_unit order (hole k) in
      let names : ℕ → PowerMap = λ k. slot_unit order (name k) in
      let n = slot_count records schemes i f in
      let body = derived_body holes names records schemes i f in
      let last = result_rows holes names f.at body.type (notes_holes f.params) f.result in
      nodes_below n body.steps (steps_front n body.steps last (steps_back n (head_steps holes names f) (body.steps ++ last) (slots_below earlier schemes i fit records f).1))

pub nodes_hold_slots : NodesHoldSlots
nodes_hold_slots p schemes i f have =
    types_all (slot_count p.records schemes i f) (map (λ (x : TypedNode). x.type) (function_nodes p.records schemes i f)) (node_types_below (typings_below p i) schemes i (all_fit p schemes i have) p.records f)
