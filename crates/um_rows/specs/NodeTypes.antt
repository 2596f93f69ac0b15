-- The types of the nodes of a function's body over its slots, with their places. Each node comes after its parts, as
-- the rules are followed.
-- Source: Kennedy (1996), the inference of units: each node has the type that its rule gives.
use Rattle.std.specs.Prelude.{◌≡◌, ℕ, List, [], ◌∷◌, map, Some, slice_get}
use Rattle.um_units.specs.PowerMap.{PowerMap}
use Rattle.um_tree.specs.TypeTree.{TypeTree, type_tree}
use Rattle.um_tree.specs.ProgramTree.{RecordTree, FunctionTree, ProgramTree, SchemeTree}
use Rattle.um_slots.specs.Callees.{callee, head_holes}
use Rattle.um_slots.specs.Keys.{hole, name}
use Rattle.um_slots.specs.Slots.{function_slots, slot_unit}
use Rattle.um_slots.specs.Noted.{noted_types}
use Rattle.um_rows.specs.declared.nodes.NodeType.{NodeType}
use Rattle.um_rows.specs.declared.nodes.NodeTypes.{NodeTypes}
use Rattle.um_equal_types.specs.Steps.{Step, row_at, wrong_shape_at, type_at}
use Rattle.um_rows.specs.Rules.{Derived}
use Rattle.um_rows.specs.Derivation.{derive}
use Rattle.um_rows.specs.Equations.{own_signature}

-- a node with its place and its type
pub record TypedNode : Type 0 where
  pub at : ℕ
  pub type : TypeTree

abbrev pub typed_node : NodeType → TypedNode
typed_node n = record { at = n.at; type = type_tree n.ty }

abbrev pub typed_nodes : NodeTypes → List TypedNode
typed_nodes nodes = map typed_node nodes.items.items

-- the nodes whose types are among the steps, in order
abbrev pub nodes_of : List Step → List TypedNode
nodes_of [] = []
nodes_of (row_at at u ∷ ss) = nodes_of ss
nodes_of (wrong_shape_at at ∷ ss) = nodes_of ss
nodes_of (type_at at t ∷ ss) = record { at = at; type = t } ∷ nodes_of ss

abbrev pub derived_nodes : Derived → List TypedNode
derived_nodes d = nodes_of d.steps

-- the derivation of a body. holes: the unit of each hole. names: the unit of each named variable
abbrev pub derived_body :
    (ℕ → PowerMap) → (ℕ → PowerMap) → List RecordTree → List SchemeTree → ℕ → FunctionTree → Derived
derived_body holes names records schemes i f =
    derive holes names records (own_signature holes names f) (callee schemes i f) (head_holes f)
    (noted_types holes names 0 f.params) f.body

-- the nodes of the body of function i over its slots, given the schemes of the functions before
abbrev pub function_nodes : List RecordTree → List SchemeTree → ℕ → FunctionTree → List TypedNode
function_nodes records schemes i f =
    let order = function_slots records schemes i f in
    derived_nodes (derived_body (λ k. slot_unit order (hole k)) (λ k. slot_unit order (name k)) records schemes i f)

-- the kept nodes are those of function i of the program
abbrev pub AreNodesOf : ProgramTree → List SchemeTree → ℕ → NodeTypes → Type 0
AreNodesOf p schemes i nodes =
    (f : FunctionTree) → slice_get p.functions i ≡ Some f → typed_nodes nodes ≡ function_nodes p.records schemes i f
