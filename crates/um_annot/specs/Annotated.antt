-- The types of a function's nodes in the order of the text: the most general solution of its equations is put for the
-- slots, unit parameters become variables, and all are numbered in one list with the function's own types, which come
-- first.
-- Source: Kennedy (1996): a most general unifier gives the principal typing of each part.
use Rattle.std.specs.Prelude.{ℕ, if◌then◌else◌, List, [], ◌∷◌, ◌++◌, map, Option, Some, None}
use Rattle.um_units.specs.PowerMap.{PowerMap, nth}
use Rattle.um_tree.specs.TypeTree.{TypeTree}
use Rattle.um_tree.specs.ProgramTree.{RecordTree, FunctionTree, Signature, SchemeTree}
use Rattle.um_tree.specs.Typing.{put, moved}
use Rattle.um_tree.specs.Scheme.{signature_types}
use Rattle.um_elim.specs.Application.{type_fits}
use Rattle.um_elim.specs.Numbering.{variable_order, by_place}
use Rattle.um_elim.specs.Solution.{rigid_units}
use Rattle.um_slots.specs.Slots.{slot_count}
use Rattle.um_equal_types.specs.Steps.{rows_of}
use Rattle.um_rows.specs.Equations.{slot_equations}
use Rattle.um_rows.specs.Solutions.{slot_signature}
use Rattle.um_rows.specs.FirstUnsolvable.{Solving, solved, unsolved, out_of_range, solve}
use Rattle.um_rows.specs.Generalised.{generalised_unit}
use Rattle.um_rows.specs.NodeTypes.{TypedNode, function_nodes}
use Rattle.um_annot.specs.TextOrder.{in_text_order, node_with}

abbrev pub node_types : List TypedNode → List TypeTree
node_types nodes = map (λ (n : TypedNode). n.type) nodes

-- the place of the first node that has a power out of range
abbrev pub first_past : List TypedNode → Option ℕ
first_past [] = None
first_past (n ∷ ns) = if type_fits n.type then first_past ns else Some n.at

-- the variables are numbered by their first occurrence in the heads, and then in the nodes
abbrev pub numbered : List TypeTree → List TypedNode → List TypedNode
numbered heads nodes =
    let order = variable_order (heads ++ node_types nodes) in map (node_with (put (by_place order))) nodes

-- the types of the nodes, or the place of the first that is out of range
pub data Annotation : Type 0 where
  annotated : List TypedNode → Annotation
  past_range : ℕ → Annotation

abbrev pub unless_past : Option ℕ → List TypedNode → Annotation
unless_past None nodes = annotated nodes
unless_past (Some at) nodes = past_range at

module _ (bases parameters slots : ℕ) where
  abbrev pub general : TypeTree → TypeTree
  general t = moved (generalised_unit bases parameters slots) t

  -- the function's own types and the nodes, all solved
  abbrev pub by_heads : List TypeTree → List TypedNode → Annotation
  by_heads heads nodes =
      unless_past (first_past nodes) (numbered (map general heads) (map (node_with general) nodes))

  -- units: the most general solution of the rows, with each unit parameter as a unit of its own
  abbrev pub by_units : Signature → List TypedNode → List PowerMap → Annotation
  by_units g nodes units =
      by_heads (map (put (nth units)) (signature_types g)) (map (node_with (put (nth units))) nodes)

  -- rows without a solution give no types: the function has no scheme, and is refused before
  abbrev pub by_solving : Signature → List TypedNode → Solving → Annotation
  by_solving g nodes (solved units) = by_units g nodes units
  by_solving g nodes (unsolved k at) = annotated []
  by_solving g nodes (out_of_range at) = past_range at

-- function i of a program with so many base units, given the schemes of the functions before
abbrev pub annotation : ℕ → List RecordTree → List SchemeTree → ℕ → FunctionTree → Annotation
annotation bases records schemes i f =
    let slots = slot_count records schemes i f in
    by_solving bases f.units slots (slot_signature records schemes i f)
    (in_text_order (function_nodes records schemes i f))
    (solve 0 (rows_of (slot_equations records schemes i f).steps) (rigid_units bases f.units slots))
