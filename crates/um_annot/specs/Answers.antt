-- What the annotation of a function answers. Want of memory may come in place of every answer.
-- Source: this project's own.
use Rattle.std.specs.Prelude.{◌≡◌, ℕ, List, [], ◌∷◌, map, Option, Some, Result, Ok, Err}
use Rattle.um_units.specs.PowerMap.{PowerMap, nth}
use Rattle.um_tree.specs.TypeTree.{TypeTree}
use Rattle.um_tree.specs.Typing.{put}
use Rattle.um_rows.specs.NodeTypes.{TypedNode}
use Rattle.um_annot.specs.declared.stop.AnnotStop.{AnnotStop}
use Rattle.um_annot.specs.declared.stop.AnnotStop.TheVariants as stop
use Rattle.um_annot.specs.TextOrder.{node_with}
use Rattle.um_annot.specs.Annotated.{Annotation, annotated, past_range}

-- the nodes are those of the annotation, or the stop is its
abbrev pub IsAnnotated : Annotation → List TypedNode → Result (Unit {0}) AnnotStop → Type 0
IsAnnotated a nodes (Ok _) = a ≡ annotated nodes
IsAnnotated a nodes (Err (stop.PowerRange at)) = a ≡ past_range at
IsAnnotated a nodes (Err stop.NoMemory) = Unit {0}

-- ---- steps of the code

-- the stop is at this place
abbrev pub StopsAt : Option ℕ → AnnotStop → Type 0
StopsAt o (stop.PowerRange at) = o ≡ Some at
StopsAt o stop.NoMemory = Unit {0}

-- a node at this place
abbrev pub node_at : ℕ → TypeTree → TypedNode
node_at at t = record { at = at; type = t }

-- the nodes with the units put for the slots
abbrev pub solved_nodes : List PowerMap → List TypedNode → List TypedNode
solved_nodes units nodes = map (node_with (put (nth units))) nodes

-- the places of the nodes with these types, in order
abbrev pub retyped : List TypedNode → List TypeTree → List TypedNode
retyped (n ∷ ns) (t ∷ ts) = record { at = n.at; type = t } ∷ retyped ns ts
retyped ns ts = []
