-- The shapes that the code keeps: so many lists round an item. This mirrors the code; the shapes that they stand for
-- are those of the definition.
-- Source: this project's own.
use Rattle.std.specs.Prelude.{ℕ, zero, suc, List, map, Option, Result}
use Rattle.um_tree.specs.TypeTree.{ShapeTree, bool_shape, num_shape, list_shape, record_shape}
use Rattle.um_tree.specs.Shapes.{ShapeSignature}
use Rattle.um_tree.specs.ProgramTree.{FunctionTree}
use Rattle.um_tree.specs.ExprTree.{ExprTree, ExprTrees}
use Rattle.um_shape.specs.declared.flat.Item.{Item}
use Rattle.um_shape.specs.declared.flat.Item.TheVariants as item
use Rattle.um_shape.specs.declared.flat.FlatShape.{FlatShape}
use Rattle.um_shape.specs.declared.known.KnownRecord.{KnownRecord}
use Rattle.um_shape.specs.declared.known.Head.{Head}
use Rattle.um_shape.specs.declared.known.Known.{Known}
use Rattle.um_shape.specs.RecordShapes.{RecordShape}
use Rattle.um_shape.specs.declared.rules.PairRule.{PairRule}
use Rattle.um_shape.specs.declared.rules.PairRule.TheVariants as pair
use Rattle.um_shape.specs.FirstFault.{ShapeFault, found, all_found, function_found, functions_found, of_numbers}
use Rattle.um_shape.specs.FirstFault.{of_truths, of_head}

abbrev pub item_shape : Item → ShapeTree
item_shape item.Bool = bool_shape
item_shape item.Num = num_shape
item_shape (item.Rec r) = record_shape r

abbrev pub in_lists : ℕ → ShapeTree → ShapeTree
in_lists zero s = s
in_lists (suc n) s = list_shape (in_lists n s)

-- the shape that it stands for
abbrev pub flat_shape : FlatShape → ShapeTree
flat_shape f = in_lists f.lists (item_shape f.item)

abbrev pub flat_shapes : List FlatShape → List ShapeTree
flat_shapes fs = map flat_shape fs

-- what the rule of a node of two parts gives
abbrev pub of_pair : PairRule → ShapeTree → ShapeTree → Option ShapeTree
of_pair (pair.Numbers whole) s t = of_numbers s t (flat_shape whole)
of_pair pair.Truths s t = of_truths s t
of_pair pair.HeadAndTail s t = of_head s t

abbrev pub known_record : KnownRecord → RecordShape
known_record r = record { fields = flat_shapes r.fields.items; height = r.height }

abbrev pub known_records : List KnownRecord → List RecordShape
known_records rs = map known_record rs

abbrev pub head_shapes : Head → ShapeSignature
head_shapes h = record { params = flat_shapes h.params.items; result = flat_shape h.result }

abbrev pub heads_shapes : List Head → List ShapeSignature
heads_shapes hs = map head_shapes hs

-- what is found of an expression, and of some, with what is known and in this scope
abbrev pub known_found : Known → List FlatShape → ExprTree → Result ShapeTree ShapeFault
known_found known scope e =
    found (known_records known.records.items) (heads_shapes known.heads.items) (flat_shapes scope) e

abbrev pub all_known_found : Known → List FlatShape → ExprTrees → Result (List ShapeTree) ShapeFault
all_known_found known scope es =
    all_found (known_records known.records.items) (heads_shapes known.heads.items) (flat_shapes scope) es

-- and of a function, and of some
abbrev pub known_function_found : Known → FunctionTree → Result ShapeSignature ShapeFault
known_function_found known f = function_found (known_records known.records.items) (heads_shapes known.heads.items) f

abbrev pub known_functions_found : Known → List FunctionTree → Result (List ShapeSignature) ShapeFault
known_functions_found known fs =
    functions_found (known_records known.records.items) (heads_shapes known.heads.items) fs
