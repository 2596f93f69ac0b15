-- The shapes that the code keeps: so many lists round an item. This mirrors the code; the shapes that they stand for
-- are those of the definition.
-- Source: this project's own.
use Rattle.std.specs.Prelude.{ℕ, List, map, Result, Ok, Err}
use Rattle.um_tree.specs.TypeTree.{ShapeTree, bool_shape, num_shape, record_shape}
use Rattle.um_tree.specs.ExprTree.{ExprTree, ExprTrees}
use Rattle.um_tree.specs.ProgramTree.{FunctionTree}
use Rattle.um_tree.specs.Shapes.{ShapeSignature}
use Rattle.um_agree.specs.declared.rule.Rule.{Rule}
use Rattle.um_agree.specs.declared.rule.Rule.TheVariants as asks
use Rattle.um_shape.specs.FlatShapes.{in_lists}
use Rattle.um_mismatch.specs.declared.flat.Item.{Item}
use Rattle.um_mismatch.specs.declared.flat.Item.TheVariants as item
use Rattle.um_mismatch.specs.declared.flat.FlatShape.{FlatShape}
use Rattle.um_mismatch.specs.declared.mismatch.Mismatch.{Mismatch as Made}
use Rattle.um_mismatch.specs.declared.mismatch.Mismatch.TheVariants as made
use Rattle.um_mismatch.specs.declared.mismatch.Told.{Told as MadeTold}
use Rattle.um_mismatch.specs.declared.known.KnownRecord.{KnownRecord}
use Rattle.um_mismatch.specs.declared.known.Head.{Head}
use Rattle.um_mismatch.specs.declared.known.Known.{Known}
use Rattle.um_mismatch.specs.declared.kind.Kind.TheVariants as kind
use Rattle.um_mismatch.specs.declared.rules.PairRule.{PairRule}
use Rattle.um_mismatch.specs.declared.rules.PairRule.TheVariants as pair
use Rattle.um_mismatch.specs.declared.rules.Each.{Each}
use Rattle.um_mismatch.specs.declared.rules.Each.TheVariants as each
use Rattle.um_mismatch.specs.Mismatch.{Mismatch, unequal, unexpected, unformed, Told}
use Rattle.um_mismatch.specs.NodeRules.{of_two, of_head, list_item}
use Rattle.um_mismatch.specs.ShapeDetails.{told, all_told, function_told, functions_told}

abbrev pub item_shape : Item → ShapeTree
item_shape item.Bool = bool_shape
item_shape item.Num = num_shape
item_shape (item.Rec r) = record_shape r

-- the shape that it stands for
abbrev pub flat_shape : FlatShape → ShapeTree
flat_shape f = in_lists f.lists (item_shape f.item)

abbrev pub flat_shapes : List FlatShape → List ShapeTree
flat_shapes fs = map flat_shape fs

-- ---- what is told
abbrev pub mismatch_tree : Made → Mismatch
mismatch_tree (made.Unequal rule s t) = unequal rule (flat_shape s) (flat_shape t)
mismatch_tree (made.Unexpected k s) = unexpected k (flat_shape s)
mismatch_tree made.Unformed = unformed

abbrev pub told_tree : MadeTold → Told
told_tree t = record { function = t.function; at = t.at; mismatch = mismatch_tree t.mismatch }

-- what the rule of a node gives
abbrev pub rule_result : Result FlatShape Made → Result ShapeTree Mismatch
rule_result (Ok s) = Ok (flat_shape s)
rule_result (Err m) = Err (mismatch_tree m)

-- what the rule of a node of two parts gives
abbrev pub of_pair : PairRule → ShapeTree → ShapeTree → Result ShapeTree Mismatch
of_pair (pair.Numbers whole) s t = of_two kind.Number num_shape (flat_shape whole) s t
of_pair pair.Truths s t = of_two kind.Truth bool_shape bool_shape s t
of_pair pair.HeadAndTail s t = of_head s t (list_item t)

-- ---- what the rule asks for part by part: the rule of the part of this number, and the number of the first
abbrev pub each_rule : Each → ℕ → Rule
each_rule (each.Argument j) k = asks.Argument j k
each_rule (each.Part r) k = asks.Part r k

abbrev pub each_first : Each → ℕ
each_first (each.Argument j) = 1
each_first (each.Part r) = 0

-- ---- what is known
abbrev pub known_fields : KnownRecord → List ShapeTree
known_fields r = flat_shapes r.fields.items

abbrev pub known_records : List KnownRecord → List (List ShapeTree)
known_records rs = map known_fields rs

abbrev pub head_shapes : Head → ShapeSignature
head_shapes h = record { params = flat_shapes h.params.items; result = flat_shape h.result }

abbrev pub heads_shapes : List Head → List ShapeSignature
heads_shapes hs = map head_shapes hs

-- what is told of an expression of function i, and of some, with what is known and in this scope
abbrev pub known_told : ℕ → Known → List FlatShape → ExprTree → Result ShapeTree Told
known_told i known scope e =
    told i (known_records known.records.items) (heads_shapes known.heads.items) (flat_shapes scope) e

abbrev pub all_known_told : ℕ → Known → List FlatShape → ExprTrees → Result (List ShapeTree) Told
all_known_told i known scope es =
    all_told i (known_records known.records.items) (heads_shapes known.heads.items) (flat_shapes scope) es

-- and of a function, and of some
abbrev pub known_function_told : Known → FunctionTree → Result ShapeSignature Told
known_function_told known f = function_told (known_records known.records.items) (heads_shapes known.heads.items) f

abbrev pub known_functions_told : Known → List FunctionTree → Result (List ShapeSignature) Told
known_functions_told known fs =
    functions_told (known_records known.records.items) (heads_shapes known.heads.items) fs
