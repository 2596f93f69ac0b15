-- What is told of the first node of a program that has no shape. The functions are looked at in order, and each node
-- after its parts; how tall a shape is doesn't matter here.
-- Source: this project's own; the first such node is that of um_shape's FirstFault.
use Rattle.std.specs.Prelude.{ℕ, List, [], ◌∷◌, ◌++◌, map, length, slice_get, Result, Ok, Err}
use Rattle.um_tree.specs.TypeTree.{ShapeTree, bool_shape, num_shape, list_shape}
use Rattle.um_tree.specs.ExprTree.{ExprTree, ExprTrees, truth, number, local, call, negate, not_expr, pown, arith}
use Rattle.um_tree.specs.ExprTree.{compare, both, either, if, bind, split, nil, list_expr, cons, record_expr, field}
use Rattle.um_tree.specs.ExprTree.{none, more}
use Rattle.um_tree.specs.ProgramTree.{RecordTree, FunctionTree, ProgramTree}
use Rattle.um_tree.specs.Typing.{field_types}
use Rattle.um_tree.specs.Shapes.{type_shape, note_shape, ShapeSignature}
use Rattle.um_agree.specs.declared.rule.Rule.TheVariants as asks
use Rattle.um_shape.specs.FirstFault.{own_shapes}
use Rattle.um_mismatch.specs.declared.kind.Kind.TheVariants as kind
use Rattle.um_mismatch.specs.Mismatch.{Mismatch, Told, mismatch_text}
use Rattle.um_mismatch.specs.NodeRules.{known, list_item, of_one, of_two, items_of, of_nil, of_field, of_equal}
use Rattle.um_mismatch.specs.NodeRules.{of_condition, of_head, of_items, of_call, of_record, of_result}

-- what is told of the first part is told of the whole
abbrev pub then : {A B : Type 0} → Result A Told → (A → Result B Told) → Result B Told
then (Ok x) go = go x
then (Err e) go = Err e

-- at a node of function i
abbrev pub at_node : ℕ → ℕ → Result ShapeTree Mismatch → Result ShapeTree Told
at_node i at (Ok s) = Ok s
at_node i at (Err m) = Err (record { function = i; at = at; mismatch = m })

-- ---- an expression of function i

-- the shapes of each record's fields, and the functions that may be called
module _ (i : ℕ) (records : List (List ShapeTree)) (callees : List ShapeSignature) where
  abbrev mutual
    -- the shape of the expression, or what is told of it, if the variables of the scope have these shapes
    pub told : List ShapeTree → ExprTree → Result ShapeTree Told
    told vars (truth at b) = Ok bool_shape
    told vars (number at c n) = Ok num_shape
    told vars (local at k) = at_node i at (known (slice_get vars k))
    told vars (call at j es) = then (all_told vars es) (λ ss. at_node i at (of_call j (slice_get callees j) ss))
    told vars (negate at a) = then (told vars a) (λ s. at_node i at (of_one kind.Number num_shape s))
    told vars (not_expr at a) = then (told vars a) (λ s. at_node i at (of_one kind.Truth bool_shape s))
    told vars (pown at a k) = then (told vars a) (λ s. at_node i at (of_one kind.Number num_shape s))
    told vars (arith at op a b) =
        then (told vars a) (λ s. then (told vars b) (λ t. at_node i at (of_two kind.Number num_shape num_shape s t)))
    told vars (compare at sign a b) =
        then (told vars a) (λ s. then (told vars b) (λ t. at_node i at (of_two kind.Number num_shape bool_shape s t)))
    told vars (both at a b) =
        then (told vars a) (λ s. then (told vars b) (λ t. at_node i at (of_two kind.Truth bool_shape bool_shape s t)))
    told vars (either at a b) =
        then (told vars a) (λ s. then (told vars b) (λ t. at_node i at (of_two kind.Truth bool_shape bool_shape s t)))
    told vars (if at c a b) =
        then (told vars c) (λ r. then (told vars a) (λ s. then (told vars b) (λ t. at_node i at (of_condition r s t))))
    told vars (bind at a b) = then (told vars a) (λ s. told (vars ++ s ∷ []) b)
    -- a part that is no list is told before the arms are looked at
    told vars (split at l a b) =
        then (told vars l) (λ r. then (at_node i at (items_of r (list_item r))) (λ item. then (told vars a) (λ s.
        then (told (vars ++ item ∷ list_shape item ∷ []) b) (λ t. at_node i at (of_equal asks.Arms s t)))))
    told vars (nil at n) = at_node i at (of_nil (note_shape n) (list_item (note_shape n)))
    told vars (list_expr at es) = then (all_told vars es) (λ ss. at_node i at (of_items ss))
    told vars (cons at a b) =
        then (told vars a) (λ s. then (told vars b) (λ t. at_node i at (of_head s t (list_item t))))
    told vars (record_expr at r es) =
        then (all_told vars es) (λ ss. at_node i at (of_record r (slice_get records r) ss))
    told vars (field at r k a) = then (told vars a) (λ s. at_node i at (of_field r k (slice_get records r) s))

    -- expression by expression
    pub all_told : List ShapeTree → ExprTrees → Result (List ShapeTree) Told
    all_told vars none = Ok []
    all_told vars (more e es) = then (told vars e) (λ s. then (all_told vars es) (λ ss. Ok (s ∷ ss)))

-- ---- a program

-- the body and then the result, which is told of at the function's name, if the functions before have these shapes
abbrev pub function_told : List (List ShapeTree) → List ShapeSignature → FunctionTree → Result ShapeSignature Told
function_told records before f =
    then (told (length before) records (before ++ own_shapes f) (map note_shape f.params) f.body) (λ s.
    then (at_node (length before) f.at (of_result f.result s)) (λ result.
    Ok (record { params = map note_shape f.params; result = result })))

abbrev pub functions_told :
    List (List ShapeTree) → List ShapeSignature → List FunctionTree → Result (List ShapeSignature) Told
functions_told records before [] = Ok before
functions_told records before (f ∷ fs) =
    then (function_told records before f) (λ g. functions_told records (before ++ g ∷ []) fs)

abbrev pub field_shapes : RecordTree → List ShapeTree
field_shapes d = map type_shape (field_types d)

abbrev pub program_told : ProgramTree → Result (List ShapeSignature) Told
program_told p = functions_told (map field_shapes p.records) [] p.functions

abbrev pub told_text : ProgramTree → Result (List ShapeSignature) Told → List ℕ
told_text p (Ok shapes) = []
told_text p (Err t) = mismatch_text p t.function t.mismatch

-- the lines that are told of the program
abbrev pub shape_details : ProgramTree → List ℕ
shape_details p = told_text p (program_told p)
