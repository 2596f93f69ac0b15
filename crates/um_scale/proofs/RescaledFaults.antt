-- The first shape fault of a rescaled program is that of the program: no number is looked at.
use Rattle.std.proofs.Common.{◌≡◌, ap, ◌∙◌, cond, nat_le, List, [], ◌∷◌, ◌++◌, map, Some, Ok, Err, slice_get}
use Rattle.um_tree.specs.TypeTree.{ShapeTree, bool_shape, num_shape, list_shape}
use Rattle.um_tree.specs.ExprTree.{ExprTree, ExprTrees, truth, number, local, call, negate, not_expr, pown, arith, compare, both, either, if, bind, split, nil, list_expr, cons, record_expr, field, none, more}
use Rattle.um_tree.specs.ProgramTree.{FunctionTree}
use Rattle.um_tree.specs.Shapes.{note_shape, ShapeSignature}
use Rattle.um_tree.specs.Heights.{greatest_height}
use Rattle.um_shape.specs.RecordShapes.{RecordShape, tallest}
use Rattle.um_shape.specs.FirstFault.{wrong_shape, too_deep, then, same_shape, where_true, of_numbers, of_truths, of_arms, of_condition, of_items, of_head, of_call, of_record, of_field, item_of, at_node, found, all_found, own_shapes, fits_result, function_found, functions_found, records_found, fault_of}
use Rattle.um_scaling.specs.Rescaling.{Rescaling}
use Rattle.um_scaling.specs.RescaledProgram.{RescaledExpr, RescaledExprs, RescaledFunction, RescaledFunctions}
use Rattle.um_scale.specs.Laws.{RescaledKeepsFault}

module _ (r : Rescaling) (records : List RecordShape) where
  module _ (callees : List ShapeSignature) where
    mutual
      same_found : (e y : ExprTree) → RescaledExpr r e y → (vars : List ShapeTree) → found records callees vars y ≡ found records callees vars e
      same_found (truth at b) y q vars = ap (found records callees vars) q
      same_found (number at c n) y q vars = ap (found records callees vars) q.2
      same_found (local at k) y q vars = ap (found records callees vars) q
      same_found (call at j es) y q vars =
          ap (found records callees vars) q.2 ∙ (λ i. then (same_all es q.0 q.1 vars i) (λ ss. at_node records at (of_call (slice_get callees j) ss)))
      same_found (negate at a) y q vars =
          ap (found records callees vars) q.2 ∙ (λ i. then (same_found a q.0 q.1 vars i) (λ s. at_node records at (where_true (same_shape s num_shape) num_shape)))
      same_found (not_expr at a) y q vars =
          ap (found records callees vars) q.2 ∙ (λ i. then (same_found a q.0 q.1 vars i) (λ s. at_node records at (where_true (same_shape s bool_shape) bool_shape)))
      same_found (pown at a k) y q vars =
          ap (found records callees vars) q.2 ∙ (λ i. then (same_found a q.0 q.1 vars i) (λ s. at_node records at (where_true (same_shape s num_shape) num_shape)))
      same_found (arith at op a b) y q vars =
          ap (found records callees vars) q.4
          ∙ (λ i. then (same_found a q.0 q.2 vars i) (λ s. then (same_found b q.1 q.3 vars i) (λ t. at_node records at (of_numbers s t num_shape))))
      same_found (compare at sign a b) y q vars =
          ap (found records callees vars) q.4
          ∙ (λ i. then (same_found a q.0 q.2 vars i) (λ s. then (same_found b q.1 q.3 vars i) (λ t. at_node records at (of_numbers s t bool_shape))))
      same_found (both at a b) y q vars =
          ap (found records callees vars) q.4
          ∙ (λ i. then (same_found a q.0 q.2 vars i) (λ s. then (same_found b q.1 q.3 vars i) (λ t. at_node records at (of_truths s t))))
      same_found (either at a b) y q vars =
          ap (found records callees vars) q.4
          ∙ (λ i. then (same_found a q.0 q.2 vars i) (λ s. then (same_found b q.1 q.3 vars i) (λ t. at_node records at (of_truths s t))))
      same_found (if at c a b) y q vars =
          ap (found records callees vars) q.6
          ∙ (λ i. then (same_found c q.0 q.3 vars i) (λ u. then (same_found a q.1 q.4 vars i) (λ s. then (same_found b q.2 q.5 vars i) (λ t. at_node records at (of_condition u s t)))))
      same_found (bind at a b) y q vars =
          ap (found records callees vars) q.4
          ∙ (λ i. then (same_found a q.0 q.2 vars i) (λ s. then (same_found b q.1 q.3 (vars ++ s ∷ []) i) (λ t. at_node records at (Some t))))
      same_found (split at l a b) y q vars =
          ap (found records callees vars) q.6
          ∙ (λ i. then (same_found l q.0 q.3 vars i) (λ u. then (item_of at u) (λ item. then (same_found a q.1 q.4 vars i) (λ s. then (same_found b q.2 q.5 (vars ++ item ∷ list_shape item ∷ []) i) (λ t. at_node records at (of_arms s t))))))
      same_found (nil at n) y q vars = ap (found records callees vars) q
      same_found (list_expr at es) y q vars =
          ap (found records callees vars) q.2 ∙ (λ i. then (same_all es q.0 q.1 vars i) (λ ss. at_node records at (of_items ss)))
      same_found (cons at a b) y q vars =
          ap (found records callees vars) q.4
          ∙ (λ i. then (same_found a q.0 q.2 vars i) (λ s. then (same_found b q.1 q.3 vars i) (λ t. at_node records at (of_head s t))))
      same_found (record_expr at m es) y q vars =
          ap (found records callees vars) q.2 ∙ (λ i. then (same_all es q.0 q.1 vars i) (λ ss. at_node records at (of_record (slice_get records m) m ss)))
      same_found (field at m k a) y q vars =
          ap (found records callees vars) q.2 ∙ (λ i. then (same_found a q.0 q.1 vars i) (λ s. at_node records at (of_field (slice_get records m) m k s)))

      same_all : (es ys : ExprTrees) → RescaledExprs r es ys → (vars : List ShapeTree) → all_found records callees vars ys ≡ all_found records callees vars es
      same_all none ys q vars = ap (all_found records callees vars) q
      same_all (more e es) ys q vars =
          ap (all_found records callees vars) q.4
          ∙ (λ i. then (same_found e q.0 q.2 vars i) (λ s. then (same_all es q.1 q.3 vars i) (λ ss. Ok (s ∷ ss))))

  same_function : (f g : FunctionTree) → RescaledFunction r f g → (known : List ShapeSignature) → function_found records known g ≡ function_found records known f
  same_function f g q known =
      let params = map note_shape f.params in
      ap (function_found records known) q.2
      ∙ (λ i. cond (nat_le (tallest records params) greatest_height)
      (then (same_found (known ++ own_shapes f) f.body q.0 q.1 params i) (λ s. cond (fits_result f.result s) (Ok (record { params = params; result = s })) (Err (wrong_shape f.at))))
      (Err (too_deep f.at)))

  same_functions : (fs gs : List FunctionTree) → RescaledFunctions r fs gs → (known : List ShapeSignature) → functions_found records known gs ≡ functions_found records known fs
  same_functions [] gs q known = ap (functions_found records known) q
  same_functions (f ∷ fs) gs q known =
      ap (functions_found records known) q.4 ∙ (λ i. then (same_function f q.0 q.2 known i) (λ g. same_functions fs q.1 q.3 (known ++ g ∷ []) i))

pub same_fault : RescaledKeepsFault
same_fault p q r h =
    ap fault_of (λ i. then (records_found [] (h.records i)) (λ records. same_functions r records p.functions q.functions h.functions [] i))
