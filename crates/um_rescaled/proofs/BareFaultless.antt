-- The first shape fault of a program doesn't depend on places, its own place aside.
use Rattle.std.proofs.Common.{◌≡◌, ℕ, Bool, true, false, cond, nat_le, List, [], ◌∷◌, ◌++◌, map, slice_get, Option, Some, None, refl, sym, ap, ◌∙◌, Result, Ok, Err}
use Rattle.um_tree.specs.TypeTree.{ShapeTree, bool_shape, num_shape, list_shape, record_shape}
use Rattle.um_tree.specs.ExprTree.{ExprTree, ExprTrees, truth, number, local, call, negate, not_expr, pown, arith, compare, both, either, if, bind, split, nil, list_expr, cons, record_expr, field, none, more}
use Rattle.um_tree.specs.ProgramTree.{RecordTree, FunctionTree, ProgramTree}
use Rattle.um_tree.specs.Shapes.{note_shape, ShapeSignature}
use Rattle.um_tree.specs.Heights.{greatest_height}
use Rattle.um_shape.specs.RecordShapes.{RecordShape, shape_height, tallest, declared_shape}
use Rattle.um_shape.specs.FirstFault.{ShapeFault, wrong_shape, too_deep, then, same_shape, where_true, of_numbers, of_truths, of_arms, of_condition, of_list, of_items, of_head, of_call, of_record, of_field, item_of, at_node, found, all_found, own_shapes, fits_result, function_found, functions_found, record_found, records_found, program_found, fault_of, first_fault}
use Rattle.um_rescaled.specs.UnplacedPrograms.{unplaced_expr, unplaced_exprs, unplaced_record, unplaced_function, unplaced_program}

abbrev bare_fault : ShapeFault → ShapeFault
bare_fault (wrong_shape at) = wrong_shape 0
bare_fault (too_deep at) = too_deep 0

abbrev bare : {A : Type 0} → Result A ShapeFault → Result A ShapeFault
bare (Ok x) = Ok x
bare (Err e) = Err (bare_fault e)

then_bare : {A B : Type 0} (m n : Result A ShapeFault) (next other : A → Result B ShapeFault) → bare m ≡ n → ((a : A) → bare (next a) ≡ other a) → bare (then m next) ≡ then n other
then_bare (Ok a) n next other e h = h a ∙ ap (λ r. then r other) e
then_bare (Err x) n next other e h = ap (λ r. then r other) e

if_bare : {A : Type 0} (b : Bool) (x : A) (e : ShapeFault) → bare (cond b (Ok x) (Err e)) ≡ cond b (Ok x) (Err (bare_fault e))
if_bare true x e = refl
if_bare false x e = refl

module _ (records : List RecordShape) where
  node_bare : (at : ℕ) (o : Option ShapeTree) → bare (at_node records at o) ≡ at_node records 0 o
  node_bare at None = refl
  node_bare at (Some s) = if_bare (nat_le (shape_height records s) greatest_height) s (too_deep at)

  item_bare : (at : ℕ) (s : ShapeTree) → bare (item_of at s) ≡ item_of 0 s
  item_bare at bool_shape = refl
  item_bare at num_shape = refl
  item_bare at (list_shape s) = refl
  item_bare at (record_shape r) = refl

  module _ (callees : List ShapeSignature) where
    abbrev old : List ShapeTree → ExprTree → Result ShapeTree ShapeFault
    old vars e = found records callees vars e

    abbrev new : List ShapeTree → ExprTree → Result ShapeTree ShapeFault
    new vars e = found records callees vars (unplaced_expr e)

    -- a node of one part, or of two
    one_part : (at : ℕ) (m n : Result ShapeTree ShapeFault) (rule : ShapeTree → Option ShapeTree) → bare m ≡ n → bare (then m (λ s. at_node records at (rule s))) ≡ then n (λ s. at_node records 0 (rule s))
    one_part at m n rule e = then_bare m n (λ s. at_node records at (rule s)) (λ s. at_node records 0 (rule s)) e (λ s. node_bare at (rule s))

    two_parts : (at : ℕ) (m n k l : Result ShapeTree ShapeFault) (rule : ShapeTree → ShapeTree → Option ShapeTree) → bare m ≡ n → bare k ≡ l → bare (then m (λ s. then k (λ t. at_node records at (rule s t)))) ≡ then n (λ s. then l (λ t. at_node records 0 (rule s t)))
    two_parts at m n k l rule e h =
        then_bare m n (λ s. then k (λ t. at_node records at (rule s t))) (λ s. then l (λ t. at_node records 0 (rule s t))) e (λ s. one_part at k l (rule s) h)

    mutual
      found_bare : (vars : List ShapeTree) (e : ExprTree) → bare (found records callees vars e) ≡ found records callees vars (unplaced_expr e)
      found_bare vars (truth at b) = node_bare at (Some bool_shape)
      found_bare vars (number at c n) = node_bare at (Some num_shape)
      found_bare vars (local at k) = node_bare at (slice_get vars k)
      found_bare vars (call at j es) =
          then_bare (all_found records callees vars es) (all_found records callees vars (unplaced_exprs es)) (λ ss. at_node records at (of_call (slice_get callees j) ss)) (λ ss. at_node records 0 (of_call (slice_get callees j) ss)) (all_bare vars es) (λ ss. node_bare at (of_call (slice_get callees j) ss))
      found_bare vars (negate at a) = one_part at (old vars a) (new vars a) (λ s. where_true (same_shape s num_shape) num_shape) (found_bare vars a)
      found_bare vars (not_expr at a) = one_part at (old vars a) (new vars a) (λ s. where_true (same_shape s bool_shape) bool_shape) (found_bare vars a)
      found_bare vars (pown at a k) = one_part at (old vars a) (new vars a) (λ s. where_true (same_shape s num_shape) num_shape) (found_bare vars a)
      found_bare vars (arith at op a b) = two_parts at (old vars a) (new vars a) (old vars b) (new vars b) (λ s t. of_numbers s t num_shape) (found_bare vars a) (found_bare vars b)
      found_bare vars (compare at sign a b) = two_parts at (old vars a) (new vars a) (old vars b) (new vars b) (λ s t. of_numbers s t bool_shape) (found_bare vars a) (found_bare vars b)
      found_bare vars (both at a b) = two_parts at (old vars a) (new vars a) (old vars b) (new vars b) of_truths (found_bare vars a) (found_bare vars b)
      found_bare vars (either at a b) = two_parts at (old vars a) (new vars a) (old vars b) (new vars b) of_truths (found_bare vars a) (found_bare vars b)
      found_bare vars (if at c a b) =
          then_bare (old vars c) (new vars c) (λ r. then (old vars a) (λ s. then (old vars b) (λ t. at_node records at (of_condition r s t)))) (λ r. then (new vars a) (λ s. then (new vars b) (λ t. at_node records 0 (of_condition r s t)))) (found_bare vars c)
          (λ r. two_parts at (old vars a) (new vars a) (old vars b) (new vars b) (of_condition r) (found_bare vars a) (found_bare vars b))
      found_bare vars (bind at a b) =
          then_bare (old vars a) (new vars a) (λ s. then (old (vars ++ s ∷ []) b) (λ t. at_node records at (Some t))) (λ s. then (new (vars ++ s ∷ []) b) (λ t. at_node records 0 (Some t))) (found_bare vars a)
          (λ s. one_part at (old (vars ++ s ∷ []) b) (new (vars ++ s ∷ []) b) (λ t. Some t) (found_bare (vars ++ s ∷ []) b))
      found_bare vars (split at l a b) =
          then_bare (old vars l) (new vars l) (λ r. then (item_of at r) (λ item. then (old vars a) (λ s. then (old (vars ++ item ∷ list_shape item ∷ []) b) (λ t. at_node records at (of_arms s t)))))
          (λ r. then (item_of 0 r) (λ item. then (new vars a) (λ s. then (new (vars ++ item ∷ list_shape item ∷ []) b) (λ t. at_node records 0 (of_arms s t))))) (found_bare vars l)
          (λ r. then_bare (item_of at r) (item_of 0 r) (λ item. then (old vars a) (λ s. then (old (vars ++ item ∷ list_shape item ∷ []) b) (λ t. at_node records at (of_arms s t))))
          (λ item. then (new vars a) (λ s. then (new (vars ++ item ∷ list_shape item ∷ []) b) (λ t. at_node records 0 (of_arms s t)))) (item_bare at r)
          (λ item. two_parts at (old vars a) (new vars a) (old (vars ++ item ∷ list_shape item ∷ []) b) (new (vars ++ item ∷ list_shape item ∷ []) b) of_arms (found_bare vars a) (found_bare (vars ++ item ∷ list_shape item ∷ []) b)))
      found_bare vars (nil at n) = node_bare at (of_list (note_shape n))
      found_bare vars (list_expr at es) =
          then_bare (all_found records callees vars es) (all_found records callees vars (unplaced_exprs es)) (λ ss. at_node records at (of_items ss)) (λ ss. at_node records 0 (of_items ss)) (all_bare vars es) (λ ss. node_bare at (of_items ss))
      found_bare vars (cons at a b) = two_parts at (old vars a) (new vars a) (old vars b) (new vars b) of_head (found_bare vars a) (found_bare vars b)
      found_bare vars (record_expr at r es) =
          then_bare (all_found records callees vars es) (all_found records callees vars (unplaced_exprs es)) (λ ss. at_node records at (of_record (slice_get records r) r ss)) (λ ss. at_node records 0 (of_record (slice_get records r) r ss)) (all_bare vars es) (λ ss. node_bare at (of_record (slice_get records r) r ss))
      found_bare vars (field at r k a) = one_part at (old vars a) (new vars a) (λ s. of_field (slice_get records r) r k s) (found_bare vars a)

      all_bare : (vars : List ShapeTree) (es : ExprTrees) → bare (all_found records callees vars es) ≡ all_found records callees vars (unplaced_exprs es)
      all_bare vars none = refl
      all_bare vars (more e es) =
          then_bare (old vars e) (new vars e) (λ s. then (all_found records callees vars es) (λ ss. Ok (s ∷ ss))) (λ s. then (all_found records callees vars (unplaced_exprs es)) (λ ss. Ok (s ∷ ss))) (found_bare vars e)
          (λ s. then_bare (all_found records callees vars es) (all_found records callees vars (unplaced_exprs es)) (λ ss. Ok (s ∷ ss)) (λ ss. Ok (s ∷ ss)) (all_bare vars es) (λ ss. refl))

  -- ---- functions

  params_bare : (b : Bool) (at : ℕ) (m n : Result ShapeSignature ShapeFault) → bare m ≡ n → bare (cond b m (Err (too_deep at))) ≡ cond b n (Err (too_deep 0))
  params_bare true at m n e = e
  params_bare false at m n e = refl

  function_bare : (known : List ShapeSignature) (f : FunctionTree) → bare (function_found records known f) ≡ function_found records known (unplaced_function f)
  function_bare known f =
      let params = map note_shape f.params in
      let callees = known ++ own_shapes f in
      params_bare (nat_le (tallest records params) greatest_height) f.at (then (found records callees params f.body) (λ s. cond (fits_result f.result s) (Ok (record { params = params; result = s })) (Err (wrong_shape f.at))))
      (then (found records callees params (unplaced_expr f.body)) (λ s. cond (fits_result f.result s) (Ok (record { params = params; result = s })) (Err (wrong_shape 0))))
      (then_bare (found records callees params f.body) (found records callees params (unplaced_expr f.body)) (λ s. cond (fits_result f.result s) (Ok (record { params = params; result = s })) (Err (wrong_shape f.at))) (λ s. cond (fits_result f.result s) (Ok (record { params = params; result = s })) (Err (wrong_shape 0)))
      (found_bare callees params f.body) (λ s. if_bare (fits_result f.result s) (record { params = params; result = s }) (wrong_shape f.at)))

  functions_bare : (known : List ShapeSignature) (fs : List FunctionTree) → bare (functions_found records known fs) ≡ functions_found records known (map unplaced_function fs)
  functions_bare known [] = refl
  functions_bare known (f ∷ fs) =
      then_bare (function_found records known f) (function_found records known (unplaced_function f)) (λ g. functions_found records (known ++ g ∷ []) fs) (λ g. functions_found records (known ++ g ∷ []) (map unplaced_function fs)) (function_bare known f) (λ g. functions_bare (known ++ g ∷ []) fs)

-- ---- records and programs

records_bare : (earlier : List RecordShape) (ds : List RecordTree) → bare (records_found earlier ds) ≡ records_found earlier (map unplaced_record ds)
records_bare earlier [] = refl
records_bare earlier (d ∷ ds) =
    then_bare (record_found earlier d) (record_found earlier (unplaced_record d)) (λ s. records_found (earlier ++ s ∷ []) ds) (λ s. records_found (earlier ++ s ∷ []) (map unplaced_record ds))
    (if_bare (nat_le (declared_shape earlier d).height greatest_height) (declared_shape earlier d) (too_deep d.at)) (λ s. records_bare (earlier ++ s ∷ []) ds)

program_bare : (p : ProgramTree) → bare (program_found p) ≡ program_found (unplaced_program p)
program_bare p =
    then_bare (records_found [] p.records) (records_found [] (map unplaced_record p.records)) (λ records. functions_found records [] p.functions) (λ records. functions_found records [] (map unplaced_function p.functions)) (records_bare [] p.records) (λ records. functions_bare records [] p.functions)

no_fault : {A : Type 0} (r s : Result A ShapeFault) → bare r ≡ bare s → fault_of s ≡ None → fault_of r ≡ None
no_fault (Ok x) s e h = refl
no_fault (Err x) (Ok y) e h = absurd (cc e)
no_fault (Err x) (Err y) e h = absurd (cc h)

-- of programs that are the same but for places, both have their shapes if one has
pub same_faultless : (p q : ProgramTree) → unplaced_program q ≡ unplaced_program p → first_fault p ≡ None → first_fault q ≡ None
same_faultless p q e h = no_fault (program_found q) (program_found p) (program_bare q ∙ ap program_found e ∙ sym (program_bare p)) h
