-- What holds of the places in a program holds of the place of its first shape fault.
use Rattle.std.proofs.Common.{◌≡◌, ℕ, Bool, true, false, cond, List, [], ◌∷◌, ◌++◌, map, All, Option, Some, None, Ok, Err, subst}
use Rattle.std.specs.Prelude.{Result, slice_get, nat_le}
use Rattle.std.proofs.lemmas.List.Elements.{All-head, All-tail}
use Rattle.um_tree.specs.TypeTree.{ShapeTree, bool_shape, num_shape, list_shape, record_shape}
use Rattle.um_tree.specs.ExprTree.{ExprTree, ExprTrees, truth, number, local, call, negate, not_expr, pown, arith, compare, both, either, if, bind, split, nil, list_expr, cons, record_expr, field, none, more}
use Rattle.um_tree.specs.ProgramTree.{RecordTree, FunctionTree, ProgramTree}
use Rattle.um_tree.specs.Shapes.{note_shape, ShapeSignature}
use Rattle.um_tree.specs.Heights.{greatest_height}
use Rattle.um_shape.specs.RecordShapes.{RecordShape, shape_height, tallest, declared_shape}
use Rattle.um_shape.specs.FirstFault.{ShapeFault, wrong_shape, too_deep, then, same_shape, where_true, of_numbers, of_truths, of_arms, of_condition, of_list, of_items, of_head, of_call, of_record, of_field, item_of, at_node, found, all_found}
use Rattle.um_shape.specs.FirstFault.{own_shapes, fits_result, function_found, functions_found, record_found, records_found, program_found, fault_of, first_fault}
use Rattle.um_front.specs.Places.{EachPlace, EachPlaceOf, EachProgramPlace}

module _ (P : ℕ → Type 0) where
  abbrev pub FaultHolds : ShapeFault → Type 0
  FaultHolds (wrong_shape at) = P at
  FaultHolds (too_deep at) = P at

  -- P holds of the place of the fault, if there is one
  abbrev ShapeHolds : {A : Type 0} → Result A ShapeFault → Type 0
  ShapeHolds (Ok x) = Unit {0}
  ShapeHolds (Err e) = FaultHolds e

  cond_holds : {A : Type 0} (b : Bool) (x y : Result A ShapeFault) → ShapeHolds x → ShapeHolds y → ShapeHolds (cond b x y)
  cond_holds true x y h k = h
  cond_holds false x y h k = k

  part : {A B : Type 0} (r : Result A ShapeFault) (go : A → Result B ShapeFault) → ShapeHolds r → ((a : A) → ShapeHolds (go a)) → ShapeHolds (then r go)
  part (Ok a) go h k = k a
  part (Err e) go h k = h

  item_holds : (at : ℕ) (s : ShapeTree) → P at → ShapeHolds (item_of at s)
  item_holds at bool_shape h = h
  item_holds at num_shape h = h
  item_holds at (list_shape s) h = tt
  item_holds at (record_shape r) h = h

  module _ (records : List RecordShape) where
    node : (at : ℕ) (o : Option ShapeTree) → P at → ShapeHolds (at_node records at o)
    node at None h = h
    node at (Some s) h = cond_holds (nat_le (shape_height records s) greatest_height) (Ok s) (Err (too_deep at)) tt h

    -- a node of one part, of two, and of a list
    one_part : {A : Type 0} (at : ℕ) (r : Result A ShapeFault) (rule : A → Option ShapeTree) → P at → ShapeHolds r → ShapeHolds (then r (λ s. at_node records at (rule s)))
    one_part at r rule h k = part r (λ s. at_node records at (rule s)) k (λ s. node at (rule s) h)

    two_parts : (at : ℕ) (r q : Result ShapeTree ShapeFault) (rule : ShapeTree → ShapeTree → Option ShapeTree) → P at → ShapeHolds r → ShapeHolds q → ShapeHolds (then r (λ s. then q (λ t. at_node records at (rule s t))))
    two_parts at r q rule h k l = part r (λ s. then q (λ t. at_node records at (rule s t))) k (λ s. one_part at q (rule s) h l)

    module _ (callees : List ShapeSignature) where
      abbrev Found : List ShapeTree → ExprTree → Result ShapeTree ShapeFault
      Found vars e = found records callees vars e

      mutual
        found_holds : (vars : List ShapeTree) (e : ExprTree) → EachPlace P e → ShapeHolds (found records callees vars e)
        found_holds vars (truth at b) h = node at (Some bool_shape) h
        found_holds vars (number at c n) h = node at (Some num_shape) h
        found_holds vars (local at k) h = node at (slice_get vars k) h
        found_holds vars (call at j es) h = one_part at (all_found records callees vars es) (of_call (slice_get callees j)) h.0 (all_hold vars es h.1)
        found_holds vars (negate at a) h = one_part at (Found vars a) (λ s. where_true (same_shape s num_shape) num_shape) h.0 (found_holds vars a h.1)
        found_holds vars (not_expr at a) h = one_part at (Found vars a) (λ s. where_true (same_shape s bool_shape) bool_shape) h.0 (found_holds vars a h.1)
        found_holds vars (pown at a k) h = one_part at (Found vars a) (λ s. where_true (same_shape s num_shape) num_shape) h.0 (found_holds vars a h.1)
        found_holds vars (arith at op a b) h = two_parts at (Found vars a) (Found vars b) (λ s t. of_numbers s t num_shape) h.0 (found_holds vars a h.1) (found_holds vars b h.2)
        found_holds vars (compare at sign a b) h = two_parts at (Found vars a) (Found vars b) (λ s t. of_numbers s t bool_shape) h.0 (found_holds vars a h.1) (found_holds vars b h.2)
        found_holds vars (both at a b) h = two_parts at (Found vars a) (Found vars b) of_truths h.0 (found_holds vars a h.1) (found_holds vars b h.2)
        found_holds vars (either at a b) h = two_parts at (Found vars a) (Found vars b) of_truths h.0 (found_holds vars a h.1) (found_holds vars b h.2)
        found_holds vars (if at c a b) h =
            part (Found vars c) (λ r. then (Found vars a) (λ s. then (Found vars b) (λ t. at_node records at (of_condition r s t)))) (found_holds vars c h.1)
            (λ r. two_parts at (Found vars a) (Found vars b) (of_condition r) h.0 (found_holds vars a h.2) (found_holds vars b h.3))
        found_holds vars (bind at a b) h =
            part (Found vars a) (λ s. then (Found (vars ++ s ∷ []) b) (λ t. at_node records at (Some t))) (found_holds vars a h.1)
            (λ s. one_part at (Found (vars ++ s ∷ []) b) (λ t. Some t) h.0 (found_holds (vars ++ s ∷ []) b h.2))
        found_holds vars (split at l a b) h =
            part (Found vars l) (λ r. then (item_of at r) (λ i. then (Found vars a) (λ s. then (Found (vars ++ i ∷ list_shape i ∷ []) b) (λ t. at_node records at (of_arms s t))))) (found_holds vars l h.1)
            (
            λ r. part (item_of at r) (λ i. then (Found vars a) (λ s. then (Found (vars ++ i ∷ list_shape i ∷ []) b) (λ t. at_node records at (of_arms s t)))) (item_holds at r h.0)
            (λ i. two_parts at (Found vars a) (Found (vars ++ i ∷ list_shape i ∷ []) b) of_arms h.0 (found_holds vars a h.2) (found_holds (vars ++ i ∷ list_shape i ∷ []) b h.3))
            )
        found_holds vars (nil at n) h = node at (of_list (note_shape n)) h
        found_holds vars (list_expr at es) h = one_part at (all_found records callees vars es) of_items h.0 (all_hold vars es h.1)
        found_holds vars (cons at a b) h = two_parts at (Found vars a) (Found vars b) of_head h.0 (found_holds vars a h.1) (found_holds vars b h.2)
        found_holds vars (record_expr at r es) h = one_part at (all_found records callees vars es) (of_record (slice_get records r) r) h.0 (all_hold vars es h.1)
        found_holds vars (field at r k a) h = one_part at (Found vars a) (of_field (slice_get records r) r k) h.0 (found_holds vars a h.1)

        all_hold : (vars : List ShapeTree) (es : ExprTrees) → EachPlaceOf P es → ShapeHolds (all_found records callees vars es)
        all_hold vars none h = tt
        all_hold vars (more e es) h =
            part (Found vars e) (λ s. then (all_found records callees vars es) (λ ss. Ok (s ∷ ss))) (found_holds vars e h.0)
            (λ s. part (all_found records callees vars es) (λ ss. Ok (s ∷ ss)) (all_hold vars es h.1) (λ ss. tt))

    -- ---- functions

    abbrev Declared : FunctionTree → Type 0
    Declared f = P f.at × EachPlace P f.body

    function_holds : (known : List ShapeSignature) (f : FunctionTree) → Declared f → ShapeHolds (function_found records known f)
    function_holds known f h =
        let callees = known ++ own_shapes f in
        let params = map note_shape f.params in
        let last : ShapeTree → Result ShapeSignature ShapeFault = λ s. cond (fits_result f.result s) (Ok (record { params = params; result = s })) (Err (wrong_shape f.at)) in
        cond_holds (nat_le (tallest records params) greatest_height) (then (found records callees params f.body) last) (Err (too_deep f.at))
        (part (found records callees params f.body) last (found_holds callees params f.body h.1) (λ s. cond_holds {A = ShapeSignature} (fits_result f.result s) (Ok (record { params = params; result = s })) (Err (wrong_shape f.at)) tt h.0))
        h.0

    functions_hold : (known : List ShapeSignature) (fs : List FunctionTree) → All Declared fs → ShapeHolds (functions_found records known fs)
    functions_hold known [] h = tt
    functions_hold known (f ∷ fs) h =
        part (function_found records known f) (λ g. functions_found records (known ++ g ∷ []) fs) (function_holds known f (All-head Declared f fs h))
        (λ g. functions_hold (known ++ g ∷ []) fs (All-tail Declared f fs h))

  -- ---- programs

  abbrev Placed : RecordTree → Type 0
  Placed d = P d.at

  records_hold : (earlier : List RecordShape) (ds : List RecordTree) → All Placed ds → ShapeHolds (records_found earlier ds)
  records_hold earlier [] h = tt
  records_hold earlier (d ∷ ds) h =
      part (record_found earlier d) (λ s. records_found (earlier ++ s ∷ []) ds)
      (cond_holds (nat_le (declared_shape earlier d).height greatest_height) (Ok (declared_shape earlier d)) (Err (too_deep d.at)) tt (All-head Placed d ds h))
      (λ s. records_hold (earlier ++ s ∷ []) ds (All-tail Placed d ds h))

  program_holds : (p : ProgramTree) → EachProgramPlace P p → ShapeHolds (program_found p)
  program_holds p h = part (records_found [] p.records) (λ rs. functions_found rs [] p.functions) (records_hold [] p.records h.records) (λ rs. functions_hold rs [] p.functions h.functions)

  fault_holds : {A : Type 0} (r : Result A ShapeFault) (e : ShapeFault) → ShapeHolds r → fault_of r ≡ Some e → FaultHolds e
  fault_holds (Ok x) e h is = absurd cc
  fault_holds (Err f) e h is = let same : f ≡ e = cc is in subst FaultHolds same h

  pub first_fault_holds : (p : ProgramTree) (e : ShapeFault) → EachProgramPlace P p → first_fault p ≡ Some e → FaultHolds e
  first_fault_holds p e h is = fault_holds (program_found p) e (program_holds p h) is
