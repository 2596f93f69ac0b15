-- The first fault of a program that is a node without a shape is the one of which something is told.
use Rattle.std.proofs.Common.{◌≡◌, refl, sym, ap, subst, ◌∙◌, ℕ, Bool, true, false, cond, nat_le, List, [], ◌∷◌, ◌++◌, length, map, slice_get, Option, Some, None, Result, Ok, Err}
use Rattle.std.proofs.lemmas.List.{append_assoc, append-nil, map-append}
use Rattle.um_tree.specs.TypeTree.{ShapeTree, bool_shape, num_shape, list_shape, record_shape, NoteTree}
use Rattle.um_tree.specs.ExprTree.{ExprTree, ExprTrees, truth, number, local, call, negate, not_expr, pown, arith, compare, both, either, if, bind, split, nil, list_expr, cons, record_expr, field, none, more}
use Rattle.um_tree.specs.ProgramTree.{RecordTree, FunctionTree}
use Rattle.um_tree.specs.Shapes.{note_shape, ShapeSignature}
use Rattle.um_tree.specs.Heights.{greatest_height}
use Rattle.um_agree.specs.declared.rule.Rule.TheVariants as asks
use Rattle.um_shape.specs.RecordShapes.{RecordShape, shape_height, tallest, declared_shape}
use Rattle.um_shape.specs.FirstFault.{ShapeFault, wrong_shape, too_deep, same_shape, found, all_found, own_shapes, fits_result, function_found, functions_found, records_found, program_found, fault_of, item_of}
use Rattle.um_shape.specs.FirstFault.{then as shape_then, at_node as shape_at_node}
use Rattle.um_mismatch.specs.declared.kind.Kind.TheVariants as kind
use Rattle.um_mismatch.specs.Mismatch.{Mismatch, Told, unequal, unexpected}
use Rattle.um_mismatch.specs.NodeRules.{list_item, items_of, of_result}
use Rattle.um_mismatch.specs.ShapeDetails.{then, at_node, told, all_told, function_told, functions_told, field_shapes, program_told}
use Rattle.um_mismatch.specs.Laws.{FaultsAreTold}
use Rattle.um_mismatch.proofs.RulesAgree.{Gives, gives_if, gives_two, gives_known, gives_nil, gives_head, gives_items, gives_call, gives_record, gives_field, fields_of}

-- a shape is the same; something is told of a node without one; no more is said if a shape is too tall
abbrev pub Agrees : {A : Type 0} → Result A ShapeFault → Result A Told → Type 0
Agrees (Ok x) n = n ≡ Ok x
Agrees (Err (wrong_shape at)) n = (t : Told) × (n ≡ Err t) × (t.at ≡ at)
Agrees (Err (too_deep at)) n = Unit {0}

agree_then : {A B : Type 0} (m : Result A ShapeFault) (n : Result A Told) (go : A → Result B ShapeFault) (on : A → Result B Told) → Agrees m n → ((x : A) → Agrees (go x) (on x)) → Agrees (shape_then m go) (then n on)
agree_then (Ok x) n go on h k = subst (λ r. Agrees (go x) (then r on)) (sym h) (k x)
agree_then (Err (wrong_shape at)) n go on h k = (h.0, ap (λ r. then r on) h.1, h.2)
agree_then (Err (too_deep at)) n go on h k = tt

-- ---- at one node
module _ (records : List RecordShape) (i at : ℕ) where
  agree_node : (o : Option ShapeTree) (r : Result ShapeTree Mismatch) → Gives o r → Agrees (shape_at_node records at o) (at_node i at r)
  agree_node None r h = (record { function = i; at = at; mismatch = h.0 }, ap (at_node i at) h.1, refl)
  agree_node (Some s) r h = by_test (nat_le (shape_height records s) greatest_height) where
    by_test : (b : Bool) → Agrees (cond b (Ok s) (Err (too_deep at))) (at_node i at r)
    by_test true = ap (at_node i at) h
    by_test false = tt

  agree_last : (m : Result ShapeTree ShapeFault) (n : Result ShapeTree Told) → Agrees m n → Agrees (shape_then m (λ t. shape_at_node records at (Some t))) n
  agree_last (Ok s) n h = by_test (nat_le (shape_height records s) greatest_height) where
    by_test : (b : Bool) → Agrees (cond b (Ok s) (Err (too_deep at))) n
    by_test true = h
    by_test false = tt
  agree_last (Err (wrong_shape at)) n h = h
  agree_last (Err (too_deep at)) n h = tt

  agree_item : (s : ShapeTree) → Agrees (item_of at s) (at_node i at (items_of s (list_item s)))
  agree_item bool_shape = (record { function = i; at = at; mismatch = unexpected kind.List bool_shape }, refl, refl)
  agree_item num_shape = (record { function = i; at = at; mismatch = unexpected kind.List num_shape }, refl, refl)
  agree_item (list_shape s) = refl
  agree_item (record_shape r) = (record { function = i; at = at; mismatch = unexpected kind.List (record_shape r) }, refl, refl)

-- ---- an expression
module _ (i : ℕ) (records : List RecordShape) (callees : List ShapeSignature) where
  abbrev finds : List ShapeTree → ExprTree → Result ShapeTree ShapeFault
  finds vars e = found records callees vars e

  abbrev tells : List ShapeTree → ExprTree → Result ShapeTree Told
  tells vars e = told i (map fields_of records) callees vars e

  mutual
    agree : (vars : List ShapeTree) (e : ExprTree) → Agrees (found records callees vars e) (told i (map fields_of records) callees vars e)
    agree vars (truth at b) = agree_node records i at (Some bool_shape) (Ok bool_shape) refl
    agree vars (number at c n) = agree_node records i at (Some num_shape) (Ok num_shape) refl
    agree vars (local at k) = agree_node records i at (slice_get vars k) _ (gives_known (slice_get vars k))
    agree vars (call at j es) =
        agree_then (all_found records callees vars es) _ _ _ (all_agree vars es) (λ ss. agree_node records i at _ _ (gives_call j (slice_get callees j) ss))
    agree vars (negate at a) =
        agree_then (finds vars a) _ _ _ (agree vars a) (λ s. agree_node records i at _ _ (gives_if (same_shape s num_shape) num_shape (unexpected kind.Number s)))
    agree vars (not_expr at a) =
        agree_then (finds vars a) _ _ _ (agree vars a) (λ s. agree_node records i at _ _ (gives_if (same_shape s bool_shape) bool_shape (unexpected kind.Truth s)))
    agree vars (pown at a k) =
        agree_then (finds vars a) _ _ _ (agree vars a) (λ s. agree_node records i at _ _ (gives_if (same_shape s num_shape) num_shape (unexpected kind.Number s)))
    agree vars (arith at op a b) =
        agree_then (finds vars a) _ _ _ (agree vars a) (λ s. agree_then (finds vars b) _ _ _ (agree vars b)
        (λ t. agree_node records i at _ _ (gives_two (same_shape s num_shape) (same_shape t num_shape) num_shape (unexpected kind.Number t) (unexpected kind.Number s))))
    agree vars (compare at sign a b) =
        agree_then (finds vars a) _ _ _ (agree vars a) (λ s. agree_then (finds vars b) _ _ _ (agree vars b)
        (λ t. agree_node records i at _ _ (gives_two (same_shape s num_shape) (same_shape t num_shape) bool_shape (unexpected kind.Number t) (unexpected kind.Number s))))
    agree vars (both at a b) =
        agree_then (finds vars a) _ _ _ (agree vars a) (λ s. agree_then (finds vars b) _ _ _ (agree vars b)
        (λ t. agree_node records i at _ _ (gives_two (same_shape s bool_shape) (same_shape t bool_shape) bool_shape (unexpected kind.Truth t) (unexpected kind.Truth s))))
    agree vars (either at a b) =
        agree_then (finds vars a) _ _ _ (agree vars a) (λ s. agree_then (finds vars b) _ _ _ (agree vars b)
        (λ t. agree_node records i at _ _ (gives_two (same_shape s bool_shape) (same_shape t bool_shape) bool_shape (unexpected kind.Truth t) (unexpected kind.Truth s))))
    agree vars (if at c a b) =
        agree_then (finds vars c) _ _ _ (agree vars c) (λ r. agree_then (finds vars a) _ _ _ (agree vars a) (λ s. agree_then (finds vars b) _ _ _ (agree vars b)
        (λ t. agree_node records i at _ _ (gives_two (same_shape r bool_shape) (same_shape t s) s (unequal asks.Branches s t) (unexpected kind.Truth r)))))
    agree vars (bind at a b) =
        agree_then (finds vars a) _ _ _ (agree vars a) (λ s. agree_last records i at (finds (vars ++ s ∷ []) b) (tells (vars ++ s ∷ []) b) (agree (vars ++ s ∷ []) b))
    agree vars (split at l a b) =
        agree_then (finds vars l) _ _ _ (agree vars l) (λ r. agree_then (item_of at r) _ _ _ (agree_item records i at r) (λ item. agree_then (finds vars a) _ _ _ (agree vars a) (λ s. agree_then (finds (vars ++ item ∷ list_shape item ∷ []) b) _ _ _ (agree (vars ++ item ∷ list_shape item ∷ []) b)
        (λ t. agree_node records i at _ _ (gives_if (same_shape t s) s (unequal asks.Arms s t))))))
    agree vars (nil at n) = agree_node records i at _ _ (gives_nil (note_shape n))
    agree vars (list_expr at es) =
        agree_then (all_found records callees vars es) _ _ _ (all_agree vars es) (λ ss. agree_node records i at _ _ (gives_items ss))
    agree vars (cons at a b) =
        agree_then (finds vars a) _ _ _ (agree vars a) (λ s. agree_then (finds vars b) _ _ _ (agree vars b) (λ t. agree_node records i at _ _ (gives_head s t)))
    agree vars (record_expr at r es) =
        agree_then (all_found records callees vars es) _ _ _ (all_agree vars es) (λ ss. agree_node records i at _ _ (gives_record records r ss))
    agree vars (field at r k a) =
        agree_then (finds vars a) _ _ _ (agree vars a) (λ s. agree_node records i at _ _ (gives_field records r k s))

    all_agree : (vars : List ShapeTree) (es : ExprTrees) → Agrees (all_found records callees vars es) (all_told i (map fields_of records) callees vars es)
    all_agree vars none = refl
    all_agree vars (more e es) =
        agree_then (finds vars e) _ _ _ (agree vars e) (λ s. agree_then (all_found records callees vars es) _ _ _ (all_agree vars es) (λ ss. refl))

-- ---- a program
agree_result : (i at : ℕ) (params : List ShapeTree) (n : Option NoteTree) (s : ShapeTree) →
    Agrees {A = ShapeSignature} (cond (fits_result n s) (Ok (record { params = params; result = s })) (Err (wrong_shape at))) (then (at_node i at (of_result n s)) (λ result. Ok (record { params = params; result = result })))
agree_result i at params None s = refl
agree_result i at params (Some n) s = by_test (same_shape s (note_shape n)) where
  by_test : (b : Bool) → Agrees {A = ShapeSignature} (cond b (Ok (record { params = params; result = s })) (Err (wrong_shape at))) (then (at_node i at (cond b (Ok s) (Err (unequal asks.ResultNote s (note_shape n))))) (λ result. Ok (record { params = params; result = result })))
  by_test true = refl
  by_test false = (record { function = i; at = at; mismatch = unequal asks.ResultNote s (note_shape n) }, refl, refl)

agree_function : (records : List RecordShape) (before : List ShapeSignature) (f : FunctionTree) → Agrees (function_found records before f) (function_told (map fields_of records) before f)
agree_function records before f = by_test (nat_le (tallest records (map note_shape f.params)) greatest_height) where
  by_test : (b : Bool) → Agrees {A = ShapeSignature} (cond b (shape_then (found records (before ++ own_shapes f) (map note_shape f.params) f.body) (λ s. cond (fits_result f.result s) (Ok (record { params = map note_shape f.params; result = s })) (Err (wrong_shape f.at)))) (Err (too_deep f.at))) (function_told (map fields_of records) before f)
  by_test true =
      agree_then (found records (before ++ own_shapes f) (map note_shape f.params) f.body) _ _ _ (agree (length before) records (before ++ own_shapes f) (map note_shape f.params) f.body)
      (λ s. agree_result (length before) f.at (map note_shape f.params) f.result s)
  by_test false = tt

agree_functions : (records : List RecordShape) (before : List ShapeSignature) (fs : List FunctionTree) → Agrees (functions_found records before fs) (functions_told (map fields_of records) before fs)
agree_functions records before [] = refl
agree_functions records before (f ∷ fs) =
    agree_then (function_found records before f) _ _ _ (agree_function records before f) (λ g. agree_functions records (before ++ g ∷ []) fs)

agree_program : (fs : List FunctionTree) (earlier : List RecordShape) (ds : List RecordTree) →
    Agrees (shape_then (records_found earlier ds) (λ records. functions_found records [] fs)) (functions_told (map fields_of earlier ++ map field_shapes ds) [] fs)
agree_program fs earlier [] = subst (λ rs. Agrees (functions_found earlier [] fs) (functions_told rs [] fs)) (sym (append-nil (map fields_of earlier))) (agree_functions earlier [] fs)
agree_program fs earlier (d ∷ ds) = by_test (nat_le (declared_shape earlier d).height greatest_height) (agree_program fs (earlier ++ declared_shape earlier d ∷ []) ds) where
  all_fields : map fields_of (earlier ++ declared_shape earlier d ∷ []) ++ map field_shapes ds ≡ map fields_of earlier ++ map field_shapes (d ∷ ds)
  all_fields =
      ap (λ rs. rs ++ map field_shapes ds) (map-append fields_of earlier (declared_shape earlier d ∷ []))
      ∙ append_assoc (map fields_of earlier) (field_shapes d ∷ []) (map field_shapes ds)

  by_test : (b : Bool) → Agrees (shape_then (records_found (earlier ++ declared_shape earlier d ∷ []) ds) (λ records. functions_found records [] fs)) (functions_told (map fields_of (earlier ++ declared_shape earlier d ∷ []) ++ map field_shapes ds) [] fs) →
      Agrees (shape_then (shape_then (cond b (Ok (declared_shape earlier d)) (Err (too_deep d.at))) (λ s. records_found (earlier ++ s ∷ []) ds)) (λ records. functions_found records [] fs)) (functions_told (map fields_of earlier ++ map field_shapes (d ∷ ds)) [] fs)
  by_test true h = subst (λ rs. Agrees (shape_then (records_found (earlier ++ declared_shape earlier d ∷ []) ds) (λ records. functions_found records [] fs)) (functions_told rs [] fs)) all_fields h
  by_test false h = tt

pub faults_are_told : FaultsAreTold
faults_are_told p at e = of_fault (program_found p) (program_told p) (agree_program p.functions [] p.records) e where
  of_fault : (m : Result (List ShapeSignature) ShapeFault) (n : Result (List ShapeSignature) Told) → Agrees m n → fault_of m ≡ Some (wrong_shape at) → (t : Told) × (n ≡ Err t) × (t.at ≡ at)
  of_fault (Ok gs) n h e = absurd cc
  of_fault (Err (wrong_shape a)) n h e = let same : a ≡ at = cc in (h.0, h.1, h.2 ∙ same)
  of_fault (Err (too_deep a)) n h e = absurd cc
