-- The shapes that are found are no taller than 400.
use Rattle.std.proofs.Common.{◌≡◌, refl, sym, subst, ℕ, zero, suc, ◌+◌, ◌<◌, ◌≤◌, ◌⊎◌, inl, inr, Bool, true, false, cond, nat_le, List, [], ◌∷◌, ◌++◌, map, length, slice_get, Option, Some, None, Ok, Err, arith}
use Rattle.std.proofs.lemmas.Bool.Decides.{nat_tests}
use Rattle.um_tree.specs.TypeTree.{ShapeTree, bool_shape, num_shape, list_shape}
use Rattle.um_tree.specs.ExprTree.{ExprTree, truth, number, local, call, negate, not_expr, pown, arith as arith_tree, compare, both, either, if, bind, split, nil, list_expr, cons, record_expr, field}
use Rattle.um_tree.specs.ProgramTree.{FunctionTree, ProgramTree}
use Rattle.um_tree.specs.Shapes.{note_shape, ShapeSignature}
use Rattle.um_tree.specs.Heights.{greatest_height}
use Rattle.um_shape.specs.RecordShapes.{RecordShape, shape_height, tallest}
use Rattle.um_shape.specs.FirstFault.{wrong_shape, too_deep, then, same_shape, where_true, of_numbers, of_truths, of_arms, of_condition, of_list, of_items, of_head, of_call, of_record, of_field, at_node, item_of, found, all_found, own_shapes, fits_result, function_found, functions_found, records_found, program_found}
use Rattle.um_shape.specs.ShapedProgram.{IsLowShape}
use Rattle.um_shape.proofs.Sound.{then_ok}
use Rattle.um_shape.proofs.SoundProgram.{in_either, only_one, nothing_at, function_ok}

low_node : (records : List RecordShape) (at : ℕ) (o : Option ShapeTree) (s : ShapeTree) → at_node records at o ≡ Ok s → shape_height records s ≤ greatest_height
low_node records at None s e = absurd cc
low_node records at (Some t) s e = by_test (nat_le (shape_height records t) greatest_height) refl e where
  by_test : (b : Bool) → nat_le (shape_height records t) greatest_height ≡ b → cond b (Ok t) (Err (too_deep at)) ≡ Ok s → shape_height records s ≤ greatest_height
  by_test true h e =
      let same : t ≡ s = cc in
      let low : shape_height records t ≤ greatest_height = grind (arith, nat_tests) in
      subst (λ x. shape_height records x ≤ greatest_height) same low
  by_test false h e = absurd cc

module _ (records : List RecordShape) (callees : List ShapeSignature) where
  pub low_found : (vars : List ShapeTree) (e : ExprTree) (s : ShapeTree) → found records callees vars e ≡ Ok s → shape_height records s ≤ greatest_height
  low_found vars (truth at b) s e = low_node records at (Some bool_shape) s e
  low_found vars (number at c n) s e = low_node records at (Some num_shape) s e
  low_found vars (local at k) s e = low_node records at (slice_get vars k) s e
  low_found vars (call at j es) s e = let h = then_ok (all_found records callees vars es) _ s e in low_node records at (of_call (slice_get callees j) h.0) s h.2
  low_found vars (negate at a) s e = let h = then_ok (found records callees vars a) _ s e in low_node records at (where_true (same_shape h.0 num_shape) num_shape) s h.2
  low_found vars (pown at a i) s e = let h = then_ok (found records callees vars a) _ s e in low_node records at (where_true (same_shape h.0 num_shape) num_shape) s h.2
  low_found vars (not_expr at a) s e = let h = then_ok (found records callees vars a) _ s e in low_node records at (where_true (same_shape h.0 bool_shape) bool_shape) s h.2
  low_found vars (arith_tree at op a b) s e =
      let h = then_ok (found records callees vars a) _ s e in
      let k = then_ok (found records callees vars b) _ s h.2 in
      low_node records at (of_numbers h.0 k.0 num_shape) s k.2
  low_found vars (compare at sign a b) s e =
      let h = then_ok (found records callees vars a) _ s e in
      let k = then_ok (found records callees vars b) _ s h.2 in
      low_node records at (of_numbers h.0 k.0 bool_shape) s k.2
  low_found vars (both at a b) s e =
      let h = then_ok (found records callees vars a) _ s e in
      let k = then_ok (found records callees vars b) _ s h.2 in
      low_node records at (of_truths h.0 k.0) s k.2
  low_found vars (either at a b) s e =
      let h = then_ok (found records callees vars a) _ s e in
      let k = then_ok (found records callees vars b) _ s h.2 in
      low_node records at (of_truths h.0 k.0) s k.2
  low_found vars (if at c a b) s e =
      let h = then_ok (found records callees vars c) _ s e in
      let k = then_ok (found records callees vars a) _ s h.2 in
      let l = then_ok (found records callees vars b) _ s k.2 in
      low_node records at (of_condition h.0 k.0 l.0) s l.2
  low_found vars (bind at a b) s e =
      let h = then_ok (found records callees vars a) _ s e in
      let k = then_ok (found records callees (vars ++ h.0 ∷ []) b) _ s h.2 in
      low_node records at (Some k.0) s k.2
  low_found vars (split at l a b) s e =
      let h = then_ok (found records callees vars l) _ s e in
      let i = then_ok (item_of at h.0) _ s h.2 in
      let k = then_ok (found records callees vars a) _ s i.2 in
      let m = then_ok (found records callees (vars ++ i.0 ∷ list_shape i.0 ∷ []) b) _ s k.2 in
      low_node records at (of_arms k.0 m.0) s m.2
  low_found vars (nil at n) s e = low_node records at (of_list (note_shape n)) s e
  low_found vars (list_expr at es) s e = let h = then_ok (all_found records callees vars es) _ s e in low_node records at (of_items h.0) s h.2
  low_found vars (cons at a b) s e =
      let h = then_ok (found records callees vars a) _ s e in
      let k = then_ok (found records callees vars b) _ s h.2 in
      low_node records at (of_head h.0 k.0) s k.2
  low_found vars (record_expr at r es) s e = let h = then_ok (all_found records callees vars es) _ s e in low_node records at (of_record (slice_get records r) r h.0) s h.2
  low_found vars (field at r k a) s e = let h = then_ok (found records callees vars a) _ s e in low_node records at (of_field (slice_get records r) r k h.0) s h.2

-- the parameters and the result are no taller than 400
record LowShapes (records : List RecordShape) (g : ShapeSignature) : Type 0 where
  params : tallest records g.params ≤ greatest_height
  result : shape_height records g.result ≤ greatest_height

low_params : (records : List RecordShape) (known : List ShapeSignature) (f : FunctionTree) (g : ShapeSignature) → function_found records known f ≡ Ok g → tallest records (map note_shape f.params) ≤ greatest_height
low_params records known f g e = by_test (nat_le (tallest records (map note_shape f.params)) greatest_height) refl e where
  by_test : (b : Bool) → nat_le (tallest records (map note_shape f.params)) greatest_height ≡ b → cond b (then (found records (known ++ own_shapes f) (map note_shape f.params) f.body) (λ s. cond (fits_result f.result s) (Ok (record { params = map note_shape f.params; result = s })) (Err (wrong_shape f.at)))) (Err (too_deep f.at)) ≡ Ok g → tallest records (map note_shape f.params) ≤ greatest_height
  by_test true h e = grind (arith, nat_tests)
  by_test false h e = absurd cc

low_function : (records : List RecordShape) (known : List ShapeSignature) (f : FunctionTree) (g : ShapeSignature) → function_found records known f ≡ Ok g → LowShapes records g
low_function records known f g e =
    let h = function_ok records known f g e in
    let low = low_params records known f g e in
    let body = low_found records (known ++ own_shapes f) (map note_shape f.params) f.body h.0 h.1 in
    subst (LowShapes records) (sym h.3) (record { params = low; result = body })

abbrev AllLow : List RecordShape → List ShapeSignature → Type 0
AllLow records gs = (i : ℕ) (g : ShapeSignature) → slice_get gs i ≡ Some g → LowShapes records g

low_more : (records : List RecordShape) (known : List ShapeSignature) (g : ShapeSignature) → AllLow records known → LowShapes records g → AllLow records (known ++ g ∷ [])
low_more records known g w l i c e = either (in_either known (g ∷ []) i c e) where
  either : ((i < length known) × (slice_get known i ≡ Some c)) ⊎ ((m : ℕ) × (i ≡ length known + m) × (slice_get (g ∷ []) m ≡ Some c)) → LowShapes records c
  either (inl x) = w i c x.1
  either (inr x) = subst (LowShapes records) (only_one g x.0 c x.2).1 l

low_functions_found : (records : List RecordShape) (fs : List FunctionTree) (known gs : List ShapeSignature) → AllLow records known → functions_found records known fs ≡ Ok gs → AllLow records gs
low_functions_found records [] known gs w e = let h : known ≡ gs = cc in subst (AllLow records) h w
low_functions_found records (f ∷ fs) known gs w e =
    let h = then_ok (function_found records known f) _ gs e in
    low_functions_found records fs (known ++ h.0 ∷ []) gs (low_more records known h.0 w (low_function records known f h.0 h.1)) h.2

low_at : (records : List RecordShape) (ss : List ShapeTree) (k : ℕ) (s : ShapeTree) → slice_get ss k ≡ Some s → shape_height records s ≤ tallest records ss
low_at records [] zero s e = absurd cc
low_at records [] (suc k) s e = absurd cc
low_at records (t ∷ ss) zero s e = let same : t ≡ s = cc in subst (λ x. shape_height records x ≤ tallest records (t ∷ ss)) same (omega arith)
low_at records (t ∷ ss) (suc k) s e = let h = low_at records ss k s e in omega (arith, h)

module _ (p : ProgramTree) (gs : List ShapeSignature) (e : program_found p ≡ Ok gs) where
  pub low_param : (i k : ℕ) (g : ShapeSignature) (s : ShapeTree) → slice_get gs i ≡ Some g → slice_get g.params k ≡ Some s → IsLowShape p s
  low_param i k g s there here =
      let h = then_ok (records_found [] p.records) _ gs e in
      let w = low_functions_found h.0 p.functions [] gs (λ i g x. absurd (nothing_at i g x)) h.2 i g there in
      let below = low_at h.0 g.params k s here in
      let top = w.params in
      (h.0, h.1, omega (arith, below, top))

  pub low_result_shape : (i : ℕ) (g : ShapeSignature) → slice_get gs i ≡ Some g → IsLowShape p g.result
  low_result_shape i g there =
      let h = then_ok (records_found [] p.records) _ gs e in
      let w = low_functions_found h.0 p.functions [] gs (λ i g x. absurd (nothing_at i g x)) h.2 i g there in
      (h.0, h.1, w.result)
