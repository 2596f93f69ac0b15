-- The code of an expression that has a shape passes the rules, and leaves one value whose shape fits it.
use Rattle.std.proofs.Common.{◌≡◌, refl, sym, subst, ap, ◌∙◌, ℕ, ◌+◌, ◌<◌, ◌≤◌, true, false, List, [], ◌∷◌, ◌++◌, length, map, Some, Ok, slice_get, arith, length-append}
use Rattle.std.specs.Prelude.{get_or}
use Rattle.um_tree.specs.declared.expression.Arith.{Arith}
use Rattle.um_tree.specs.declared.expression.Arith.TheVariants as arith_of
use Rattle.um_tree.specs.declared.expression.Sign.{Sign}
use Rattle.um_tree.specs.declared.expression.Sign.TheVariants as sign
use Rattle.um_tree.specs.TypeTree.{ShapeTree, bool_shape, num_shape, list_shape, record_shape}
use Rattle.um_tree.specs.ExprTree.{ExprTree, ExprTrees, truth, number, local, call, negate, not_expr, pown, arith as arith_tree, compare, both, either, if, bind, split, nil, list_expr, cons, record_expr, field, none, more}
use Rattle.um_tree.specs.Shapes.{note_shape, ShapeSignature, EachShapeIs}
use Rattle.um_tree.specs.Formed.{count}
use Rattle.um_shape.specs.RecordShapes.{RecordShape}
use Rattle.um_shape.specs.FirstFault.{same_shape, of_list, of_items, of_call, of_record, item_of, found, all_found}
use Rattle.um_shape.proofs.SameShape.{same_shape-is}
use Rattle.um_shape.proofs.Sound.{then_ok, node_ok, where_true_is, asked, item_is}
use Rattle.um_shape.proofs.LowShapes.{low_found}
use Rattle.um_machine.specs.declared.op.Op.{Op}
use Rattle.um_machine.specs.declared.op.Op.TheVariants.{PushNum, PushBool, Load, Add, Sub, Mul, Div, Neg, Not, Lt, Le, Eq, Jump, JumpIfNot, MakeList, Cons, Split, MakeRec, Field, Slide, Call, Pow}
use Rattle.um_machine.specs.declared.code.Code.{Code}
use Rattle.um_machine.specs.Machine.{op_at}
use Rattle.um_machine.proofs.Rank.{op_is}
use Rattle.um_gen.specs.ProgramCode.{arith_op, sign_ops, expr_size, all_size, expr_code, all_code}
use Rattle.um_gen.proofs.Stands.{InRow, in_front, in_back, after_code, length_all}
use Rattle.um_verify.specs.StackShape.{StackShape, void, bool, num, list, made, on_stack, fits}
use Rattle.um_verify.specs.Rules.{Body, View, fit_one, fit_two, rule}
use Rattle.um_verify.specs.Verified.{nobody, arrived}
use Rattle.um_verify.proofs.Joins.{fits_self}
use Rattle.um_image.proofs.Tops.{AllFit, FitEach, PlacesFit, places_get, places_keep, places_push, places_two, on_stack_height, Low, IsLow, low_fitting, low_more}
use Rattle.um_image.proofs.Passing.{M, Quiet, Through, at_end, of_shape, leaf, single, Pair, pair_of, double, Row, no_row, more_row, row_ends, branch, part}
use Rattle.um_image.proofs.NodeRules.{fit_one_rule, fit_two_rule, load_rule, nil_rule, slide_rule, cons_rule, list_rule, call_rule, record_rule, field_rule}
use Rattle.um_image.proofs.NodeShapes.{list_found, items_found, call_found, record_found, field_found}

-- an expression has an instruction
pub some_code : (x : ExprTree) → 0 < expr_size x
some_code (truth at b) = omega arith
some_code (number at c n) = omega arith
some_code (local at k) = omega arith
some_code (call at j es) = omega arith
some_code (negate at x) = omega arith
some_code (not_expr at x) = omega arith
some_code (pown at x k) = omega arith
some_code (arith_tree at op x y) = omega arith
some_code (compare at s x y) = let h = some_code x in omega arith
some_code (both at x y) = omega arith
some_code (either at x y) = omega arith
some_code (if at c x y) = omega arith
some_code (bind at x y) = omega arith
some_code (split at l x y) = omega arith
some_code (nil at n) = omega arith
some_code (list_expr at es) = omega arith
some_code (cons at x y) = omega arith
some_code (record_expr at r es) = omega arith
some_code (field at r k x) = omega arith

each_fits : (ws : List StackShape) (t : ShapeTree) (rest : List ShapeTree) → EachShapeIs t rest → FitEach ws rest → AllFit ws (on_stack t)
each_fits [] t [] e h = tt
each_fits (w ∷ ws) t (s ∷ rest) e h = (subst (λ (x : ShapeTree). fits w (on_stack x) ≡ true) e.0 h.0, each_fits ws t rest e.1 h.1)
each_fits [] t (s ∷ rest) e h = absurd h
each_fits (w ∷ ws) t [] e h = absurd h

all_fits : (ws : List StackShape) (t : ShapeTree) (rest : List ShapeTree) → EachShapeIs t rest → FitEach ws (t ∷ rest) → AllFit ws (on_stack t)
all_fits [] t rest e h = absurd h
all_fits (w ∷ ws) t rest e h = (h.0, each_fits ws t rest e h.1)

some_is : (x y : ShapeTree) → Some x ≡ Some y → x ≡ y
some_is x y h = cc

longer : (st : List StackShape) (w : StackShape) (d : ℕ) → d ≡ length st → d + 1 ≡ length (st ++ w ∷ [])
longer st w d h = let l : length (st ++ w ∷ []) ≡ length st + length (w ∷ []) = length-append st (w ∷ []) in omega arith

longer_two : (st : List StackShape) (i r : StackShape) (d : ℕ) → d ≡ length st → d + 2 ≡ length (st ++ i ∷ r ∷ [])
longer_two st i r d h = let l : length (st ++ i ∷ r ∷ []) ≡ length st + length (i ∷ r ∷ []) = length-append st (i ∷ r ∷ []) in omega arith

-- the function that is called has these shapes
abbrev pub Known : View → List ShapeSignature → Type 0
Known view callees =
    (j : ℕ) (g : ShapeSignature) → slice_get callees j ≡ Some g → (b : Body) × (slice_get view.bodies j ≡ Some b) × (b.params ≡ map on_stack g.params) × (b.result ≡ on_stack g.result)

-- and the records these fields
abbrev pub Recorded : View → Type 0
Recorded view =
    (r : ℕ) (d : RecordShape) → slice_get view.heights r ≡ Some d → slice_get view.fields r ≡ Some (map on_stack d.fields)

abbrev pub Positive : View → Type 0
Positive view = (r : ℕ) (d : RecordShape) → slice_get view.heights r ≡ Some d → 1 ≤ d.height

module _ (code : Code) (f : ℕ) (view : View) (e : Body) (same_ops : view.ops ≡ code.ops) (positive : Positive view) (recorded : Recorded view) (callees : List ShapeSignature) (known : Known view callees) where
  abbrev Row_of : ℕ → List Op → Type 0
  Row_of a is = InRow code f a is

  abbrev T : ℕ → ℕ → List StackShape → ShapeTree → Type 0
  T a z st s = Through view e positive a z st (on_stack s)

  abbrev LowSt : List StackShape → Type 0
  LowSt st = Low view.heights positive st

  abbrev Q : ℕ → ℕ → Type 0
  Q a z = Quiet view e positive a z

  abbrev Arrives : ℕ → List StackShape → Type 0
  Arrives a st = M view e positive a a ≡ arrived st

  has : (a : ℕ) (i : Op) → op_at code f a ≡ Some i → slice_get view.ops a ≡ Some i
  has a i h = ap (λ (ops : List Op). slice_get ops a) same_ops ∙ op_is code f a i h

  low_shape : (vars : List ShapeTree) (x : ExprTree) (s : ShapeTree) → found view.heights callees vars x ≡ Ok s → IsLow view.heights positive (on_stack s)
  low_shape vars x s h =
      let l = low_found view.heights callees vars x s h in
      let n = on_stack_height view.heights s in
      omega arith

  after_row : (es : ExprTrees) (ps : List ℕ) (d a z : ℕ) (ys : List Op) → Row_of a (all_code es ps d a ++ ys) → z ≡ a + all_size es → Row_of z ys
  after_row es ps d a z ys h k = in_back code f a z (all_code es ps d a) ys h (omega (arith, length_all es ps d a))

  -- an instruction on one number or truth value
  unary : (a l : ℕ) (i : Op) (st : List StackShape) (asked given s : ShapeTree) → e.start ≤ a → a < l → T a l st asked → M view e positive l a ≡ nobody → op_at code f l ≡ Some i → ((xs : List StackShape) → rule view e l xs i ≡ fit_one l xs (on_stack asked) (on_stack given)) → given ≡ s → LowSt st → IsLow view.heights positive (on_stack s) → l + 1 < e.end → T a (l + 1) st s
  unary a l i st asked given s b c x q h r same lst ls end =
      single view e positive a l i st (on_stack asked) (on_stack s) b c x q (has l i h)
      (λ w k. (on_stack given, r (st ++ w ∷ []) ∙ fit_one_rule view e l st w (on_stack asked) (on_stack given) k, subst (λ (t : ShapeTree). fits (on_stack given) (on_stack t) ≡ true) same (fits_self (on_stack given)))) lst ls end

  binary : (a l : ℕ) (i : Op) (st : List StackShape) (asked given s : ShapeTree) → e.start ≤ a → a < l → Pair view e positive a l st (on_stack asked) (on_stack asked) → op_at code f l ≡ Some i → ((xs : List StackShape) → rule view e l xs i ≡ fit_two l xs (on_stack asked) (on_stack given)) → given ≡ s → LowSt st → IsLow view.heights positive (on_stack s) → l + 1 < e.end → T a (l + 1) st s
  binary a l i st asked given s b c p h r same lst ls end =
      double view e positive a l i st (on_stack asked) (on_stack asked) (on_stack s) b c p (has l i h)
      (λ v w j k. (on_stack given, r ((st ++ v ∷ []) ++ w ∷ []) ∙ fit_two_rule view e l st v w (on_stack asked) (on_stack given) j k, subst (λ (t : ShapeTree). fits (on_stack given) (on_stack t) ≡ true) same (fits_self (on_stack given)))) lst ls end

  arith_through : (op : Arith) (a l : ℕ) (st : List StackShape) (s : ShapeTree) → e.start ≤ a → a < l → Pair view e positive a l st num num → op_at code f l ≡ Some (arith_op op) → num_shape ≡ s → LowSt st → IsLow view.heights positive (on_stack s) → l + 1 < e.end → T a (l + 1) st s
  arith_through arith_of.Add a l st s b c p h same lst ls end = binary a l Add st num_shape num_shape s b c p h (λ xs. refl) same lst ls end
  arith_through arith_of.Sub a l st s b c p h same lst ls end = binary a l Sub st num_shape num_shape s b c p h (λ xs. refl) same lst ls end
  arith_through arith_of.Mul a l st s b c p h same lst ls end = binary a l Mul st num_shape num_shape s b c p h (λ xs. refl) same lst ls end
  arith_through arith_of.Div a l st s b c p h same lst ls end = binary a l Div st num_shape num_shape s b c p h (λ xs. refl) same lst ls end

  -- a comparison, and then the other truth value
  turned : (i : Op) (a l z : ℕ) (st : List StackShape) (s : ShapeTree) → e.start ≤ a → a < l → z ≡ l + 1 + 1 → Pair view e positive a l st num num → ((xs : List StackShape) → rule view e l xs i ≡ fit_two l xs num bool) → op_at code f l ≡ Some i → op_at code f (l + 1) ≡ Some Not → bool_shape ≡ s → M view e positive (l + 1) a ≡ nobody → LowSt st → IsLow view.heights positive bool → IsLow view.heights positive (on_stack s) → z < e.end → T a z st s
  turned i a l z st s b c q p r h k same quiet lst lb ls end =
      let x = binary a l i st num_shape bool_shape bool_shape b c p h r refl lst lb (omega arith) in
      at_end view e positive a z (l + 1 + 1) st (on_stack s) q (unary a (l + 1) Not st bool_shape bool_shape s b (omega arith) x quiet k (λ xs. refl) same lst ls (omega arith))

  sign_through : (g : Sign) (a l z : ℕ) (st : List StackShape) (s : ShapeTree) → e.start ≤ a → a < l → z ≡ l + length (sign_ops g) → Pair view e positive a l st num num → Row_of l (sign_ops g) → bool_shape ≡ s → (l + 1 < z → M view e positive (l + 1) a ≡ nobody) → LowSt st → IsLow view.heights positive bool → IsLow view.heights positive (on_stack s) → z < e.end → T a z st s
  sign_through sign.Lt a l z st s b c q p h same quiet lst lb ls end = at_end view e positive a z (l + 1) st (on_stack s) q (binary a l Lt st num_shape bool_shape s b c p h.0 (λ xs. refl) same lst ls (omega arith))
  sign_through sign.Le a l z st s b c q p h same quiet lst lb ls end = at_end view e positive a z (l + 1) st (on_stack s) q (binary a l Le st num_shape bool_shape s b c p h.0 (λ xs. refl) same lst ls (omega arith))
  sign_through sign.Eq a l z st s b c q p h same quiet lst lb ls end = at_end view e positive a z (l + 1) st (on_stack s) q (binary a l Eq st num_shape bool_shape s b c p h.0 (λ xs. refl) same lst ls (omega arith))
  sign_through sign.Gt a l z st s b c q p h same quiet lst lb ls end = turned Le a l z st s b c (omega arith) p (λ xs. refl) h.0 h.1.0 same (quiet (omega arith)) lst lb ls end
  sign_through sign.Ge a l z st s b c q p h same quiet lst lb ls end = turned Lt a l z st s b c (omega arith) p (λ xs. refl) h.0 h.1.0 same (quiet (omega arith)) lst lb ls end
  sign_through sign.Ne a l z st s b c q p h same quiet lst lb ls end = turned Eq a l z st s b c (omega arith) p (λ xs. refl) h.0 h.1.0 same (quiet (omega arith)) lst lb ls end

  low_bool : IsLow view.heights positive bool
  low_bool = omega arith

  some_sign : (g : Sign) → 0 < length (sign_ops g)
  some_sign sign.Lt = omega arith
  some_sign sign.Le = omega arith
  some_sign sign.Eq = omega arith
  some_sign sign.Gt = omega arith
  some_sign sign.Ge = omega arith
  some_sign sign.Ne = omega arith

  low_top : (vars : List ShapeTree) (x : ExprTree) (s u : ShapeTree) (w : StackShape) → found view.heights callees vars x ≡ Ok s → s ≡ u → fits w (on_stack u) ≡ true → (st : List StackShape) → LowSt st → LowSt (st ++ w ∷ [])
  low_top vars x s u w h same fw st lst =
      low_more view.heights positive st w lst (low_fitting view.heights positive w (on_stack u) fw (subst (λ (t : ShapeTree). IsLow view.heights positive (on_stack t)) same (low_shape vars x s h)))

  -- a part whose shape is known under another name
  as_shape : (a z : ℕ) (st : List StackShape) (s t : ShapeTree) → s ≡ t → T a z st s → T a z st t
  as_shape a z st s t same x = subst (T a z st) same x

  -- from a on stand the instructions, and from there on this state has arrived
  mutual
    pub through : (x : ExprTree) (vars : List ShapeTree) (ps : List ℕ) (d a z : ℕ) (st : List StackShape) (s : ShapeTree) → found view.heights callees vars x ≡ Ok s → Row_of a (expr_code x ps d a) → z ≡ a + expr_size x → PlacesFit st ps vars → d ≡ length st → e.start ≤ a → Arrives a st → LowSt st → Q a z → z < e.end → T a z st s
    through (truth at b) vars ps d a z st s w h q pf dl lo m lst quiet end =
        let same = some_is bool_shape s (node_ok view.heights at (Some bool_shape) s w) in
        at_end view e positive a z (a + 1) st (on_stack s) q (leaf view e positive a (PushBool b) st bool (on_stack s) lo (has a (PushBool b) h.0) m refl (subst (λ (t : ShapeTree). fits bool (on_stack t) ≡ true) same refl) lst (low_shape vars (truth at b) s w) (omega arith))
    through (number at c n) vars ps d a z st s w h q pf dl lo m lst quiet end =
        let same = some_is num_shape s (node_ok view.heights at (Some num_shape) s w) in
        at_end view e positive a z (a + 1) st (on_stack s) q (leaf view e positive a (PushNum c) st num (on_stack s) lo (has a (PushNum c) h.0) m refl (subst (λ (t : ShapeTree). fits num (on_stack t) ≡ true) same refl) lst (low_shape vars (number at c n) s w) (omega arith))
    through (local at k) vars ps d a z st s w h q pf dl lo m lst quiet end =
        let g = places_get st ps vars k s pf (node_ok view.heights at (slice_get vars k) s w) in
        at_end view e positive a z (a + 1) st (on_stack s) q (leaf view e positive a (Load (get_or ps k 0)) st g.0 (on_stack s) lo (has a (Load (get_or ps k 0)) h.0) m (load_rule view e a (get_or ps k 0) st g.0 g.1) g.2 lst (low_shape vars (local at k) s w) (omega arith))
    through (call at j es) vars ps d a z st s w h q pf dl lo m lst quiet end =
        let k = then_ok (all_found view.heights callees vars es) _ s w in
        let g = call_found (slice_get callees j) k.0 s (node_ok view.heights at (of_call (slice_get callees j) k.0) s k.2) in
        let b = known j g.0 g.1 in
        let l : ℕ = a + all_size es in
        let x = row es vars ps d a l st k.0 k.1 (in_front code f a (all_code es ps d a) (Call j ∷ []) h) refl pf dl lo m lst (λ t c r. quiet t c (omega arith)) (omega arith) in
        at_end view e positive a z (l + 1) st (on_stack s) (omega arith) (row_ends view e positive (count es) a l (Call j) st k.0 (on_stack s) lo (omega arith) x (has l (Call j) (after_row es ps d a l (Call j ∷ []) h refl).0) (λ ws fw n. (b.0.result, call_rule view e l j (count es) st ws g.0.params b.0 b.1 b.2 (subst (FitEach ws) g.2 fw), ap (λ (t : StackShape). fits t (on_stack s)) (b.3 ∙ ap on_stack g.3) ∙ fits_self (on_stack s))) lst (low_shape vars (call at j es) s w) (omega arith))
    through (negate at x) vars ps d a z st s w h q pf dl lo m lst quiet end =
        let k = then_ok (found view.heights callees vars x) _ s w in
        let r = where_true_is (same_shape k.0 num_shape) num_shape s (node_ok view.heights at _ s k.2) in
        let l : ℕ = a + expr_size x in
        let size = some_code x in
        let y = as_shape a l st k.0 num_shape (same_shape-is k.0 num_shape r.0) (through x vars ps d a l st k.0 k.1 (in_front code f a (expr_code x ps d a) (Neg ∷ []) h) refl pf dl lo m lst (λ t c i. quiet t c (omega arith)) (omega arith)) in
        at_end view e positive a z (l + 1) st (on_stack s) (omega arith) (unary a l Neg st num_shape num_shape s lo (omega arith) y (quiet l (omega arith) (omega arith)) (after_code code f x ps d a l (Neg ∷ []) h refl).0 (λ xs. refl) r.1 lst (low_shape vars (negate at x) s w) (omega arith))
    through (not_expr at x) vars ps d a z st s w h q pf dl lo m lst quiet end =
        let k = then_ok (found view.heights callees vars x) _ s w in
        let r = where_true_is (same_shape k.0 bool_shape) bool_shape s (node_ok view.heights at _ s k.2) in
        let l : ℕ = a + expr_size x in
        let size = some_code x in
        let y = as_shape a l st k.0 bool_shape (same_shape-is k.0 bool_shape r.0) (through x vars ps d a l st k.0 k.1 (in_front code f a (expr_code x ps d a) (Not ∷ []) h) refl pf dl lo m lst (λ t c i. quiet t c (omega arith)) (omega arith)) in
        at_end view e positive a z (l + 1) st (on_stack s) (omega arith) (unary a l Not st bool_shape bool_shape s lo (omega arith) y (quiet l (omega arith) (omega arith)) (after_code code f x ps d a l (Not ∷ []) h refl).0 (λ xs. refl) r.1 lst (low_shape vars (not_expr at x) s w) (omega arith))
    through (pown at x i) vars ps d a z st s w h q pf dl lo m lst quiet end =
        let k = then_ok (found view.heights callees vars x) _ s w in
        let r = where_true_is (same_shape k.0 num_shape) num_shape s (node_ok view.heights at _ s k.2) in
        let l : ℕ = a + expr_size x in
        let size = some_code x in
        let y = as_shape a l st k.0 num_shape (same_shape-is k.0 num_shape r.0) (through x vars ps d a l st k.0 k.1 (in_front code f a (expr_code x ps d a) (Pow i ∷ []) h) refl pf dl lo m lst (λ t c i. quiet t c (omega arith)) (omega arith)) in
        at_end view e positive a z (l + 1) st (on_stack s) (omega arith) (unary a l (Pow i) st num_shape num_shape s lo (omega arith) y (quiet l (omega arith) (omega arith)) (after_code code f x ps d a l (Pow i ∷ []) h refl).0 (λ xs. refl) r.1 lst (low_shape vars (pown at x i) s w) (omega arith))
    through (field at r i x) vars ps d a z st s w h q pf dl lo m lst quiet end =
        let k = then_ok (found view.heights callees vars x) _ s w in
        let g = field_found (slice_get view.heights r) r i k.0 s (node_ok view.heights at _ s k.2) in
        let l : ℕ = a + expr_size x in
        let size = some_code x in
        let y = as_shape a l st k.0 (record_shape r) g.2 (through x vars ps d a l st k.0 k.1 (in_front code f a (expr_code x ps d a) (Field i ∷ []) h) refl pf dl lo m lst (λ t c i. quiet t c (omega arith)) (omega arith)) in
        at_end view e positive a z (l + 1) st (on_stack s) (omega arith) (single view e positive a l (Field i) st (made r) (on_stack s) lo (omega arith) y (quiet l (omega arith) (omega arith)) (has l (Field i) (after_code code f x ps d a l (Field i ∷ []) h refl).0) (λ v fv. field_rule view e l r i st v g.0.fields s (recorded r g.0 g.1) g.3 fv) lst (low_shape vars (field at r i x) s w) (omega arith))
    through (arith_tree at op x y) vars ps d a z st s w h q pf dl lo m lst quiet end =
        let k = then_ok (found view.heights callees vars x) _ s w in
        let o = then_ok (found view.heights callees vars y) _ s k.2 in
        let r = asked (same_shape k.0 num_shape) (same_shape o.0 num_shape) num_shape s (node_ok view.heights at _ s o.2) in
        let n : ℕ = a + expr_size x in
        let l : ℕ = n + expr_size y in
        let size_x = some_code x in
        let size_y = some_code y in
        let second = after_code code f x ps d a n (expr_code y ps (d + 1) n ++ arith_op op ∷ []) h refl in
        let p = pair_of view e positive a n l st (on_stack num_shape) (on_stack num_shape) lo (omega arith) (omega arith) (λ t c i. quiet t c (omega arith)) (as_shape a n st k.0 num_shape (same_shape-is k.0 num_shape r.0) (through x vars ps d a n st k.0 k.1 (in_front code f a (expr_code x ps d a) (expr_code y ps (d + 1) n ++ arith_op op ∷ []) h) refl pf dl lo m lst (λ t c i. quiet t c (omega arith)) (omega arith))) (λ w fw mw qw. as_shape n l (st ++ w ∷ []) o.0 num_shape (same_shape-is o.0 num_shape r.1) (through y vars ps (d + 1) n l (st ++ w ∷ []) o.0 o.1 (in_front code f n (expr_code y ps (d + 1) n) (arith_op op ∷ []) second) refl (places_keep st (w ∷ []) ps vars pf) (longer st w d dl) (omega arith) mw (low_top vars x k.0 num_shape w k.1 (same_shape-is k.0 num_shape r.0) fw st lst) (λ t c i. qw t c (omega arith)) (omega arith))) in
        at_end view e positive a z (l + 1) st (on_stack s) (omega arith) (arith_through op a l st s lo (omega arith) p (after_code code f y ps (d + 1) n l (arith_op op ∷ []) second refl).0 r.2 lst (low_shape vars (arith_tree at op x y) s w) (omega arith))
    through (compare at g x y) vars ps d a z st s w h q pf dl lo m lst quiet end =
        let k = then_ok (found view.heights callees vars x) _ s w in
        let o = then_ok (found view.heights callees vars y) _ s k.2 in
        let r = asked (same_shape k.0 num_shape) (same_shape o.0 num_shape) bool_shape s (node_ok view.heights at _ s o.2) in
        let n : ℕ = a + expr_size x in
        let l : ℕ = n + expr_size y in
        let size_x = some_code x in
        let size_y = some_code y in
        let size_g = some_sign g in
        let second = after_code code f x ps d a n (expr_code y ps (d + 1) n ++ sign_ops g) h refl in
        let p = pair_of view e positive a n l st (on_stack num_shape) (on_stack num_shape) lo (omega arith) (omega arith) (λ t c i. quiet t c (omega arith)) (as_shape a n st k.0 num_shape (same_shape-is k.0 num_shape r.0) (through x vars ps d a n st k.0 k.1 (in_front code f a (expr_code x ps d a) (expr_code y ps (d + 1) n ++ sign_ops g) h) refl pf dl lo m lst (λ t c i. quiet t c (omega arith)) (omega arith))) (λ w fw mw qw. as_shape n l (st ++ w ∷ []) o.0 num_shape (same_shape-is o.0 num_shape r.1) (through y vars ps (d + 1) n l (st ++ w ∷ []) o.0 o.1 (in_front code f n (expr_code y ps (d + 1) n) (sign_ops g) second) refl (places_keep st (w ∷ []) ps vars pf) (longer st w d dl) (omega arith) mw (low_top vars x k.0 num_shape w k.1 (same_shape-is k.0 num_shape r.0) fw st lst) (λ t c i. qw t c (omega arith)) (omega arith))) in
        sign_through g a l z st s lo (omega arith) (omega arith) p (after_code code f y ps (d + 1) n l (sign_ops g) second refl) r.2 (λ c. quiet (l + 1) (omega arith) c) lst low_bool (low_shape vars (compare at g x y) s w) end
    through (both at x y) vars ps d a z st s w h q pf dl lo m lst quiet end =
        let k = then_ok (found view.heights callees vars x) _ s w in
        let o = then_ok (found view.heights callees vars y) _ s k.2 in
        let r = asked (same_shape k.0 bool_shape) (same_shape o.0 bool_shape) bool_shape s (node_ok view.heights at _ s o.2) in
        let n : ℕ = a + expr_size x in
        let l : ℕ = n + 1 + expr_size y in
        let size_x = some_code x in
        let size_y = some_code y in
        let low = low_shape vars (both at x y) s w in
        let second = after_code code f x ps d a n (JumpIfNot (l + 1) ∷ (expr_code y ps d (n + 1) ++ Jump (l + 1 + 1) ∷ PushBool false ∷ [])) h refl in
        let last = after_code code f y ps d (n + 1) l (Jump (l + 1 + 1) ∷ PushBool false ∷ []) second.1 refl in
        let zz : l + 1 + 1 ≡ z = omega arith in
        let c = as_shape a n st k.0 bool_shape (same_shape-is k.0 bool_shape r.0) (through x vars ps d a n st k.0 k.1 (in_front code f a (expr_code x ps d a) (JumpIfNot (l + 1) ∷ (expr_code y ps d (n + 1) ++ Jump (l + 1 + 1) ∷ PushBool false ∷ [])) h) refl pf dl lo m lst (λ t c i. quiet t c (omega arith)) (omega arith)) in
        branch view e positive a n l z st (on_stack s) lo (omega arith) (omega arith) (omega arith) end quiet c (has n (JumpIfNot (l + 1)) second.0) (subst (λ (t : ℕ). slice_get view.ops l ≡ Some (Jump t)) zz (has l (Jump (l + 1 + 1)) last.0)) lst low
        (λ mx qx nx. as_shape (n + 1) l st o.0 s (same_shape-is o.0 bool_shape r.1 ∙ r.2) (through y vars ps d (n + 1) l st o.0 o.1 (in_front code f (n + 1) (expr_code y ps d (n + 1)) (Jump (l + 1 + 1) ∷ PushBool false ∷ []) second.1) refl pf dl (omega arith) mx lst qx (omega arith)))
        (λ my qy. at_end view e positive (l + 1) z (l + 1 + 1) st (on_stack s) (sym zz) (leaf view e positive (l + 1) (PushBool false) st bool (on_stack s) (omega arith) (has (l + 1) (PushBool false) last.1.0) my refl (subst (λ (t : ShapeTree). fits bool (on_stack t) ≡ true) r.2 refl) lst low (omega arith)))
    through (either at x y) vars ps d a z st s w h q pf dl lo m lst quiet end =
        let k = then_ok (found view.heights callees vars x) _ s w in
        let o = then_ok (found view.heights callees vars y) _ s k.2 in
        let r = asked (same_shape k.0 bool_shape) (same_shape o.0 bool_shape) bool_shape s (node_ok view.heights at _ s o.2) in
        let n : ℕ = a + expr_size x in
        let l : ℕ = n + 1 + 1 in
        let size_x = some_code x in
        let size_y = some_code y in
        let low = low_shape vars (either at x y) s w in
        let second = after_code code f x ps d a n (JumpIfNot (n + 3) ∷ PushBool true ∷ Jump (n + 3 + expr_size y) ∷ expr_code y ps d (n + 3)) h refl in
        let zz : n + 3 + expr_size y ≡ z = omega arith in
        let three : n + 3 ≡ l + 1 = omega arith in
        let c = as_shape a n st k.0 bool_shape (same_shape-is k.0 bool_shape r.0) (through x vars ps d a n st k.0 k.1 (in_front code f a (expr_code x ps d a) (JumpIfNot (n + 3) ∷ PushBool true ∷ Jump (n + 3 + expr_size y) ∷ expr_code y ps d (n + 3)) h) refl pf dl lo m lst (λ t c i. quiet t c (omega arith)) (omega arith)) in
        branch view e positive a n l z st (on_stack s) lo (omega arith) (omega arith) (omega arith) end quiet c (subst (λ (t : ℕ). slice_get view.ops n ≡ Some (JumpIfNot t)) three (has n (JumpIfNot (n + 3)) second.0)) (subst (λ (t : ℕ). slice_get view.ops l ≡ Some (Jump t)) zz (has l (Jump (n + 3 + expr_size y)) second.1.1.0)) lst low
        (λ mx qx nx. leaf view e positive (n + 1) (PushBool true) st bool (on_stack s) (omega arith) (has (n + 1) (PushBool true) second.1.0) mx refl (subst (λ (t : ShapeTree). fits bool (on_stack t) ≡ true) r.2 refl) lst low (omega arith))
        (λ my qy. as_shape (l + 1) z st o.0 s (same_shape-is o.0 bool_shape r.1 ∙ r.2) (through y vars ps d (l + 1) z st o.0 o.1 (subst (λ (t : ℕ). Row_of (l + 1) (expr_code y ps d t)) three second.1.1.1) (omega arith) pf dl (omega arith) my lst qy end))
    through (if at c x y) vars ps d a z st s w h q pf dl lo m lst quiet end =
        let k = then_ok (found view.heights callees vars c) _ s w in
        let o = then_ok (found view.heights callees vars x) _ s k.2 in
        let u = then_ok (found view.heights callees vars y) _ s o.2 in
        let r = asked (same_shape k.0 bool_shape) (same_shape u.0 o.0) o.0 s (node_ok view.heights at _ s u.2) in
        let n : ℕ = a + expr_size c in
        let l : ℕ = n + 1 + expr_size x in
        let size_c = some_code c in
        let size_x = some_code x in
        let size_y = some_code y in
        let low = low_shape vars (if at c x y) s w in
        let second = after_code code f c ps d a n (JumpIfNot (l + 1) ∷ (expr_code x ps d (n + 1) ++ Jump (l + 1 + expr_size y) ∷ expr_code y ps d (l + 1))) h refl in
        let last = after_code code f x ps d (n + 1) l (Jump (l + 1 + expr_size y) ∷ expr_code y ps d (l + 1)) second.1 refl in
        let zz : l + 1 + expr_size y ≡ z = omega arith in
        let t = as_shape a n st k.0 bool_shape (same_shape-is k.0 bool_shape r.0) (through c vars ps d a n st k.0 k.1 (in_front code f a (expr_code c ps d a) (JumpIfNot (l + 1) ∷ (expr_code x ps d (n + 1) ++ Jump (l + 1 + expr_size y) ∷ expr_code y ps d (l + 1))) h) refl pf dl lo m lst (λ t c i. quiet t c (omega arith)) (omega arith)) in
        branch view e positive a n l z st (on_stack s) lo (omega arith) (omega arith) (omega arith) end quiet t (has n (JumpIfNot (l + 1)) second.0) (subst (λ (t : ℕ). slice_get view.ops l ≡ Some (Jump t)) zz (has l (Jump (l + 1 + expr_size y)) last.0)) lst low
        (λ mx qx nx. as_shape (n + 1) l st o.0 s r.2 (through x vars ps d (n + 1) l st o.0 o.1 (in_front code f (n + 1) (expr_code x ps d (n + 1)) (Jump (l + 1 + expr_size y) ∷ expr_code y ps d (l + 1)) second.1) refl pf dl (omega arith) mx lst qx (omega arith)))
        (λ my qy. as_shape (l + 1) z st u.0 s (same_shape-is u.0 o.0 r.1 ∙ r.2) (through y vars ps d (l + 1) z st u.0 u.1 last.1 (omega arith) pf dl (omega arith) my lst qy end))
    through (bind at x y) vars ps d a z st s w h q pf dl lo m lst quiet end =
        let k = then_ok (found view.heights callees vars x) _ s w in
        let o = then_ok (found view.heights callees (vars ++ k.0 ∷ []) y) _ s k.2 in
        let same = some_is o.0 s (node_ok view.heights at (Some o.0) s o.2) in
        let n : ℕ = a + expr_size x in
        let l : ℕ = n + expr_size y in
        let size_x = some_code x in
        let size_y = some_code y in
        let second = after_code code f x ps d a n (expr_code y (ps ++ d ∷ []) (d + 1) n ++ Slide 1 ∷ []) h refl in
        let p = pair_of view e positive a n l st (on_stack k.0) (on_stack s) lo (omega arith) (omega arith) (λ t c i. quiet t c (omega arith)) (as_shape a n st k.0 k.0 refl (through x vars ps d a n st k.0 k.1 (in_front code f a (expr_code x ps d a) (expr_code y (ps ++ d ∷ []) (d + 1) n ++ Slide 1 ∷ []) h) refl pf dl lo m lst (λ t c i. quiet t c (omega arith)) (omega arith))) (λ w fw mw qw. as_shape n l (st ++ w ∷ []) o.0 s same (through y (vars ++ k.0 ∷ []) (ps ++ d ∷ []) (d + 1) n l (st ++ w ∷ []) o.0 o.1 (in_front code f n (expr_code y (ps ++ d ∷ []) (d + 1) n) (Slide 1 ∷ []) second) refl (places_push st w k.0 ps vars d dl fw pf) (longer st w d dl) (omega arith) mw (low_top vars x k.0 k.0 w k.1 refl fw st lst) (λ t c i. qw t c (omega arith)) (omega arith))) in
        at_end view e positive a z (l + 1) st (on_stack s) (omega arith) (double view e positive a l (Slide 1) st (on_stack k.0) (on_stack s) (on_stack s) lo (omega arith) p (has l (Slide 1) (after_code code f y (ps ++ d ∷ []) (d + 1) n l (Slide 1 ∷ []) second refl).0) (λ v u fv fu. (u, slide_rule view e l st v u, fu)) lst (low_shape vars (bind at x y) s w) (omega arith))
    through (split at l x y) vars ps d a z st s w h q pf dl lo m lst quiet end =
        let k = then_ok (found view.heights callees vars l) _ s w in
        let i = then_ok (item_of at k.0) _ s k.2 in
        let o = then_ok (found view.heights callees vars x) _ s i.2 in
        let u = then_ok (found view.heights callees (vars ++ i.0 ∷ list_shape i.0 ∷ []) y) _ s o.2 in
        let r = where_true_is (same_shape u.0 o.0) o.0 s (node_ok view.heights at _ s u.2) in
        let is_list = item_is at k.0 i.0 i.1 in
        let n : ℕ = a + expr_size l in
        let j : ℕ = n + 1 + expr_size y in
        let size_l = some_code l in
        let size_x = some_code x in
        let size_y = some_code y in
        let low = low_shape vars (split at l x y) s w in
        let low_l = subst (λ (t : ShapeTree). IsLow view.heights positive (on_stack t)) is_list (low_shape vars l k.0 k.1) in
        let second = after_code code f l ps d a n (Split (n + 1 + expr_size y + 2) ∷ (expr_code y (ps ++ d ∷ (d + 1) ∷ []) (d + 2) (n + 1) ++ Slide 2 ∷ Jump (n + 1 + expr_size y + 2 + expr_size x) ∷ expr_code x ps d (n + 1 + expr_size y + 2))) h refl in
        let last = after_code code f y (ps ++ d ∷ (d + 1) ∷ []) (d + 2) (n + 1) j (Slide 2 ∷ Jump (j + 2 + expr_size x) ∷ expr_code x ps d (j + 2)) second.1 refl in
        let zz : j + 2 + expr_size x ≡ z = omega arith in
        let two : j + 2 ≡ j + 1 + 1 = omega arith in
        let t = as_shape a n st k.0 (list_shape i.0) is_list (through l vars ps d a n st k.0 k.1 (in_front code f a (expr_code l ps d a) (Split (j + 2) ∷ (expr_code y (ps ++ d ∷ (d + 1) ∷ []) (d + 2) (n + 1) ++ Slide 2 ∷ Jump (j + 2 + expr_size x) ∷ expr_code x ps d (j + 2))) h) refl pf dl lo m lst (λ t c i. quiet t c (omega arith)) (omega arith)) in
        part view e positive a n j z st (on_stack i.0) (on_stack s) lo (omega arith) (omega arith) (omega arith) end quiet t (subst (λ (t : ℕ). slice_get view.ops n ≡ Some (Split t)) two (has n (Split (j + 2)) second.0)) (has j (Slide 2) last.0) (subst (λ (t : ℕ). slice_get view.ops (j + 1) ≡ Some (Jump t)) zz (has (j + 1) (Jump (j + 2 + expr_size x)) last.1.0)) lst low_l low
        (λ v g fv fg low_vg mx qx. as_shape (n + 1) j (st ++ v ∷ g ∷ []) u.0 s (same_shape-is u.0 o.0 r.0 ∙ r.1) (through y (vars ++ i.0 ∷ list_shape i.0 ∷ []) (ps ++ d ∷ (d + 1) ∷ []) (d + 2) (n + 1) j (st ++ v ∷ g ∷ []) u.0 u.1 (in_front code f (n + 1) (expr_code y (ps ++ d ∷ (d + 1) ∷ []) (d + 2) (n + 1)) (Slide 2 ∷ Jump (j + 2 + expr_size x) ∷ expr_code x ps d (j + 2)) second.1) refl (places_two st v g i.0 ps vars d dl fv fg pf) (longer_two st v g d dl) (omega arith) mx low_vg qx (omega arith)))
        (λ my qy. as_shape (j + 1 + 1) z st o.0 s r.1 (through x vars ps d (j + 1 + 1) z st o.0 o.1 (subst (λ (t : ℕ). Row_of t (expr_code x ps d t)) two (subst (λ (t : ℕ). Row_of t (expr_code x ps d (j + 2))) (sym two) last.1.1)) (omega arith) pf dl (omega arith) my lst qy end))
    through (nil at note) vars ps d a z st s w h q pf dl lo m lst quiet end =
        let u = list_found (note_shape note) s (node_ok view.heights at (of_list (note_shape note)) s w) in
        at_end view e positive a z (a + 1) st (on_stack s) q (leaf view e positive a (MakeList 0) st (list void) (on_stack s) lo (has a (MakeList 0) h.0) m (nil_rule view e a st) (subst (λ (t : ShapeTree). fits (list void) (on_stack t) ≡ true) (sym u.1) refl) lst (low_shape vars (nil at note) s w) (omega arith))
    through (list_expr at es) vars ps d a z st s w h q pf dl lo m lst quiet end =
        let k = then_ok (all_found view.heights callees vars es) _ s w in
        let g = items_found k.0 s (node_ok view.heights at (of_items k.0) s k.2) in
        let l : ℕ = a + all_size es in
        let x = row es vars ps d a l st k.0 k.1 (in_front code f a (all_code es ps d a) (MakeList (count es) ∷ []) h) refl pf dl lo m lst (λ t c r. quiet t c (omega arith)) (omega arith) in
        at_end view e positive a z (l + 1) st (on_stack s) (omega arith) (of_shape view e positive a (l + 1) st (list (on_stack g.0)) (on_stack s) (ap on_stack g.4) (row_ends view e positive (count es) a l (MakeList (count es)) st k.0 (list (on_stack g.0)) lo (omega arith) x (has l (MakeList (count es)) (after_row es ps d a l (MakeList (count es) ∷ []) h refl).0) (λ ws fw n. list_rule view e l (count es) st ws (on_stack g.0) (all_fits ws g.0 g.1 g.3 (subst (FitEach ws) g.2 fw)) n) lst (subst (λ (t : ShapeTree). IsLow view.heights positive (on_stack t)) (sym g.4) (low_shape vars (list_expr at es) s w)) (omega arith)))
    through (cons at x y) vars ps d a z st s w h q pf dl lo m lst quiet end =
        let k = then_ok (found view.heights callees vars x) _ s w in
        let o = then_ok (found view.heights callees vars y) _ s k.2 in
        let r = where_true_is (same_shape o.0 (list_shape k.0)) o.0 s (node_ok view.heights at _ s o.2) in
        let same : list_shape k.0 ≡ s = sym (same_shape-is o.0 (list_shape k.0) r.0) ∙ r.1 in
        let n : ℕ = a + expr_size x in
        let l : ℕ = n + expr_size y in
        let size_x = some_code x in
        let size_y = some_code y in
        let second = after_code code f x ps d a n (expr_code y ps (d + 1) n ++ Cons ∷ []) h refl in
        let p = pair_of view e positive a n l st (on_stack k.0) (on_stack (list_shape k.0)) lo (omega arith) (omega arith) (λ t c i. quiet t c (omega arith)) (as_shape a n st k.0 k.0 refl (through x vars ps d a n st k.0 k.1 (in_front code f a (expr_code x ps d a) (expr_code y ps (d + 1) n ++ Cons ∷ []) h) refl pf dl lo m lst (λ t c i. quiet t c (omega arith)) (omega arith))) (λ w fw mw qw. as_shape n l (st ++ w ∷ []) o.0 (list_shape k.0) (same_shape-is o.0 (list_shape k.0) r.0) (through y vars ps (d + 1) n l (st ++ w ∷ []) o.0 o.1 (in_front code f n (expr_code y ps (d + 1) n) (Cons ∷ []) second) refl (places_keep st (w ∷ []) ps vars pf) (longer st w d dl) (omega arith) mw (low_top vars x k.0 k.0 w k.1 refl fw st lst) (λ t c i. qw t c (omega arith)) (omega arith))) in
        at_end view e positive a z (l + 1) st (on_stack s) (omega arith) (of_shape view e positive a (l + 1) st (list (on_stack k.0)) (on_stack s) (ap on_stack same) (double view e positive a l Cons st (on_stack k.0) (list (on_stack k.0)) (list (on_stack k.0)) lo (omega arith) p (has l Cons (after_code code f y ps (d + 1) n l (Cons ∷ []) second refl).0) (cons_rule view e l st (on_stack k.0)) lst (subst (λ (t : ShapeTree). IsLow view.heights positive (on_stack t)) (sym same) (low_shape vars (cons at x y) s w)) (omega arith)))
    through (record_expr at r es) vars ps d a z st s w h q pf dl lo m lst quiet end =
        let k = then_ok (all_found view.heights callees vars es) _ s w in
        let g = record_found (slice_get view.heights r) r k.0 s (node_ok view.heights at (of_record (slice_get view.heights r) r k.0) s k.2) in
        let l : ℕ = a + all_size es in
        let x = row es vars ps d a l st k.0 k.1 (in_front code f a (all_code es ps d a) (MakeRec r (count es) ∷ []) h) refl pf dl lo m lst (λ t c r. quiet t c (omega arith)) (omega arith) in
        at_end view e positive a z (l + 1) st (on_stack s) (omega arith) (row_ends view e positive (count es) a l (MakeRec r (count es)) st k.0 (on_stack s) lo (omega arith) x (has l (MakeRec r (count es)) (after_row es ps d a l (MakeRec r (count es) ∷ []) h refl).0) (λ ws fw n. (made r, record_rule view e l r (count es) st ws g.0.fields (recorded r g.0 g.1) (subst (FitEach ws) g.2 fw) n, subst (λ (t : ShapeTree). fits (made r) (on_stack t) ≡ true) g.3 (fits_self (made r)))) lst (low_shape vars (record_expr at r es) s w) (omega arith))

    row : (es : ExprTrees) (vars : List ShapeTree) (ps : List ℕ) (d a z : ℕ) (st : List StackShape) (ss : List ShapeTree) → all_found view.heights callees vars es ≡ Ok ss → Row_of a (all_code es ps d a) → z ≡ a + all_size es → PlacesFit st ps vars → d ≡ length st → e.start ≤ a → Arrives a st → LowSt st → Q a (z + 1) → z < e.end → Row view e positive (count es) a z st ss
    row none vars ps d a z st ss w h q pf dl lo m lst quiet end =
        let same : [] ≡ ss = cc in
        let here : a ≡ z = omega arith in
        subst (λ (n : ℕ). Row view e positive 0 a n st ss) here (subst (Row view e positive 0 a a st) same (no_row view e positive a st m))
    row (more x es) vars ps d a z st ss w h q pf dl lo m lst quiet end =
        let k = then_ok (found view.heights callees vars x) _ ss w in
        let o = then_ok (all_found view.heights callees vars es) _ ss k.2 in
        let last : Ok (k.0 ∷ o.0) ≡ Ok ss = o.2 in
        let same : k.0 ∷ o.0 ≡ ss = cc in
        let n : ℕ = a + expr_size x in
        let size = some_code x in
        subst (Row view e positive (count es + 1) a z st) same
        (more_row view e positive (count es) a n z st k.0 o.0 lo (omega arith) (omega arith) quiet (through x vars ps d a n st k.0 k.1 (in_front code f a (expr_code x ps d a) (all_code es ps (d + 1) n) h) refl pf dl lo m lst (λ t c i. quiet t c (omega arith)) (omega arith)) (λ v fv mv qv. row es vars ps (d + 1) n z (st ++ v ∷ []) o.0 o.1 (after_code code f x ps d a n (all_code es ps (d + 1) n) h refl) (omega arith) (places_keep st (v ∷ []) ps vars pf) (longer st v d dl) (omega arith) mv (low_top vars x k.0 k.0 v k.1 refl fv st lst) qv end))
