-- What is found of an expression is its shape.
use Rattle.std.proofs.Common.{◌≡◌, refl, sym, ap, subst, ◌∙◌, ℕ, zero, suc, Bool, true, false, cond, nat_le, ◌&&◌, List, [], ◌∷◌, ◌++◌, map, slice_get, Option, Some, None, Result, Ok, Err}
use Rattle.um_tree.specs.TypeTree.{TypeTree, ShapeTree, bool_shape, num_shape, list_shape, record_shape}
use Rattle.um_tree.specs.ExprTree.{ExprTree, ExprTrees, truth, number, local, call, negate, not_expr, pown, arith, compare, both, either, if, bind, split, nil, list_expr, cons, record_expr, field, none, more}
use Rattle.um_tree.specs.ProgramTree.{RecordTree}
use Rattle.um_tree.specs.Typing.{field_types}
use Rattle.um_tree.specs.Shapes.{type_shape, note_shape, ShapeSignature, EachShapeIs, HasShape, AllHaveShapes}
use Rattle.um_tree.specs.Heights.{greatest_height}
use Rattle.um_shape.specs.RecordShapes.{RecordShape, shape_height}
use Rattle.um_shape.specs.FirstFault.{ShapeFault, too_deep, then, same_shape, same_shapes, all_same, where_true, of_list, of_items, of_call, of_record, of_field, item_of, at_node, found, all_found}
use Rattle.um_shape.proofs.SameShape.{same_shape-is}

abbrev pub Found : {A B : Type 0} → Result A ShapeFault → (A → Result B ShapeFault) → B → Type 0
Found {A} m go y = (x : A) × (m ≡ Ok x) × (go x ≡ Ok y)

pub then_ok : {A B : Type 0} (m : Result A ShapeFault) (go : A → Result B ShapeFault) (y : B) → then m go ≡ Ok y → Found m go y
then_ok (Ok x) go y e = (x, refl, e)
then_ok (Err r) go y e = absurd cc

pub and_true : (a b : Bool) → (a && b) ≡ true → (a ≡ true) × (b ≡ true)
and_true true b e = (refl, e)
and_true false b e = absurd cc

-- the shape at a node is its rule's
pub node_ok : (records : List RecordShape) (at : ℕ) (o : Option ShapeTree) (s : ShapeTree) → at_node records at o ≡ Ok s → o ≡ Some s
node_ok records at None s e = absurd cc
node_ok records at (Some t) s e = ap Some (low (nat_le (shape_height records t) greatest_height) e) where
  low : (b : Bool) → cond b (Ok t) (Err (too_deep at)) ≡ Ok s → t ≡ s
  low true e = cc
  low false e = absurd cc

pub where_true_is : (b : Bool) (s t : ShapeTree) → where_true b s ≡ Some t → (b ≡ true) × (s ≡ t)
where_true_is true s t e = (refl, cc)
where_true_is false s t e = absurd cc

pub same_shapes-is : (ss ts : List ShapeTree) → same_shapes ss ts ≡ true → ss ≡ ts
same_shapes-is [] [] e = refl
same_shapes-is (s ∷ ss) (t ∷ ts) e =
    let h = and_true (same_shape s t) (same_shapes ss ts) e in
    ap (λ x. x ∷ ss) (same_shape-is s t h.0) ∙ ap (λ xs. t ∷ xs) (same_shapes-is ss ts h.1)
same_shapes-is ss ts e = absurd cc

pub all_same-each : (s : ShapeTree) (ss : List ShapeTree) → all_same s ss ≡ true → EachShapeIs s ss
all_same-each s [] e = tt
all_same-each s (t ∷ ts) e = let h = and_true (same_shape t s) (all_same s ts) e in (same_shape-is t s h.0, all_same-each s ts h.1)

-- what two parts are asked for
pub asked : (a b : Bool) (whole t : ShapeTree) → where_true (a && b) whole ≡ Some t → (a ≡ true) × (b ≡ true) × (whole ≡ t)
asked a b whole t e = let h = where_true_is (a && b) whole t e in let k = and_true a b h.0 in (k.0, k.1, h.1)

of_list_is : (s t : ShapeTree) → of_list s ≡ Some t → (u : ShapeTree) × (s ≡ list_shape u) × (t ≡ list_shape u)
of_list_is (list_shape u) t e = (u, refl, cc)
of_list_is bool_shape t e = absurd cc
of_list_is num_shape t e = absurd cc
of_list_is (record_shape r) t e = absurd cc

pub item_is : (at : ℕ) (s t : ShapeTree) → item_of at s ≡ Ok t → s ≡ list_shape t
item_is at (list_shape s) t e = ap list_shape cc
item_is at bool_shape t e = absurd cc
item_is at num_shape t e = absurd cc
item_is at (record_shape r) t e = absurd cc

-- where a list of images has an element
mapped_at : (ts : List TypeTree) (k : ℕ) (s : ShapeTree) → slice_get (map type_shape ts) k ≡ Some s → (t : TypeTree) × (slice_get ts k ≡ Some t) × (s ≡ type_shape t)
mapped_at [] zero s e = absurd cc
mapped_at [] (suc k) s e = absurd cc
mapped_at (t ∷ ts) zero s e = (t, refl, cc)
mapped_at (t ∷ ts) (suc k) s e = mapped_at ts k s e

-- the records have these shapes of their fields
abbrev pub Alike : List RecordTree → List RecordShape → Type 0
Alike [] [] = Unit {0}
Alike (d ∷ ds) (s ∷ ss) = (s.fields ≡ map type_shape (field_types d)) × Alike ds ss
Alike ds ss = ⊥

abbrev pub DeclaredAs : List RecordTree → ℕ → RecordShape → Type 0
DeclaredAs ds r s = (d : RecordTree) × (slice_get ds r ≡ Some d) × (s.fields ≡ map type_shape (field_types d))

pub alike_at : (ds : List RecordTree) (ss : List RecordShape) (r : ℕ) (s : RecordShape) → Alike ds ss → slice_get ss r ≡ Some s → DeclaredAs ds r s
alike_at [] [] zero s w e = absurd cc
alike_at [] [] (suc r) s w e = absurd cc
alike_at (d ∷ ds) (t ∷ ss) zero s w e = (d, refl, ap (λ x. x.fields) (sym (the_same e)) ∙ w.0) where
  the_same : Some t ≡ Some s → t ≡ s
  the_same e = cc
alike_at (d ∷ ds) (t ∷ ss) (suc r) s w e = alike_at ds ss r s w.1 e
alike_at [] (t ∷ ss) r s w e = absurd w
alike_at (d ∷ ds) [] r s w e = absurd w

module _ (declared : List RecordTree) (records : List RecordShape) (alike : Alike declared records) (callees : List ShapeSignature) (calls : ℕ → ShapeSignature → Type 0) (called : (j : ℕ) (g : ShapeSignature) → slice_get callees j ≡ Some g → calls j g) where
  abbrev Has : List ShapeTree → ExprTree → ShapeTree → Type 0
  Has vars e s = HasShape declared calls vars e s

  has_as : (vars : List ShapeTree) (e : ExprTree) (s t : ShapeTree) → same_shape s t ≡ true → Has vars e s → Has vars e t
  has_as vars e s t h w = subst (λ x. Has vars e x) (same_shape-is s t h) w

  call_is : (vars : List ShapeTree) (at j : ℕ) (es : ExprTrees) (ss : List ShapeTree) (s : ShapeTree) (o : Option ShapeSignature) → slice_get callees j ≡ o → AllHaveShapes declared calls vars es ss → of_call o ss ≡ Some s → Has vars (call at j es) s
  call_is vars at j es ss s None k w e = absurd cc
  call_is vars at j es ss s (Some g) k w e =
      let h = where_true_is (same_shapes ss g.params) g.result s e in
      let same : g ≡ record { params = ss; result = s } = ap (λ x. record { params = x; result = g.result }) (sym (same_shapes-is ss g.params h.0)) ∙ ap (λ x. record { params = ss; result = x }) h.1 in
      (ss, w, subst (calls j) same (called j g k))

  record_is : (vars : List ShapeTree) (at r : ℕ) (es : ExprTrees) (ss : List ShapeTree) (s : ShapeTree) (o : Option RecordShape) → slice_get records r ≡ o → AllHaveShapes declared calls vars es ss → of_record o r ss ≡ Some s → Has vars (record_expr at r es) s
  record_is vars at r es ss s None k w e = absurd cc
  record_is vars at r es ss s (Some d) k w e =
      let h = where_true_is (same_shapes ss d.fields) (record_shape r) s e in
      let a = alike_at declared records r d alike k in
      (a.0, a.1, subst (AllHaveShapes declared calls vars es) (same_shapes-is ss d.fields h.0 ∙ a.2) w, sym h.1)

  field_is : (vars : List ShapeTree) (at r k : ℕ) (a : ExprTree) (s t : ShapeTree) (o : Option RecordShape) → slice_get records r ≡ o → Has vars a s → of_field o r k s ≡ Some t → Has vars (field at r k a) t
  field_is vars at r k a s t None g w e = absurd cc
  field_is vars at r k a s t (Some d) g w e = of_record_r (same_shape s (record_shape r)) refl e where
    of_record_r : (b : Bool) → same_shape s (record_shape r) ≡ b → cond b (slice_get d.fields k) None ≡ Some t → Has vars (field at r k a) t
    of_record_r true h e =
        let n = alike_at declared records r d alike g in
        let m = mapped_at (field_types n.0) k t (ap (λ xs. slice_get xs k) (sym n.2) ∙ e) in
        (n.0, m.0, n.1, m.1, has_as vars a s (record_shape r) h w, m.2)
    of_record_r false h e = absurd cc

  items_are : (vars : List ShapeTree) (at : ℕ) (es : ExprTrees) (ss : List ShapeTree) (s : ShapeTree) → AllHaveShapes declared calls vars es ss → of_items ss ≡ Some s → Has vars (list_expr at es) s
  items_are vars at es [] s w e = absurd cc
  items_are vars at es (t ∷ ts) s w e = let h = where_true_is (all_same t ts) (list_shape t) s e in (t, ts, w, all_same-each t ts h.0, sym h.1)

  mutual
    pub sound : (vars : List ShapeTree) (e : ExprTree) (s : ShapeTree) → found records callees vars e ≡ Ok s → Has vars e s
    sound vars (truth at b) s e = let h : Some bool_shape ≡ Some s = node_ok records at _ s e in cc
    sound vars (number at c n) s e = let h : Some num_shape ≡ Some s = node_ok records at _ s e in cc
    sound vars (local at k) s e = node_ok records at _ s e
    sound vars (call at j es) s e =
        let h = then_ok (all_found records callees vars es) _ s e in
        call_is vars at j es h.0 s _ refl (all_sound vars es h.0 h.1) (node_ok records at _ s h.2)
    sound vars (negate at a) s e =
        let h = then_ok (found records callees vars a) _ s e in
        let w = where_true_is (same_shape h.0 num_shape) num_shape s (node_ok records at _ s h.2) in
        (has_as vars a h.0 num_shape w.0 (sound vars a h.0 h.1), sym w.1)
    sound vars (not_expr at a) s e =
        let h = then_ok (found records callees vars a) _ s e in
        let w = where_true_is (same_shape h.0 bool_shape) bool_shape s (node_ok records at _ s h.2) in
        (has_as vars a h.0 bool_shape w.0 (sound vars a h.0 h.1), sym w.1)
    sound vars (pown at a i) s e =
        let h = then_ok (found records callees vars a) _ s e in
        let w = where_true_is (same_shape h.0 num_shape) num_shape s (node_ok records at _ s h.2) in
        (has_as vars a h.0 num_shape w.0 (sound vars a h.0 h.1), sym w.1)
    sound vars (arith at op a b) s e =
        let h = then_ok (found records callees vars a) _ s e in
        let k = then_ok (found records callees vars b) _ s h.2 in
        let w = asked (same_shape h.0 num_shape) (same_shape k.0 num_shape) num_shape s (node_ok records at _ s k.2) in
        (has_as vars a h.0 num_shape w.0 (sound vars a h.0 h.1), has_as vars b k.0 num_shape w.1 (sound vars b k.0 k.1), sym w.2)
    sound vars (compare at sign a b) s e =
        let h = then_ok (found records callees vars a) _ s e in
        let k = then_ok (found records callees vars b) _ s h.2 in
        let w = asked (same_shape h.0 num_shape) (same_shape k.0 num_shape) bool_shape s (node_ok records at _ s k.2) in
        (has_as vars a h.0 num_shape w.0 (sound vars a h.0 h.1), has_as vars b k.0 num_shape w.1 (sound vars b k.0 k.1), sym w.2)
    sound vars (both at a b) s e =
        let h = then_ok (found records callees vars a) _ s e in
        let k = then_ok (found records callees vars b) _ s h.2 in
        let w = asked (same_shape h.0 bool_shape) (same_shape k.0 bool_shape) bool_shape s (node_ok records at _ s k.2) in
        (has_as vars a h.0 bool_shape w.0 (sound vars a h.0 h.1), has_as vars b k.0 bool_shape w.1 (sound vars b k.0 k.1), sym w.2)
    sound vars (either at a b) s e =
        let h = then_ok (found records callees vars a) _ s e in
        let k = then_ok (found records callees vars b) _ s h.2 in
        let w = asked (same_shape h.0 bool_shape) (same_shape k.0 bool_shape) bool_shape s (node_ok records at _ s k.2) in
        (has_as vars a h.0 bool_shape w.0 (sound vars a h.0 h.1), has_as vars b k.0 bool_shape w.1 (sound vars b k.0 k.1), sym w.2)
    sound vars (if at c a b) s e =
        let h = then_ok (found records callees vars c) _ s e in
        let k = then_ok (found records callees vars a) _ s h.2 in
        let l = then_ok (found records callees vars b) _ s k.2 in
        let w = asked (same_shape h.0 bool_shape) (same_shape l.0 k.0) k.0 s (node_ok records at _ s l.2) in
        (has_as vars c h.0 bool_shape w.0 (sound vars c h.0 h.1), subst (λ x. Has vars a x) w.2 (sound vars a k.0 k.1), subst (λ x. Has vars b x) (same_shape-is l.0 k.0 w.1 ∙ w.2) (sound vars b l.0 l.1))
    sound vars (bind at a b) s e =
        let h = then_ok (found records callees vars a) _ s e in
        let k = then_ok (found records callees (vars ++ h.0 ∷ []) b) _ s h.2 in
        let w : Some k.0 ≡ Some s = node_ok records at _ s k.2 in
        let same : k.0 ≡ s = cc in
        (h.0, sound vars a h.0 h.1, subst (λ x. Has (vars ++ h.0 ∷ []) b x) same (sound (vars ++ h.0 ∷ []) b k.0 k.1))
    sound vars (split at l a b) s e =
        let h = then_ok (found records callees vars l) _ s e in
        let i = then_ok (item_of at h.0) _ s h.2 in
        let k = then_ok (found records callees vars a) _ s i.2 in
        let m = then_ok (found records callees (vars ++ i.0 ∷ list_shape i.0 ∷ []) b) _ s k.2 in
        let w = where_true_is (same_shape m.0 k.0) k.0 s (node_ok records at _ s m.2) in
        (i.0, subst (λ x. Has vars l x) (item_is at h.0 i.0 i.1) (sound vars l h.0 h.1), subst (λ x. Has vars a x) w.1 (sound vars a k.0 k.1), subst (λ x. Has (vars ++ i.0 ∷ list_shape i.0 ∷ []) b x) (same_shape-is m.0 k.0 w.0 ∙ w.1) (sound (vars ++ i.0 ∷ list_shape i.0 ∷ []) b m.0 m.1))
    sound vars (nil at n) s e = let w = of_list_is (note_shape n) s (node_ok records at _ s e) in (w.0, w.1, w.2)
    sound vars (list_expr at es) s e =
        let h = then_ok (all_found records callees vars es) _ s e in
        items_are vars at es h.0 s (all_sound vars es h.0 h.1) (node_ok records at _ s h.2)
    sound vars (cons at a b) s e =
        let h = then_ok (found records callees vars a) _ s e in
        let k = then_ok (found records callees vars b) _ s h.2 in
        let w = where_true_is (same_shape k.0 (list_shape h.0)) k.0 s (node_ok records at _ s k.2) in
        (h.0, sound vars a h.0 h.1, has_as vars b k.0 (list_shape h.0) w.0 (sound vars b k.0 k.1), sym w.1 ∙ same_shape-is k.0 (list_shape h.0) w.0)
    sound vars (record_expr at r es) s e =
        let h = then_ok (all_found records callees vars es) _ s e in
        record_is vars at r es h.0 s _ refl (all_sound vars es h.0 h.1) (node_ok records at _ s h.2)
    sound vars (field at r k a) s e =
        let h = then_ok (found records callees vars a) _ s e in
        field_is vars at r k a h.0 s _ refl (sound vars a h.0 h.1) (node_ok records at _ s h.2)

    pub all_sound : (vars : List ShapeTree) (es : ExprTrees) (ss : List ShapeTree) → all_found records callees vars es ≡ Ok ss → AllHaveShapes declared calls vars es ss
    all_sound vars none ss e = cc
    all_sound vars (more e es) ss w =
        let h = then_ok (found records callees vars e) _ ss w in
        let k = then_ok (all_found records callees vars es) _ ss h.2 in
        let last : Ok (h.0 ∷ k.0) ≡ Ok ss = k.2 in
        (h.0, k.0, sound vars e h.0 h.1, all_sound vars es k.0 k.1, cc)
