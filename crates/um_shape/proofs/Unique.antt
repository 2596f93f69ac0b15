-- An expression has at most one shape, and a function its shapes in one way alone.
use Rattle.std.proofs.Common.{◌≡◌, sym, subst, ap, ◌∙◌, ℕ, zero, suc, inl, inr, true, false, cond, nat_eq, List, [], ◌∷◌, ◌++◌, Option, Some, None, slice_get, IsSome, arith}
use Rattle.um_tree.specs.TypeTree.{NoteTree, ShapeTree, list_shape}
use Rattle.um_tree.specs.ExprTree.{ExprTree, ExprTrees, truth, number, local, call, negate, not_expr, pown, arith as arith_tree, compare, both, either, if, bind, split, nil, list_expr, cons, record_expr, field, none, more}
use Rattle.um_tree.specs.ProgramTree.{RecordTree, FunctionTree, ProgramTree}
use Rattle.um_tree.specs.Typing.{field_types}
use Rattle.um_tree.specs.Shapes.{type_shape, ShapeSignature, HasShape, AllHaveShapes, EarlierShapes, CallShapes, ResultShape, IsShapeOf, ShapeAt, shapes_below}
use Rattle.um_shape.specs.Laws.{ShapesAreUnique}

some_same : {A : Type 0} (o : Option A) (x y : A) → o ≡ Some x → o ≡ Some y → x ≡ y
some_same o x y e f = let h : Some x ≡ Some y = sym e ∙ f in cc

head_same : (s t : ShapeTree) (ss ts : List ShapeTree) → s ∷ ss ≡ t ∷ ts → s ≡ t
head_same s t ss ts e = cc

module _ (records : List RecordTree) (calls others : ℕ → ShapeSignature → Type 0) (agree : (j : ℕ) (g h : ShapeSignature) → calls j g → others j h → g.params ≡ h.params → g.result ≡ h.result) where
  mutual
    pub unique : (vars : List ShapeTree) (e : ExprTree) (s t : ShapeTree) → HasShape records calls vars e s → HasShape records others vars e t → s ≡ t
    unique vars (truth at b) s t m k = m ∙ sym k
    unique vars (number at c n) s t m k = m ∙ sym k
    unique vars (local at i) s t m k = some_same (slice_get vars i) s t m k
    unique vars (call at j es) s t m k = agree j (record { params = m.0; result = s }) (record { params = k.0; result = t }) m.2 k.2 (all_unique vars es m.0 k.0 m.1 k.1)
    unique vars (negate at a) s t m k = m.1 ∙ sym k.1
    unique vars (not_expr at a) s t m k = m.1 ∙ sym k.1
    unique vars (pown at a i) s t m k = m.1 ∙ sym k.1
    unique vars (arith_tree at op a b) s t m k = m.2 ∙ sym k.2
    unique vars (compare at sign a b) s t m k = m.2 ∙ sym k.2
    unique vars (both at a b) s t m k = m.2 ∙ sym k.2
    unique vars (either at a b) s t m k = m.2 ∙ sym k.2
    unique vars (if at c a b) s t m k = unique vars a s t m.1 k.1
    unique vars (bind at a b) s t m k =
        let same = unique vars a m.0 k.0 m.1 k.1 in
        unique (vars ++ m.0 ∷ []) b s t m.2 (subst (λ x. HasShape records others (vars ++ x ∷ []) b t) (sym same) k.2)
    unique vars (split at l a b) s t m k = unique vars a s t m.2 k.2
    unique vars (nil at n) s t m k = m.2 ∙ sym m.1 ∙ k.1 ∙ sym k.2
    unique vars (list_expr at es) s t m k = m.4 ∙ ap list_shape (head_same m.0 k.0 m.1 k.1 (all_unique vars es (m.0 ∷ m.1) (k.0 ∷ k.1) m.2 k.2)) ∙ sym k.4
    unique vars (cons at a b) s t m k = m.3 ∙ ap list_shape (unique vars a m.0 k.0 m.1 k.1) ∙ sym k.3
    unique vars (record_expr at r es) s t m k = m.3 ∙ sym k.3
    unique vars (field at r i a) s t m k =
        let same : m.0 ≡ k.0 = some_same (slice_get records r) m.0 k.0 m.2 k.2 in
        let declared : m.1 ≡ k.1 = some_same (slice_get (field_types k.0) i) m.1 k.1 (subst (λ d. slice_get (field_types d) i ≡ Some m.1) same m.3) k.3 in
        m.5 ∙ ap type_shape declared ∙ sym k.5

    pub all_unique : (vars : List ShapeTree) (es : ExprTrees) (ss ts : List ShapeTree) → AllHaveShapes records calls vars es ss → AllHaveShapes records others vars es ts → ss ≡ ts
    all_unique vars none ss ts m k = m ∙ sym k
    all_unique vars (more e es) ss ts m k =
        m.4 ∙ ap (λ x. x ∷ m.1) (unique vars e m.0 k.0 m.2 k.2) ∙ ap (λ xs. k.0 ∷ xs) (all_unique vars es m.1 k.1 m.3 k.3) ∙ sym k.4

-- a result note fixes the shape
noted_same : (n : Option NoteTree) (s t : ShapeTree) → IsSome n → ResultShape n s → ResultShape n t → s ≡ t
noted_same None s t some m k = absurd (none_is some) where
  none_is : IsSome {T = NoteTree} None → ⊥
  none_is e = absurd cc
noted_same (Some n) s t some m k = m ∙ sym k

signature_same : (g h : ShapeSignature) → g.params ≡ h.params → g.result ≡ h.result → g ≡ h
signature_same g h e f = ap (λ ps. record { params = ps; result = g.result }) e ∙ ap (λ r. record { params = h.params; result = r }) f

module _ (records : List RecordTree) (earlier : EarlierShapes) (before : (j : ℕ) (g h : ShapeSignature) → earlier j g → earlier j h → g ≡ h) (i : ℕ) where
  shape_of_unique : (f : FunctionTree) (g h : ShapeSignature) → IsShapeOf records earlier i f g → IsShapeOf records earlier i f h → g ≡ h
  shape_of_unique f g h m k =
      let params : g.params ≡ h.params = m.params ∙ sym k.params in
      signature_same g h params (unique records (CallShapes earlier i f g) (CallShapes earlier i f h) agree g.params f.body g.result h.result m.body (subst (λ ps. HasShape records (CallShapes earlier i f h) ps f.body h.result) (sym params) k.body)) where
        agree : (j : ℕ) (c d : ShapeSignature) → CallShapes earlier i f g j c → CallShapes earlier i f h j d → c.params ≡ d.params → c.result ≡ d.result
        agree j c d (inl x) (inl y) e = ap (λ s. s.result) (before j c d x.1 y.1)
        agree j c d (inl x) (inr y) e = absurd (omega (arith, x.0, y.0))
        agree j c d (inr x) (inl y) e = absurd (omega (arith, x.0, y.0))
        agree j c d (inr x) (inr y) e = ap (λ s. s.result) x.2 ∙ noted_same f.result g.result h.result x.1.noted m.result k.result ∙ ap (λ s. s.result) (sym y.2)

  shape_at_unique : (o : Option FunctionTree) (g h : ShapeSignature) → ShapeAt records earlier i o g → ShapeAt records earlier i o h → g ≡ h
  shape_at_unique None g h m k = absurd m
  shape_at_unique (Some f) g h m k = shape_of_unique f g h m k

pub below_unique : (p : ProgramTree) (n j : ℕ) (g h : ShapeSignature) → shapes_below p n j g → shapes_below p n j h → g ≡ h
below_unique p zero j g h m k = absurd m
below_unique p (suc n) j g h m k =
    elim (nat_eq j n) as (λ b. cond b (ShapeAt p.records (shapes_below p n) n (slice_get p.functions n) g) (shapes_below p n j g) → cond b (ShapeAt p.records (shapes_below p n) n (slice_get p.functions n) h) (shapes_below p n j h) → g ≡ h) [
      | true ↦ λ m k. shape_at_unique p.records (shapes_below p n) (below_unique p n) n (slice_get p.functions n) g h m k
      | false ↦ λ m k. below_unique p n j g h m k
    ] m k

pub shapes_are_unique : ShapesAreUnique
shapes_are_unique p i g h m k = shape_at_unique p.records (shapes_below p i) (below_unique p i) i (slice_get p.functions i) g h m k
