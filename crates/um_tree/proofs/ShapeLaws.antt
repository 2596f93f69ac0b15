-- A typed expression has the shape of its type, and a typed function the shapes of its types.
use Rattle.std.proofs.Common.{◌≡◌, refl, sym, ap, subst, ◌∙◌, ℕ, zero, suc, List, [], ◌∷◌, ◌++◌, map, Option, Some, None, slice_get, length, inl, inr, cond, nat_eq, true, false}
use Rattle.std.proofs.lemmas.List.{map-append}
use Rattle.um_units.specs.PowerMap.{PowerMap}
use Rattle.um_tree.specs.TypeTree.{TypeTree, bool_type, num_type, list_type, record_type, NoteTree, bool_note, num_note, list_note, record_note, ShapeTree, list_shape}
use Rattle.um_tree.specs.ExprTree.{ExprTree, ExprTrees, truth, number, local, call, negate, not_expr, pown, arith as arith_tree, compare, both, either, if, bind, split, nil, list_expr, cons, record_expr, field, none, more}
use Rattle.um_tree.specs.ProgramTree.{RecordTree, FunctionTree, ProgramTree, Signature}
use Rattle.um_tree.specs.Typing.{put, unit_at, Matches, TypesMatch, ResultMatches, EachIs, field_types, Typed, AllTyped, moved, moved_signature, Earlier, Calls, IsLooseTypingOf, TypingAt, typings_below}
use Rattle.um_tree.specs.Shapes.{type_shape, note_shape, ShapeSignature, EachShapeIs, HasShape, AllHaveShapes, EarlierShapes, CallShapes, ResultShape, IsShapeOf, ShapeAt, shapes_below}
use Rattle.um_tree.specs.Laws.{signature_shape, TypedHasShape, TypedExpressionHasShape}
use Rattle.um_tree.proofs.Moved.{slice_get_moved}

-- units put for variables leave the shape
shape-put : (s : ℕ → PowerMap) (t : TypeTree) → type_shape (put s t) ≡ type_shape t
shape-put s bool_type = refl
shape-put s (num_type u) = refl
shape-put s (list_type t) = ap list_shape (shape-put s t)
shape-put s (record_type r us) = refl

shapes-put : (s : ℕ → PowerMap) (ts : List TypeTree) → map type_shape (map (put s) ts) ≡ map type_shape ts
shapes-put s [] = refl
shapes-put s (t ∷ ts) = ap (λ x. x ∷ map type_shape (map (put s) ts)) (shape-put s t) ∙ ap (λ xs. type_shape t ∷ xs) (shapes-put s ts)

-- so does each change of units
shape-moved : (h : PowerMap → PowerMap) (t : TypeTree) → type_shape (moved h t) ≡ type_shape t
shape-moved h bool_type = refl
shape-moved h (num_type u) = refl
shape-moved h (list_type t) = ap list_shape (shape-moved h t)
shape-moved h (record_type r us) = refl

shapes-moved : (h : PowerMap → PowerMap) (ts : List TypeTree) → map type_shape (map (moved h) ts) ≡ map type_shape ts
shapes-moved h [] = refl
shapes-moved h (t ∷ ts) = ap (λ x. x ∷ map type_shape (map (moved h) ts)) (shape-moved h t) ∙ ap (λ xs. type_shape t ∷ xs) (shapes-moved h ts)

signature_shape-moved : (h : PowerMap → PowerMap) (g : Signature) → signature_shape (moved_signature h g) ≡ signature_shape g
signature_shape-moved h g =
    ap (λ ss. record { params = ss; result = type_shape (moved h g.result) }) (shapes-moved h g.params)
    ∙ ap (λ s. record { params = map type_shape g.params; result = s }) (shape-moved h g.result)

-- a type that matches a note has its shape
shape-matches : (choice : ℕ → PowerMap) (n : NoteTree) (t : TypeTree) → Matches choice n t → type_shape t ≡ note_shape n
shape-matches choice bool_note t m = ap type_shape m
shape-matches choice (num_note n) t m = ap type_shape m.2
shape-matches choice (list_note n) t m = ap type_shape m.2 ∙ ap list_shape (shape-matches choice n m.0 m.1)
shape-matches choice (record_note r ns) t m = ap type_shape m.2

shapes-match : (choice : ℕ → PowerMap) (ns : List NoteTree) (ts : List TypeTree) → TypesMatch choice ns ts → map type_shape ts ≡ map note_shape ns
shapes-match choice [] ts m = ap (map type_shape) m
shapes-match choice (n ∷ ns) ts m = ap (map type_shape) m.4 ∙ ap (λ x. x ∷ map type_shape m.1) (shape-matches choice n m.0 m.2) ∙ ap (λ xs. note_shape n ∷ xs) (shapes-match choice ns m.1 m.3)

result-shape : (choice : ℕ → PowerMap) (n : Option NoteTree) (t : TypeTree) → ResultMatches choice n t → ResultShape n (type_shape t)
result-shape choice None t m = tt
result-shape choice (Some n) t m = shape-matches choice n t m

each-shape : (s : TypeTree) (ts : List TypeTree) → EachIs s ts → EachShapeIs (type_shape s) (map type_shape ts)
each-shape s [] m = tt
each-shape s (t ∷ ts) m = (ap type_shape m.0, each-shape s ts m.1)

module _ (records : List RecordTree) (calls : ℕ → Signature → Type 0) (shapes : ℕ → ShapeSignature → Type 0) (change : (j : ℕ) (g : Signature) → calls j g → shapes j (signature_shape g)) (choice : ℕ → PowerMap) where
  wider : (vars others : List TypeTree) (e : ExprTree) (s : ShapeTree) → HasShape records shapes (map type_shape (vars ++ others)) e s → HasShape records shapes (map type_shape vars ++ map type_shape others) e s
  wider vars others e s m = subst (λ vs. HasShape records shapes vs e s) (map-append type_shape vars others) m

  mutual
    has_shape : (vars : List TypeTree) (e : ExprTree) (t : TypeTree) → Typed records calls choice vars e t → HasShape records shapes (map type_shape vars) e (type_shape t)
    has_shape vars (truth at b) t m = ap type_shape m
    has_shape vars (number at c n) t m = ap type_shape m.2
    has_shape vars (local at k) t m = slice_get_moved type_shape vars k t m
    has_shape vars (call at j es) t m = (map type_shape m.0, all_have vars es m.0 m.1, change j _ m.2)
    has_shape vars (negate at a) t m = (has_shape vars a _ m.1, ap type_shape m.2)
    has_shape vars (not_expr at a) t m = (has_shape vars a _ m.0, ap type_shape m.1)
    has_shape vars (pown at a k) t m = (has_shape vars a _ m.1, ap type_shape m.2)
    has_shape vars (arith_tree at op a b) t m = (has_shape vars a _ m.3, has_shape vars b _ m.4, ap type_shape m.6)
    has_shape vars (compare at sign a b) t m = (has_shape vars a _ m.1, has_shape vars b _ m.2, ap type_shape m.3)
    has_shape vars (both at a b) t m = (has_shape vars a _ m.0, has_shape vars b _ m.1, ap type_shape m.2)
    has_shape vars (either at a b) t m = (has_shape vars a _ m.0, has_shape vars b _ m.1, ap type_shape m.2)
    has_shape vars (if at c a b) t m = (has_shape vars c _ m.0, has_shape vars a t m.1, has_shape vars b t m.2)
    has_shape vars (bind at a b) t m = (type_shape m.0, has_shape vars a m.0 m.1, wider vars (m.0 ∷ []) b _ (has_shape (vars ++ m.0 ∷ []) b t m.2))
    has_shape vars (split at l a b) t m = (type_shape m.0, has_shape vars l _ m.1, has_shape vars a t m.2, wider vars (m.0 ∷ list_type m.0 ∷ []) b _ (has_shape (vars ++ m.0 ∷ list_type m.0 ∷ []) b t m.3))
    has_shape vars (nil at n) t m = (type_shape m.0, sym (shape-matches choice n (list_type m.0) m.1), ap type_shape m.2)
    has_shape vars (list_expr at es) t m = (type_shape m.0, map type_shape m.1, all_have vars es _ m.2, each-shape m.0 m.1 m.3, ap type_shape m.4)
    has_shape vars (cons at a b) t m = (type_shape m.0, has_shape vars a m.0 m.1, has_shape vars b _ m.2, ap type_shape m.3)
    has_shape vars (record_expr at r es) t m =
        (m.1, m.2.declared, subst (AllHaveShapes records shapes (map type_shape vars) es) (shapes-put (unit_at m.0) (field_types m.1)) (all_have vars es _ m.3), ap type_shape m.4)
    has_shape vars (field at r k a) t m = (m.1, m.2, m.3.declared, m.4, has_shape vars a _ m.5, ap type_shape m.6 ∙ shape-put (unit_at m.0) m.2)

    all_have : (vars : List TypeTree) (es : ExprTrees) (ts : List TypeTree) → AllTyped records calls choice vars es ts → AllHaveShapes records shapes (map type_shape vars) es (map type_shape ts)
    all_have vars none ts m = ap (map type_shape) m
    all_have vars (more e es) ts m = (type_shape m.0, map type_shape m.1, has_shape vars e m.0 m.2, all_have vars es m.1 m.3, ap (map type_shape) m.4)

module _ (records : List RecordTree) (earlier : Earlier) (shapes : EarlierShapes) (change : (j : ℕ) (g : Signature) → earlier j g → shapes j (signature_shape g)) (i : ℕ) where
  call_shapes : (f : FunctionTree) (self : Signature) (j : ℕ) (g : Signature) → Calls earlier i f self j g → CallShapes shapes i f (signature_shape self) j (signature_shape g)
  call_shapes f self j g (inl m) = inl (m.0, change j g m.1)
  call_shapes f self j g (inr m) = inr (m.0, m.1, ap signature_shape m.2)

  shape_of : (f : FunctionTree) (g : Signature) → IsLooseTypingOf records earlier i f g → IsShapeOf records shapes i f (signature_shape g)
  shape_of f g m = record {
    params = shapes-match m.choice f.params g.params m.params;
    result = result-shape m.choice f.result g.result m.result;
    body = has_shape records (Calls earlier i f g) (CallShapes shapes i f (signature_shape g)) (call_shapes f g) m.choice g.params f.body g.result m.body;
  }

  shape_at : (bases : ℕ) (o : Option FunctionTree) (g : Signature) → TypingAt bases records earlier i o g → ShapeAt records shapes i o (signature_shape g)
  shape_at bases None g m = m
  shape_at bases (Some f) g m =
      subst (IsShapeOf records shapes i f) (sym (ap signature_shape m.given ∙ signature_shape-moved m.change m.signature)) (shape_of f m.signature m.typing.loose)

below_shape : (p : ProgramTree) (n j : ℕ) (g : Signature) → typings_below p n j g → shapes_below p n j (signature_shape g)
below_shape p zero j g m = m
below_shape p (suc n) j g m =
    elim (nat_eq j n) as (λ b. cond b (TypingAt (length p.bases) p.records (typings_below p n) n (slice_get p.functions n) g) (typings_below p n j g) → cond b (ShapeAt p.records (shapes_below p n) n (slice_get p.functions n) (signature_shape g)) (shapes_below p n j (signature_shape g))) [
      | true ↦ λ m. shape_at p.records (typings_below p n) (shapes_below p n) (below_shape p n) n (length p.bases) (slice_get p.functions n) g m
      | false ↦ λ m. below_shape p n j g m
    ] m

pub typed_has_shape : TypedHasShape
typed_has_shape p i g m = shape_at p.records (typings_below p i) (shapes_below p i) (below_shape p i) i (length p.bases) (slice_get p.functions i) g m

pub typed_expression_has_shape : TypedExpressionHasShape
typed_expression_has_shape p i f self choice vars e t m =
    has_shape p.records (Calls (typings_below p i) i f self) (CallShapes (shapes_below p i) i f (signature_shape self)) (call_shapes p.records (typings_below p i) (shapes_below p i) (below_shape p i) i f self) choice vars e t m
