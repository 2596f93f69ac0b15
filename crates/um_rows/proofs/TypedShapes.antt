-- The types of a typing have shapes, with as many units in each record as it takes, and so have those of a principal scheme.
use Rattle.std.proofs.Common.{◌≡◌, ℕ, zero, suc, ◌+◌, ◌<◌, true, false, cond, nat_eq, inl, inr, List, [], ◌∷◌, ◌++◌, map, length, Option, Some, None, slice_get, refl, sym, ap, ◌∙◌, subst}
use Rattle.std.specs.Prelude.{All, IsSome}
use Rattle.std.proofs.lemmas.List.Elements.{All-head, All-tail}
use Rattle.std.proofs.lemmas.List.{length-map}
use Rattle.um_units.specs.PowerMap.{PowerMap, one, replace}
use Rattle.um_tree.specs.declared.note.UnitNote.{UnitNote}
use Rattle.um_tree.specs.TypeTree.{TypeTree, bool_type, num_type, list_type, record_type, NoteTree, bool_note, num_note, list_note, record_note, ShapeTree, bool_shape, num_shape, list_shape, record_shape}
use Rattle.um_tree.specs.ExprTree.{ExprTree, ExprTrees, truth, number, local, call, negate, not_expr, pown, arith as arith_tree, compare, both, either, if, bind, split, nil, list_expr, cons, record_expr, field, none, more}
use Rattle.um_tree.specs.ProgramTree.{RecordTree, FunctionTree, ProgramTree, Signature, SchemeTree}
use Rattle.um_tree.specs.Typing.{put, put_signature, unit_at, field_types, UnitsMatch, Matches, TypesMatch, ResultMatches, Typed, AllTyped, Earlier, Calls, moved, IsLooseTypingOf, IsTypingOf, TypingAt, typings_below, Typing}
use Rattle.um_tree.specs.Shapes.{type_shape, ShapeSignature, FunctionShape}
use Rattle.um_tree.specs.Laws.{signature_shape}
use Rattle.um_tree.specs.Formed.{IsNoteTreeIn, IsFormedIn, AllFormedIn, IsFormedNote, ResultFormed, IsFormedFunction, IsFormed}
use Rattle.um_tree.proofs.ShapeLaws.{typed_has_shape}
use Rattle.um_shape.proofs.Unique.{shapes_are_unique}
use Rattle.um_rows.specs.Solutions.{HaveSchemes}
use Rattle.um_rows.specs.RightShapes.{IsOfShape, AreOfShapes}
use Rattle.um_rows.specs.Laws.{ShapedFunctionsFormNoWrongShape}
use Rattle.um_rows.proofs.RightShapes.{is_put, are_append, is_at, fields_are, SchemeHasShapes, equations_are_right}

module _ (records : List RecordTree) where
  -- ---- types that have some shape
  abbrev pub HasShapeOf : TypeTree → Type 0
  HasShapeOf t = (s : ShapeTree) × IsOfShape records t s

  abbrev pub HaveShapesOf : List TypeTree → Type 0
  HaveShapesOf ts = (ss : List ShapeTree) × AreOfShapes records ts ss

  -- it is that of the type
  is_type_shape : (t : TypeTree) (s : ShapeTree) → IsOfShape records t s → s ≡ type_shape t
  is_type_shape bool_type bool_shape h = refl
  is_type_shape (num_type u) num_shape h = refl
  is_type_shape (list_type t) (list_shape s) h = ap list_shape (is_type_shape t s h)
  is_type_shape (record_type q us) (record_shape r) h = ap record_shape (sym h.0)
  is_type_shape t s h = absurd h

  are_type_shapes : (ts : List TypeTree) (ss : List ShapeTree) → AreOfShapes records ts ss → ss ≡ map type_shape ts
  are_type_shapes [] [] h = refl
  are_type_shapes (t ∷ ts) (s ∷ ss) h = let first = is_type_shape t s h.0 in let rest = are_type_shapes ts ss h.1 in λ i. first i ∷ rest i
  are_type_shapes [] (s ∷ ss) h = absurd h
  are_type_shapes (t ∷ ts) [] h = absurd h

  found : (ts : List TypeTree) (ss : List ShapeTree) (k : ℕ) (t : TypeTree) → AreOfShapes records ts ss → slice_get ts k ≡ Some t → HasShapeOf t
  found [] ss zero t h e = absurd (cc e)
  found [] ss (suc k) t h e = absurd (cc e)
  found (x ∷ ts) (s ∷ ss) zero t h e = let same : x ≡ t = cc e in (s, subst (λ (y : TypeTree). IsOfShape records y s) same h.0)
  found (x ∷ ts) (s ∷ ss) (suc k) t h e = found ts ss k t h.1 e
  found (x ∷ ts) [] k t h e = absurd h

  first_has : (t : TypeTree) (ts : List TypeTree) (ss : List ShapeTree) → AreOfShapes records (t ∷ ts) ss → HasShapeOf t
  first_has t ts (s ∷ ss) h = (s, h.0)
  first_has t ts [] h = absurd h

  wider : (vars : List TypeTree) (t : TypeTree) → HaveShapesOf vars → HasShapeOf t → HaveShapesOf (vars ++ t ∷ [])
  wider vars t v h = (v.0 ++ h.0 ∷ [], are_append records vars (t ∷ []) v.0 (h.0 ∷ []) v.1 (h.1, tt))

  -- the units that were put in are taken out again
  is_put_back : (s : ℕ → PowerMap) (t : TypeTree) (r : ShapeTree) → IsOfShape records (put s t) r → IsOfShape records t r
  is_put_back s bool_type bool_shape h = tt
  is_put_back s (num_type u) num_shape h = tt
  is_put_back s (list_type t) (list_shape r) h = is_put_back s t r h
  is_put_back s (record_type q us) (record_shape r) h = (h.0, (h.1.0, h.1.1, sym (length-map us (replace s)) ∙ h.1.2))
  is_put_back s t r h = absurd h

  are_put_back : (s : ℕ → PowerMap) (ts : List TypeTree) (rs : List ShapeTree) → AreOfShapes records (map (put s) ts) rs → AreOfShapes records ts rs
  are_put_back s [] [] h = tt
  are_put_back s (t ∷ ts) (r ∷ rs) h = (is_put_back s t r h.0, are_put_back s ts rs h.1)
  are_put_back s [] (r ∷ rs) h = absurd h
  are_put_back s (t ∷ ts) [] h = absurd h

  -- units that are changed leave the shape
  is_moved : (change : PowerMap → PowerMap) (t : TypeTree) (r : ShapeTree) → IsOfShape records t r → IsOfShape records (moved change t) r
  is_moved change bool_type bool_shape h = tt
  is_moved change (num_type u) num_shape h = tt
  is_moved change (list_type t) (list_shape r) h = is_moved change t r h
  is_moved change (record_type q us) (record_shape r) h = (h.0, (h.1.0, h.1.1, length-map us change ∙ h.1.2))
  is_moved change t r h = absurd h

  are_moved : (change : PowerMap → PowerMap) (ts : List TypeTree) (rs : List ShapeTree) → AreOfShapes records ts rs → AreOfShapes records (map (moved change) ts) rs
  are_moved change [] [] h = tt
  are_moved change (t ∷ ts) (r ∷ rs) h = (is_moved change t r h.0, are_moved change ts rs h.1)
  are_moved change [] (r ∷ rs) h = absurd h
  are_moved change (t ∷ ts) [] h = absurd h

-- ---- notes
units_match_length : (choice : ℕ → PowerMap) (ns : List UnitNote) (us : List PowerMap) → UnitsMatch choice ns us → length us ≡ length ns
units_match_length choice [] us h = ap length h
units_match_length choice (n ∷ ns) us h = ap length h.4 ∙ ap suc (units_match_length choice ns h.1 h.3)

matches_has : (bases vars : ℕ) (records : List RecordTree) (choice : ℕ → PowerMap) (n : NoteTree) (t : TypeTree) → IsNoteTreeIn bases vars records n → Matches choice n t → HasShapeOf records t
matches_has bases vars records choice bool_note t w h = subst (HasShapeOf records) (sym h) (bool_shape, tt)
matches_has bases vars records choice (num_note n) t w h = subst (HasShapeOf records) (sym h.2) (num_shape, tt)
matches_has bases vars records choice (list_note n) t w h =
    let item = matches_has bases vars records choice n h.0 w h.1 in
    subst (HasShapeOf records) (sym h.2) (list_shape item.0, item.1)
matches_has bases vars records choice (record_note r ns) t w h =
    subst (HasShapeOf records) (sym h.2) (record_shape r, (refl, (w.0.0, w.0.1, units_match_length choice ns h.0 h.1 ∙ w.0.2)))

module _ (p : ProgramTree) (well : IsFormed p) where
  abbrev Has : TypeTree → Type 0
  Has t = HasShapeOf p.records t

  abbrev Have : List TypeTree → Type 0
  Have ts = HaveShapesOf p.records ts

  params_have : (f : FunctionTree) (choice : ℕ → PowerMap) (ns : List NoteTree) (ts : List TypeTree) → All (IsFormedNote p f) ns → TypesMatch choice ns ts → Have ts
  params_have f choice [] ts w h = subst Have (sym h) ([], tt)
  params_have f choice (n ∷ ns) ts w h =
      let first = matches_has (length p.bases) f.named p.records choice n h.0 (All-head (IsFormedNote p f) n ns w).0 h.2 in
      let rest = params_have f choice ns h.1 (All-tail (IsFormedNote p f) n ns w) h.3 in
      subst Have (sym h.4) (first.0 ∷ rest.0, (first.1, rest.1))

  -- ---- expressions
  module _ (i : ℕ) (f : FunctionTree) (calls : ℕ → Signature → Type 0) (choice : ℕ → PowerMap) (results : (j : ℕ) (g : Signature) → calls j g → Has g.result) where
    mutual
      has : (m : ℕ) (vars : List TypeTree) (e : ExprTree) (t : TypeTree) → Have vars → IsFormedIn p i f m e → Typed p.records calls choice vars e t → Has t
      has m vars (truth at b) t v w h = subst Has (sym h) (bool_shape, tt)
      has m vars (number at c n) t v w h = subst Has (sym h.2) (num_shape, tt)
      has m vars (local at k) t v w h = found p.records vars v.0 k t v.1 h
      has m vars (call at j es) t v w h = results j _ h.2
      has m vars (negate at a) t v w h = subst Has (sym h.2) (num_shape, tt)
      has m vars (not_expr at a) t v w h = subst Has (sym h.1) (bool_shape, tt)
      has m vars (pown at a k) t v w h = subst Has (sym h.2) (num_shape, tt)
      has m vars (arith_tree at op a b) t v w h = subst Has (sym h.6) (num_shape, tt)
      has m vars (compare at sign a b) t v w h = subst Has (sym h.3) (bool_shape, tt)
      has m vars (both at a b) t v w h = subst Has (sym h.2) (bool_shape, tt)
      has m vars (either at a b) t v w h = subst Has (sym h.2) (bool_shape, tt)
      has m vars (if at c a b) t v w h = has m vars a t v w.1 h.1
      has m vars (bind at a b) t v w h = has (m + 1) (vars ++ h.0 ∷ []) b t (wider p.records vars h.0 v (has m vars a h.0 v w.0 h.1)) w.1 h.2
      has m vars (split at l a b) t v w h = has m vars a t v w.1 h.2
      has m vars (nil at n) t v w h = subst Has (sym h.2) (matches_has (length p.bases) f.named p.records choice n (list_type h.0) w.0 h.1)
      has m vars (list_expr at es) t v w h =
          let items = all_have m vars es (h.0 ∷ h.1) v w.1 h.2 in
          let item = first_has p.records h.0 h.1 items.0 items.1 in
          subst Has (sym h.4) (list_shape item.0, item.1)
      has m vars (cons at a b) t v w h = subst Has (sym h.3) (has m vars b (list_type h.0) v w.1 h.2)
      has m vars (record_expr at r es) t v w h = subst Has (sym h.4) (record_shape r, (refl, (h.1, h.2.declared, h.2.units)))
      has m vars (field at r k a) t v w h =
          let declared = is_at p.records (field_types h.1) k h.2 (fields_are p well r h.1 h.3.declared) h.4 in
          subst Has (sym h.6) (type_shape h.2, is_put p.records (unit_at h.0) h.2 (type_shape h.2) declared)

      all_have : (m : ℕ) (vars : List TypeTree) (es : ExprTrees) (ts : List TypeTree) → Have vars → AllFormedIn p i f m es → AllTyped p.records calls choice vars es ts → Have ts
      all_have m vars none ts v w h = subst Have (sym h) ([], tt)
      all_have m vars (more e es) ts v w h =
          let first = has m vars e h.0 v w.0 h.2 in
          let rest = all_have m vars es h.1 v w.1 h.3 in
          subst Have (sym h.4) (first.0 ∷ rest.0, (first.1, rest.1))

  -- ---- functions
  abbrev pub SignatureHas : Signature → Type 0
  SignatureHas g = Have g.params × Has g.result

  result_has : (f : FunctionTree) (choice : ℕ → PowerMap) (o : Option NoteTree) (t : TypeTree) → IsSome o → ResultFormed p f o → ResultMatches choice o t → Has t
  result_has f choice None t m w h = absurd (cc m)
  result_has f choice (Some n) t m w h = matches_has (length p.bases) f.named p.records choice n t w.0 h

  module _ (earlier : Earlier) (before : (j : ℕ) (g : Signature) → earlier j g → SignatureHas g) (i : ℕ) where
    call_has : (f : FunctionTree) (g : Signature) → IsFormedFunction p i f → IsLooseTypingOf p.records earlier i f g → (j : ℕ) (c : Signature) → Calls earlier i f g j c → Has c.result
    call_has f g w h j c (inl k) = (before j c k.1).1
    call_has f g w h j c (inr k) = subst (λ (s : Signature). Has s.result) (sym k.2) (result_has f h.choice f.result g.result k.1.noted w.result h.result)

    loose_has : (f : FunctionTree) (g : Signature) → IsFormedFunction p i f → IsLooseTypingOf p.records earlier i f g → SignatureHas g
    loose_has f g w h =
        let params = params_have f h.choice f.params g.params w.params h.params in
        (params, has i f (Calls earlier i f g) h.choice (call_has f g w h) (length f.params) g.params f.body g.result params w.body h.body)

    typing_has : (f : FunctionTree) (g : Signature) → IsFormedFunction p i f → IsTypingOf (length p.bases) p.records earlier i f g → SignatureHas g
    typing_has f g w h =
        let own = loose_has f h.signature w h.typing.loose in
        subst SignatureHas (sym h.given) (
          (own.0.0, are_moved p.records h.change h.signature.params own.0.0 own.0.1),
          (own.1.0, is_moved p.records h.change h.signature.result own.1.0 own.1.1),
        )

    typing_at_has : (o : Option FunctionTree) (g : Signature) → slice_get p.functions i ≡ o → TypingAt (length p.bases) p.records earlier i o g → SignatureHas g
    typing_at_has None g e h = absurd h
    typing_at_has (Some f) g e h = typing_has f g (well.functions i f e) h

  below_has : (n j : ℕ) (g : Signature) → typings_below p n j g → SignatureHas g
  below_has zero j g h = absurd h
  below_has (suc n) j g h =
      elim (nat_eq j n) as (λ b. cond b (TypingAt (length p.bases) p.records (typings_below p n) n (slice_get p.functions n) g) (typings_below p n j g) → SignatureHas g) [
        | true ↦ λ h. typing_at_has (typings_below p n) (below_has n) n (slice_get p.functions n) g refl h
        | false ↦ λ h. below_has n j g h
      ] h

  -- the types of a typing have the function's shapes
  pub typing_has_shapes : (j : ℕ) (g : Signature) (s : ShapeSignature) → Typing p j g → FunctionShape p j s → AreOfShapes p.records g.params s.params × IsOfShape p.records g.result s.result
  typing_has_shapes j g s h shaped =
      let some = typing_at_has (typings_below p j) (below_has j) j (slice_get p.functions j) g refl h in
      let same : signature_shape g ≡ s = shapes_are_unique p j (signature_shape g) s (typed_has_shape p j g h) shaped in
      let params : some.0.0 ≡ s.params = are_type_shapes p.records g.params some.0.0 some.0.1 ∙ ap (λ (x : ShapeSignature). x.params) same in
      let result : some.1.0 ≡ s.result = is_type_shape p.records g.result some.1.0 some.1.1 ∙ ap (λ (x : ShapeSignature). x.result) same in
      (subst (AreOfShapes p.records g.params) params some.0.1, subst (IsOfShape p.records g.result) result some.1.1)

  -- a principal scheme has the function's shapes
  pub schemes_have_shapes : (schemes : List SchemeTree) (i : ℕ) → HaveSchemes p schemes i → (j : ℕ) (s : ShapeSignature) → j < i → FunctionShape p j s → SchemeHasShapes p.records schemes j s
  schemes_have_shapes schemes i have j s l shaped =
      let k = have j l in
      let units = λ (x : ℕ). one in
      let typing = (k.principal.instances (put_signature units k.scheme.signature)).1 (units, refl) in
      let shapes = typing_has_shapes j (put_signature units k.scheme.signature) s typing shaped in
      record {
        scheme = k.scheme;
        stands = k.stands;
        params = are_put_back p.records units k.scheme.signature.params s.params shapes.0;
        result = is_put_back p.records units k.scheme.signature.result s.result shapes.1;
      }

-- a shaped function forms no step for a wrong shape
pub shaped_functions_form_no_wrong_shape : ShapedFunctionsFormNoWrongShape
shaped_functions_form_no_wrong_shape p schemes i f g well declared shaped have =
    equations_are_right p i f well _ _ schemes (schemes_have_shapes p well schemes i have) declared g shaped
