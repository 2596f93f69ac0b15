-- An expression and the rescaled one are alike on variables that are rescaled.
use Rattle.std.proofs.Common.{◌≡◌, refl, sym, subst, ℕ, List, [], ◌∷◌, ◌++◌, map}
use Rattle.um_units.specs.PowerMap.{PowerMap, pow}
use Rattle.um_tree.specs.TypeTree.{TypeTree, bool_type, num_type, list_type, record_type}
use Rattle.um_tree.specs.ValueTree.{ValueTree}
use Rattle.um_tree.specs.ExprTree.{ExprTree, ExprTrees, truth, number, local, call, negate, not_expr, pown, arith, compare, both, either, if, bind, split, nil, list_expr, cons, record_expr, field, none, more}
use Rattle.um_tree.specs.ProgramTree.{RecordTree, Signature}
use Rattle.um_tree.specs.Typing.{put, unit_at, field_types, Typed, AllTyped}
use Rattle.um_tree.specs.Meaning.{Out, gives, Calling, means, all_mean}
use Rattle.um_scaling.specs.Rescaling.{Rescaling, ArePositive}
use Rattle.um_scaling.specs.RescaledProgram.{RescaledExpr, RescaledExprs}
use Rattle.um_scaling.proofs.Alike.{Alike, alike_then}
use Rattle.um_scaling.proofs.Numbers.{literal_scaled}
use Rattle.um_scaling.proofs.Operations.{Related, AllRelated, calculated_alike, compared_alike, negated_alike, raised_alike, not_alike, choose_alike, list_alike, longer_alike, items_alike, fields_alike, field_alike, local_alike, both_related}

module _
    (records : List RecordTree) (r : Rescaling) (positive : ArePositive r) (calls : ℕ → Signature → Type 0)
    (choice : ℕ → PowerMap) (calling other : Calling)
  where
    abbrev Rel : TypeTree → ValueTree → ValueTree → Type 0
    Rel t v w = Related records r positive t v w

    abbrev AllRel : List TypeTree → List ValueTree → List ValueTree → Type 0
    AllRel ts vs ws = AllRelated records r positive ts vs ws

    -- a call gives what is alike on arguments that are rescaled
    abbrev pub CallsAlike : Type 0
    CallsAlike = (j : ℕ) (g : Signature) → calls j g → (vs ws : List ValueTree) (b : ℕ) → AllRel g.params vs ws → Alike (Rel g.result) (calling j vs b) (other j ws b)

    -- at an equal type, of an equal expression
    carried : (s t : TypeTree) (e x y : ExprTree) (vs ws : List ValueTree) (b : ℕ) → t ≡ s → y ≡ x → Alike (Rel s) (means calling e vs b) (means other x ws b) → Alike (Rel t) (means calling e vs b) (means other y ws b)
    carried s t e x y vs ws b p q h =
        subst (λ (t : TypeTree). Alike (Rel t) (means calling e vs b) (means other y ws b)) (sym p)
        (subst (λ (y : ExprTree). Alike (Rel s) (means calling e vs b) (means other y ws b)) (sym q) h)

    module _ (called : CallsAlike) where
      mutual
        pub alike : (vars : List TypeTree) (e y : ExprTree) (t : TypeTree) (vs ws : List ValueTree) (b : ℕ) → RescaledExpr r e y → Typed records calls choice vars e t → AllRel vars vs ws → Alike (Rel t) (means calling e vs b) (means other y ws b)
        alike vars (truth at x) y t vs ws b q h s = carried bool_type t (truth at x) (truth at x) y vs ws b h q (refl, refl)
        alike vars (number at c n) y t vs ws b q h s =
            carried (num_type h.0) t (number at c n) (number at q.0 n) y vs ws b h.2 q.2 (literal_scaled r c n h.0 q.0 q.1 h.1, refl)
        alike vars (local at k) y t vs ws b q h s =
            carried t t (local at k) (local at k) y vs ws b refl q (local_alike records r positive vs vars ws k t b s h)
        alike vars (call at j es) y t vs ws b q h s =
            carried t t (call at j es) (call at j q.0) y vs ws b refl q.2
            (alike_then (AllRel h.0) (Rel t) _ _ _ _ (all_alike vars es q.0 h.0 vs ws b q.1 h.1 s) (λ xs ys c k. called j (record { params = h.0; result = t }) h.2 xs ys c k))
        alike vars (negate at a) y t vs ws b q h s =
            carried (num_type h.0) t (negate at a) (negate at q.0) y vs ws b h.2 q.2
            (alike_then (Rel (num_type h.0)) (Rel (num_type h.0)) _ _ _ _ (alike vars a q.0 (num_type h.0) vs ws b q.1 h.1 s) (λ v w c k. negated_alike records r positive h.0 v w c k))
        alike vars (not_expr at a) y t vs ws b q h s =
            carried bool_type t (not_expr at a) (not_expr at q.0) y vs ws b h.1 q.2
            (alike_then (Rel bool_type) (Rel bool_type) _ _ _ _ (alike vars a q.0 bool_type vs ws b q.1 h.0 s) (λ v w c k. not_alike records r positive v w c k))
        alike vars (pown at a i) y t vs ws b q h s =
            carried (num_type (pow h.0 i)) t (pown at a i) (pown at q.0 i) y vs ws b h.2 q.2
            (alike_then (Rel (num_type h.0)) (Rel (num_type (pow h.0 i))) _ _ _ _ (alike vars a q.0 (num_type h.0) vs ws b q.1 h.1 s) (λ v w c k. raised_alike records r positive h.0 i v w c k))
        alike vars (arith at op a d) y t vs ws b q h s =
            carried (num_type h.2) t (arith at op a d) (arith at op q.0 q.1) y vs ws b h.6 q.4
            (alike_then (Rel (num_type h.0)) (Rel (num_type h.2)) _ _ _ _ (alike vars a q.0 (num_type h.0) vs ws b q.2 h.3 s) (λ v v' c k. alike_then (Rel (num_type h.1)) (Rel (num_type h.2)) _ _ _ _ (alike vars d q.1 (num_type h.1) vs ws c q.3 h.4 s) (λ w w' n l. calculated_alike records r positive op h.0 h.1 h.2 v w v' w' n k l h.5)))
        alike vars (compare at sign a d) y t vs ws b q h s =
            carried bool_type t (compare at sign a d) (compare at sign q.0 q.1) y vs ws b h.3 q.4
            (alike_then (Rel (num_type h.0)) (Rel bool_type) _ _ _ _ (alike vars a q.0 (num_type h.0) vs ws b q.2 h.1 s) (λ v v' c k. alike_then (Rel (num_type h.0)) (Rel bool_type) _ _ _ _ (alike vars d q.1 (num_type h.0) vs ws c q.3 h.2 s) (λ w w' n l. compared_alike records r positive sign h.0 v w v' w' n k l)))
        alike vars (both at a d) y t vs ws b q h s =
            carried bool_type t (both at a d) (both at q.0 q.1) y vs ws b h.2 q.4
            (alike_then (Rel bool_type) (Rel bool_type) _ _ _ _ (alike vars a q.0 bool_type vs ws b q.2 h.0 s) (λ v w c k. choose_alike records r positive bool_type v w _ _ _ _ c k (alike vars d q.1 bool_type vs ws c q.3 h.1 s) (refl, refl)))
        alike vars (either at a d) y t vs ws b q h s =
            carried bool_type t (either at a d) (either at q.0 q.1) y vs ws b h.2 q.4
            (alike_then (Rel bool_type) (Rel bool_type) _ _ _ _ (alike vars a q.0 bool_type vs ws b q.2 h.0 s) (λ v w c k. choose_alike records r positive bool_type v w _ _ _ _ c k (refl, refl) (alike vars d q.1 bool_type vs ws c q.3 h.1 s)))
        alike vars (if at a d e) y t vs ws b q h s =
            carried t t (if at a d e) (if at q.0 q.1 q.2) y vs ws b refl q.6
            (alike_then (Rel bool_type) (Rel t) _ _ _ _ (alike vars a q.0 bool_type vs ws b q.3 h.0 s) (λ v w c k. choose_alike records r positive t v w _ _ _ _ c k (alike vars d q.1 t vs ws c q.4 h.1 s) (alike vars e q.2 t vs ws c q.5 h.2 s)))
        alike vars (bind at a d) y t vs ws b q h s =
            carried t t (bind at a d) (bind at q.0 q.1) y vs ws b refl q.4
            (alike_then (Rel h.0) (Rel t) _ _ _ _ (alike vars a q.0 h.0 vs ws b q.2 h.1 s) (λ v w c k. alike (vars ++ h.0 ∷ []) d q.1 t (vs ++ v ∷ []) (ws ++ w ∷ []) c q.3 h.2 (both_related records r positive vs vars ws (v ∷ []) (h.0 ∷ []) (w ∷ []) s (k, tt))))
        alike vars (split at l d e) y t vs ws b q h s =
            carried t t (split at l d e) (split at q.0 q.1 q.2) y vs ws b refl q.6
            (alike_then (Rel (list_type h.0)) (Rel t) _ _ _ _ (alike vars l q.0 (list_type h.0) vs ws b q.3 h.1 s) (λ v w c k. list_alike records r positive h.0 t v w _ _ _ _ c k (alike vars d q.1 t vs ws c q.4 h.2 s) (λ x xs z zs m n. alike (vars ++ h.0 ∷ list_type h.0 ∷ []) e q.2 t (vs ++ x ∷ xs ∷ []) (ws ++ z ∷ zs ∷ []) c q.5 h.3 (both_related records r positive vs vars ws (x ∷ xs ∷ []) (h.0 ∷ list_type h.0 ∷ []) (z ∷ zs ∷ []) s (m, (n, tt))))))
        alike vars (nil at note) y t vs ws b q h s = carried (list_type h.0) t (nil at note) (nil at note) y vs ws b h.2 q (tt, refl)
        alike vars (list_expr at es) y t vs ws b q h s =
            carried (list_type h.0) t (list_expr at es) (list_expr at q.0) y vs ws b h.4 q.2
            (alike_then (AllRel (h.0 ∷ h.1)) (Rel (list_type h.0)) _ _ _ _ (all_alike vars es q.0 (h.0 ∷ h.1) vs ws b q.1 h.2 s) (λ xs ys c k. (items_alike records r positive h.0 h.1 xs ys h.3 k, refl)))
        alike vars (cons at a d) y t vs ws b q h s =
            carried (list_type h.0) t (cons at a d) (cons at q.0 q.1) y vs ws b h.3 q.4
            (alike_then (Rel h.0) (Rel (list_type h.0)) _ _ _ _ (alike vars a q.0 h.0 vs ws b q.2 h.1 s) (λ v v' c k. alike_then (Rel (list_type h.0)) (Rel (list_type h.0)) _ _ _ _ (alike vars d q.1 (list_type h.0) vs ws c q.3 h.2 s) (λ w w' n l. longer_alike records r positive h.0 v v' w w' n k l)))
        alike vars (record_expr at m es) y t vs ws b q h s =
            carried (record_type m h.0) t (record_expr at m es) (record_expr at m q.0) y vs ws b h.4 q.2
            (alike_then (AllRel (map (put (unit_at h.0)) (field_types h.1))) (Rel (record_type m h.0)) _ _ _ _ (all_alike vars es q.0 (map (put (unit_at h.0)) (field_types h.1)) vs ws b q.1 h.3 s) (λ xs ys c k. ((h.1, h.2, refl, refl, fields_alike records r positive (map (put (unit_at h.0)) (field_types h.1)) xs ys k), refl)))
        alike vars (field at m k a) y t vs ws b q h s =
            carried (put (unit_at h.0) h.2) t (field at m k a) (field at m k q.0) y vs ws b h.6 q.2
            (alike_then (Rel (record_type m h.0)) (Rel (put (unit_at h.0) h.2)) _ _ _ _ (alike vars a q.0 (record_type m h.0) vs ws b q.1 h.5 s) (λ v w c l. field_alike records r positive m k h.0 h.1 h.2 v w c h.3 h.4 l))

        all_alike : (vars : List TypeTree) (es ys : ExprTrees) (ts : List TypeTree) (vs ws : List ValueTree) (b : ℕ) → RescaledExprs r es ys → AllTyped records calls choice vars es ts → AllRel vars vs ws → Alike (AllRel ts) (all_mean calling es vs b) (all_mean other ys ws b)
        all_alike vars none ys ts vs ws b q h s =
            let o : Out (List ValueTree) = gives [] b in
            let p : Alike (AllRel []) o o = (tt, refl) in
            subst (λ (ts : List TypeTree). Alike (AllRel ts) o (all_mean other ys ws b)) (sym h) (subst (λ (ys : ExprTrees). Alike (AllRel []) o (all_mean other ys ws b)) (sym q) p)
        all_alike vars (more e es) ys ts vs ws b q h s =
            subst (λ (ts : List TypeTree). Alike (AllRel ts) (all_mean calling (more e es) vs b) (all_mean other ys ws b)) (sym h.4)
            (subst (λ (ys : ExprTrees). Alike (AllRel (h.0 ∷ h.1)) (all_mean calling (more e es) vs b) (all_mean other ys ws b)) (sym q.4)
            (alike_then (Rel h.0) (AllRel (h.0 ∷ h.1)) _ _ _ _ (alike vars e q.0 h.0 vs ws b q.2 h.2 s) (λ v w c k. alike_then (AllRel h.1) (AllRel (h.0 ∷ h.1)) _ _ _ _ (all_alike vars es q.1 h.1 vs ws c q.3 h.3 s) (λ xs ys d l. ((k, l), refl)))))
